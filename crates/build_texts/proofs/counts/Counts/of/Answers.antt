use Rattle.std.proofs.Common.{subst, filter, length, arith, ◌<◌}
use Rattle.build_texts.specs.Counting.{HasCounted, no_counts}
use Rattle.build_texts.specs.Texts.{is_reported}
use Rattle.build_texts.proofs.CountLemmas.{program_counted}
use Rattle.build_texts.proofs.counts.Counts.of.Goals as goal

pub programs-preserved : goal.programs-preserved
programs-preserved c =
    let less : c.programs.number < length c.args.replays.now = omega arith in
    let below : c.programs.number < length c.args.places.now = omega arith in
    let added : HasCounted c.programs.counts c.add_all.new.self (filter (is_reported c.index-places-number.result) c.index-replays-number.result.binds) =
    subst (λ xs. HasCounted c.programs.counts c.add_all.new.self (filter (is_reported xs) c.index-replays-number.result.binds)) c.as_slice-in-programs.ensures
    (subst (λ xs. HasCounted c.programs.counts c.add_all.new.self (filter (is_reported c.as_slice-in-programs.result.now) xs)) c.as_slice.ensures c.in_ok-add_all.ensures) in
    program_counted no_counts c.programs.counts c.add_all.new.self c.args.replays.now c.args.places.now c.programs.number c.index-replays-number.result c.index-places-number.result less below c.index-replays-number.is c.index-places-number.is c.programs.invariant added
