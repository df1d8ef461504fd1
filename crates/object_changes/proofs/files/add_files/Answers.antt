use Rattle.std.proofs.Common.{◌∙◌, ◌+◌, ap, arith, length, refl, slice_get, sym, take, Some}
use Rattle.std.specs.List.{filter_map}
use Rattle.std.specs.Option.{option_to_list}
use Rattle.std.proofs.lemmas.Option.{slice_get_read}
use Rattle.lib_closure.specs.Objects.{files_named, own_asks}
use Rattle.lib_closure.specs.Seen.{standing}
use Rattle.text_sets.proofs.FoundLemmas.{got}
use Rattle.object_changes.specs.NamedFiles.{files_named_at, named_file}
use Rattle.object_changes.specs.OfNames.{of_names}
use Rattle.object_changes.proofs.FileLemmas.{adds_as, adds_more, adds_none}
use Rattle.object_changes.proofs.PairLemmas.{given_next, pairs_taken}
use Rattle.object_changes.proofs.files.add_files.Goals as goal

pub loop-place-init : goal.loop-place-init
loop-place-init c = adds_none c.args.table.now

pub returns-in-None : goal.returns-in-None
unfolding files_named_at
returns-in-None c =
    let f = of_names named_file c.args.names.now (standing c.args.seen.now) in
    let past = c.in-None.ensures.lookup.3 in
    let size = ap length c.files-named.ensures in
    adds_as c.args.table.now c.loop-place.table (filter_map f (take c.loop-place.place (own_asks (standing c.args.seen.now)))) (filter_map f (own_asks (standing c.args.seen.now)))
    (ap (filter_map f) (pairs_taken c.args.seen.now.face.now.asks (files_named (standing c.args.seen.now)) c.loop-place.place (omega (arith, past, size)))) c.loop-place.invariant

pub loop-place-preserved : goal.loop-place-preserved
loop-place-preserved c =
    let f = of_names named_file c.args.names.now (standing c.args.seen.now) in
    adds_as c.args.table.now c.add_file.new.table _ (filter_map f (take (c.loop-place.place + 1) (own_asks (standing c.args.seen.now))))
    (given_next f c.args.seen.now.face.now.asks (files_named (standing c.args.seen.now)) c.loop-place.place c.ask-item.result c.in-Some.number.now
    (ap (λ l. slice_get l c.loop-place.place) (sym c.as_slice-ask-items.ensures) ∙ slice_get_read c.as_slice-ask-items.result.now (length c.as_slice-ask-items.result.now) c.loop-place.place c.ask-item.result refl c.loop-place-test.true c.ask-item.is)
    (ap (λ l. slice_get l c.loop-place.place) (sym c.files-named.ensures) ∙ sym (got c.files-named.result.now c.loop-place.place (Some c.in-Some.number) c.in-Some.ensures.lookup)))
    (adds_more c.args.table.now c.loop-place.table c.add_file.new.table (filter_map f (take c.loop-place.place (own_asks (standing c.args.seen.now)))) (option_to_list (f (c.ask-item.result, c.in-Some.number.now))) c.loop-place.invariant c.in_ok-add_file.ensures)

pub returns : goal.returns
unfolding files_named_at
returns c =
    let f = of_names named_file c.args.names.now (standing c.args.seen.now) in
    let size = ap length c.as_slice-ask-items.ensures in
    adds_as c.args.table.now c.loop-place.table (filter_map f (take c.loop-place.place (own_asks (standing c.args.seen.now)))) (filter_map f (own_asks (standing c.args.seen.now)))
    (ap (filter_map f) (pairs_taken c.args.seen.now.face.now.asks (files_named (standing c.args.seen.now)) c.loop-place.place (omega (arith, size)))) c.loop-place.invariant
