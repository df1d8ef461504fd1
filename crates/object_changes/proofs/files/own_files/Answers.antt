use Rattle.std.proofs.Common.{◌∙◌, [], ◌∷◌, ◌++◌, ap, arith, length, refl, slice_get, sym, Some}
use Rattle.std.specs.Option.{unwrap_or}
use Rattle.std.proofs.lemmas.Option.{slice_get_read}
use Rattle.lib_closure.specs.Objects.{files_named}
use Rattle.lib_closure.specs.Seen.{standing}
use Rattle.text_sets.proofs.FoundLemmas.{got}
use Rattle.object_changes.specs.Changing.{own_file, own_files}
use Rattle.object_changes.specs.OfNames.{of_names}
use Rattle.object_changes.proofs.PairLemmas.{made_all, made_next}
use Rattle.object_changes.proofs.files.own_files.Goals as goal

pub returns-in-None : goal.returns-in-None
unfolding own_files
returns-in-None c =
    let past = c.in-None.ensures.lookup.3 in
    let size = ap length c.files-named.ensures in
    made_all (of_names own_file c.args.names.now (standing c.args.seen.now)) c.args.seen.now.face.now.asks (files_named (standing c.args.seen.now)) c.loop-place.place c.loop-place.files (omega (arith, past, size)) c.loop-place.invariant

pub loop-place-preserved : goal.loop-place-preserved
loop-place-preserved c =
    made_next (of_names own_file c.args.names.now (standing c.args.seen.now)) c.args.seen.now.face.now.asks (files_named (standing c.args.seen.now)) c.loop-place.place c.ask-item.result c.in-Some.number.now c.loop-place.files c.push.new.self
    (ap (λ l. slice_get l c.loop-place.place) (sym c.as_slice-ask-items.ensures) ∙ slice_get_read c.as_slice-ask-items.result.now (length c.as_slice-ask-items.result.now) c.loop-place.place c.ask-item.result refl c.loop-place-test.true c.ask-item.is)
    (ap (λ l. slice_get l c.loop-place.place) (sym c.files-named.ensures) ∙ sym (got c.files-named.result.now c.loop-place.place (Some c.in-Some.number) c.in-Some.ensures.lookup))
    c.loop-place.invariant
    (c.in_ok-push.ensures.ok ∙ ap (λ n. c.loop-place.files ++ n ∷ []) (c.in_ok-copy.ensures ∙ c.name_or-name.ensures ∙ ap (λ o. unwrap_or o c.ask-item.result.file) (c.asked_name.ensures c.ask-item.result)))

pub returns : goal.returns
unfolding own_files
returns c =
    let size = ap length c.as_slice-ask-items.ensures in
    made_all (of_names own_file c.args.names.now (standing c.args.seen.now)) c.args.seen.now.face.now.asks (files_named (standing c.args.seen.now)) c.loop-place.place c.loop-place.files (omega (arith, size)) c.loop-place.invariant
