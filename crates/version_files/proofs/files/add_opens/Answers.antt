use Rattle.std.proofs.Common.{◌∙◌, ◌+◌, ap, sym, arith, length, max, map, refl, take, zip, Some, slice_get}
use Rattle.std.specs.List.{enumerate_from}
use Rattle.std.proofs.lemmas.Option.{slice_get_read}
use Rattle.version_files.specs.Known.{known_from, opens_known}
use Rattle.version_files.proofs.AddingLemmas.{adds_as, adds_known, adds_opened, all_taken}
use Rattle.text_sets.proofs.FoundLemmas.{got}
use Rattle.version_files.proofs.files.add_opens.Goals as goal

pub returns-in-None-clause-added : goal.returns-in-None-clause-added
returns-in-None-clause-added c =
    let past = c.in-None.ensures.lookup.3 in
    let size = ap length c.as_slice.ensures in
    adds_as c.args.known.now c.loop-place.known (map (λ numbered. known_from c.args.run.now (numbered.0 + 1) numbered.1) (enumerate_from 0 (take c.loop-place.place (zip c.args.run.now.opens c.args.run.now.roots)))) (opens_known c.args.run.now)
    (ap (λ l. map (λ numbered. known_from c.args.run.now (numbered.0 + 1) numbered.1) (enumerate_from 0 l)) (all_taken c.args.run.now.opens c.args.run.now.roots c.loop-place.place (omega (arith, past, size)))) c.loop-place.invariant.1

pub loop-place-preserved : goal.loop-place-preserved
loop-place-preserved c = (
  c.in_ok-add.ensures.named,
  adds_opened c.args.known.now c.loop-place.known c.add.new.self (λ numbered. known_from c.args.run.now (numbered.0 + 1) numbered.1) c.args.run.now.opens c.args.run.now.roots c.loop-place.place c.name-item.result c.in-Some.target.now
      (ap (λ l. slice_get l c.loop-place.place) (sym c.as_slice-name-items.ensures) ∙ slice_get_read c.as_slice-name-items.result.now (length c.as_slice-name-items.result.now) c.loop-place.place c.name-item.result refl c.loop-place-test.true c.name-item.is)
      (ap (λ l. slice_get l c.loop-place.place) (sym c.as_slice.ensures) ∙ sym (got c.as_slice.result.now c.loop-place.place (Some c.in-Some.target) c.in-Some.ensures.lookup))
      c.loop-place.invariant.1
      (adds_known c.loop-place.known c.add.new.self c.name-item.result c.in-Some.target.now c.max-since.result _ (c.max-since.ensures ∙ ap (max (c.loop-place.place + 1)) c.phase_at.ensures) c.in_ok-add.ensures.told),
)

pub returns-clause-added : goal.returns-clause-added
returns-clause-added c =
    let size = ap length c.as_slice-name-items.ensures in
    adds_as c.args.known.now c.loop-place.known (map (λ numbered. known_from c.args.run.now (numbered.0 + 1) numbered.1) (enumerate_from 0 (take c.loop-place.place (zip c.args.run.now.opens c.args.run.now.roots)))) (opens_known c.args.run.now)
    (ap (λ l. map (λ numbered. known_from c.args.run.now (numbered.0 + 1) numbered.1) (enumerate_from 0 l)) (all_taken c.args.run.now.opens c.args.run.now.roots c.loop-place.place (omega (arith, size)))) c.loop-place.invariant.1
