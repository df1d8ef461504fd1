use Rattle.std.proofs.Common.{◌∙◌, ap, sym, arith, length, max, refl, map, take, zip, Some}
use Rattle.std.proofs.lemmas.Option.{slice_get_read}
use Rattle.version_files.specs.Known.{known_from}
use Rattle.version_files.proofs.AddingLemmas.{adds_as, adds_known, adds_request, all_taken}
use Rattle.text_sets.proofs.FoundLemmas.{got}
use Rattle.version_files.proofs.files.add_requests.Goals as goal

pub returns-in-None-clause-added : goal.returns-in-None-clause-added
returns-in-None-clause-added c =
    let f = known_from c.args.run.now c.args.asked.phase in
    let past = c.in-None.ensures.lookup.3 in
    adds_as c.args.known.now c.loop-place.known (map f (take c.loop-place.place (zip c.args.asked.needs.now c.args.asked.targets.now))) (map f (zip c.args.asked.needs.now c.args.asked.targets.now))
    (ap (map f) (all_taken c.args.asked.needs.now c.args.asked.targets.now c.loop-place.place (omega (arith, past)))) c.loop-place.invariant.1

pub loop-place-preserved : goal.loop-place-preserved
loop-place-preserved c = (
  c.in_ok-add.ensures.named,
  adds_request c.args.known.now c.loop-place.known c.add.new.self (known_from c.args.run.now c.args.asked.phase) c.args.asked.needs.now c.args.asked.targets.now c.loop-place.place c.name-item.result c.in-Some.target.now
      (slice_get_read c.args.asked.needs.now (length c.args.asked.needs.now) c.loop-place.place c.name-item.result refl c.loop-place-test.true c.name-item.is)
      (sym (got c.args.asked.targets.now c.loop-place.place (Some c.in-Some.target) c.in-Some.ensures.lookup))
      c.loop-place.invariant.1
      (adds_known c.loop-place.known c.add.new.self c.name-item.result c.in-Some.target.now c.max-since.result _ (c.max-since.ensures ∙ ap (max c.args.asked.phase) c.phase_at.ensures) c.in_ok-add.ensures.told),
)

pub returns-clause-added : goal.returns-clause-added
returns-clause-added c =
    let f = known_from c.args.run.now c.args.asked.phase in
    adds_as c.args.known.now c.loop-place.known (map f (take c.loop-place.place (zip c.args.asked.needs.now c.args.asked.targets.now))) (map f (zip c.args.asked.needs.now c.args.asked.targets.now))
    (ap (map f) (all_taken c.args.asked.needs.now c.args.asked.targets.now c.loop-place.place (omega arith))) c.loop-place.invariant.1
