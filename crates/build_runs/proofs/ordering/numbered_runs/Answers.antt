use Rattle.std.proofs.Common.{◌∙◌, refl, arith}
use Rattle.build_runs.proofs.OrderLemmas.{none_numbered, one_more_numbered, places_push}
use Rattle.build_runs.proofs.ordering.numbered_runs.Goals as goal

pub loop-run-init : goal.loop-run-init
loop-run-init c = record { all = c.new-all.ensures ∙ none_numbered; place = refl }

pub loop-run-preserved : goal.loop-run-preserved
loop-run-preserved c = record {
  all = one_more_numbered c.loop-run.yielded c.in-Some.run' c.in_ok-numbered_run.field-0 c.loop-run.all c.push.new.self c.loop-run.place c.loop-run.invariant.all c.loop-run.invariant.place c.in_ok-numbered_run.ensures.run c.in_ok-push.ensures.ok;
  place = omega (arith, places_push c.loop-run.yielded c.in-Some.run', c.loop-run.invariant.place, c.in_ok-numbered_run.ensures.place);
}
