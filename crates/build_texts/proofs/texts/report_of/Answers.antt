use Rattle.std.proofs.Common.{◌≡◌, ◌∙◌, sym, ap, subst, All, length, map}
use Rattle.std.proofs.lemmas.Result.{IfOk-weaker}
use Rattle.load_model.specs.Runs.{IsRunOver}
use Rattle.load_model.specs.declared.runs.Replay.{Replay}
use Rattle.build_plan.specs.Deciding.{building_of}
use Rattle.build_texts.specs.Texts.{IsReport, IsReportAt, replay_in}
use Rattle.build_texts.proofs.ReplayLemmas.{places_fit, replays_count, replays_over, report_made, runs_over}
use Rattle.build_texts.proofs.texts.report_of.Goals as goal

pub replays_of-requires-clause-runs : goal.replays_of-requires-clause-runs
replays_of-requires-clause-runs c =
    subst (λ faces. All (IsRunOver faces) c.args.plan.loads.runs) (sym c.faces.ensures.faces) (runs_over c.args.config.now c.args.plan c.requires)

pub report_at-requires-clause-runs : goal.report_at-requires-clause-runs
report_at-requires-clause-runs c =
    let runs = c.args.plan.loads.runs in
    let is : c.as_slice.result.now ≡ map (replay_in c.faces.result.now) runs = c.as_slice.ensures ∙ c.in_ok-replays.ensures.replays in
    let over : All (IsRunOver c.faces.result.now) runs = subst (λ faces. All (IsRunOver faces) runs) (sym c.faces.ensures.faces) (runs_over c.args.config.now c.args.plan c.requires) in
    subst (λ faces. All (λ (r : Replay). IsRunOver faces r.run) c.as_slice.result.now) (c.faces.ensures.faces ∙ sym c.faces-2.ensures.faces)
    (subst (λ replays. All (λ (r : Replay). IsRunOver c.faces.result.now r.run) replays) (sym is) (replays_over c.faces.result.now runs over))

pub report_at-requires-clause-places : goal.report_at-requires-clause-places
report_at-requires-clause-places c =
    let runs = c.args.plan.loads.runs in
    let is : c.as_slice.result.now ≡ map (replay_in c.faces.result.now) runs = c.as_slice.ensures ∙ c.in_ok-replays.ensures.replays in
    ap (map length) c.in_ok-places.ensures ∙ places_fit c.args.config.now c.args.plan c.requires
    ∙ sym (replays_count c.faces.result.now runs) ∙ sym (ap (map (λ (r : Replay). length r.run.objs)) is)

pub returns : goal.returns
returns c =
    let b = building_of c.args.plan in
    let is : c.as_slice.result.now ≡ map (replay_in b.faces) b.runs =
    c.as_slice.ensures ∙ c.in_ok-replays.ensures.replays ∙ ap (λ faces. map (replay_in faces) b.runs) c.faces.ensures.faces in
    IfOk-weaker c.report_at.result (IsReportAt c.faces-2.result.now c.as_slice.result.now c.in_ok-places.places) (IsReport c.args.config.now b)
    (report_made c.args.config.now b c.faces-2.result.now c.as_slice.result.now c.in_ok-places.places c.faces-2.ensures.faces is c.in_ok-places.ensures)
    c.report_at.ensures
