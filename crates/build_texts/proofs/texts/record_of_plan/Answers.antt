use Rattle.std.proofs.Common.{sym, subst, All}
use Rattle.std.specs.Option.{IsSome}
use Rattle.host_list.specs.Recording.{program_interp}
use Rattle.load_model.specs.Runs.{IsRunOver}
use Rattle.load_model.specs.declared.runs.Run.{Run}
use Rattle.host_list.proofs.ClosingLemmas.{split_interps}
use Rattle.build_texts.proofs.RecordLemmas.{made_canonical, made_of_plan}
use Rattle.build_texts.proofs.ReplayLemmas.{runs_over}
use Rattle.build_texts.proofs.texts.record_of_plan.Goals as goal

pub record_of-requires-clause-runs : goal.record_of-requires-clause-runs
record_of-requires-clause-runs c =
    subst (λ faces. All (IsRunOver faces) c.as_slice.result.now) (sym c.faces.ensures.faces)
    (subst (λ runs. All (IsRunOver c.args.plan.now.loads.table.faces) runs) (sym c.as_slice.ensures) (runs_over c.args.config.now c.args.plan.now c.requires))

pub record_of-requires-clause-interps : goal.record_of-requires-clause-interps
record_of-requires-clause-interps c =
    let plan = c.args.plan.now in
    subst (λ faces. All (λ (run : Run). IsSome (program_interp faces run)) c.as_slice.result.now) (sym c.faces.ensures.faces)
    (subst (λ runs. All (λ (run : Run). IsSome (program_interp plan.loads.table.faces run)) runs) (sym c.as_slice.ensures)
    (split_interps plan.loads.table.faces plan.loads.runs c.args.config.now.names plan.split (runs_over c.args.config.now plan c.requires) c.requires.plan.split))

pub returns-clause-demands : goal.returns-clause-demands
returns-clause-demands c =
    made_of_plan c.args.config.now c.args.plan.now c.requires c.faces.result.now c.as_slice.result.now c.record_of.result c.faces.ensures.faces c.as_slice.ensures c.record_of.ensures.record_is

pub returns-clause-canonical : goal.returns-clause-canonical
returns-clause-canonical c =
    made_canonical c.args.config.now c.args.plan.now c.requires c.faces.result.now c.as_slice.result.now c.record_of.result c.faces.ensures.faces c.as_slice.ensures c.record_of.ensures.record_is
