use Rattle.std.proofs.Common.{◌≡◌, ◌∙◌, ap, sym, List, None, Ok, ℕ, subst}
use Rattle.std.specs.Prelude.{IfOk, Result}
use Rattle.std.specs.Result.{result_err}
use Rattle.load_model.specs.declared.faces.Face.{Face}
use Rattle.load_model.specs.declared.runs.Run.{Run}
use Rattle.lib_closure.specs.declared.splits.Split.{Split}
use Rattle.name_layout.specs.Layouts.{AreNames, first_name_stop}
use Rattle.name_layout.specs.declared.stops.NameStop.{NameStop}
use Rattle.name_layout.proofs.DistinctLemmas.{all_distinct}
use Rattle.name_layout.proofs.FileNameLemmas.{all_named, all_texts}
use Rattle.name_layout.proofs.IdentityLemmas.{libs_apart}
use Rattle.name_layout.proofs.LawLemmas.{all_off}
use Rattle.name_layout.proofs.naming.name_all.Goals as goal

-- Where there are names, nothing is refused.
told : (faces : List Face) (runs : List Run) (split : Split) (names layout : List (List ℕ)) (answer : Result (List (List ℕ)) NameStop) → answer ≡ Ok layout → result_err answer ≡ first_name_stop faces runs split names → IfOk answer (λ l. AreNames faces runs split names l) → AreNames faces runs split names layout × (first_name_stop faces runs split names ≡ None)
told faces runs split names layout answer is stop are = (subst (λ a. IfOk a (λ l. AreNames faces runs split names l)) is are, sym stop ∙ ap result_err is)

pub returns-in-Ok-Ok-clause-off_list : goal.returns-in-Ok-Ok-clause-off_list
returns-in-Ok-Ok-clause-off_list c =
    let is = told c.args.faces.now c.args.runs.now c.args.split.now c.args.names.now c.in-Ok-Ok.libs _ c.in-Ok-Ok.field-0-is c.in-Ok-Ok.ensures.stop c.in-Ok-Ok.ensures.names in
    all_off c.args.faces.now c.args.runs.now c.args.split.now c.args.names.now c.in-Ok-Ok.libs is.0 is.1

pub returns-in-Ok-Ok-clause-distinct : goal.returns-in-Ok-Ok-clause-distinct
returns-in-Ok-Ok-clause-distinct c =
    let is = told c.args.faces.now c.args.runs.now c.args.split.now c.args.names.now c.in-Ok-Ok.libs _ c.in-Ok-Ok.field-0-is c.in-Ok-Ok.ensures.stop c.in-Ok-Ok.ensures.names in
    all_distinct c.args.faces.now c.args.runs.now c.args.split.now c.args.names.now c.in-Ok-Ok.libs is.0 is.1
    (libs_apart c.args.faces.now c.args.runs.now c.args.names.now c.args.split.now c.requires.split)

pub returns-in-Ok-Ok-clause-file_names : goal.returns-in-Ok-Ok-clause-file_names
returns-in-Ok-Ok-clause-file_names c =
    let is = told c.args.faces.now c.args.runs.now c.args.split.now c.args.names.now c.in-Ok-Ok.libs _ c.in-Ok-Ok.field-0-is c.in-Ok-Ok.ensures.stop c.in-Ok-Ok.ensures.names in
    all_named c.args.faces.now c.args.runs.now c.args.split.now c.args.names.now c.in-Ok-Ok.libs is.0 is.1 c.requires.opened

pub returns-in-Ok-Ok-clause-texts : goal.returns-in-Ok-Ok-clause-texts
returns-in-Ok-Ok-clause-texts c texts opened =
    let is = told c.args.faces.now c.args.runs.now c.args.split.now c.args.names.now c.in-Ok-Ok.libs _ c.in-Ok-Ok.field-0-is c.in-Ok-Ok.ensures.stop c.in-Ok-Ok.ensures.names in
    all_texts c.args.faces.now c.args.runs.now c.args.split.now c.args.names.now c.in-Ok-Ok.libs is.0 texts opened
