use Rattle.std.proofs.Common.{◌≡◌, ◌∙◌, ap, map, sym, subst}
use Rattle.lib_closure.specs.Build.{list_of}
use Rattle.lib_closure.proofs.HostLemmas.{all_few}
use Rattle.object_changes.specs.Changing.{changes_of}
use Rattle.object_changes.specs.Fitting.{AreFitting}
use Rattle.object_changes.specs.declared.changes.Changes.{Changes}
use Rattle.object_changes.proofs.ChangeLemmas.{gathered}
use Rattle.object_changes.proofs.FittingLemmas.{all_fit}
use Rattle.object_changes.proofs.changing.change_all.Goals as goal

pub changes_of_libs-requires : goal.changes_of_libs-requires
changes_of_libs-requires c =
    all_few c.args.faces.now c.args.runs.now c.in_ok-lists_of_runs.lists_of_runs.items c.as_slice-lists.result.now c.requires.runs c.in_ok-lists_of_runs.ensures c.as_slice-lists.ensures.value

pub returns : goal.returns
returns c =
    let made : Changes = record { programs = c.in_ok-programs.programs; libs = c.in_ok-libs.libs } in
    let is : made ≡ changes_of c.args.faces.now c.args.runs.now c.args.split.now c.args.layout.now =
    gathered c.args.faces.now c.args.runs.now c.args.split.now c.args.layout.now c.in_ok-names.names c.as_slice-lists.result.now c.in_ok-programs.programs c.in_ok-libs.libs c.in_ok-names.ensures.split c.in_ok-names.ensures.layout
    (ap (map list_of) c.as_slice-lists.ensures.value ∙ c.in_ok-lists_of_runs.ensures) c.in_ok-programs.ensures c.in_ok-libs.ensures in
    record {
      changes = is;
      fits = subst (AreFitting c.args.faces.now c.args.split.now) (sym is) (all_fit c.args.faces.now c.args.runs.now c.requires.split.0 c.args.split.now c.args.layout.now c.requires.runs c.requires.split.1 c.requires.texts);
    }
