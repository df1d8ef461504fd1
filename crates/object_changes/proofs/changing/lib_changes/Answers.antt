use Rattle.std.proofs.Common.{◌∙◌, [], ◌∷◌, ◌++◌, ap, map, sym}
use Rattle.std.specs.List.{find}
use Rattle.std.specs.Option.{option_map, option_to_list}
use Rattle.std.proofs.lemmas.List.{append-nil}
use Rattle.lib_closure.specs.Objects.{has_id}
use Rattle.lib_closure.specs.Seen.{standing}
use Rattle.version_files.proofs.TakenLemmas.{added_read}
use Rattle.object_changes.specs.Changing.{change_if_placed, change_of_lib}
use Rattle.object_changes.specs.OfNames.{of_names}
use Rattle.object_changes.proofs.changing.lib_changes.Goals.{in-Some+in_ok-change_of_lib+in_ok-push, in_default}
use Rattle.object_changes.proofs.changing.lib_changes.Goals as goal

pub loop-lib-preserved : goal.loop-lib-preserved
loop-lib-preserved c =
    let firsts = map standing c.args.firsts.now.seen.items in
    let change = of_names change_of_lib c.args.names.now c.args.table.now in
    added_read (of_names change_if_placed c.args.names.now c.args.table.now firsts) c.as_slice-lib-items.result.now c.loop-lib.lib-index c.lib-item.result c.loop-lib.changes c.match-find.changes c.loop-lib-test.true c.lib-item.is c.loop-lib.invariant
    (elim c.match-find.branch [
      | in-Some+in_ok-change_of_lib+in_ok-push w ↦
          w.changes-is ∙ w.in_ok-push.ensures.ok ∙ ap (λ x. c.loop-lib.changes ++ x ∷ []) w.in_ok-change_of_lib.ensures
          ∙ ap (λ found. c.loop-lib.changes ++ option_to_list (option_map change found)) (sym (ap (option_map standing) w.in-Some.is) ∙ c.find.ensures ∙ ap (λ id. find (has_id id) firsts) c.as_bytes.ensures)
      | in_default w ↦
          w.changes-is ∙ sym (append-nil c.loop-lib.changes)
          ∙ ap (λ found. c.loop-lib.changes ++ option_to_list (option_map change found)) (sym (ap (option_map standing) w.in_default.is) ∙ c.find.ensures ∙ ap (λ id. find (has_id id) firsts) c.as_bytes.ensures)
    ])
