use Rattle.lib_closure.proofs.FirstsLemmas.{own}
use Rattle.object_changes.proofs.ChangeLemmas.{libs_kept, ok_as}
use Rattle.object_changes.proofs.changing.changes_of_libs.Goals as goal

pub lib_changes-requires : goal.lib_changes-requires
lib_changes-requires c = own c.in_ok-firsts.firsts _ c.in_ok-firsts.ensures

pub returns : goal.returns
returns c =
    ok_as c.lib_changes.result _ _ (libs_kept c.args.names.now c.in_ok-table.table c.in_ok-firsts.firsts c.in_ok-all.all.items c.as_slice.result.now c.as_slice-2.result.now _ c.as_slice.ensures.value c.as_slice-2.ensures.value c.in_ok-all.ensures c.in_ok-table.ensures c.in_ok-firsts.ensures) c.lib_changes.ensures
