use Rattle.std.proofs.Common.{rules, ◌≡◌, true, false, None}
use Rattle.elf_rewrite.specs.NewTexts.{removes, wants_segment}
use Rattle.elf_rewrite.specs.Ranges.{first_overlap}
use Rattle.elf_rewrite.proofs.DoneLemmas.{are_bytes, planned_done, planned_narrow, planned_wide}
use Rattle.elf_rewrite.proofs.planning.plan.Goals as goal

pub returns-then-not-removes-clause-new_file : goal.returns-then-not-removes-clause-new_file
returns-then-not-removes-clause-new_file c =
    let still : wants_segment c.args.bytes.now c.args.change.now ≡ false = search rules in
    let kept : removes c.args.bytes.now c.args.change.now ≡ false = search rules in
    planned_done c.args.bytes.now c.args.change.now c.unchanged.result c.requires.face c.requires.change still kept c.unchanged.ensures

pub returns-then-adds-clause-new_file : goal.returns-then-adds-clause-new_file
returns-then-adds-clause-new_file c =
    let wants : wants_segment c.args.bytes.now c.args.change.now ≡ true = search rules in
    let apart : first_overlap c.args.bytes.now ≡ None = search rules in
    planned_wide c.args.bytes.now c.args.change.now c.extended.result (are_bytes c.args.bytes.now c.type_inv.bytes) c.requires.face c.requires.change wants apart c.extended.ensures.stop c.extended.ensures.edit

pub returns-in-Ok-compacted-clause-new_file : goal.returns-in-Ok-compacted-clause-new_file
returns-in-Ok-compacted-clause-new_file c =
    let still : wants_segment c.args.bytes.now c.args.change.now ≡ false = search rules in
    let removed : removes c.args.bytes.now c.args.change.now ≡ true = search rules in
    let apart : first_overlap c.args.bytes.now ≡ None = search rules in
    planned_narrow c.args.bytes.now c.args.change.now c.in-Ok-compacted.edit (are_bytes c.args.bytes.now c.type_inv.bytes) c.requires.face c.requires.change still removed apart c.in-Ok-compacted.ensures
