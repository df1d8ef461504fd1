use Rattle.std.proofs.Common.{◌∙◌}
use Rattle.host_record.proofs.TextLemmas.{written_parts}
use Rattle.host_record.proofs.writing.write_record.Goals as goal

pub returns : goal.returns
returns c =
    c.from_vec.ensures
    ∙ written_parts c.args.rec.now c.as_slice.result.now c.as_slice-libs.result.now c.as_slice-2.result.now c.as_slice-3.result.now
    c.new-out.result.items c.extend_from_slice.new.self.items c.push_machine.new.out.items c.push_interps.new.out.items c.push_libs.new.out.items c.push_versions.new.out.items c.push_looks.new.out.items c.extend_from_slice-2.new.self.items
    c.new-out.ensures.items c.in_ok-extend_from_slice.ensures.items c.in_ok-push_machine.ensures c.in_ok-push_interps.ensures c.in_ok-push_libs.ensures c.in_ok-push_versions.ensures c.in_ok-push_looks.ensures c.in_ok-extend_from_slice-2.ensures.items
    c.as_slice.ensures c.as_slice-libs.ensures c.as_slice-2.ensures c.as_slice-3.ensures
