use Rattle.std.proofs.Common.{◌∙◌, ◌++◌, ap}
use Rattle.load_model.specs.Escaping.{escaped}
use Rattle.host_record.specs.Grammar.{lookup_in}
use Rattle.host_record.proofs.TextLemmas.{look_written}
use Rattle.host_record.proofs.writing.push_look.Goals as goal

pub returns : goal.returns
returns c =
    look_written (lookup_in c.args.lib.now c.args.look.now) c.args.out.now.items
    c.extend_from_slice.new.self.items c.escape_onto.new.line.items c.extend_from_slice-2.new.self.items c.escape_onto-2.new.line.items c.extend_from_slice-3.new.self.items c.push_version_field.new.out.items c.extend_from_slice-4.new.self.items c.push_answer.new.out.items c.extend_from_slice-5.new.self.items
    c.in_ok-extend_from_slice.ensures.items (c.in_ok-escape_onto.ensures ∙ ap (λ t. c.extend_from_slice.new.self.items ++ escaped t) c.as_bytes.ensures) c.in_ok-extend_from_slice-2.ensures.items (c.in_ok-escape_onto-2.ensures ∙ ap (λ t. c.extend_from_slice-2.new.self.items ++ escaped t) c.as_bytes-2.ensures) c.in_ok-extend_from_slice-3.ensures.items c.in_ok-push_version_field.ensures
    (c.in_ok-extend_from_slice-4.ensures.items ∙ ap (λ t. c.push_version_field.new.out.items ++ t) c.class_field.ensures) c.in_ok-push_answer.ensures c.in_ok-extend_from_slice-5.ensures.items
