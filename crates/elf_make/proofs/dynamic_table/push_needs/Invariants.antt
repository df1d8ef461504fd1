use Rattle.std.specs.Prelude.{◌≡◌, ◌++◌, drop, map}
use Rattle.byte_view.specs.declared.constants.TheConstants.{DT_NEEDED}
use Rattle.elf_shape.specs.Texts.{string_place}
use Rattle.byte_view.specs.Dynamic.{tagged}
use Rattle.elf_make.proofs.dynamic_table.push_needs.Given as goal

abbrev pub invariant-loop-need : goal.invariant-loop-need
invariant-loop-need l = l.out ++ map (λ need. tagged DT_NEEDED (string_place l.texts need)) (drop l.need-index l.needs) ≡ l.fn.out ++ map (λ need. tagged DT_NEEDED (string_place l.texts need)) l.needs
