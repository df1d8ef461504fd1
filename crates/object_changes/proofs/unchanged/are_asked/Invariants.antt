use Rattle.std.proofs.Common.{◌≡◌, drop}
use Rattle.std.specs.Cmp.Lexicographic.{pointwise}
use Rattle.std.specs.Str.{bytes_eq}
use Rattle.elf_rewrite.specs.FittingFace.{files_in}
use Rattle.object_changes.proofs.unchanged.are_asked.Given as goal

abbrev pub invariant-loop-place : goal.invariant-loop-place
invariant-loop-place l = pointwise bytes_eq (files_in (drop l.place l.asks)) (drop l.place l.files) ≡ pointwise bytes_eq (files_in l.asks) l.files
