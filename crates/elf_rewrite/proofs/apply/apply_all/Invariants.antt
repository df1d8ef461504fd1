use Rattle.std.proofs.Common.{◌≡◌, drop}
use Rattle.elf_rewrite.specs.Patched.{patched}
use Rattle.elf_rewrite.proofs.apply.apply_all.Given as goal

abbrev pub invariant-loop-patch : goal.invariant-loop-patch
invariant-loop-patch l = patched l.buf (drop l.patch-index l.patches) ≡ patched l.fn.buf l.patches
