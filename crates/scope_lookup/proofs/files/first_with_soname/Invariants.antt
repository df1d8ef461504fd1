use Rattle.std.proofs.Common.{◌≡◌, ℕ, ◌<◌, ◌&&◌, false, nat_le}
use Rattle.load_model.specs.LoadList.{is_named}
use Rattle.load_model.specs.Runs.{face_at}
use Rattle.load_model.specs.VersionCheck.{phase_at, soname_in}
use Rattle.scope_lookup.proofs.files.first_with_soname.Given as goal

abbrev pub invariant-loop-number : goal.invariant-loop-number
invariant-loop-number l = (j : ℕ) → j < l.number → (nat_le (phase_at l.run j) l.phase && is_named (soname_in (face_at l.faces l.run j)) l.file) ≡ false
