use Rattle.std.proofs.Common.{◌≡◌, ℕ, ◌<◌, Some, None, slice_get}
use Rattle.load_model.specs.VersionCheck.{unmet}
use Rattle.load_model.specs.declared.asks.Ask.{Ask}
use Rattle.scope_lookup.proofs.checking.check_object.Given as goal

abbrev pub invariant-loop-place : goal.invariant-loop-place
invariant-loop-place l = (k : ℕ) (a : Ask) → k < l.place → slice_get l.ask-items k ≡ Some a → unmet l.faces l.run l.obj a ≡ None
