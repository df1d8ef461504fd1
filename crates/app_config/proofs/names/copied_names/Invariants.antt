use Rattle.std.proofs.Common.{◌≡◌, ◌++◌, drop}
use Rattle.app_config.proofs.names.copied_names.Given as goal

abbrev pub invariant-copy : goal.invariant-copy
invariant-copy l = l.copies ++ drop l.name-index l.names ≡ l.names
