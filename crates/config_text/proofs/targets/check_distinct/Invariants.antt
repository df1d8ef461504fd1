use Rattle.std.proofs.Common.{◌≡◌, [], drop}
use Rattle.config_text.specs.Reading.{repeated}
use Rattle.config_text.proofs.targets.check_distinct.Given as goal

abbrev pub invariant-look : goal.invariant-look
invariant-look l = repeated [] l.targets ≡ repeated l.before (drop l.target-index l.targets)
