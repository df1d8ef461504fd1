use Rattle.std.proofs.Common.{◌≡◌, ◌++◌, drop, map}
use Rattle.extra_files.proofs.extras.push_names.Given as goal

abbrev pub invariant-tools : goal.invariant-tools
invariant-tools l = l.names ++ map (λ t. t.name) (drop l.tool-index l.tools) ≡ l.fn.names ++ map (λ t. t.name) l.tools
