use Rattle.std.proofs.Common.{◌≡◌, ◌++◌, drop, map, codes}
use Rattle.config_text.proofs.targets.push_tools.Given as goal

abbrev pub invariant-tools : goal.invariant-tools
invariant-tools l = l.targets ++ map (λ tool. codes "usr/bin/" ++ tool.name) (drop l.tool-index l.tools) ≡ l.fn.targets ++ map (λ tool. codes "usr/bin/" ++ tool.name) l.tools
