use Rattle.std.proofs.Common.{◌≡◌, ◌++◌, drop, map}
use Rattle.build_plan.specs.Building.{start_of}
use Rattle.build_plan.proofs.starts.push_tools.Given as goal

abbrev pub invariant-tools : goal.invariant-tools
invariant-tools l = l.starts ++ map start_of (drop l.tool-index l.tools) ≡ l.fn.starts ++ map start_of l.tools
