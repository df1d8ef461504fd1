use Rattle.std.proofs.Common.{◌≡◌, ◌++◌, drop, map}
use Rattle.build_texts.specs.Places.{tool_place}
use Rattle.build_texts.proofs.places.push_tools.Given as goal

abbrev pub invariant-tools : goal.invariant-tools
invariant-tools l = l.places ++ map tool_place (drop l.tool-index l.tools) ≡ l.fn.places ++ map tool_place l.tools
