-- The files that are left are searched as the whole is.
use Rattle.std.proofs.Common.{◌≡◌, drop}
use Rattle.ports.specs.MemTree.{world_of, is_taken}
use Rattle.ports.proofs.mem_tree.is_taken.Given as goal

abbrev pub invariant-loop-file : goal.invariant-loop-file
invariant-loop-file l = is_taken (world_of (drop l.file-index l.files)) l.path l.id l.bytes ≡ is_taken (world_of l.files) l.path l.id l.bytes
