-- The files that are left are searched as the whole is.
use Rattle.std.proofs.Common.{◌≡◌, drop}
use Rattle.load_model.specs.World.{file_at}
use Rattle.ports.specs.MemTree.{world_of}
use Rattle.ports.proofs.mem_tree.file_at.Given as goal

abbrev pub invariant-loop-file : goal.invariant-loop-file
invariant-loop-file l = file_at (world_of (drop l.file-index l.files)) l.path ≡ file_at (world_of l.files) l.path
