use Rattle.ports.specs.MemTree.{world_of}
use Rattle.elf_make.proofs.PlaceLemmas.{c_library_reads, loader_reads}
use Rattle.elf_make.proofs.TreeLemmas.{host_added}
use Rattle.elf_make.proofs.generator.add_host.Goals as goal

pub add_object-requires : goal.add_object-requires
add_object-requires c = loader_reads

pub add_object-requires-2 : goal.add_object-requires-2
add_object-requires-2 c = c_library_reads

pub returns-clause-files : goal.returns-clause-files
returns-clause-files c =
    host_added c.add_object-2.result (world_of c.args.tree.now.files) (world_of c.add_object.new.tree.files) (world_of c.add_object-2.new.tree.files) c.in_ok-loader.loader c.in_ok-c_library.c_library c.in_ok-loader.ensures c.in_ok-c_library.ensures c.in_ok-add_object.ensures.files c.add_object-2.ensures.files
