use Rattle.elf_make.proofs.PlaceLemmas.{program_reads}
use Rattle.elf_make.proofs.generator.make_tree.Goals as goal

pub add_object-requires : goal.add_object-requires
add_object-requires c = program_reads
