use Rattle.elf_rewrite.proofs.DoneLemmas.{new_file}
use Rattle.elf_rewrite.proofs.laws.new_file.Goals as goal

pub returns : goal.returns
returns c = λ b change bytes e fits none. new_file b change bytes e fits none
