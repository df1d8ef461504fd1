use Rattle.std.specs.Prelude.{◌≡◌, ◌++◌, length}
use Rattle.elf_make.specs.HashTables.{chain_words}
use Rattle.elf_make.proofs.hash_tables.chain_words.Given as goal

abbrev pub invariant-chain : goal.invariant-chain
invariant-chain l = l.chain ++ chain_words l.rest ≡ chain_words l.hashes

abbrev pub decreases-chain : goal.decreases-chain
decreases-chain l = length l.rest
