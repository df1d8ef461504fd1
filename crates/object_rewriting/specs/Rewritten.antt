-- The new bytes of a file by a change, and what a rewriting answers
use Rattle.std.specs.Prelude.{ℕ, ◌≡◌, List, Some, Result, Ok, Err}
use Rattle.answers.specs.Faults.{Rose}
use Rattle.answers.specs.First.{value_unless}
use Rattle.elf_rewrite.specs.Pieces.{laid}
use Rattle.elf_rewrite.specs.Rewriting.{rewriting}
use Rattle.elf_rewrite.specs.Stops.{stop_named, stop_of}
use Rattle.elf_rewrite.specs.declared.change.Change.{Change}
use Rattle.elf_rewrite.specs.declared.change.RewriteStop.{RewriteStop}
use Rattle.object_rewriting.specs.declared.stops.RewritingStop.{RewritingStop}
use Rattle.object_rewriting.specs.declared.stops.RewritingStop.TheVariants.{Rewrite, Changed, Read, NoMemory}

-- The new bytes, or why there are none.
unfoldable pub rewritten : List ℕ → Change → Result (List ℕ) RewriteStop
rewritten b change = value_unless (stop_of b change) (laid b (rewriting b change))

-- What is wanted is answered, the bytes or their stop, or a read failed, or memory was refused.
abbrev pub IsRewriteAnswer : Result (List ℕ) RewriteStop → Result (List ℕ) RewritingStop → Type 0
IsRewriteAnswer wanted (Ok text) = wanted ≡ Ok text
IsRewriteAnswer wanted (Err (Rewrite stop)) = wanted ≡ Err stop
IsRewriteAnswer wanted (Err Changed) = ⊥
IsRewriteAnswer wanted (Err Read) = Unit {0}
IsRewriteAnswer wanted (Err NoMemory) = Unit {0}

-- A read fails only where the count of faults rose; a stop of the file is no want of memory.
abbrev pub IsRewriteCause : ℕ → ℕ → RewritingStop → Type 0
IsRewriteCause before now (Rewrite stop) = stop_named stop ≡ Some stop
IsRewriteCause before now Changed = Unit {0}
IsRewriteCause before now Read = Rose before now
IsRewriteCause before now NoMemory = Unit {0}
