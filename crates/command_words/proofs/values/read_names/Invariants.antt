use Rattle.std.proofs.Common.{◌≡◌, map, ◌++◌, drop}
use Rattle.command_words.proofs.values.read_names.Given as goal

abbrev pub invariant-loop-word : goal.invariant-loop-word
invariant-loop-word l = l.names ++ map (λ w. w.now) (drop l.word-index l.words) ≡ map (λ w. w.now) l.words
