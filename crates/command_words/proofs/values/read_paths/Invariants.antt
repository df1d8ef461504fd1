use Rattle.std.proofs.Common.{◌≡◌, ◌++◌, drop, map, option_map, List, ℕ}
use Rattle.command_words.specs.Words.{paths_told}
use Rattle.command_words.proofs.values.read_paths.Given as goal

abbrev pub invariant-loop-word : goal.invariant-loop-word
invariant-loop-word l = option_map (λ (more : List (List ℕ)). l.paths ++ more) (paths_told (map (λ w. w.now) (drop l.word-index l.words))) ≡ paths_told (map (λ w. w.now) l.words)
