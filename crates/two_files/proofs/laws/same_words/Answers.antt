use Rattle.two_files.proofs.Left.{part_left, word_left}
use Rattle.two_files.proofs.laws.same_words.Goals as goal

pub returns-clause-words : goal.returns-clause-words
returns-clause-words c = word_left

pub returns-clause-parts : goal.returns-clause-parts
returns-clause-parts c = part_left
