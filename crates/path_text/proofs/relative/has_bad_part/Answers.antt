-- The parts that `split` gives are those of `parts_of`.
use Rattle.std.proofs.Common.{lit<, rules}
use borrow.Author.Tests.{tests}
use Rattle.std.proofs.lemmas.Iterator.Splits.{YieldsList-from_str_split}
use Rattle.std.proofs.lemmas.Iterator.Search.{any_from_yields_List}
use Rattle.path_text.specs.Target.{is_bad_part}
use Rattle.path_text.proofs.relative.has_bad_part.Goals as goal

pub returns : goal.returns
returns c = any_from_yields_List is_bad_part _ _ _ c.any.ensures.ran (YieldsList-from_str_split 47 c.args.text.now (lit< tt) c.split.ensures.text c.split.ensures.has_more c.split.ensures.pattern) (λ x b q k. search (rules, tests))
