use Rattle.std.proofs.Common.{filter, take}
use Rattle.build_texts.specs.Counting.{HasCounted}
use Rattle.build_texts.specs.Texts.{is_reported}
use Rattle.build_texts.proofs.counts.Counts.add_all.Given as goal

abbrev pub invariant-binds : goal.invariant-binds
invariant-binds l = HasCounted l.fn.self l.self (filter (is_reported l.places) (take l.bind-index l.binds))
