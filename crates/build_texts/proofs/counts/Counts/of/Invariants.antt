use Rattle.std.proofs.Common.{take, zip}
use Rattle.std.specs.List.{flat_map}
use Rattle.build_texts.specs.Counting.{HasCounted, no_counts}
use Rattle.build_texts.specs.Texts.{reported_of}
use Rattle.build_texts.proofs.counts.Counts.of.Given as goal

abbrev pub invariant-programs : goal.invariant-programs
invariant-programs l = HasCounted no_counts l.counts (flat_map reported_of (zip (take l.number l.replays) (take l.number l.places)))
