use Rattle.std.proofs.Common.{◌≡◌, ◌≤◌, ◌-◌, take, vec_len}
use Rattle.answers.specs.Told.{WhereTold}
use Rattle.ports.specs.Reading.{bytes_at}
use Rattle.ports.specs.View.{OnlyReads}
use Rattle.tree_opener.proofs.reading.read_to.Given as goal

abbrev pub invariant-fill : goal.invariant-fill
invariant-fill g l = record {
  fits : vec_len l.bytes ≤ l.file.len;
  reads : OnlyReads (g.T.Tree.seen l.initial.tree) (g.T.Tree.seen l.tree);
  front : WhereTold (g.T.Tree.seen l.initial.tree).told (λ world. l.bytes.items ≡ take (vec_len l.bytes) (bytes_at world l.file.path.now));
}

abbrev pub decreases-fill : goal.decreases-fill
decreases-fill g l = l.file.len - vec_len l.bytes
