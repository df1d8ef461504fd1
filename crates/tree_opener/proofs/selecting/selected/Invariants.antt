-- the values so far at the places so far
use Rattle.std.proofs.Common.{◌≡◌, ◌≤◌, Some, length, map, slice_get, take}
use Rattle.tree_opener.proofs.selecting.selected.Given as goal

abbrev pub invariant-loop-value : goal.invariant-loop-value
invariant-loop-value g l = record {
  place : l.place ≡ length l.yielded;
  next : l.next ≤ length l.places;
  chosen : map (λ v. Some v) l.chosen.items ≡ map (slice_get l.yielded) (take l.next l.places);
  no_more : length l.chosen.items ≤ length l.yielded;
}
