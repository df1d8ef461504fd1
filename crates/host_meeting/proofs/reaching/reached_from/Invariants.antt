use Rattle.std.proofs.Common.{◌≡◌, ◌-◌, length, map}
use Rattle.host_meeting.proofs.ReachingLemmas.{AreFollowed, IsReaching}
use Rattle.host_meeting.proofs.reaching.reached_from.Given as goal

-- the first names have all their needs among these
abbrev pub invariant-names : goal.invariant-names
invariant-names l = record {
  view : l.reached ≡ map (λ name. name.now) l.names.items;
  reaching : IsReaching l.libs.rec.now.libs l.from (map (λ name. name.now) l.names.items);
  followed : AreFollowed l.libs.rec.now.libs (map (λ name. name.now) l.names.items) l.next;
}

abbrev pub decreases-names : goal.decreases-names
decreases-names l = length l.libs.rec.now.libs - l.next
