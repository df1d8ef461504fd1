use Rattle.host_meeting.proofs.PlaceLemmas.{AreKept}
use Rattle.host_meeting.proofs.lib_places.places_of.Given as goal

-- the places of the libraries from this one on are kept
abbrev pub invariant-libs : goal.invariant-libs
invariant-libs l = AreKept l.places.entries l.libs l.place

abbrev pub decreases-libs : goal.decreases-libs
decreases-libs l = l.place
