use Rattle.std.proofs.Common.{◌≡◌, drop, map, fold}
use Rattle.std.specs.Str.{bytes_eq}
use Rattle.indexmap.specs.IndexSet.{insert_key}
use Rattle.host_meeting.proofs.reaching.reach_all.Given as goal

abbrev pub invariant-loop-need : goal.invariant-loop-need
invariant-loop-need l =
    (l.reached ≡ map (λ name. name.now) l.names.items)
    × (fold (insert_key bytes_eq) (map (λ name. name.now) l.names.items) (drop l.need-index l.needs)
    ≡ fold (insert_key bytes_eq) (map (λ name. name.now) l.fn.names.items) l.needs)
