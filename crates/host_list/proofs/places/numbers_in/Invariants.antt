use Rattle.std.proofs.Common.{◌≡◌, ◌++◌, drop, map}
use Rattle.host_list.specs.Recording.{host_number}
use Rattle.host_list.proofs.places.numbers_in.Given as goal

abbrev pub invariant-loop-obj : goal.invariant-loop-obj
invariant-loop-obj l = l.numbers.items ++ map (λ o. host_number l.hosts o.id) (drop l.obj-index l.obj-items) ≡ map (λ o. host_number l.hosts o.id) l.obj-items
