use Rattle.std.proofs.Common.{◌≡◌, ap, refl, [], ◌∷◌, ◌++◌, ◌+◌, ◌<◌, length, length-append, arith}
use Rattle.tree_opener.proofs.SelectedLemmas.{chosen_more, chosen_passed}
use Rattle.tree_opener.proofs.selecting.selected.Goals.{then-next-places+then-places-next+in-Ok, else-next-places}
use Rattle.tree_opener.proofs.selecting.selected.Goals as goal

pub loop-value-preserved-then-if-drop : goal.loop-value-preserved-then-if-drop
loop-value-preserved-then-if-drop g c =
    let count : length (c.loop-value.yielded ++ c.in-Some.value ∷ []) ≡ length c.loop-value.yielded + 1 = length-append c.loop-value.yielded (c.in-Some.value ∷ []) in
    elim c.if-next-places.branch [
      | then-next-places+then-places-next+in-Ok w ↦
          (let items : c.if-next-places.chosen.items ≡ c.loop-value.chosen.items ++ c.in-Some.value ∷ [] = rw w.chosen-is w.in-Ok.ensures.items in
          let below : c.loop-value.next < length c.args.places.now = w.if-next-places.true in
          record {
            place = omega (arith, count, c.loop-value.invariant.place);
            next = omega (arith, w.next-is, below);
            chosen = chosen_more c.loop-value.yielded c.in-Some.value c.args.places.now c.loop-value.chosen.items c.if-next-places.chosen.items c.loop-value.next c.if-next-places.next c.loop-value.place c.loop-value.invariant.chosen below w.if-places-next.true c.loop-value.invariant.place items w.next-is;
            no_more = omega (arith, count, ap length items, length-append c.loop-value.chosen.items (c.in-Some.value ∷ []), c.loop-value.invariant.no_more);
          })
      | else-next-places w ↦
          (let items : c.if-next-places.chosen.items ≡ c.loop-value.chosen.items = rw w.chosen-is refl in
          record {
            place = omega (arith, count, c.loop-value.invariant.place);
            next = omega (arith, w.next-is, c.loop-value.invariant.next);
            chosen = chosen_passed c.loop-value.yielded c.in-Some.value c.args.places.now c.loop-value.chosen.items c.if-next-places.chosen.items c.loop-value.next c.if-next-places.next c.loop-value.invariant.chosen items w.next-is;
            no_more = omega (arith, count, ap length items, c.loop-value.invariant.no_more);
          })
    ]

pub loop-value-preserved : goal.loop-value-preserved
loop-value-preserved g c =
    let count : length (c.loop-value.yielded ++ c.in-Some.value ∷ []) ≡ length c.loop-value.yielded + 1 = length-append c.loop-value.yielded (c.in-Some.value ∷ []) in
    elim c.if-next-places.branch [
      | then-next-places+then-places-next+in-Ok w ↦
          (let items : c.if-next-places.chosen.items ≡ c.loop-value.chosen.items ++ c.in-Some.value ∷ [] = rw w.chosen-is w.in-Ok.ensures.items in
          let below : c.loop-value.next < length c.args.places.now = w.if-next-places.true in
          record {
            place = omega (arith, count, c.loop-value.invariant.place);
            next = omega (arith, w.next-is, below);
            chosen = chosen_more c.loop-value.yielded c.in-Some.value c.args.places.now c.loop-value.chosen.items c.if-next-places.chosen.items c.loop-value.next c.if-next-places.next c.loop-value.place c.loop-value.invariant.chosen below w.if-places-next.true c.loop-value.invariant.place items w.next-is;
            no_more = omega (arith, count, ap length items, length-append c.loop-value.chosen.items (c.in-Some.value ∷ []), c.loop-value.invariant.no_more);
          })
      | else-next-places w ↦
          (let items : c.if-next-places.chosen.items ≡ c.loop-value.chosen.items = rw w.chosen-is refl in
          record {
            place = omega (arith, count, c.loop-value.invariant.place);
            next = omega (arith, w.next-is, c.loop-value.invariant.next);
            chosen = chosen_passed c.loop-value.yielded c.in-Some.value c.args.places.now c.loop-value.chosen.items c.if-next-places.chosen.items c.loop-value.next c.if-next-places.next c.loop-value.invariant.chosen items w.next-is;
            no_more = omega (arith, count, ap length items, c.loop-value.invariant.no_more);
          })
    ]
