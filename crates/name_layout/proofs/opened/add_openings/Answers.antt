use Rattle.std.proofs.Common.{◌<◌, ◌∙◌, [], ◌∷◌, ◌++◌, ap, sym, arith, get_or, length, map, refl, slice_get}
use Rattle.std.specs.Option.{option_map, option_to_list}
use Rattle.std.proofs.lemmas.List.{append-nil, map-append}
use Rattle.std.proofs.lemmas.Option.{slice_get-get_or, slice_get_read}
use Rattle.name_layout.specs.Opened.{as_opening}
use Rattle.name_layout.specs.Openings.{opening}
use Rattle.name_layout.proofs.OpenedLemmas.{opened_all, opened_more}
use Rattle.name_layout.proofs.opened.add_openings.Goals as goal
use Rattle.name_layout.proofs.opened.add_openings.Goals.{in-Some+in-Ok, in_default}

pub loop-place-preserved : goal.loop-place-preserved
loop-place-preserved c =
    let root = get_or c.as_slice-roots.result.now c.loop-place.place 0 in
    let less : c.loop-place.place < length c.as_slice-roots.result.now = let a = ap length c.as_slice-roots.ensures in let b = ap length c.as_slice-name-items.ensures in omega arith in
    opened_more (opening c.args.run.now) c.args.run.now.opens c.args.run.now.roots c.loop-place.place c.name-item.result root (map as_opening c.args.all.now.items) (map as_opening c.loop-place.all.items) (map as_opening c.match-opening.all.items)
    (ap (λ l. slice_get l c.loop-place.place) (sym c.as_slice-name-items.ensures) ∙ slice_get_read c.as_slice-name-items.result.now (length c.as_slice-name-items.result.now) c.loop-place.place c.name-item.result refl c.loop-place-test.true c.name-item.is)
    (ap (λ l. slice_get l c.loop-place.place) (sym c.as_slice-roots.ensures) ∙ slice_get-get_or c.as_slice-roots.result.now c.loop-place.place 0 less)
    c.loop-place.invariant
    (elim c.match-opening.branch [
      | in-Some+in-Ok w ↦
          ap (map as_opening) (ap (λ a. a.items) w.all-is ∙ w.in-Ok.ensures.items) ∙ map-append as_opening c.loop-place.all.items (w.in-Some.opened ∷ [])
          ∙ ap (λ o. map as_opening c.loop-place.all.items ++ option_to_list o) (sym (ap (option_map as_opening) w.in-Some.is) ∙ c.opening.ensures)
      | in_default w ↦
          ap (λ a. map as_opening a.items) w.all-is ∙ sym (append-nil (map as_opening c.loop-place.all.items))
          ∙ ap (λ o. map as_opening c.loop-place.all.items ++ option_to_list o) (sym (ap (option_map as_opening) w.in_default.is) ∙ c.opening.ensures)
    ])

pub returns : goal.returns
returns c =
    opened_all (opening c.args.run.now) c.args.run.now.opens c.args.run.now.roots c.loop-place.place (map as_opening c.args.all.now.items) (map as_opening c.loop-place.all.items)
    (let size = ap length c.as_slice-name-items.ensures in omega arith) c.loop-place.invariant
