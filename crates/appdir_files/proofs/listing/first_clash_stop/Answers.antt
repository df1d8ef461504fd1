use Rattle.std.proofs.Common.{◌≡◌, ◌∙◌, ◌||◌, ap, sym, true, false, take, bytes_eq, Some}
use Rattle.std.specs.List.{list_any}
use Rattle.indexmap.specs.IndexSet.{insert_key}
use Rattle.appdir_files.specs.Listing.{is_folder_of, paths_clash}
use Rattle.appdir_files.specs.declared.items.Item.{Item}
use Rattle.appdir_files.specs.declared.stops.ListStop.TheVariants.{TargetClash}
use Rattle.appdir_files.proofs.TakenLemmas.{next_taken, passed_on, stops_at, taken_clash}
use Rattle.appdir_files.proofs.listing.first_clash_stop.Goals as goal

pub returns-then-is_taken : goal.returns-then-is_taken
returns-then-is_taken c =
    let text : c.as_bytes-path.result.now ≡ c.item-item.result.path = c.as_bytes-path.ensures.value ∙ c.as_str.ensures.text in
    let test : list_any (λ (o : Item). paths_clash c.item-item.result.path o.path) (take c.loop-item.item-index c.args.items.now) ≡ true =
    ap (λ t. list_any (λ (o : Item). paths_clash t o.path) (take c.loop-item.item-index c.args.items.now)) (sym text)
    ∙ (sym (taken_clash (take c.loop-item.item-index c.args.items.now) c.loop-item.paths c.loop-item.folders c.as_bytes-path.result.now c.loop-item.invariant.taken)
    ∙ (sym c.is_taken.ensures ∙ c.if-is_taken.true)) in
    ap (λ p. Some (TargetClash p)) c.in_ok-copy.ensures
    ∙ (sym (stops_at c.args.items.now c.loop-item.item-index c.item-item.result c.loop-item-test.true c.item-item.is test) ∙ c.loop-item.invariant.rest)

pub loop-item-preserved : goal.loop-item-preserved
loop-item-preserved c =
    let text : c.as_bytes-path.result.now ≡ c.item-item.result.path = c.as_bytes-path.ensures.value ∙ c.as_str.ensures.text in
    let test : list_any (λ (o : Item). paths_clash c.item-item.result.path o.path) (take c.loop-item.item-index c.args.items.now) ≡ false =
    ap (λ t. list_any (λ (o : Item). paths_clash t o.path) (take c.loop-item.item-index c.args.items.now)) (sym text)
    ∙ (sym (taken_clash (take c.loop-item.item-index c.args.items.now) c.loop-item.paths c.loop-item.folders c.as_bytes-path.result.now c.loop-item.invariant.taken)
    ∙ (sym c.is_taken.ensures ∙ c.if-is_taken.false)) in
    record {
      taken = next_taken c.args.items.now c.loop-item.item-index c.item-item.result c.loop-item.paths c.add.new.self c.loop-item.folders c.add_folders.new.self c.loop-item-test.true c.item-item.is c.loop-item.invariant.taken
          (c.in_ok-add.ensures ∙ ap (insert_key bytes_eq c.loop-item.paths) text)
          (λ folder. c.in_ok-add_folders.ensures folder ∙ ap (λ t. list_any (bytes_eq folder) c.loop-item.folders || is_folder_of folder t) text);
      rest = passed_on c.args.items.now c.loop-item.item-index c.item-item.result c.loop-item-test.true c.item-item.is test ∙ c.loop-item.invariant.rest;
    }
