use Rattle.std.proofs.Common.{◌≡◌, ◌∙◌, ap, bytes_eq, map}
use Rattle.indexmap.specs.IndexSet.{insert_key}
use Rattle.name_layout.specs.Layouts.{given_names}
use Rattle.name_layout.specs.Opened.{as_opening}
use Rattle.name_layout.specs.Openings.{Opening}
use Rattle.name_layout.specs.declared.opened.Opened.{Opened}
use Rattle.name_layout.proofs.PlacesLemmas.{map_through}
use Rattle.name_layout.proofs.SetsLemmas.{names_all, names_next}
use Rattle.name_layout.proofs.taken.given_names.Goals as goal

pub loop-name-preserved : goal.loop-name-preserved
loop-name-preserved c =
    names_next (λ (opened : Opened). opened.name.now) c.deref-name-items.result.now c.loop-name.name-index c.name-item.result c.loop-name.given c.add.new.self c.loop-name-test.true c.name-item.is c.loop-name.invariant
    (c.in_ok-add.ensures ∙ ap (insert_key bytes_eq c.loop-name.given) c.as_bytes.ensures)

pub returns : goal.returns
unfolding given_names
returns c =
    let all : map (λ (opened : Opened). opened.name.now) c.args.opened.now.bundled.items ≡ given_names c.args.opened.now.runs.now c.args.opened.now.libs.split.now = map_through as_opening (λ (o : Opening). o.name) c.args.opened.now.bundled.items ∙ ap (map (λ (o : Opening). o.name)) c.args.opened.now.bundled_are in
    names_all (λ (opened : Opened). opened.name.now) c.deref-name-items.result.now c.args.opened.now.bundled.items (given_names c.args.opened.now.runs.now c.args.opened.now.libs.split.now) c.loop-name.name-index c.loop-name.given c.loop-name-test.false c.loop-name.invariant c.deref-name-items.ensures.value all
