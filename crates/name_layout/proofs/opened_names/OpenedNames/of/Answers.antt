use Rattle.std.proofs.Common.{◌≡◌, ◌∙◌, ap, filter, is_some, map, subst}
use Rattle.name_layout.specs.Opened.{as_opening}
use Rattle.name_layout.specs.Openings.{Opening, bundled_openings, lib_with, openings}
use Rattle.name_layout.specs.Sets.{HasPlaces}
use Rattle.name_layout.proofs.opened_names.OpenedNames.of.Goals as goal

pub invariant_of-result : goal.invariant_of-result
unfolding bundled_openings
invariant_of-result c =
    let all : map as_opening c.in_ok-all.all.items ≡ openings c.args.runs.now = c.in_ok-all.ensures in
    let bundled : map as_opening c.in_ok-bundled.bundled.items ≡ bundled_openings c.in_ok-libs.libs.split.now c.args.runs.now =
    c.in_ok-bundled.ensures ∙ ap (filter (λ (o : Opening). is_some (lib_with c.in_ok-libs.libs.split.now o.root))) (ap (map as_opening) c.as_slice-2.ensures.value ∙ all) in
    record {
      all_are = all;
      roots_are = subst (λ os. HasPlaces c.in_ok-roots.roots (map (λ (o : Opening). o.root) os)) (ap (map as_opening) c.as_slice.ensures.value ∙ all) c.in_ok-roots.ensures;
      bundled_are = bundled;
      given_are = subst (λ os. HasPlaces c.in_ok-given.given (map (λ (o : Opening). o.name) os)) (ap (map as_opening) c.as_slice-3.ensures.value ∙ bundled) c.in_ok-given.ensures;
      listed_are = c.in_ok-listed.ensures;
    }
