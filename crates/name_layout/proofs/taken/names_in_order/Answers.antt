use Rattle.std.proofs.Common.{◌≡◌, ◌∙◌, ◌+◌, [], ◌∷◌, ◌++◌, Some, ap, sym, append_assoc, bytes_eq, length, refl, slice_get, subst}
use Rattle.std.proofs.lemmas.Option.{slice_get_read}
use Rattle.indexmap.specs.IndexSet.{insert_key}
use Rattle.listed_runs.specs.Fitting.{is_on_list}
use Rattle.name_layout.specs.Layouts.{given_names, opened_name}
use Rattle.name_layout.proofs.OrderLemmas.{AreNamesBefore, name_alike, next_name}
use Rattle.name_layout.proofs.SetsLemmas.{names_more}
use Rattle.name_layout.proofs.taken.names_in_order.Goals as goal

pub loop-lib-preserved : goal.loop-lib-preserved
loop-lib-preserved c =
    let runs = c.args.opened.now.runs.now in
    let split = c.args.opened.now.libs.split.now in
    let here : slice_get split.libs c.loop-lib.lib-index ≡ Some c.lib-item.result =
    ap (λ l. slice_get l c.loop-lib.lib-index) (sym c.as_slice-lib-items.ensures) ∙ slice_get_read c.as_slice-lib-items.result.now (length c.as_slice-lib-items.result.now) c.loop-lib.lib-index c.lib-item.result refl c.loop-lib-test.true c.lib-item.is in
    let has = name_alike c.args.faces.now runs split c.args.opened.now.listed c.args.opened.now.names.now c.loop-lib.taken.names (given_names runs split ++ c.loop-lib.layout) c.lib-item.result c.in_ok-name.name (opened_name runs c.lib-item.result) c.args.opened.now.listed_are c.loop-lib.invariant.0 c.in_ok-name.ensures.name in (
      λ n. names_more (given_names runs split ++ c.loop-lib.layout) c.loop-lib.taken.names c.take.new.self.names c.in_ok-name.name c.loop-lib.invariant.0 (c.in_ok-take.ensures.names ∙ ap (λ ns. insert_key bytes_eq ns c.in_ok-name.name) c.in_ok-name.ensures.names) n
          ∙ ap (λ ns. is_on_list ns n) (append_assoc (given_names runs split) c.loop-lib.layout (c.in_ok-name.name ∷ []) ∙ ap (λ l. given_names runs split ++ l) (sym c.in_ok-push.ensures.ok)),
      c.in_ok-take.ensures.tried,
      subst (AreNamesBefore c.args.faces.now runs split c.args.opened.now.names.now (c.loop-lib.lib-index + 1)) (sym c.in_ok-push.ensures.ok)
          (next_name c.args.faces.now runs split c.args.opened.now.names.now c.loop-lib.lib-index c.loop-lib.layout c.lib-item.result c.in_ok-name.name c.loop-lib.invariant.2 here has),
    )
