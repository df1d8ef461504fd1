use Rattle.std.proofs.Common.{◌≡◌, ◌++◌, ◌∙◌, ap, sym, length}
use Rattle.std.proofs.lemmas.Bool.{eqb-true}
use Rattle.std.proofs.lemmas.List.{append-nil}
use Rattle.std.specs.List.{flat_map, list_any}
use Rattle.load_model.specs.RunPaths.{is_unset, part_text}
use Rattle.search_paths.proofs.TokenLemmas.{parts_end}
use Rattle.search_paths.proofs.expanding.expand.Goals as goal

pub returns : goal.returns
returns c =
    let none : length c.pieces.rest.now ≡ 0 = eqb-true (length c.pieces.rest.now) 0 (sym c.pieces-test.ensures) in (
      c.pieces.invariant.set ∙ ap (list_any (is_unset c.args.setting.now c.args.folder.now)) (parts_end c.pieces.rest.now none),
      sym (c.pieces.invariant.text ∙ ap (λ ps. c.pieces.text.items ++ flat_map (part_text c.args.setting.now c.args.folder.now) ps) (parts_end c.pieces.rest.now none) ∙ append-nil c.pieces.text.items),
    )
