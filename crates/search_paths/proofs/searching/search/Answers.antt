use Rattle.std.proofs.Common.{◌≡◌, ◌∙◌, ap, refl, sym, Ok, Err, false, true}
use Rattle.std.specs.List.{flat_map}
use Rattle.path_text.specs.Path.{begins_at_root}
use Rattle.load_model.specs.Candidates.{candidate_in}
use Rattle.load_model.specs.RunPaths.{Folder}
use Rattle.search_paths.specs.HeldItems.{item_held}
use Rattle.search_paths.specs.declared.hits.Hit.TheVariants.{Found}
use Rattle.search_paths.proofs.DecisionLemmas.{rooted_answer, searched_answer, searched_early, searched_on}
use Rattle.search_paths.proofs.searching.search.Goals as goal

pub returns-then-begins_at_root-clause-answer : goal.returns-then-begins_at_root-clause-answer
returns-then-begins_at_root-clause-answer g c =
    let root : begins_at_root c.args.name.now ≡ true = ap begins_at_root (sym c.as_bytes.ensures) ∙ sym c.begins_at_root.ensures ∙ c.if-begins_at_root.true in
    rooted_answer (g.P.Opener.seen c.args.opener.now) c.args.setting.now c.args.objs.now c.args.from c.args.name.now c.requires.machine (g.P.Opener.seen c.look_at.new.opener) c.as_bytes-then-begins_at_root.result.now c.look_at.result c.as_bytes-then-begins_at_root.ensures root c.look_at.ensures.answer

pub returns-in-Ok-Missing-clause-answer : goal.returns-in-Ok-Missing-clause-answer
returns-in-Ok-Missing-clause-answer g c =
    let no_root : begins_at_root c.args.name.now ≡ false = ap begins_at_root (sym c.as_bytes.ensures) ∙ sym c.begins_at_root.ensures ∙ c.if-begins_at_root.false in
    searched_answer (g.P.Opener.seen c.args.opener.now) c.args.setting.now c.args.objs.now c.args.from c.args.name.now c.requires.machine (g.P.Opener.seen c.look_in_folders.new.opener) c.faces.result.now c.in_ok-held.held c.as_slice.result.now c.as_slice-in-Ok-Missing.result.now c.look_in_folders.result c.faces.ensures.table c.as_slice.ensures c.as_slice-in-Ok-Missing.ensures no_root c.in_ok-held.ensures
    (searched_on (g.P.Opener.seen c.args.opener.now) (g.P.Opener.seen c.look_in_items.new.opener) (g.P.Opener.seen c.look_in_folders.new.opener) (flat_map (λ item. candidate_in c.args.name.now (item_held c.args.setting.now item)) c.as_slice.result.now) (flat_map (λ dir. candidate_in c.args.name.now (Folder dir)) c.as_slice-in-Ok-Missing.result.now) (rw c.in-Ok-Missing.field-0-is at c.in-Ok-Missing.ensures.answer) c.look_in_items.ensures.grew c.look_in_folders.result c.look_in_folders.ensures.answer)

pub returns-in-Ok-Found-clause-answer : goal.returns-in-Ok-Found-clause-answer
returns-in-Ok-Found-clause-answer g c =
    let no_root : begins_at_root c.args.name.now ≡ false = ap begins_at_root (sym c.as_bytes.ensures) ∙ sym c.begins_at_root.ensures ∙ c.if-begins_at_root.false in
    searched_answer (g.P.Opener.seen c.args.opener.now) c.args.setting.now c.args.objs.now c.args.from c.args.name.now c.requires.machine (g.P.Opener.seen c.look_in_items.new.opener) c.faces.result.now c.in_ok-held.held c.as_slice.result.now c.args.setting.now.dirs (Ok (Found c.in-Ok-Found.path c.in-Ok-Found.id c.in-Ok-Found.face)) c.faces.ensures.table c.as_slice.ensures refl no_root c.in_ok-held.ensures
    (searched_early (g.P.Opener.seen c.args.opener.now) (g.P.Opener.seen c.look_in_items.new.opener) (flat_map (λ item. candidate_in c.args.name.now (item_held c.args.setting.now item)) c.as_slice.result.now) (flat_map (λ dir. candidate_in c.args.name.now (Folder dir)) c.args.setting.now.dirs) (Ok (Found c.in-Ok-Found.path c.in-Ok-Found.id c.in-Ok-Found.face)) tt (rw c.in-Ok-Found.field-0-is at c.in-Ok-Found.ensures.answer))

pub returns-clause-answer : goal.returns-clause-answer
returns-clause-answer g c =
    let no_root : begins_at_root c.args.name.now ≡ false = ap begins_at_root (sym c.as_bytes.ensures) ∙ sym c.begins_at_root.ensures ∙ c.if-begins_at_root.false in
    searched_answer (g.P.Opener.seen c.args.opener.now) c.args.setting.now c.args.objs.now c.args.from c.args.name.now c.requires.machine (g.P.Opener.seen c.look_in_items.new.opener) c.faces.result.now c.in_ok-held.held c.as_slice.result.now c.args.setting.now.dirs (Err c.in-Err.stop) c.faces.ensures.table c.as_slice.ensures refl no_root c.in_ok-held.ensures
    (searched_early (g.P.Opener.seen c.args.opener.now) (g.P.Opener.seen c.look_in_items.new.opener) (flat_map (λ item. candidate_in c.args.name.now (item_held c.args.setting.now item)) c.as_slice.result.now) (flat_map (λ dir. candidate_in c.args.name.now (Folder dir)) c.args.setting.now.dirs) (Err c.in-Err.stop) tt (c.in-Err.ensures.answer))
