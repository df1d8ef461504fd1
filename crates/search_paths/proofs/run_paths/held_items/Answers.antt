use Rattle.std.proofs.lemmas.Result.{IfOk-weaker}
use Rattle.std.proofs.Common.{◌≡◌, ◌∙◌, ap, get_or, Some, None}
use Rattle.search_paths.proofs.RunPathLemmas.{face_within, own_chain, own_runpath}
use Rattle.search_paths.proofs.run_paths.held_items.Goals as goal

pub returns-in_ok-push_items-in-Some : goal.returns-in_ok-push_items-in-Some
returns-in_ok-push_items-in-Some c = λ setting objects are.
    let some : (get_or c.args.faces.now c.index-objs-from.result.face c.index-faces-asker.result).runpath ≡ Some c.in-Some.runpath = c.in-Some.is in
    own_runpath c.args.faces.now c.args.objs.now setting objects are c.args.from c.index-objs-from.result c.index-faces-asker.result c.in-Some.runpath c.new-held.result c.push_items.new.held c.requires.within c.index-objs-from.is (face_within c.args.faces.now c.args.objs.now c.args.from c.index-objs-from.result c.requires.faces_within c.requires.within c.index-objs-from.is) c.index-faces-asker.is (ap (λ f. f.runpath) c.index-faces-asker.is ∙ some) c.new-held.ensures c.in_ok-push_items-in-Some.ensures

pub returns-in-None : goal.returns-in-None
returns-in-None c =
    let none : (get_or c.args.faces.now c.index-objs-from.result.face c.index-faces-asker.result).runpath ≡ None = c.in-None.is in
    IfOk-weaker c.chain_items.result _ _ (λ held kept. λ setting objects are. kept setting objects are
    ∙ own_chain c.args.faces.now c.args.objs.now setting objects are c.args.from c.index-objs-from.result c.index-faces-asker.result c.requires.within c.index-objs-from.is (face_within c.args.faces.now c.args.objs.now c.args.from c.index-objs-from.result c.requires.faces_within c.requires.within c.index-objs-from.is) c.index-faces-asker.is (ap (λ f. f.runpath) c.index-faces-asker.is ∙ none)) c.chain_items.ensures
