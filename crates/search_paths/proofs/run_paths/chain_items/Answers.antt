use Rattle.std.proofs.Common.{◌≡◌, ◌∙◌, ◌<◌, sym, arith, length, refl, Some, slice_get}
use Rattle.std.proofs.lemmas.Option.{slice_get_read}
use Rattle.search_paths.proofs.RunPathLemmas.{chain_end, chain_on, chain_start, falls, face_within}
use Rattle.search_paths.proofs.run_paths.chain_items.Goals as goal

pub chain-init : goal.chain-init
chain-init c = record {
  within = c.requires.within;
  left = λ setting objects are. chain_start c.args.faces.now c.args.objs.now setting objects are c.args.from c.new-held.result (falls c.args.objs.now c.requires.others) c.requires.within c.new-held.ensures;
}

pub returns-then-number-eq0 : goal.returns-then-number-eq0
returns-then-number-eq0 c = λ setting objects are.
    sym (c.chain.invariant.left setting objects are
    ∙ chain_end c.args.faces.now c.args.objs.now setting objects are c.chain.number c.index-objs-number.result c.index-faces-object.result c.chain.held c.push_rpath.new.held c.if-number-eq0.true c.chain.invariant.within c.index-objs-number.is (face_within c.args.faces.now c.args.objs.now c.chain.number c.index-objs-number.result c.requires.faces_within c.chain.invariant.within c.index-objs-number.is) c.index-faces-object.is
    (c.in_ok-push_rpath.ensures setting))

pub chain-smaller : goal.chain-smaller
chain-smaller c = c.requires.others c.chain.number c.index-objs-number.result (omega (arith, c.if-number-eq0.false)) (slice_get_read c.args.objs.now (length c.args.objs.now) c.chain.number c.index-objs-number.result refl c.chain.invariant.within c.index-objs-number.is)

pub chain-preserved : goal.chain-preserved
chain-preserved c =
    let some : 0 < c.chain.number = omega (arith, c.if-number-eq0.false) in
    let stands : slice_get c.args.objs.now c.chain.number ≡ Some c.index-objs-number.result = slice_get_read c.args.objs.now (length c.args.objs.now) c.chain.number c.index-objs-number.result refl c.chain.invariant.within c.index-objs-number.is in
    let below : c.index-objs-number.result.loader < c.chain.number = c.requires.others c.chain.number c.index-objs-number.result some stands in
    record {
      within = omega (arith, below, c.chain.invariant.within);
      left = λ setting objects are.
          c.chain.invariant.left setting objects are
          ∙ chain_on c.args.faces.now c.args.objs.now setting objects are c.chain.number c.index-objs-number.result c.index-faces-object.result c.chain.held c.push_rpath.new.held (falls c.args.objs.now c.requires.others) some c.chain.invariant.within c.index-objs-number.is (face_within c.args.faces.now c.args.objs.now c.chain.number c.index-objs-number.result c.requires.faces_within c.chain.invariant.within c.index-objs-number.is) c.index-faces-object.is
          (c.in_ok-push_rpath.ensures setting);
    }
