use Rattle.std.proofs.Common.{◌≡◌, ◌∙◌, sym, ap, arith, refl, length, slice_get, Some}
use Rattle.std.proofs.lemmas.Option.{slice_get_read}
use Rattle.load_model.specs.VersionCheck.{FileUnloaded, VersionLacking}
use Rattle.scope_lookup.proofs.AskingLemmas.{asks_more, looked_up, object_met, object_unmet, unloaded, weak_met}
use Rattle.scope_lookup.proofs.checking.check_object.Goals as goal

pub loop-place-init : goal.loop-place-init
loop-place-init c = λ k a less h. absurd (omega arith)

pub loop-place-preserved-then-ask : goal.loop-place-preserved-then-ask
loop-place-preserved-then-ask c =
    let asks = c.as_slice-ask-items.result.now in
    let at : slice_get asks c.loop-place.place ≡ Some c.ask-item.result = slice_get_read asks (length asks) c.loop-place.place c.ask-item.result refl c.loop-place-test.true c.ask-item.is in
    asks_more c.args.faces.now c.args.run.now c.args.obj c.loop-place.place asks c.ask-item.result c.loop-place.invariant at (weak_met c.args.faces.now c.args.run.now c.args.obj c.ask-item.result c.if-ask.true)

pub returns-then-not-has_defined : goal.returns-then-not-has_defined
returns-then-not-has_defined c =
    let asks = c.as_slice-ask-items.result.now in
    let at : slice_get asks c.loop-place.place ≡ Some c.ask-item.result = slice_get_read asks (length asks) c.loop-place.place c.ask-item.result refl c.loop-place-test.true c.ask-item.is in
    let same = c.as_slice-ask-items.ensures in
    object_unmet c.args.faces.now c.args.run.now c.args.obj c.loop-place.place c.face_of-face.result.now c.ask-item.result VersionLacking c.face_of-face.ensures (ap (λ xs. slice_get xs c.loop-place.place) (sym same) ∙ at)
    (looked_up c.args.faces.now c.args.run.now c.args.obj c.in-Some.file c.ask-item.result c.face_of.result.now c.as_slice.result.now _ c.if-ask.false c.in-Some.ensures.file c.face_of.ensures c.as_slice.ensures (sym c.has_defined.ensures ∙ c.if-not-has_defined.true))
    (λ m x less h. c.loop-place.invariant m x less (ap (λ xs. slice_get xs m) same ∙ h))

pub returns-in-None : goal.returns-in-None
returns-in-None c =
    let asks = c.as_slice-ask-items.result.now in
    let at : slice_get asks c.loop-place.place ≡ Some c.ask-item.result = slice_get_read asks (length asks) c.loop-place.place c.ask-item.result refl c.loop-place-test.true c.ask-item.is in
    let same = c.as_slice-ask-items.ensures in
    object_unmet c.args.faces.now c.args.run.now c.args.obj c.loop-place.place c.face_of-face.result.now c.ask-item.result FileUnloaded c.face_of-face.ensures (ap (λ xs. slice_get xs c.loop-place.place) (sym same) ∙ at)
    (unloaded c.args.faces.now c.args.run.now c.args.obj c.ask-item.result c.if-ask.false c.in-None.ensures.file)
    (λ m x less h. c.loop-place.invariant m x less (ap (λ xs. slice_get xs m) same ∙ h))

pub loop-place-preserved : goal.loop-place-preserved
loop-place-preserved c =
    let asks = c.as_slice-ask-items.result.now in
    let at : slice_get asks c.loop-place.place ≡ Some c.ask-item.result = slice_get_read asks (length asks) c.loop-place.place c.ask-item.result refl c.loop-place-test.true c.ask-item.is in
    asks_more c.args.faces.now c.args.run.now c.args.obj c.loop-place.place asks c.ask-item.result c.loop-place.invariant at
    (looked_up c.args.faces.now c.args.run.now c.args.obj c.in-Some.file c.ask-item.result c.face_of.result.now c.as_slice.result.now _ c.if-ask.false c.in-Some.ensures.file c.face_of.ensures c.as_slice.ensures (sym c.has_defined.ensures ∙ c.if-not-has_defined.false))

pub returns : goal.returns
returns c =
    let same = c.as_slice-ask-items.ensures in
    let size = ap length same in
    object_met c.args.faces.now c.args.run.now c.args.obj c.face_of-face.result.now c.face_of-face.ensures (λ k a less h. c.loop-place.invariant k a (omega arith) (ap (λ xs. slice_get xs k) same ∙ h))
