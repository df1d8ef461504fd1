-- A face that was kept is what opening its file answers.
use Rattle.std.proofs.Common.{ℕ, List, [], ◌∷◌, ◌++◌, ◌+◌, ◌<◌, ◌≡◌, refl, ap, sym, ◌∙◌, subst, length, length-append, Some, Result, Ok, Err, slice_get, arith}
use Rattle.load_model.specs.Opening.{IsOpened, OpenerView, kind_in}
use Rattle.load_model.specs.World.{World, Object}
use Rattle.load_model.specs.declared.faces.Face.{Face}
use Rattle.load_model.specs.declared.opening.OpenFault.{OpenFault}
use Rattle.load_model.specs.declared.opening.Opened.{Opened}
use Rattle.load_model.specs.declared.world.WorldFile.{WorldFile}
use Rattle.tree_opener.specs.Keeping.{IsKept}

last_stands : (faces : List Face) (face : Face) → slice_get (faces ++ face ∷ []) (length faces) ≡ Some face
last_stands [] face = refl
last_stands (f ∷ faces) face = last_stands faces face

pub kept_opens : (before after : OpenerView) (path id : List ℕ) (face : Face) (result : Result Opened OpenFault) → IsKept before.faces after.faces id face result →
    ((world : World) → before.told ≡ Some world → (file : WorldFile) × (kind_in before world path ≡ Object file face) × (id ≡ file.id)) →
    after.machine ≡ before.machine → IsOpened before after path result
kept_opens before after path id face (Err fault) kept there machine =
    let P : OpenFault → Type 0 = λ f. IsOpened before after path (Err f) in
    subst P (sym kept.1) tt
kept_opens before after path id face (Ok opened) kept there machine =
    let P : Opened → Type 0 = λ o. IsOpened before after path (Ok o) in
    let grown : length after.faces ≡ length before.faces + 1 = ap length kept.0 ∙ length-append before.faces (face ∷ []) in
    let place : length before.faces < length after.faces = omega (arith, grown) in
    subst P (sym kept.1) (
      place,
      λ world told.
          let w = there world told in
          record { file = w.0; face = face; kind = subst (λ (m : ℕ). kind_in (record after { machine = m }) world path ≡ Object w.0 face) (sym machine) w.1; id_is = w.2; stands = ap (λ fs. slice_get fs (length before.faces)) kept.0 ∙ last_stands before.faces face },
    )
