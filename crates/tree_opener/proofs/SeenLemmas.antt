-- A face that is seen is that of a file for the machine.
use Rattle.std.proofs.Common.{◌≡◌, sym, subst, refl, ℕ, ◌<◌, ◌^◌, ◌==◌, List, Bool, true, false, None, cond, length, arith}
use Rattle.std.proofs.lemmas.Bool.Decides.{nat_tests}
use Rattle.load_model.specs.Faces.{face_of, first_flaw}
use Rattle.load_model.specs.declared.faces.Face.{Face}
use Rattle.tree_opener.proofs.NameTextLemmas.{text_names}
use Rattle.tree_opener.specs.Names.{HasTextNames}
use Rattle.tree_opener.specs.Reading.{IsSeenFor, seen_with}
use Rattle.tree_opener.specs.declared.reading.Seen.{Seen}
use Rattle.tree_opener.specs.declared.reading.Seen.TheVariants.{ForAnother, Faced}

face_seen : (machine : ℕ) (face : Face) (b : Bool) → (face.machine == machine) ≡ b → HasTextNames face → length face.syms < 2 ^ 32 → length face.asks < 2 ^ 32 → IsSeenFor machine (cond b (Faced face) ForAnother)
face_seen machine face true e names syms asks = record {
  names = names;
  machine_is = grind (arith, nat_tests);
  few = record { syms = syms; asks = asks };
}
face_seen machine face false e names syms asks = tt

pub known_seen : (machine : ℕ) (bytes : List ℕ) (face : Face) (seen : Seen) → seen ≡ seen_with machine face → first_flaw bytes ≡ None → face ≡ face_of bytes → length face.syms < 2 ^ 32 → length face.asks < 2 ^ 32 → IsSeenFor machine seen
known_seen machine bytes face seen is flaw face_is syms asks =
    let names : HasTextNames face = subst (λ (f : Face). HasTextNames f) (sym face_is) (text_names bytes flaw) in
    subst (λ (s : Seen). IsSeenFor machine s) (sym is) (face_seen machine face (face.machine == machine) refl names syms asks)
