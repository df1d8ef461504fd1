-- Lemmas on what reading a target gives.
use Rattle.std.proofs.Common.{ℕ, List, [], ◌∷◌, Bool, true, false, cond, not, ◌||◌, Option, None, Some, Ok, ⊎_elim, ◌≡◌, ◌≤◌, ◌∙◌, ap, refl, subst, eqb, ltb, get_or, arith}
use Rattle.std.specs.Prelude.{All, IsUtf8}
use Rattle.std.specs.Str.{is_utf8}
use Rattle.std.proofs.lemmas.Bool.{not-false, not-true, le-ltb, ltb-false, ne_eqb}
use Rattle.std.proofs.lemmas.List.Elements.{All-head, All-weaker}
use Rattle.std.proofs.lemmas.List.Folds.{Any-from_list_any, list_any_none}
use Rattle.std.proofs.lemmas.List.Splits.{join_with_byte-slice_split}
use Rattle.std.proofs.lemmas.Str.{IsUtf8-from_is_utf8, is_utf8-from_IsUtf8}
use Rattle.std.specs.List.{onto_first}
use Rattle.answers.specs.First.{value_unless}
use Rattle.path_text.specs.Path.{IsNamed, begins_at_root, has_nul, is_empty, is_idle, is_parent, parts_of}
use Rattle.path_text.specs.Target.{IsTarget, IsTargetFault, has_bad_part, has_control, is_bad_part, target_fault, target_of}
use Rattle.path_text.specs.declared.relative.RelFault.{RelFault}
use Rattle.path_text.specs.declared.relative.RelFault.TheVariants.{Empty, Absolute, HasNul, NotText, BadPart}
use Rattle.path_text.proofs.PartLemmas.{All-join, All-parts_of}
use Rattle.path_text.proofs.PathLemmas.{All-from_no_any, fault_cases, fault_skipped, is_nothing, no_fault, not_utf8, zero_contained}

neither : (x y z : Bool) → (x || y || z) ≡ false → (x ≡ false) × (y ≡ false) × (z ≡ false)
neither true y z h = cc
neither false true z h = cc
neither false false true h = cc
neither false false false h = (refl, refl, refl)

printable : (part : List ℕ) → has_control part ≡ false → All (λ c. 32 ≤ c) part
printable part h = All-weaker (λ c. ltb c 32 ≡ false) (λ c. 32 ≤ c) (λ c e. ltb-false c 32 e) part (All-from_no_any (λ c. ltb c 32) part h)

good_parts : (text : List ℕ) → has_bad_part text ≡ false → IsUtf8 text → IsTarget text
good_parts text h utf8 =
    let good : All (λ part. is_bad_part part ≡ false) (parts_of text) = All-from_no_any is_bad_part (parts_of text) h in
    record {
      named = All-weaker (λ part. is_bad_part part ≡ false) IsNamed (λ part e. let n = neither (is_idle part) (is_parent part) (has_control part) e in (n.0, n.1)) (parts_of text) good;
      no_control = subst (All (λ c. 32 ≤ c)) (join_with_byte-slice_split 47 text) (All-join (λ c. 32 ≤ c) (omega arith) (parts_of text) (All-weaker (λ part. is_bad_part part ≡ false) (All (λ c. 32 ≤ c)) (λ part e. printable part (neither (is_idle part) (is_parent part) (has_control part) e).2) (parts_of text) good));
      utf8 = utf8;
    }

pub IsTarget-from_no_fault : (text : List ℕ) → target_fault text ≡ None → IsTarget text
unfolding target_fault
IsTarget-from_no_fault text h =
    let some = no_fault (is_empty text) Empty _ h in
    let relative = no_fault (begins_at_root text) Absolute _ some.1 in
    let no_nul = no_fault (has_nul text) HasNul _ relative.1 in
    let utf8 = no_fault (not (is_utf8 text)) NotText _ no_nul.1 in
    let good = no_fault (has_bad_part text) BadPart _ utf8.1 in
    good_parts text good.0 (IsUtf8-from_is_utf8 text (not-false _ utf8.0))

pub IsTargetFault-from_fault : (text : List ℕ) (fault : RelFault) → target_fault text ≡ Some fault → IsTargetFault fault text
unfolding target_fault
IsTargetFault-from_fault text fault h =
    ⊎_elim (λ hit. subst (λ f. IsTargetFault f text) hit.1 (is_nothing text hit.0))
    (λ some. ⊎_elim (λ hit. subst (λ f. IsTargetFault f text) hit.1 hit.0)
    (λ relative. ⊎_elim (λ hit. subst (λ f. IsTargetFault f text) hit.1 (zero_contained text hit.0))
    (λ no_nul. ⊎_elim (λ hit. subst (λ f. IsTargetFault f text) hit.1 (not_utf8 text (not-true _ hit.0)))
    (λ utf8. ⊎_elim (λ hit. subst (λ f. IsTargetFault f text) hit.1 (Any-from_list_any is_bad_part (parts_of text) hit.0))
    (λ sound. let none : None ≡ Some fault = sound.1 in cc)
    (fault_cases (has_bad_part text) BadPart _ fault utf8.1))
    (fault_cases (not (is_utf8 text)) NotText _ fault no_nul.1))
    (fault_cases (has_nul text) HasNul _ fault relative.1))
    (fault_cases (begins_at_root text) Absolute _ fault some.1))
    (fault_cases (is_empty text) Empty _ fault h)

-- ---- a target is read as it is
not_empty : (text : List ℕ) → All IsNamed (parts_of text) → is_empty text ≡ false
not_empty [] h = let first : IsNamed [] = All-head IsNamed [] [] h in let idle : true ≡ false = first.0 in cc
not_empty (c ∷ text) h = refl

first_named : (slash : Bool) (c : ℕ) (parts : List (List ℕ)) → All IsNamed (cond slash ([] ∷ parts) (onto_first c parts)) → slash ≡ false
first_named true c parts h = let first : IsNamed [] = All-head IsNamed [] parts h in first.0
first_named false c parts h = refl

not_absolute : (text : List ℕ) → All IsNamed (parts_of text) → begins_at_root text ≡ false
not_absolute [] h = refl
not_absolute (c ∷ text) h = first_named (eqb c 47) c (parts_of text) h

not_nul : (text : List ℕ) → All (λ c. 32 ≤ c) text → has_nul text ≡ false
not_nul text h = list_any_none (λ c. eqb c 0) text (All-weaker (λ c. 32 ≤ c) (λ c. eqb c 0 ≡ false) (λ c l. ne_eqb c 0 (λ e. omega arith)) text h)

good : (idle parent control : Bool) → idle ≡ false → parent ≡ false → control ≡ false → (idle || parent || control) ≡ false
good true parent control e f g = cc
good false true control e f g = cc
good false false true e f g = cc
good false false false e f g = refl

no_control_of : (part : List ℕ) → All (λ c. 32 ≤ c) part → has_control part ≡ false
no_control_of part h = list_any_none (λ c. ltb c 32) part (All-weaker (λ c. 32 ≤ c) (λ c. ltb c 32 ≡ false) (λ c l. le-ltb c 32 l) part h)

no_bad_part : (parts : List (List ℕ)) → All IsNamed parts → All (All (λ c. 32 ≤ c)) parts → All (λ part. is_bad_part part ≡ false) parts
no_bad_part parts named printable = λ k d l.
    let part : List ℕ = get_or parts k d in
    good (is_idle part) (is_parent part) (has_control part) (named k d l).0 (named k d l).1 (no_control_of part (printable k d l))

target_fault-none : (text : List ℕ) → is_empty text ≡ false → begins_at_root text ≡ false → has_nul text ≡ false → is_utf8 text ≡ true → has_bad_part text ≡ false → target_fault text ≡ None
unfolding target_fault
target_fault-none text some relative no_nul utf8 good =
    fault_skipped (is_empty text) Empty _ some
    ∙ (fault_skipped (begins_at_root text) Absolute _ relative
    ∙ (fault_skipped (has_nul text) HasNul _ no_nul
    ∙ (fault_skipped (not (is_utf8 text)) NotText _ (ap not utf8)
    ∙ fault_skipped (has_bad_part text) BadPart _ good)))

pub target_of-IsTarget : (text : List ℕ) → IsTarget text → target_of text ≡ Ok text
target_of-IsTarget text h =
    ap (λ f. value_unless f text)
    (target_fault-none text (not_empty text h.named) (not_absolute text h.named) (not_nul text h.no_control) (is_utf8-from_IsUtf8 text h.utf8)
    (list_any_none is_bad_part (parts_of text) (no_bad_part (parts_of text) h.named (All-parts_of (λ c. 32 ≤ c) text h.no_control))))

pub IsTarget-target_of : (text target : List ℕ) → target_of text ≡ Ok target → (target ≡ text) × IsTarget text
IsTarget-target_of text target h = go (target_fault text) refl h
  where
    go : (fault : Option RelFault) → target_fault text ≡ fault → value_unless fault text ≡ Ok target → (target ≡ text) × IsTarget text
    go None e h = (cc, IsTarget-from_no_fault text e)
    go (Some fault) e h = cc
