-- A string table that has grown keeps the texts of its old places.
use Rattle.std.proofs.Common.{◌≡◌, ℕ, ◌+◌, ◌-◌, ◌<◌, ◌≤◌, ◌==◌, ◌||◌, not, Bool, true, false, List, [], ◌∷◌, ◌++◌, Option, Some, None, length, slice_index, refl, ap, ◌∙◌, arith}
use Rattle.std.specs.Prelude.{is_some}
use Rattle.std.specs.Option.{unwrap_or}
use Rattle.std.proofs.lemmas.Bool.Decides.{nat_tests}
use Rattle.std.proofs.lemmas.List.FromFn.{get_or-map-range_with_len, length-map-range_with_len}
use Rattle.answers.specs.First.{some_where}
use Rattle.byte_view.specs.declared.flaws.TheConstants.{STRINGS_END, STRINGS_RANGE}
use Rattle.byte_view.specs.Checks.{flaw}
use Rattle.byte_view.specs.Dynamic.{strings_at, strings_of, strings_size}
use Rattle.byte_view.specs.DynamicFlaws.{bad_name, is_zero_byte, no_strings, strings_flaw, unended_strings}
use Rattle.byte_view.specs.Memory.{memory_bytes, memory_in, range_in}
use Rattle.byte_view.specs.declared.dynamic.Entry.{Entry}
use Rattle.byte_view.specs.declared.segments.Segment.{Segment}
use Rattle.byte_view.proofs.Loads.{none_first}
use Rattle.two_files.specs.Alike.{KeepsTexts}
use Rattle.strtab_grow.proofs.TextLaws.{old_text}

pub strings_long : (b : List ℕ) (bs : List Segment) (be : List Entry) → length (strings_of b bs be) ≡ strings_size be
unfolding strings_of memory_bytes
strings_long b bs be = length-map-range_with_len (λ i. unwrap_or (memory_in b bs (strings_at be + i)) 0) 0 (strings_size be)

pub last_zero : (b : List ℕ) (bs : List Segment) (be : List Entry) → 0 < strings_size be → unended_strings b bs be ≡ None → slice_index (strings_of b bs be) (strings_size be - 1) ≡ 0
unfolding strings_of memory_bytes
last_zero b bs be some e =
    let at : ℕ = strings_size be - 1 in
    let byte : memory_in b bs (strings_at be + (strings_size be - 1)) ≡ Some 0 = go (memory_in b bs (strings_at be + (strings_size be - 1))) e in
    get_or-map-range_with_len (λ i. unwrap_or (memory_in b bs (strings_at be + i)) 0) 0 (strings_size be) at at 0 (omega arith) (omega arith) ∙ ap (λ o. unwrap_or o 0) byte
  where
    go : (o : Option ℕ) → some_where (not (is_zero_byte o)) (flaw STRINGS_END 0 0) ≡ None → o ≡ Some 0
    go None e = absurd (cc)
    go (Some x) e = zero_is (x == 0) refl e
      where
        zero_is : (t : Bool) → (x == 0) ≡ t → some_where (not t) (flaw STRINGS_END 0 0) ≡ None → Some x ≡ Some 0
        zero_is true t e = ap Some (grind (arith, nat_tests))
        zero_is false t e = absurd (cc)

sized : (bs : List Segment) (be : List Entry) → no_strings bs be ≡ None → 0 < strings_size be
sized bs be e = go (strings_size be == 0) refl (not (is_some (range_in bs (strings_at be) (strings_size be)))) e
  where
    go : (t : Bool) → (strings_size be == 0) ≡ t → (u : Bool) → some_where (t || u) (flaw STRINGS_RANGE 0 0) ≡ None → 0 < strings_size be
    go true t u e = absurd (cc)
    go false t u e = grind (arith, nat_tests)

pub texts_kept : (b c : List ℕ) (bs cs : List Segment) (be ce : List Entry) (more : List ℕ) → strings_flaw b bs be ≡ None → strings_of c cs ce ≡ strings_of b bs be ++ more → strings_size be ≤ strings_size ce → KeepsTexts b c bs cs be ce
unfolding strings_flaw
texts_kept b c bs cs be ce more e grown longer =
    let first = none_first (no_strings bs be) (unended_strings b bs be ∷ bad_name be ∷ []) e in
    let second = none_first (unended_strings b bs be) (bad_name be ∷ []) first.1 in
    let some : 0 < strings_size be = sized bs be first.0 in
    let long : length (strings_of b bs be) ≡ strings_size be = strings_long b bs be in
    let zero_end : slice_index (strings_of b bs be) (length (strings_of b bs be) - 1) ≡ 0 = rw long (last_zero b bs be some second.0) in
    record {
      size = longer;
      texts = λ at h. rw grown (old_text (strings_of b bs be) more at (omega (arith, long)) zero_end);
    }
