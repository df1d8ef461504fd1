-- Versions without flaw stay so.
use Rattle.std.proofs.Common.{◌≡◌, ℕ, zero, suc, ◌+◌, ◌<◌, ◌≤◌, ◌==◌, ◌||◌, Bool, true, false, cond, not, List, [], ◌∷◌, Some, None, map, refl, arith}
use Rattle.std.specs.Prelude.{nat_le}
use Rattle.std.specs.List.{flat_map, range_with_len}
use Rattle.std.specs.Option.{unwrap_or}
use Rattle.std.proofs.lemmas.Bool.Decides.{nat_tests}
use Rattle.byte_view.specs.declared.flaws.TheConstants.{STRING_PLACE, VERSION_RANGE}
use Rattle.byte_view.specs.Checks.{flaw}
use Rattle.byte_view.specs.Dynamic.{dynamic_entries, strings_size}
use Rattle.byte_view.specs.declared.constants.TheConstants.{DT_VERDEF, DT_VERDEFNUM, DT_VERNEED, DT_VERNEEDNUM, VER_CURRENT}
use Rattle.byte_view.specs.declared.flaws.Flaw.{Flaw}
use Rattle.byte_view.proofs.Loads.{none_first}
use Rattle.load_model.specs.VersionFlaws.{bad_next, bad_text, bad_verdaux, bad_verdef, bad_vernaux, bad_verneed, is_unbacked, verdef_flaw, verdefs_flaw, vernaux_flaw, vernauxs_flaw, verneed_flaw, verneeds_flaw}
use Rattle.load_model.specs.VersionTables.{dynamic_value, memory_number, vd_aux, vd_cnt, vd_ndx, vd_next, vd_version, vda_name, verdaux_of, verdef_count, verdef_place, vernaux_place, vernauxs, vernauxs_of, verneed_count, verneed_place, vn_aux, vn_cnt, vn_file, vn_next, vn_version, vna_flags, vna_name, vna_next, vna_other}
use Rattle.two_files.specs.Alike.{KeepsTags, KeepsVersions, SameIn}
use Rattle.two_files.proofs.Records.{backed_same, each_none, none_each, number_first, number_same, places_same}
use Rattle.two_files.proofs.Words.{same_made}

-- a test that found nothing
pub found_none : (t : Bool) (f : Flaw) → cond t (Some f) None ≡ None → t ≡ false
found_none true f e = absurd (cc)
found_none false f e = refl

neither : (s t : Bool) → (s || t) ≡ false → (s ≡ false) × (t ≡ false)
neither true t e = absurd (cc)
neither false t e = (refl, e)

-- a name of the old table is within the new one
pub name_within : (b c : List ℕ) (place : ℕ) → strings_size (dynamic_entries b) ≤ strings_size (dynamic_entries c) → bad_text b place ≡ None → (bad_text c place ≡ None) × (place < strings_size (dynamic_entries b))
name_within b c place h e =
    let no : nat_le (strings_size (dynamic_entries b)) place ≡ false = found_none (nat_le (strings_size (dynamic_entries b)) place) (flaw STRING_PLACE place 0) e in
    let low : place < strings_size (dynamic_entries b) = grind (arith, nat_tests) in
    (within c place (omega arith), low)
  where
    within : (c : List ℕ) (place : ℕ) → place < strings_size (dynamic_entries c) → bad_text c place ≡ None
    within c place h = let no : nat_le (strings_size (dynamic_entries c)) place ≡ false = grind (arith, nat_tests) in rw no refl

pub named_within : (c : List ℕ) (place : ℕ) → place < strings_size (dynamic_entries c) → bad_text c place ≡ None
named_within c place h = let no : nat_le (strings_size (dynamic_entries c)) place ≡ false = grind (arith, nat_tests) in rw no refl

-- the words of a definition
pub record SameVerdef (b c : List ℕ) (at : ℕ) : Type 0 where
  pub version : vd_version c at ≡ vd_version b at
  pub ndx : vd_ndx c at ≡ vd_ndx b at
  pub cnt : vd_cnt c at ≡ vd_cnt b at
  pub aux : vd_aux c at ≡ vd_aux b at
  pub next : vd_next c at ≡ vd_next b at

pub same_verdef : (b c : List ℕ) (at : ℕ) → SameIn b c at 20 → SameVerdef b c at
same_verdef b c at s = record {
  version = number_first b c at 20 2 s (omega arith);
  ndx = number_same b c at 20 2 4 s (omega arith);
  cnt = number_same b c at 20 2 6 s (omega arith);
  aux = number_same b c at 20 4 12 s (omega arith);
  next = number_same b c at 20 4 16 s (omega arith);
}

-- how many there are
pub counts_kept : (b c : List ℕ) → KeepsTags (dynamic_entries b) (dynamic_entries c) → (verdef_count c ≡ verdef_count b) × (verneed_count c ≡ verneed_count b)
counts_kept b c t = (rw (t.tags DT_VERDEF refl, t.tags DT_VERDEFNUM refl) refl, rw (t.tags DT_VERNEED refl, t.tags DT_VERNEEDNUM refl) refl)

-- where they are
pub verdef_there : (count : ℕ) (b c : List ℕ) (k : ℕ) → KeepsVersions count b c → k < verdef_count b → verdef_place c k ≡ verdef_place b k
unfolding verdef_place
verdef_there count b c k v h =
    let first : dynamic_value c DT_VERDEF ≡ dynamic_value b DT_VERDEF = v.tags.tags DT_VERDEF refl in
    rw first (places_same (vd_next b) (vd_next c) (unwrap_or (dynamic_value b DT_VERDEF) 0) k k (λ j l. (same_verdef b c (verdef_place b j) (v.definitions j (omega arith))).next) (omega arith))

-- a definition without flaw
definition_kept : (count : ℕ) (b c : List ℕ) (k : ℕ) → KeepsVersions count b c → k < verdef_count b → verdef_flaw b k ≡ None → verdef_flaw c k ≡ None
unfolding verdef_flaw
definition_kept count b c k v h e =
    let at : ℕ = verdef_place b k in
    let place : verdef_place c k ≡ verdef_place b k = verdef_there count b c k v h in
    let w : SameVerdef b c (verdef_place b k) = same_verdef b c (verdef_place b k) (v.definitions k h) in
    let name : vda_name c (verdaux_of b at) ≡ vda_name b (verdaux_of b at) = number_first b c (verdaux_of b at) 8 4 (v.names k h) (omega arith) in
    let counts = counts_kept b c v.tags in
    let first = none_first (bad_verdef b at) (bad_verdaux b (verdaux_of b at) ∷ bad_text b (vda_name b (verdaux_of b at)) ∷ bad_next (verdef_count b) k (vd_next b at) ∷ []) e in
    let second = none_first (bad_verdaux b (verdaux_of b at)) (bad_text b (vda_name b (verdaux_of b at)) ∷ bad_next (verdef_count b) k (vd_next b at) ∷ []) first.1 in
    let third = none_first (bad_text b (vda_name b (verdaux_of b at))) (bad_next (verdef_count b) k (vd_next b at) ∷ []) second.1 in
    let fourth : bad_next (verdef_count b) k (vd_next b at) ≡ None = (none_first (bad_next (verdef_count b) k (vd_next b at)) [] third.1).0 in
    let t = neither (is_unbacked b at 20) (not (vd_version b at == VER_CURRENT) || (vd_cnt b at == 0)) (found_none (is_unbacked b at 20 || (not (vd_version b at == VER_CURRENT) || (vd_cnt b at == 0))) (flaw VERSION_RANGE at 0) first.0) in
    let record_fine : bad_verdef c at ≡ None = rw (backed_same b c at 20 v.ranges t.0, w.version, w.cnt, t.1) refl in
    let aux_fine : bad_verdaux c (verdaux_of b at) ≡ None = rw (backed_same b c (verdaux_of b at) 8 v.ranges (found_none (is_unbacked b (verdaux_of b at) 8) (flaw VERSION_RANGE (verdaux_of b at) 0) second.0)) refl in
    let name_fine : bad_text c (vda_name b (verdaux_of b at)) ≡ None = (name_within b c (vda_name b (verdaux_of b at)) v.texts.size third.0).0 in
    rw (place, w.aux, name, counts.0, w.next, record_fine, aux_fine, name_fine, fourth) refl

pub definitions_kept : (count : ℕ) (b c : List ℕ) → KeepsVersions count b c → verdefs_flaw b ≡ None → verdefs_flaw c ≡ None
unfolding verdefs_flaw
definitions_kept count b c v e =
    let counts = counts_kept b c v.tags in
    rw counts.0 (each_none (verdef_flaw c) 0 (verdef_count b) (λ k l h. let low : k < verdef_count b = omega arith in definition_kept count b c k v low (none_each (verdef_flaw b) 0 (verdef_count b) e k l h)))

-- the words of a need, but for the file that it is of
pub record SameVerneed (b c : List ℕ) (at : ℕ) : Type 0 where
  pub version : vn_version c at ≡ vn_version b at
  pub cnt : vn_cnt c at ≡ vn_cnt b at
  pub aux : vn_aux c at ≡ vn_aux b at
  pub next : vn_next c at ≡ vn_next b at

same_verneed : (b c : List ℕ) (at : ℕ) → SameIn b c at 4 → SameIn b c (at + 8) 8 → SameVerneed b c at
same_verneed b c at s t =
    let later : memory_number 4 c (at + 8 + 4) ≡ memory_number 4 b (at + 8 + 4) = number_same b c (at + 8) 8 4 4 t (omega arith) in
    let place : at + 8 + 4 ≡ at + 12 = omega arith in
    record {
      version = number_first b c at 4 2 s (omega arith);
      cnt = number_same b c at 4 2 2 s (omega arith);
      aux = number_first b c (at + 8) 8 4 t (omega arith);
      next = rw place at later;
    }

pub record SameVernaux (b c : List ℕ) (at : ℕ) : Type 0 where
  pub flags : vna_flags c at ≡ vna_flags b at
  pub other : vna_other c at ≡ vna_other b at
  pub name : vna_name c at ≡ vna_name b at
  pub next : vna_next c at ≡ vna_next b at

pub same_vernaux : (b c : List ℕ) (at : ℕ) → SameIn b c at 16 → SameVernaux b c at
same_vernaux b c at s = record {
  flags = number_same b c at 16 2 4 s (omega arith);
  other = number_same b c at 16 2 6 s (omega arith);
  name = number_same b c at 16 4 8 s (omega arith);
  next = number_same b c at 16 4 12 s (omega arith);
}

pub need_words : (count : ℕ) (b c : List ℕ) (k : ℕ) → KeepsVersions count b c → k < verneed_count b → SameVerneed b c (verneed_place b k)
need_words count b c k v h = same_verneed b c (verneed_place b k) (v.needs k h) (v.links k h)

pub verneed_there : (count : ℕ) (b c : List ℕ) (k : ℕ) → KeepsVersions count b c → k < verneed_count b → verneed_place c k ≡ verneed_place b k
unfolding verneed_place
verneed_there count b c k v h =
    let first : dynamic_value c DT_VERNEED ≡ dynamic_value b DT_VERNEED = v.tags.tags DT_VERNEED refl in
    rw first (places_same (vn_next b) (vn_next c) (unwrap_or (dynamic_value b DT_VERNEED) 0) k k (λ j l. let low : j < verneed_count b = omega arith in (need_words count b c j v low).next) (omega arith))

pub vernaux_there : (count : ℕ) (b c : List ℕ) (k j : ℕ) → KeepsVersions count b c → k < verneed_count b → j < vn_cnt b (verneed_place b k) → vernaux_place c (verneed_place b k) j ≡ vernaux_place b (verneed_place b k) j
unfolding vernaux_place
vernaux_there count b c k j v h l =
    let at : ℕ = verneed_place b k in
    let first : vn_aux c at ≡ vn_aux b at = (need_words count b c k v h).aux in
    rw first (places_same (vna_next b) (vna_next c) (at + vn_aux b at) j j (λ i m. (same_vernaux b c (vernaux_place b at i) (v.asked k i h (omega arith))).next) (omega arith))

ask_kept : (count : ℕ) (b c : List ℕ) (k j : ℕ) → KeepsVersions count b c → k < verneed_count b → j < vn_cnt b (verneed_place b k) → vernaux_flaw b (verneed_place b k) j ≡ None → vernaux_flaw c (verneed_place b k) j ≡ None
unfolding vernaux_flaw
ask_kept count b c k j v h l e =
    let need : ℕ = verneed_place b k in
    let at : ℕ = vernaux_place b need j in
    let place : vernaux_place c need j ≡ vernaux_place b need j = vernaux_there count b c k j v h l in
    let w : SameVernaux b c (vernaux_place b need j) = same_vernaux b c (vernaux_place b need j) (v.asked k j h l) in
    let cnt : vn_cnt c need ≡ vn_cnt b need = (need_words count b c k v h).cnt in
    let first = none_first (bad_vernaux b at) (bad_text b (vna_name b at) ∷ bad_next (vn_cnt b need) j (vna_next b at) ∷ []) e in
    let second = none_first (bad_text b (vna_name b at)) (bad_next (vn_cnt b need) j (vna_next b at) ∷ []) first.1 in
    let third : bad_next (vn_cnt b need) j (vna_next b at) ≡ None = (none_first (bad_next (vn_cnt b need) j (vna_next b at)) [] second.1).0 in
    let record_fine : bad_vernaux c at ≡ None = rw (backed_same b c at 16 v.ranges (found_none (is_unbacked b at 16) (flaw VERSION_RANGE at 0) first.0)) refl in
    let name_fine : bad_text c (vna_name b at) ≡ None = (name_within b c (vna_name b at) v.texts.size second.0).0 in
    rw (place, w.name, cnt, w.next, record_fine, name_fine, third) refl

asks_kept : (count : ℕ) (b c : List ℕ) (k : ℕ) → KeepsVersions count b c → k < verneed_count b → vernauxs_flaw b (verneed_place b k) ≡ None → vernauxs_flaw c (verneed_place b k) ≡ None
unfolding vernauxs_flaw
asks_kept count b c k v h e =
    let need : ℕ = verneed_place b k in
    let cnt : vn_cnt c need ≡ vn_cnt b need = (need_words count b c k v h).cnt in
    rw cnt (each_none (vernaux_flaw c need) 0 (vn_cnt b need) (λ j l m. let low : j < vn_cnt b (verneed_place b k) = omega arith in ask_kept count b c k j v h low (none_each (vernaux_flaw b need) 0 (vn_cnt b need) e j l m)))

need_kept : (count : ℕ) (b c : List ℕ) (k : ℕ) → KeepsVersions count b c → k < verneed_count b → verneed_flaw b k ≡ None → verneed_flaw c k ≡ None
unfolding verneed_flaw
need_kept count b c k v h e =
    let at : ℕ = verneed_place b k in
    let place : verneed_place c k ≡ verneed_place b k = verneed_there count b c k v h in
    let w : SameVerneed b c (verneed_place b k) = need_words count b c k v h in
    let counts = counts_kept b c v.tags in
    let first = none_first (bad_verneed b at) (bad_text b (vn_file b at) ∷ vernauxs_flaw b at ∷ bad_next (verneed_count b) k (vn_next b at) ∷ []) e in
    let second = none_first (bad_text b (vn_file b at)) (vernauxs_flaw b at ∷ bad_next (verneed_count b) k (vn_next b at) ∷ []) first.1 in
    let third = none_first (vernauxs_flaw b at) (bad_next (verneed_count b) k (vn_next b at) ∷ []) second.1 in
    let fourth : bad_next (verneed_count b) k (vn_next b at) ≡ None = (none_first (bad_next (verneed_count b) k (vn_next b at)) [] third.1).0 in
    let t = neither (is_unbacked b at 16) (not (vn_version b at == VER_CURRENT)) (found_none (is_unbacked b at 16 || not (vn_version b at == VER_CURRENT)) (flaw VERSION_RANGE at 0) first.0) in
    let record_fine : bad_verneed c at ≡ None = rw (backed_same b c at 16 v.ranges t.0, w.version, t.1) refl in
    let file_fine : bad_text c (vn_file c at) ≡ None = named_within c (vn_file c at) (v.files k h) in
    let asks_fine : vernauxs_flaw c at ≡ None = asks_kept count b c k v h third.0 in
    rw (place, counts.1, w.next, record_fine, file_fine, asks_fine, fourth) refl

pub needs_kept : (count : ℕ) (b c : List ℕ) → KeepsVersions count b c → verneeds_flaw b ≡ None → verneeds_flaw c ≡ None
unfolding verneeds_flaw
needs_kept count b c v e =
    let counts = counts_kept b c v.tags in
    rw counts.1 (each_none (verneed_flaw c) 0 (verneed_count b) (λ k l h. let low : k < verneed_count b = omega arith in need_kept count b c k v low (none_each (verneed_flaw b) 0 (verneed_count b) e k l h)))

-- the Vernaux of all needs
flat_same : {X : Type 0} (f g : ℕ → List X) (a n : ℕ) → ((i : ℕ) → a ≤ i → i < a + n → f i ≡ g i) → flat_map f (range_with_len a n) ≡ flat_map g (range_with_len a n)
flat_same f g a zero each = refl
flat_same f g a (suc n) each =
    let here : f a ≡ g a = each a (omega arith) (omega arith) in
    let later : flat_map f (range_with_len (a + 1) n) ≡ flat_map g (range_with_len (a + 1) n) = flat_same f g (a + 1) n (λ i l m. each i (omega arith) (omega arith)) in
    rw (here, later) refl

asked_there : (count : ℕ) (b c : List ℕ) (k : ℕ) → KeepsVersions count b c → k < verneed_count b → vernauxs_of c (verneed_place b k) ≡ vernauxs_of b (verneed_place b k)
asked_there count b c k v h =
    let need : ℕ = verneed_place b k in
    let cnt : vn_cnt c need ≡ vn_cnt b need = (need_words count b c k v h).cnt in
    rw cnt (same_made (vernaux_place c need) (vernaux_place b need) 0 (vn_cnt b need) (λ j l m. let low : j < vn_cnt b (verneed_place b k) = omega arith in vernaux_there count b c k j v h low))

pub vernauxs_there : (count : ℕ) (b c : List ℕ) → KeepsVersions count b c → vernauxs c ≡ vernauxs b
unfolding vernauxs
vernauxs_there count b c v =
    let counts = counts_kept b c v.tags in
    rw counts.1 (flat_same (λ k. map (λ a. (k, a)) (vernauxs_of c (verneed_place c k))) (λ k. map (λ a. (k, a)) (vernauxs_of b (verneed_place b k))) 0 (verneed_count b)
    (λ k l m. let low : k < verneed_count b = omega arith in
    let place : verneed_place c k ≡ verneed_place b k = verneed_there count b c k v low in
    rw (place, asked_there count b c k v low) refl))
