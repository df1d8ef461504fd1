-- What is asked of other files, and the names of versions.
use Rattle.std.proofs.Common.{◌≡◌, ℕ, zero, suc, ◌+◌, ◌<◌, ◌≤◌, ◌&&◌, Bool, true, false, List, [], ◌∷◌, ◌++◌, None, map, refl, ap, sym, ◌∙◌, arith}
use Rattle.std.specs.List.{flat_map, list_all, range_with_len}
use Rattle.byte_view.specs.Dynamic.{dynamic_entries, strings_size}
use Rattle.byte_view.specs.DynamicFlaws.{has_bit}
use Rattle.byte_view.specs.declared.constants.TheConstants.{VER_FLG_WEAK}
use Rattle.byte_view.proofs.Loads.{none_first}
use Rattle.load_model.specs.VersionFlaws.{bad_next, bad_text, bad_verdaux, bad_verdef, bad_vernaux, bad_verneed, verdef_flaw, verdefs_flaw, vernaux_flaw, vernauxs_flaw, verneed_flaw, verneeds_flaw}
use Rattle.load_model.specs.VersionTables.{ask_of, asks_of, defined_name, definitions_of, indexed_names, needed_name, text_of, vd_next, vda_name, verdaux_of, verdef_count, verdef_place, verdefs, vernaux_place, vernauxs, vernauxs_of, verneed_count, verneed_place, vn_cnt, vn_file, vn_next, vna_flags, vna_name, vna_next}
use Rattle.two_files.specs.Alike.{KeepsVersions, asks_with}
use Rattle.two_files.proofs.Records.{none_each, number_first, text_same}
use Rattle.two_files.proofs.Versions.{SameVernaux, SameVerdef, counts_kept, name_within, same_vernaux, same_verdef, vernauxs_there, verdef_there, verneed_there}
use Rattle.two_files.proofs.Words.{same_made}

-- the tables of a file without flaw
pub record AreFine (b : List ℕ) : Type 0 where
  pub definitions : (k : ℕ) → k < verdef_count b → vda_name b (verdaux_of b (verdef_place b k)) < strings_size (dynamic_entries b)
  pub asked : (k j : ℕ) → k < verneed_count b → j < vn_cnt b (verneed_place b k) → vna_name b (vernaux_place b (verneed_place b k) j) < strings_size (dynamic_entries b)

definition_fine : (b : List ℕ) (k : ℕ) → verdef_flaw b k ≡ None → vda_name b (verdaux_of b (verdef_place b k)) < strings_size (dynamic_entries b)
unfolding verdef_flaw
definition_fine b k e =
    let at : ℕ = verdef_place b k in
    let first = none_first (bad_verdef b at) (bad_verdaux b (verdaux_of b at) ∷ bad_text b (vda_name b (verdaux_of b at)) ∷ bad_next (verdef_count b) k (vd_next b at) ∷ []) e in
    let second = none_first (bad_verdaux b (verdaux_of b at)) (bad_text b (vda_name b (verdaux_of b at)) ∷ bad_next (verdef_count b) k (vd_next b at) ∷ []) first.1 in
    let third = none_first (bad_text b (vda_name b (verdaux_of b at))) (bad_next (verdef_count b) k (vd_next b at) ∷ []) second.1 in
    (name_within b b (vda_name b (verdaux_of b at)) (omega arith) third.0).1

asked_fine : (b : List ℕ) (k j : ℕ) → vernaux_flaw b (verneed_place b k) j ≡ None → vna_name b (vernaux_place b (verneed_place b k) j) < strings_size (dynamic_entries b)
unfolding vernaux_flaw
asked_fine b k j e =
    let need : ℕ = verneed_place b k in
    let at : ℕ = vernaux_place b need j in
    let first = none_first (bad_vernaux b at) (bad_text b (vna_name b at) ∷ bad_next (vn_cnt b need) j (vna_next b at) ∷ []) e in
    let second = none_first (bad_text b (vna_name b at)) (bad_next (vn_cnt b need) j (vna_next b at) ∷ []) first.1 in
    (name_within b b (vna_name b at) (omega arith) second.0).1

need_asks : (b : List ℕ) (k : ℕ) → verneed_flaw b k ≡ None → vernauxs_flaw b (verneed_place b k) ≡ None
unfolding verneed_flaw
need_asks b k e =
    let at : ℕ = verneed_place b k in
    let first = none_first (bad_verneed b at) (bad_text b (vn_file b at) ∷ vernauxs_flaw b at ∷ bad_next (verneed_count b) k (vn_next b at) ∷ []) e in
    let second = none_first (bad_text b (vn_file b at)) (vernauxs_flaw b at ∷ bad_next (verneed_count b) k (vn_next b at) ∷ []) first.1 in
    (none_first (vernauxs_flaw b at) (bad_next (verneed_count b) k (vn_next b at) ∷ []) second.1).0

pub are_fine : (b : List ℕ) → verdefs_flaw b ≡ None → verneeds_flaw b ≡ None → AreFine b
unfolding verdefs_flaw verneeds_flaw vernauxs_flaw
are_fine b d n = record {
  definitions = λ k h. definition_fine b k (none_each (verdef_flaw b) 0 (verdef_count b) d k (omega arith) (omega arith));
  asked = λ k j h l. asked_fine b k j (none_each (vernaux_flaw b (verneed_place b k)) 0 (vn_cnt b (verneed_place b k)) (need_asks b k (none_each (verneed_flaw b) 0 (verneed_count b) n k (omega arith) (omega arith))) j (omega arith) (omega arith));
}

map_both : {X Y : Type 0} (f : X → Y) (xs ys : List X) → map f (xs ++ ys) ≡ map f xs ++ map f ys
map_both f [] ys = refl
map_both f (x ∷ xs) ys = ap (λ l. f x ∷ l) (map_both f xs ys)

map_twice : {X Y Z : Type 0} (f : Y → Z) (g : X → Y) (xs : List X) → map f (map g xs) ≡ map (λ x. f (g x)) xs
map_twice f g [] = refl
map_twice f g (x ∷ xs) = ap (λ more. f (g x) ∷ more) (map_twice f g xs)

map_flat : {X Y Z : Type 0} (f : Y → Z) (g : X → List Y) (xs : List X) → map f (flat_map g xs) ≡ flat_map (λ x. map f (g x)) xs
map_flat f g [] = refl
map_flat f g (x ∷ xs) = map_both f (g x) (flat_map g xs) ∙ ap (λ l. map f (g x) ++ l) (map_flat f g xs)

flat_same : {X : Type 0} (f g : ℕ → List X) (a n : ℕ) → ((i : ℕ) → a ≤ i → i < a + n → f i ≡ g i) → flat_map f (range_with_len a n) ≡ flat_map g (range_with_len a n)
flat_same f g a zero each = refl
flat_same f g a (suc n) each =
    let here : f a ≡ g a = each a (omega arith) (omega arith) in
    let later : flat_map f (range_with_len (a + 1) n) ≡ flat_map g (range_with_len (a + 1) n) = flat_same f g (a + 1) n (λ i l m. each i (omega arith) (omega arith)) in
    rw (here, later) refl

-- what two functions give of all Vernaux is the same where they do so of each
one_need : {X : Type 0} (f g : ℕ × ℕ → X) (b : List ℕ) (k : ℕ) → ((j : ℕ) → j < vn_cnt b (verneed_place b k) → f (k, vernaux_place b (verneed_place b k) j) ≡ g (k, vernaux_place b (verneed_place b k) j)) → map f (map (λ a. (k, a)) (vernauxs_of b (verneed_place b k))) ≡ map g (map (λ a. (k, a)) (vernauxs_of b (verneed_place b k)))
one_need f g b k each =
    let need : ℕ = verneed_place b k in
    map_twice f (λ a. (k, a)) (vernauxs_of b need) ∙ map_twice (λ a. f (k, a)) (vernaux_place b need) (range_with_len 0 (vn_cnt b need))
    ∙ same_made (λ j. f (k, vernaux_place b need j)) (λ j. g (k, vernaux_place b need j)) 0 (vn_cnt b need) (λ j l m. let low : j < vn_cnt b (verneed_place b k) = omega arith in each j low)
    ∙ sym (map_twice g (λ a. (k, a)) (vernauxs_of b need) ∙ map_twice (λ a. g (k, a)) (vernaux_place b need) (range_with_len 0 (vn_cnt b need)))

pub over_asked : {X : Type 0} (f g : ℕ × ℕ → X) (b : List ℕ) → ((k j : ℕ) → k < verneed_count b → j < vn_cnt b (verneed_place b k) → f (k, vernaux_place b (verneed_place b k) j) ≡ g (k, vernaux_place b (verneed_place b k) j)) → map f (vernauxs b) ≡ map g (vernauxs b)
unfolding vernauxs
over_asked f g b each =
    map_flat f (λ k. map (λ a. (k, a)) (vernauxs_of b (verneed_place b k))) (range_with_len 0 (verneed_count b))
    ∙ flat_same (λ k. map f (map (λ a. (k, a)) (vernauxs_of b (verneed_place b k)))) (λ k. map g (map (λ a. (k, a)) (vernauxs_of b (verneed_place b k)))) 0 (verneed_count b)
    (λ k l m. let low : k < verneed_count b = omega arith in one_need f g b k (λ j h. each k j low h))
    ∙ sym (map_flat g (λ k. map (λ a. (k, a)) (vernauxs_of b (verneed_place b k))) (range_with_len 0 (verneed_count b)))

-- the asks of the new file
pub asks_replaced : (count : ℕ) (b c : List ℕ) (texts : ℕ → List ℕ) → KeepsVersions count b c → AreFine b → ((k : ℕ) → k < verneed_count b → text_of c (vn_file c (verneed_place b k)) ≡ texts k) → asks_of c ≡ asks_with b texts
unfolding asks_of asks_with
asks_replaced count b c texts v fine named =
    rw (vernauxs_there count b c v) (over_asked (λ a. ask_of c (verneed_place c a.0) a.1) (λ a. record { file = texts a.0; name = text_of b (vna_name b a.1); weak = has_bit VER_FLG_WEAK (vna_flags b a.1) }) b one)
  where
    one : (k j : ℕ) → k < verneed_count b → j < vn_cnt b (verneed_place b k) → ask_of c (verneed_place c k) (vernaux_place b (verneed_place b k) j) ≡ record { file = texts k; name = text_of b (vna_name b (vernaux_place b (verneed_place b k) j)); weak = has_bit VER_FLG_WEAK (vna_flags b (vernaux_place b (verneed_place b k) j)) }
    one k j h l =
        let at : ℕ = vernaux_place b (verneed_place b k) j in
        let w : SameVernaux b c (vernaux_place b (verneed_place b k) j) = same_vernaux b c (vernaux_place b (verneed_place b k) j) (v.asked k j h l) in
        let place : verneed_place c k ≡ verneed_place b k = verneed_there count b c k v h in
        let name : text_of c (vna_name b at) ≡ text_of b (vna_name b at) = text_same b c (vna_name b at) v.texts (fine.asked k j h l) in
        rw (place, named k h, w.name, name, w.flags) refl

-- the names of definitions
pub verdefs_there : (count : ℕ) (b c : List ℕ) → KeepsVersions count b c → verdefs c ≡ verdefs b
verdefs_there count b c v =
    let counts = counts_kept b c v.tags in
    rw counts.0 (same_made (verdef_place c) (verdef_place b) 0 (verdef_count b) (λ k l h. let low : k < verdef_count b = omega arith in verdef_there count b c k v low))

over_defined : {X : Type 0} (f g : ℕ → X) (b : List ℕ) → ((k : ℕ) → k < verdef_count b → f (verdef_place b k) ≡ g (verdef_place b k)) → map f (verdefs b) ≡ map g (verdefs b)
over_defined f g b each =
    map_twice f (verdef_place b) (range_with_len 0 (verdef_count b))
    ∙ same_made (λ k. f (verdef_place b k)) (λ k. g (verdef_place b k)) 0 (verdef_count b) (λ k l h. let low : k < verdef_count b = omega arith in each k low)
    ∙ sym (map_twice g (verdef_place b) (range_with_len 0 (verdef_count b)))

pub definitions_same : (count : ℕ) (b c : List ℕ) → KeepsVersions count b c → AreFine b → definitions_of c ≡ definitions_of b
unfolding definitions_of
definitions_same count b c v fine =
    rw (verdefs_there count b c v) (over_defined (λ at. text_of c (vda_name c (verdaux_of c at))) (λ at. text_of b (vda_name b (verdaux_of b at))) b one)
  where
    one : (k : ℕ) → k < verdef_count b → text_of c (vda_name c (verdaux_of c (verdef_place b k))) ≡ text_of b (vda_name b (verdaux_of b (verdef_place b k)))
    one k h =
        let at : ℕ = verdef_place b k in
        let w : SameVerdef b c (verdef_place b k) = same_verdef b c (verdef_place b k) (v.definitions k h) in
        let name : vda_name c (verdaux_of b at) ≡ vda_name b (verdaux_of b at) = number_first b c (verdaux_of b at) 8 4 (v.names k h) (omega arith) in
        rw (w.aux, name) (text_same b c (vda_name b (verdaux_of b at)) v.texts (fine.definitions k h))

-- the names of version indexes
pub indexed_same : (count : ℕ) (b c : List ℕ) → KeepsVersions count b c → indexed_names c ≡ indexed_names b
unfolding indexed_names
indexed_same count b c v =
    rw (verdefs_there count b c v, vernauxs_there count b c v, over_defined (defined_name c) (defined_name b) b defined, over_asked (λ a. needed_name c a.1) (λ a. needed_name b a.1) b needed) refl
  where
    defined : (k : ℕ) → k < verdef_count b → defined_name c (verdef_place b k) ≡ defined_name b (verdef_place b k)
    defined k h =
        let at : ℕ = verdef_place b k in
        let w : SameVerdef b c (verdef_place b k) = same_verdef b c (verdef_place b k) (v.definitions k h) in
        let name : vda_name c (verdaux_of b at) ≡ vda_name b (verdaux_of b at) = number_first b c (verdaux_of b at) 8 4 (v.names k h) (omega arith) in
        rw (w.ndx, w.aux, name) refl

    needed : (k j : ℕ) → k < verneed_count b → j < vn_cnt b (verneed_place b k) → needed_name c (vernaux_place b (verneed_place b k) j) ≡ needed_name b (vernaux_place b (verneed_place b k) j)
    needed k j h l =
        let w : SameVernaux b c (vernaux_place b (verneed_place b k) j) = same_vernaux b c (vernaux_place b (verneed_place b k) j) (v.asked k j h l) in
        rw (w.other, w.name) refl

-- what holds of what a function gives of each
all_made : {X : Type 0} (f : ℕ → X) (p : X → Bool) (a n : ℕ) → ((i : ℕ) → a ≤ i → i < a + n → p (f i) ≡ true) → list_all p (map f (range_with_len a n)) ≡ true
all_made f p a zero each = refl
all_made f p a (suc n) each =
    let here : p (f a) ≡ true = each a (omega arith) (omega arith) in
    rw here (all_made f p (a + 1) n (λ i l m. each i (omega arith) (omega arith)))

pub all_defined : {X : Type 0} (f : ℕ → X) (p : X → Bool) (b : List ℕ) → ((k : ℕ) → k < verdef_count b → p (f (verdef_place b k)) ≡ true) → list_all p (map f (verdefs b)) ≡ true
all_defined f p b each =
    rw (map_twice f (verdef_place b) (range_with_len 0 (verdef_count b))) (all_made (λ k. f (verdef_place b k)) p 0 (verdef_count b) (λ k l h. let low : k < verdef_count b = omega arith in each k low))

all_joined : {X : Type 0} (p : X → Bool) (xs ys : List X) → list_all p xs ≡ true → list_all p ys ≡ true → list_all p (xs ++ ys) ≡ true
all_joined p [] ys e f = f
all_joined p (x ∷ xs) ys e f = go (p x) e (λ g. all_joined p xs ys g f)
  where
    go : (t : Bool) → (t && list_all p xs) ≡ true → (list_all p xs ≡ true → list_all p (xs ++ ys) ≡ true) → (t && list_all p (xs ++ ys)) ≡ true
    go true e later = later e
    go false e later = absurd (cc)

all_flat : {X : Type 0} (f : ℕ → List X) (p : X → Bool) (a n : ℕ) → ((i : ℕ) → a ≤ i → i < a + n → list_all p (f i) ≡ true) → list_all p (flat_map f (range_with_len a n)) ≡ true
all_flat f p a zero each = refl
all_flat f p a (suc n) each =
    all_joined p (f a) (flat_map f (range_with_len (a + 1) n)) (each a (omega arith) (omega arith)) (all_flat f p (a + 1) n (λ i l m. each i (omega arith) (omega arith)))

pub all_asked : {X : Type 0} (f : ℕ × ℕ → X) (p : X → Bool) (b : List ℕ) → ((k j : ℕ) → k < verneed_count b → j < vn_cnt b (verneed_place b k) → p (f (k, vernaux_place b (verneed_place b k) j)) ≡ true) → list_all p (map f (vernauxs b)) ≡ true
unfolding vernauxs
all_asked f p b each =
    rw (map_flat f (λ k. map (λ a. (k, a)) (vernauxs_of b (verneed_place b k))) (range_with_len 0 (verneed_count b)))
    (all_flat (λ k. map f (map (λ a. (k, a)) (vernauxs_of b (verneed_place b k)))) p 0 (verneed_count b)
    (λ k l m. let low : k < verneed_count b = omega arith in
    rw (map_twice f (λ a. (k, a)) (vernauxs_of b (verneed_place b k)), map_twice (λ a. f (k, a)) (vernaux_place b (verneed_place b k)) (range_with_len 0 (vn_cnt b (verneed_place b k))))
    (all_made (λ j. f (k, vernaux_place b (verneed_place b k) j)) p 0 (vn_cnt b (verneed_place b k)) (λ j i h. let few : j < vn_cnt b (verneed_place b k) = omega arith in each k j low few))))
