-- The first piece of an item, and the pieces behind it.
use Rattle.std.proofs.Common.{ℕ, zero, suc, ◌+◌, ◌<◌, List, [], ◌∷◌, ◌++◌, Bool, true, false, cond, ◌||◌, ◌≡◌, ◌∙◌, refl, sym, ap, Option, Some, None, length, drop, take, is_none, arith}
use Rattle.std.specs.List.{flat_map, list_any}
use Rattle.std.specs.Option.{unwrap_or}
use Rattle.path_text.specs.Path.{begins_at_root}
use Rattle.load_model.specs.RunPaths.{Folder, Relative, Unset, expanded, item_of, parts_of_item, Byte, Named, Part, Spelled, Token, is_unset, next_part, part_text, parts_behind, token_text}
use Rattle.load_model.specs.declared.setting.Setting.{Setting}
use Rattle.search_paths.specs.Tokens.{token_in}

-- what belongs to a token is passed over
pub parts_passed : (text : List ℕ) (k : ℕ) → parts_behind text k ≡ parts_behind (drop k text) 0
unfolding parts_behind
parts_passed [] zero = refl
parts_passed [] (suc k) = refl
parts_passed (c ∷ text) zero = refl
parts_passed (c ∷ text) (suc k) = parts_passed text k

pub parts_end : (text : List ℕ) → length text ≡ 0 → parts_behind text 0 ≡ []
unfolding parts_behind
parts_end [] none = refl
parts_end (c ∷ text) none = absurd (omega (arith, none))

pub parts_at_byte : (text : List ℕ) → 0 < length text → token_in text ≡ None → (c : ℕ) × (parts_behind text 0 ≡ Byte c ∷ parts_behind (drop 1 text) 0) × (take 1 text ≡ c ∷ [])
unfolding parts_behind
parts_at_byte [] some none = absurd (omega (arith, some))
parts_at_byte (c ∷ text) some none = (c, ap (λ s. next_part c s (parts_behind text)) none, refl)

pub parts_at_token : (text : List ℕ) (s : Spelled) → 0 < length text → token_in text ≡ Some s → parts_behind text 0 ≡ Named s.token ∷ parts_behind (drop (s.length + 1) text) 0
unfolding parts_behind
parts_at_token [] s some is = absurd (omega (arith, some))
parts_at_token (c ∷ text) s some is = ap (λ s. next_part c s (parts_behind text)) is ∙ ap (λ ps. Named s.token ∷ ps) (parts_passed text s.length)
    ∙ (let e : suc s.length ≡ s.length + 1 = omega arith in ap (λ n. Named s.token ∷ parts_behind (drop n (c ∷ text)) 0) e)

module _ (setting : Setting) (folder : List ℕ) where
  -- a byte at the front
  pub byte_set : (text : List ℕ) → 0 < length text → token_in text ≡ None → list_any (is_unset setting folder) (parts_behind text 0) ≡ list_any (is_unset setting folder) (parts_behind (drop 1 text) 0)
  byte_set text some none = ap (list_any (is_unset setting folder)) (parts_at_byte text some none).1

  pub byte_text : (text : List ℕ) → 0 < length text → token_in text ≡ None → flat_map (part_text setting folder) (parts_behind text 0) ≡ take 1 text ++ flat_map (part_text setting folder) (parts_behind (drop 1 text) 0)
  byte_text text some none =
      let p = parts_at_byte text some none in
      ap (flat_map (part_text setting folder)) p.1 ∙ ap (λ t. t ++ flat_map (part_text setting folder) (parts_behind (drop 1 text) 0)) (sym p.2)

  -- a token at the front
  unset_by : (t : Token) (ps : List Part) (value : Option (List ℕ)) → token_text setting folder t ≡ value → value ≡ None → list_any (is_unset setting folder) (Named t ∷ ps) ≡ true
  unset_by t ps value is none = ap (λ v. is_none v || list_any (is_unset setting folder) ps) (is ∙ none)

  pub token_unset : (text : List ℕ) (s : Spelled) → 0 < length text → token_in text ≡ Some s → token_text setting folder s.token ≡ None → list_any (is_unset setting folder) (parts_behind text 0) ≡ true
  token_unset text s some is none = ap (list_any (is_unset setting folder)) (parts_at_token text s some is) ∙ unset_by s.token (parts_behind (drop (s.length + 1) text) 0) (token_text setting folder s.token) refl none

  pub token_set : (text : List ℕ) (s : Spelled) (value : List ℕ) → 0 < length text → token_in text ≡ Some s → token_text setting folder s.token ≡ Some value → list_any (is_unset setting folder) (parts_behind text 0) ≡ list_any (is_unset setting folder) (parts_behind (drop (s.length + 1) text) 0)
  token_set text s value some is set =
      ap (list_any (is_unset setting folder)) (parts_at_token text s some is)
      ∙ ap (λ v. is_none v || list_any (is_unset setting folder) (parts_behind (drop (s.length + 1) text) 0)) set

  pub token_value : (text : List ℕ) (s : Spelled) (value : List ℕ) → 0 < length text → token_in text ≡ Some s → token_text setting folder s.token ≡ Some value → flat_map (part_text setting folder) (parts_behind text 0) ≡ value ++ flat_map (part_text setting folder) (parts_behind (drop (s.length + 1) text) 0)
  token_value text s value some is set =
      ap (flat_map (part_text setting folder)) (parts_at_token text s some is)
      ∙ ap (λ v. unwrap_or v [] ++ flat_map (part_text setting folder) (parts_behind (drop (s.length + 1) text) 0)) set

-- ---- the word behind a `$`

pub front_of : {A : Type 0} (n : ℕ) (xs : List A) → take (length (take n xs)) xs ≡ take n xs
front_of zero xs = refl
front_of (suc n) [] = refl
front_of (suc n) (x ∷ xs) = ap (λ ys. x ∷ ys) (front_of n xs)

-- ---- an item, by what it names

pub item_unset : (setting : Setting) (folder item : List ℕ) → list_any (is_unset setting folder) (parts_of_item item) ≡ true → item_of setting folder item ≡ Unset item
item_unset setting folder item unset = ap (λ b. cond b (Unset item) (cond (begins_at_root (expanded setting folder item)) (Folder (expanded setting folder item)) (Relative item))) unset

pub item_set : (setting : Setting) (folder item text : List ℕ) (root : Bool) → list_any (is_unset setting folder) (parts_of_item item) ≡ false → text ≡ expanded setting folder item → begins_at_root text ≡ root → item_of setting folder item ≡ cond root (Folder text) (Relative item)
item_set setting folder item text root set is at =
    ap (λ b. cond b (Unset item) (cond (begins_at_root (expanded setting folder item)) (Folder (expanded setting folder item)) (Relative item))) set
    ∙ ap (λ t. cond (begins_at_root t) (Folder t) (Relative item)) (sym is)
    ∙ ap (λ b. cond b (Folder text) (Relative item)) at
