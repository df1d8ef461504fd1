-- What was made of the elements so far.
use Rattle.std.proofs.Common.{◌≡◌, ◌∙◌, sym, ap, refl, ℕ, suc, ◌+◌, ◌<◌, List, [], ◌∷◌, ◌++◌, Option, Some, None, append_assoc, get_or, length, take, arith}
use Rattle.std.specs.List.{cons_option, filter_map}
use Rattle.std.specs.Option.{option_to_list}
use Rattle.std.proofs.lemmas.List.{append-nil, take_more}
use Rattle.std.proofs.lemmas.List.Elements.{filter_map-append}
use Rattle.load_model.specs.LoadList.{up_to}

pub take_next : {X : Type 0} (xs : List X) (i : ℕ) (x : X) → i < length xs → x ≡ get_or xs i x → take (i + 1) xs ≡ take i xs ++ x ∷ []
take_next xs i x less h = take_more xs i x less ∙ ap (λ y. take i xs ++ y ∷ []) (sym h)

only_one : {Y : Type 0} (o : Option Y) → cons_option o [] ≡ option_to_list o
only_one None = refl
only_one (Some y) = refl

filter_map_more : {X Y : Type 0} (f : X → Option Y) (xs : List X) (x : X) → filter_map f (xs ++ x ∷ []) ≡ filter_map f xs ++ option_to_list (f x)
filter_map_more f xs x = filter_map-append f xs (x ∷ []) ∙ ap (λ ys. filter_map f xs ++ ys) (only_one (f x))

-- What one more element gives joins what was there.
pub added : {X Y : Type 0} (f : X → Option Y) (xs : List X) (x : X) (start : List Y) (was now : List Y) → was ≡ start ++ filter_map f xs → now ≡ was ++ option_to_list (f x) → now ≡ start ++ filter_map f (xs ++ x ∷ [])
added f xs x start was now h e =
    e ∙ ap (λ ys. ys ++ option_to_list (f x)) h ∙ append_assoc start (filter_map f xs) (option_to_list (f x))
    ∙ ap (λ ys. start ++ ys) (sym (filter_map_more f xs x))

pub added_number : {Y : Type 0} (f : ℕ → Option Y) (n : ℕ) (start : List Y) (was now : List Y) → was ≡ start ++ filter_map f (up_to n) → now ≡ was ++ option_to_list (f n) → now ≡ start ++ filter_map f (up_to (n + 1))
unfolding up_to
added_number f n start was now h e =
    let up : n + 1 ≡ suc n = omega arith in
    added f (up_to n) n start was now h e ∙ ap (λ m. start ++ filter_map f (up_to m)) (sym up)

pub none_yet : {Y : Type 0} (f : ℕ → Option Y) (start : List Y) → start ≡ start ++ filter_map f (up_to 0)
unfolding up_to
none_yet f start = sym (append-nil start)

pub added_read : {X Y : Type 0} (f : X → Option Y) (xs : List X) (i : ℕ) (x : X) (was now : List Y) → i < length xs → x ≡ get_or xs i x → was ≡ filter_map f (take i xs) → now ≡ was ++ option_to_list (f x) → now ≡ filter_map f (take (i + 1) xs)
added_read f xs i x was now less r h e =
    added f (take i xs) x [] was now h e ∙ ap (filter_map f) (sym (take_next xs i x less r))
