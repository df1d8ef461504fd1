-- What is left of a walk, behind what was seen.
use Rattle.std.proofs.Common.{◌≡◌, ℕ, suc, ◌+◌, ◌-◌, ◌<◌, ◌≤◌, List, [], ◌∷◌, ◌++◌, Option, Some, None, map, refl, ap, sym, ◌∙◌, arith, append_assoc}
use Rattle.std.specs.List.{flat_map, range_with_len}
use Rattle.std.proofs.lemmas.List.{append-nil}
use Rattle.answers.specs.Answers.{Names}
use Rattle.answers.specs.First.{first_some}
use Rattle.byte_view.specs.declared.flaws.Flaw.{Flaw}
use Rattle.version_tables.specs.Walks.{from_on, lists_from}

pub from_on_step : {X : Type 0} (f : ℕ → X) (k n : ℕ) → k < n → from_on f k n ≡ f k ∷ from_on f (k + 1) n
unfolding from_on
from_on_step f k n h =
    let left : n - k ≡ suc (n - (k + 1)) = omega arith in
    ap (λ (m : ℕ). map f (range_with_len k m)) left

pub from_on_end : {X : Type 0} (f : ℕ → X) (k n : ℕ) → n ≤ k → from_on f k n ≡ []
unfolding from_on
from_on_end f k n h =
    let left : n - k ≡ 0 = omega arith in
    ap (λ (m : ℕ). map f (range_with_len k m)) left

pub from_on_all : {X : Type 0} (f : ℕ → X) (n : ℕ) → from_on f 0 n ≡ map f (range_with_len 0 n)
unfolding from_on
from_on_all f n =
    let left : n - 0 ≡ n = omega arith in
    ap (λ (m : ℕ). map f (range_with_len 0 m)) left

-- a record without flaw leaves the flaw to those behind it
pub flaw_passed : (f : ℕ → Option Flaw) (k n : ℕ) (whole : Option Flaw) → k < n → f k ≡ None → first_some (from_on f k n) ≡ whole → first_some (from_on f (k + 1) n) ≡ whole
flaw_passed f k n whole h none e =
    let here : first_some (from_on f k n) ≡ first_some (from_on f (k + 1) n) = ap first_some (from_on_step f k n h) ∙ ap (λ (o : Option Flaw). first_some (o ∷ from_on f (k + 1) n)) none in
    sym here ∙ e

-- what is named of a record is named of the whole
pub flaw_named : (f : ℕ → Option Flaw) (k n : ℕ) (whole named : Option Flaw) → k < n → Names named (f k) → first_some (from_on f k n) ≡ whole → Names named whole
flaw_named f k n whole None h named e = tt
flaw_named f k n whole (Some x) h named e =
    let here : first_some (from_on f k n) ≡ Some x = ap first_some (from_on_step f k n h) ∙ ap (λ (o : Option Flaw). first_some (o ∷ from_on f (k + 1) n)) named in
    sym e ∙ here

pub flaw_none : (f : ℕ → Option Flaw) (k n : ℕ) (whole : Option Flaw) → n ≤ k → first_some (from_on f k n) ≡ whole → whole ≡ None
flaw_none f k n whole h e = sym e ∙ ap first_some (from_on_end f k n h)

-- one more is kept
pub kept_more : {X : Type 0} (f : ℕ → X) (k n : ℕ) (done whole : List X) (x : X) → k < n → x ≡ f k → done ++ from_on f k n ≡ whole → (done ++ x ∷ []) ++ from_on f (k + 1) n ≡ whole
kept_more f k n done whole x h e all =
    let step : from_on f k n ≡ x ∷ from_on f (k + 1) n = rw e (from_on_step f k n h) in
    let whole_step : done ++ (x ∷ from_on f (k + 1) n) ≡ whole = rw step at all in
    rw append_assoc whole_step

pub kept_all : {X : Type 0} (f : ℕ → X) (k n : ℕ) (done whole : List X) → n ≤ k → done ++ from_on f k n ≡ whole → done ≡ whole
kept_all f k n done whole h all =
    let end : from_on f k n ≡ [] = from_on_end f k n h in
    let whole_end : done ++ [] ≡ whole = rw end at all in
    rw append-nil at whole_end

-- nothing is kept yet
pub kept_none : {X : Type 0} (f : ℕ → X) (n count : ℕ) (done : List X) → done ≡ [] → n ≡ count → done ++ from_on f 0 n ≡ from_on f 0 count
kept_none f n count done e c = rw (e, c) refl

-- the same of lists
pub lists_from_step : {X : Type 0} (f : ℕ → List X) (k n : ℕ) → k < n → lists_from f k n ≡ f k ++ lists_from f (k + 1) n
unfolding lists_from
lists_from_step f k n h =
    let left : n - k ≡ suc (n - (k + 1)) = omega arith in
    ap (λ (m : ℕ). flat_map f (range_with_len k m)) left

pub lists_from_end : {X : Type 0} (f : ℕ → List X) (k n : ℕ) → n ≤ k → lists_from f k n ≡ []
unfolding lists_from
lists_from_end f k n h =
    let left : n - k ≡ 0 = omega arith in
    ap (λ (m : ℕ). flat_map f (range_with_len k m)) left

pub lists_more : {X : Type 0} (f : ℕ → List X) (k n : ℕ) (done more whole : List X) → k < n → more ≡ f k → done ++ lists_from f k n ≡ whole → (done ++ more) ++ lists_from f (k + 1) n ≡ whole
lists_more f k n done more whole h e all =
    let step : lists_from f k n ≡ more ++ lists_from f (k + 1) n = rw e (lists_from_step f k n h) in
    let whole_step : done ++ (more ++ lists_from f (k + 1) n) ≡ whole = rw step at all in
    rw append_assoc whole_step

pub lists_all : {X : Type 0} (f : ℕ → List X) (k n : ℕ) (done whole : List X) → n ≤ k → done ++ lists_from f k n ≡ whole → done ≡ whole
lists_all f k n done whole h all =
    let end : lists_from f k n ≡ [] = lists_from_end f k n h in
    let whole_end : done ++ [] ≡ whole = rw end at all in
    rw append-nil at whole_end

pub lists_none : {X : Type 0} (f : ℕ → List X) (n count : ℕ) (done : List X) → done ≡ [] → n ≡ count → done ++ lists_from f 0 n ≡ lists_from f 0 count
lists_none f n count done e c = rw (e, c) refl
