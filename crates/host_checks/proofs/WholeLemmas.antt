-- A record that a text says has numbers of libraries that are there, and needs that are declared.
use Rattle.std.proofs.Common.{◌≡◌, ap, refl, ℕ, suc, ◌+◌, ◌<◌, List, [], ◌∷◌, ◌++◌, Bool, true, false, cond, ◌||◌, ◌&&◌, not, subst, length, length-append, arith}
use Rattle.std.specs.Prelude.{bytes_eq, nat_lt}
use Rattle.std.specs.List.{AllByRecursion, list_all}
use Rattle.std.proofs.lemmas.Bool.{and_parts, lt-ltb, ltb-true}
use Rattle.host_record.specs.Grammar.{ComeInOrder, Says, said_after, section_after}
use Rattle.host_record.specs.Said.{is_declared, is_right, lib_names, lib_number, needs_declared, nothing_said, said, section_of, with_need}
use Rattle.host_record.specs.declared.records.Look.{Look}
use Rattle.host_record.specs.declared.records.RecLib.{RecLib}
use Rattle.host_record.specs.declared.records.RecVersion.{RecVersion}
use Rattle.host_record.specs.declared.records.Record.{Record}
use Rattle.host_meeting.specs.Verdicts.{IsWhole}

-- ---- numbers below a count, as a test

below : {X : Type 0} → (X → ℕ) → ℕ → List X → Bool
below number count xs = list_all (λ x. nat_lt (number x) count) xs

both : (a b : Bool) → a ≡ true → b ≡ true → (a && b) ≡ true
both true b h k = k
both false b h k = cc

below_longer : {X : Type 0} (number : X → ℕ) (m n : ℕ) (xs : List X) → ((k : ℕ) → k < m → k < n) → below number m xs ≡ true → below number n xs ≡ true
unfolding below
below_longer number m n [] h b = refl
below_longer number m n (x ∷ xs) h b =
    let parts = and_parts (nat_lt (number x) m) (below number m xs) b in
    both (nat_lt (number x) n) (below number n xs) (lt-ltb (number x) n (h (number x) (ltb-true (number x) m parts.0))) (below_longer number m n xs h parts.1)

below_more : {X : Type 0} (number : X → ℕ) (count : ℕ) (xs : List X) (x : X) → below number count xs ≡ true → number x < count → below number count (xs ++ x ∷ []) ≡ true
unfolding below
below_more number count [] x b less = both (nat_lt (number x) count) true (lt-ltb (number x) count less) refl
below_more number count (y ∷ xs) x b less =
    let parts = and_parts (nat_lt (number y) count) (below number count xs) b in
    both (nat_lt (number y) count) (below number count (xs ++ x ∷ [])) parts.0 (below_more number count xs x parts.1 less)

all_below : {X : Type 0} (number : X → ℕ) (count : ℕ) (xs : List X) → below number count xs ≡ true → AllByRecursion (λ x. number x < count) xs
unfolding below
all_below number count [] b = tt
all_below number count (x ∷ xs) b =
    let parts = and_parts (nat_lt (number x) count) (below number count xs) b in
    (ltb-true (number x) count parts.0, all_below number count xs parts.1)

-- ---- numbers of libraries

number_by : (here there : Bool) (k n : ℕ) → (there ≡ true → k < n) → (here || there) ≡ true → cond (not here) (1 + k) 0 < suc n
number_by true there k n h e = omega arith
number_by false there k n h e = let less = h e in omega arith

number_below : (libs : List RecLib) (name : List ℕ) → is_declared (lib_names libs) name ≡ true → lib_number (lib_names libs) name < length libs
number_below [] name h = cc
number_below (lib ∷ libs) name h = number_by (bytes_eq name lib.name) (is_declared (lib_names libs) name) (lib_number (lib_names libs) name) (length libs) (number_below libs name) h

needs_keep : (libs : List RecLib) (need : List ℕ) → length (with_need libs need) ≡ length libs
needs_keep [] need = refl
needs_keep (a ∷ []) need = refl
needs_keep (a ∷ b ∷ libs) need = ap suc (needs_keep (b ∷ libs) need)

version_lib : RecVersion → ℕ
version_lib v = v.lib

look_lib : Look → ℕ
look_lib l = l.lib

-- ---- line by line: what a line may add to a record

over : Record → Bool
over r = below version_lib (length r.libs) r.versions && below look_lib (length r.libs) r.looks

over_machine : (r : Record) (m : ℕ) → over (record r { machine = m }) ≡ over r
unfolding over
over_machine r m = refl

over_interps : (r : Record) (paths : List (List ℕ)) → over (record r { interps = paths }) ≡ over r
unfolding over
over_interps r paths = refl

over_libs : (r : Record) (libs : List RecLib) → ((k : ℕ) → k < length r.libs → k < length libs) → over r ≡ true → over (record r { libs = libs }) ≡ true
unfolding over
over_libs r libs longer h =
    let parts = and_parts (below version_lib (length r.libs) r.versions) (below look_lib (length r.libs) r.looks) h in
    both (below version_lib (length libs) r.versions) (below look_lib (length libs) r.looks)
    (below_longer version_lib (length r.libs) (length libs) r.versions longer parts.0)
    (below_longer look_lib (length r.libs) (length libs) r.looks longer parts.1)

over_declare : (r : Record) (lib : RecLib) → over r ≡ true → over (record r { libs = r.libs ++ lib ∷ [] }) ≡ true
over_declare r lib h = over_libs r (r.libs ++ lib ∷ []) (λ k less. omega (arith, less, length-append r.libs (lib ∷ []))) h

over_need : (r : Record) (need : List ℕ) → over r ≡ true → over (record r { libs = with_need r.libs need }) ≡ true
over_need r need h = over_libs r (with_need r.libs need) (λ k less. omega (arith, less, needs_keep r.libs need)) h

over_require : (r : Record) (name version : List ℕ) → over r ≡ true → is_declared (lib_names r.libs) name ≡ true → over (record r { versions = r.versions ++ record { lib = lib_number (lib_names r.libs) name; version = version } ∷ [] }) ≡ true
unfolding over version_lib
over_require r name version h d =
    let more : RecVersion = record { lib = lib_number (lib_names r.libs) name; version = version } in
    let parts = and_parts (below version_lib (length r.libs) r.versions) (below look_lib (length r.libs) r.looks) h in
    both (below version_lib (length r.libs) (r.versions ++ more ∷ [])) (below look_lib (length r.libs) r.looks)
    (below_more version_lib (length r.libs) r.versions more parts.0 (number_below r.libs name d)) parts.1

over_ask : (r : Record) (look : Look) (name : List ℕ) → over r ≡ true → is_declared (lib_names r.libs) name ≡ true → look.lib ≡ lib_number (lib_names r.libs) name → over (record r { looks = r.looks ++ look ∷ [] }) ≡ true
unfolding over look_lib
over_ask r look name h d e =
    let parts = and_parts (below version_lib (length r.libs) r.versions) (below look_lib (length r.libs) r.looks) h in
    let less = number_below r.libs name d in
    both (below version_lib (length r.libs) r.versions) (below look_lib (length r.libs) (r.looks ++ look ∷ [])) parts.0
    (below_more look_lib (length r.libs) r.looks look parts.1 (omega (arith, less, e)))

over_said : (r : Record) (line : _) → is_right r line ≡ true → over r ≡ true → over (said r line) ≡ true
over_said r line right h = grind (arith, over_machine, over_interps, over_declare, over_need, over_require, over_ask)

over_all : (section : _) (r : Record) (lines : _) → ComeInOrder section r lines → over r ≡ true → over (said_after r lines) ≡ true
over_all section r [] c h = h
over_all section r (line ∷ lines) c h = over_all (section_of line) (said r line) lines c.1 (over_said r line c.0.right h)

-- what the last line sees to, in a section that others do not stand in
last_right : (section : _) (r : Record) (lines : _) (last : _) → section_after section lines ≡ last → ComeInOrder section r lines → (section ≡ last → needs_declared r.libs ≡ true) → ((r : Record) (line : _) → is_right r line ≡ true → section_of line ≡ last → needs_declared (said r line).libs ≡ true) → needs_declared (said_after r lines).libs ≡ true
last_right section r [] last e c known each = known e
last_right section r (line ∷ lines) last e c known each = last_right (section_of line) (said r line) lines last e c.1 (each r line c.0.right) each

whole_by : (r : Record) → over r ≡ true → needs_declared r.libs ≡ true → IsWhole r
unfolding over version_lib look_lib
whole_by r h d =
    let parts = and_parts (below version_lib (length r.libs) r.versions) (below look_lib (length r.libs) r.looks) h in
    record {
      declared = d;
      versions = all_below version_lib (length r.libs) r.versions parts.0;
      looks = all_below look_lib (length r.libs) r.looks parts.1;
    }

nothing_over : over nothing_said ≡ true
unfolding over below
nothing_over = refl

pub says_whole : (text : List ℕ) (r : Record) → Says text r → IsWhole r
says_whole text r s =
    subst IsWhole s.tells (whole_by (said_after nothing_said s.lines) (over_all _ nothing_said s.lines s.each nothing_over)
    (last_right _ nothing_said s.lines _ s.last s.each (λ e. refl) (λ r line right e. grind arith)))
