-- The load list of a program and the names that it opens, as a property of whole lists. A request
-- is a name asked for by an object. The start phase asks for all needs of the objects in load
-- order; then each opened name is a phase: the name, asked for by the program, followed by the
-- needs of the objects that this phase brought. X is why a request has no target.
use Rattle.std.specs.Prelude.{ℕ, zero, suc, List, [], ◌∷◌, ◌++◌, Bool, true, false, cond, ◌≡◌, ◌<◌, Option, Some, None, Result, Ok, Err, length, take, drop, map, max, min, slice_get, ◌==◌, ◌&&◌, ◌||◌, nat_lt, ◌⊎◌}
use Rattle.std.specs.List.{list_any}
use Rattle.std.specs.Str.{bytes_eq}
use Rattle.load_model.specs.declared.faces.Face.{Face}

-- a loaded file: the path under which it was found, which file it is, and what a loader sees of it
pub record Object : Type 0 where
  pub path : List ℕ
  pub id : List ℕ
  pub face : Face

-- an object asks for a name
pub record Request : Type 0 where
  pub by : ℕ
  pub name : List ℕ

-- a request, and the number of the object that it went to
pub record Asked : Type 0 where
  pub request : Request
  pub target : ℕ

-- where a request goes: to an object that is loaded, or to a file that is loaded now
pub data Found : Type 0 where
  Known : (at : ℕ) → Found
  Brought : (object : Object) → Found

-- what is loaded, and all that was asked so far
pub record Loaded : Type 0 where
  pub objs : List Object
  pub log : List Asked

-- the number of objects after these: one more than the greatest target
unfoldable pub count_from : ℕ → List Asked → ℕ
count_from k [] = k
count_from k (a ∷ log) = count_from (max k (suc a.target)) log

abbrev pub count_after : List Asked → ℕ
count_after log = count_from 1 log

-- all needs of the objects, the first of which has this number
abbrev pub needs_from : ℕ → List Object → List Request
needs_from i [] = []
needs_from i (o ∷ os) = map (λ n. record { by = i; name = n }) o.face.needs ++ needs_from (suc i) os

-- the requests of a phase: the names that the program opens, and the needs of each object from the
-- i-th on
abbrev pub requests_of : List (List ℕ) → ℕ → List Object → List Request
requests_of opening i objs =
    map (λ n. record { by = 0; name = n }) opening ++ needs_from i (drop i objs)

-- the request went to this object: one of the first count, or else the next one
abbrev pub WentTo : List Object → ℕ → ℕ → Found → Type 0
WentTo objs count t (Known i) = (t ≡ i) × (i < count)
WentTo objs count t (Brought o) = (t ≡ count) × (slice_get objs count ≡ Some o)

-- the second step, unless the first stops
abbrev pub next : {A B X : Type 0} → Result A X → (A → Result B X) → Result B X
next (Ok a) f = f a
next (Err x) f = Err x

-- after a request
abbrev pub with_found : Loaded → Request → Found → Loaded
with_found s r (Known i) =
    record { objs = s.objs; log = s.log ++ record { request = r; target = i } ∷ [] }
with_found s r (Brought o) =
    record {
      objs = s.objs ++ o ∷ [];
      log = s.log ++ record { request = r; target = length s.objs } ∷ [];
    }

-- the program alone, and what each phase opens: the needs of the program, and then one name each
abbrev pub start_of : Object → Loaded
start_of program = record { objs = program ∷ []; log = [] }

abbrev pub phases_of : Object → List (List ℕ) → List (List (List ℕ))
phases_of program opens = program.face.needs ∷ map (λ n. n ∷ []) opens

-- `answer objs log request`: where a request goes, from the objects that are loaded and all that
-- was asked before
module _ {X : Type 0} (answer : List Object → List Asked → Request → Result Found X) where
  -- a request of the run, after these: one of an object that is loaded, and it went where it goes
  pub record IsAnswered (objs : List Object) (before : List Asked) (a : Asked) : Type 0 where
    pub asker : a.request.by < count_after before
    pub found : Found
    pub found_is : answer (take (count_after before) objs) before a.request ≡ Ok found
    pub target : WentTo objs (count_after before) a.target found

  -- a part of a phase: what was loaded stays in front; the requests were asked in order up to those
  -- that are left; each object is a target
  pub record IsPart (before : Loaded) (opening : List (List ℕ)) (at : Loaded)
      (left : List Request) : Type 0 where
    pub objs : take (length before.objs) at.objs ≡ before.objs
    pub more : List Asked
    pub log : at.log ≡ before.log ++ more
    pub asked : map (λ a. a.request) more ++ left ≡ requests_of opening (length before.objs) at.objs
    pub answered : (m : ℕ) (a : Asked) → slice_get more m ≡ Some a
        → IsAnswered at.objs (before.log ++ take m more) a
    pub whole : count_after at.log ≡ length at.objs

  -- a whole phase: no request is left
  abbrev pub IsPhase : Loaded → List (List ℕ) → Loaded → Type 0
  IsPhase before opening after = IsPart before opening after []

  -- the phase stops: the next request has no target
  pub record IsStop (before : Loaded) (opening : List (List ℕ)) (at : Loaded) (stop : X) : Type 0
    where
      pub next : Request
      pub left : List Request
      pub part : IsPart before opening at (next ∷ left)
      pub stops : answer at.objs at.log next ≡ Err stop

  -- a run: the program alone, then the phase of its needs, and then one for each opened name
  abbrev pub IsRunFrom : Loaded → List (List (List ℕ)) → Loaded → Type 0
  IsRunFrom before [] after = after ≡ before
  IsRunFrom before (opening ∷ openings) after =
      (mid : Loaded) × IsPhase before opening mid × IsRunFrom mid openings after

  abbrev pub IsRun : Object → List (List ℕ) → Loaded → Type 0
  IsRun program opens after =
      IsRunFrom (start_of program) (phases_of program opens) after

  -- a run with what was loaded and asked at the end of each of its phases: of the start, and of
  -- each opened name
  abbrev pub IsEndedFrom : Loaded → List (List (List ℕ)) → Loaded → List Loaded → Type 0
  IsEndedFrom before [] after [] = after ≡ before
  IsEndedFrom before [] after (end ∷ ends) = ⊥
  IsEndedFrom before (opening ∷ openings) after [] = ⊥
  IsEndedFrom before (opening ∷ openings) after (end ∷ ends) =
      IsPhase before opening end × IsEndedFrom end openings after ends

  abbrev pub IsEndedRun : Object → List (List ℕ) → Loaded → List Loaded → Type 0
  IsEndedRun program opens after ends =
      IsEndedFrom (start_of program) (phases_of program opens) after ends

  -- a run that stops in one of its phases, where the ones before are whole
  abbrev pub IsStopFrom : Loaded → List (List (List ℕ)) → X → Type 0
  IsStopFrom before [] stop = ⊥
  IsStopFrom before (opening ∷ openings) stop =
      ((at : Loaded) × IsStop before opening at stop)
      ⊎ ((mid : Loaded) × IsPhase before opening mid × IsStopFrom mid openings stop)

  abbrev pub IsStoppedRun : Object → List (List ℕ) → X → Type 0
  IsStoppedRun program opens stop =
      IsStopFrom (start_of program) (phases_of program opens) stop

  -- the same by recursion
  abbrev pub ask : Loaded → Request → Result Loaded X
  ask s r = next (answer s.objs s.log r) (λ f. Ok (with_found s r f))

  abbrev pub ask_all : Loaded → List Request → Result Loaded X
  ask_all s [] = Ok s
  ask_all s (r ∷ rs) = next (ask s r) (λ t. ask_all t rs)

  abbrev pub ask_needs : Loaded → ℕ → Option Object → Result Loaded X
  ask_needs s i None = Ok s
  ask_needs s i (Some o) = ask_all s (map (λ n. record { by = i; name = n }) o.face.needs)

  unfoldable pub walk : ℕ → ℕ → Loaded → Result Loaded X
  walk zero i s = Ok s
  walk (suc k) i s = next (ask_needs s i (slice_get s.objs i)) (λ t. walk k (suc i) t)

  unfoldable pub phase : ℕ → Loaded → List (List ℕ) → Result Loaded X
  phase limit s opening =
      next (ask_all s (map (λ n. record { by = 0; name = n }) opening))
      (λ t. walk limit (length s.objs) t)

  abbrev pub run_from : ℕ → Loaded → List (List (List ℕ)) → Result Loaded X
  run_from limit s [] = Ok s
  run_from limit s (opening ∷ openings) =
      next (phase limit s opening) (λ t. run_from limit t openings)

  abbrev pub run : ℕ → Object → List (List ℕ) → Result Loaded X
  run limit program opens =
      run_from limit (start_of program) (phases_of program opens)

  -- what is loaded and asked at the end of each phase
  abbrev pub ends_from : ℕ → Loaded → List (List (List ℕ)) → Result (List Loaded) X
  ends_from limit s [] = Ok []
  ends_from limit s (opening ∷ openings) =
      next (phase limit s opening) (λ t. next (ends_from limit t openings) (λ ends. Ok (t ∷ ends)))

  abbrev pub run_ends : ℕ → Object → List (List ℕ) → Result (List Loaded) X
  run_ends limit program opens =
      ends_from limit (start_of program) (phases_of program opens)

  -- an answer names an object that is there, and brings none past the limit
  pub record IsSound (limit : ℕ) : Type 0 where
    pub known : (objs : List Object) (log : List Asked) (r : Request) (i : ℕ)
        → answer objs log r ≡ Ok (Known i) → i < length objs
    pub brought : (objs : List Object) (log : List Asked) (r : Request) (o : Object)
        → answer objs log r ≡ Ok (Brought o) → length objs < limit

-- the numbers, and then each further number, at its first occurrence
unfoldable pub with_numbers : List ℕ → List ℕ → List ℕ
with_numbers ks [] = ks
with_numbers ks (n ∷ ns) = with_numbers (cond (list_any (λ k. k == n) ks) ks (ks ++ n ∷ [])) ns

-- 0, 1, .. below n
unfoldable pub up_to : ℕ → List ℕ
up_to zero = []
up_to (suc n) = up_to n ++ n ∷ []

-- the lesser of two numbers, where there are any
abbrev pub lesser_of : Option ℕ → Option ℕ → Option ℕ
lesser_of None other = other
lesser_of (Some i) None = Some i
lesser_of (Some i) (Some j) = Some (min i j)

-- a name is known for an object: an earlier request of it went there, or it is the object's soname
abbrev pub is_named : Option (List ℕ) → List ℕ → Bool
is_named None n = false
is_named (Some s) n = bytes_eq s n

abbrev pub is_known : List Asked → List ℕ → ℕ → Object → Bool
is_known log n j o =
    list_any (λ a. bytes_eq a.request.name n && (a.target == j)) log || is_named o.face.soname n

-- the first object from the i-th on that passes
abbrev pub first_place : (ℕ → Object → Bool) → ℕ → List Object → Option ℕ
first_place test i [] = None
first_place test i (o ∷ os) = cond (test i o) (Some i) (first_place test (suc i) os)

-- what a search gives for a request: the object that the file which it finds would be, or why it
-- finds none
abbrev pub Search : Type 0 → Type 0
Search X = List Object → List Asked → Request → Result Object X

-- the target of a request: the first object for which the name is known; else the object with the
-- identity of the file that the search gives; else this file, where the list has room. The search
-- is a parameter
module _ {X : Type 0} (too_many : X) (limit : ℕ) (search : Search X) where
  abbrev pub by_limit : List Object → Object → Result Found X
  by_limit objs o = cond (nat_lt (length objs) limit) (Ok (Brought o)) (Err too_many)

  abbrev pub by_id : List Object → Object → Option ℕ → Result Found X
  by_id objs o None = by_limit objs o
  by_id objs o (Some j) = Ok (Known j)

  abbrev pub by_search : List Object → Result Object X → Result Found X
  by_search objs (Err r) = Err r
  by_search objs (Ok o) = by_id objs o (first_place (λ j x. bytes_eq x.id o.id) 0 objs)

  abbrev pub by_name : List Object → List Asked → Request → Option ℕ → Result Found X
  by_name objs log r None = by_search objs (search objs log r)
  by_name objs log r (Some j) = Ok (Known j)

  unfoldable pub found_for : List Object → List Asked → Request → Result Found X
  found_for objs log r = by_name objs log r (first_place (is_known log r.name) 0 objs)

-- each request goes to an object, not the program, of which it is the key
pub record GoesByKey (key : Object → List ℕ) (objs : List Object) (log : List Asked) : Type 0 where
  pub by_key : (m : ℕ) (a : Asked) → slice_get log m ≡ Some a
      → (o : Object) × (slice_get objs a.target ≡ Some o) × (0 < a.target)
      × (key o ≡ a.request.name)

-- what a file of another world has in common with an object: the needs, no other soname than its
-- key, and its key finds it
pub record IsAlike {X : Type 0} (search : Search X) (before : List Object) (key : List ℕ)
    (o there : Object) : Type 0 where
  pub needs : there.face.needs ≡ o.face.needs
  pub soname : (s : List ℕ) → there.face.soname ≡ Some s → s ≡ key
  pub found : (log : List Asked) (r : Request) → r.name ≡ key → search before log r ≡ Ok there

pub record AreAlike {X : Type 0} (search : Search X) (key : Object → List ℕ)
    (objs objs_there : List Object) : Type 0 where
  pub count : length objs_there ≡ length objs
  pub program : (o there : Object) → slice_get objs 0 ≡ Some o → slice_get objs_there 0 ≡ Some there
      → (there.face.needs ≡ o.face.needs) × (there.face.soname ≡ None)
  pub others : (j : ℕ) (o there : Object) → 0 < j → slice_get objs j ≡ Some o
      → slice_get objs_there j ≡ Some there → IsAlike search (take j objs_there) (key o) o there
  pub ids : (i j : ℕ) (x y : Object) → slice_get objs_there i ≡ Some x
      → slice_get objs_there j ≡ Some y → bytes_eq x.id y.id ≡ true → i ≡ j
