-- What a load in progress stands for from one phase to the next.
use Rattle.std.proofs.Common.{◌≡◌, ◌∙◌, sym, ap, refl, ℕ, zero, suc, ◌+◌, ◌≤◌, ◌<◌, List, [], ◌∷◌, ◌++◌, Bool, true, false, cond, Some, None, Result, Ok, Err, length, take, drop, map, slice_get, get_or, arith, inl, inr, drop-cons, nat_lt, ◌-◌}
use Rattle.std.specs.List.{position_from}
use Rattle.std.specs.Option.{unwrap_or}
use Rattle.std.proofs.Math.Seq.{take-suc}
use Rattle.std.proofs.lemmas.Bool.{cases_lt, lt-ltb, le-ltb}
use Rattle.std.proofs.lemmas.List.{map-append, take-append-drop}
use Rattle.std.proofs.lemmas.Option.{slice_get_within}
use Rattle.load_model.specs.Candidates.{path_by}
use Rattle.load_model.specs.LoadList.{Asked, Brought, Found, Known, Loaded, Object, Request, ends_from, next, phase, phases_of, run_from, start_of, walk, with_found}
use Rattle.load_model.specs.Runs.{AreObjects, phase_of, start_count}
use Rattle.load_model.specs.declared.faces.Face.{Face}
use Rattle.load_model.specs.declared.runs.Obj.{Obj}
use Rattle.load_model.proofs.Counts.{slice_get_left}
use Rattle.load_model.proofs.History.{at_second}
use Rattle.load_model.proofs.Machine.{next_ok, slice_get-drop}
use Rattle.load_model.proofs.Places.{slice_get-take, slice_get_front}
use Rattle.load_order.specs.Ending.{AreNoted, StaysInFront, WentFor}
use Rattle.load_requests.specs.Standing.{asked_to, needs_asked, number_of, start_path}

pub some_at : {X : Type 0} (xs : List X) (j : ℕ) → j < length xs → (x : X) × (slice_get xs j ≡ Some x)
some_at [] j h = absurd (omega arith)
some_at (x ∷ xs) zero h = (x, refl)
some_at (x ∷ xs) (suc j) h = some_at xs j (omega arith)

pub in_longer : {X : Type 0} (xs ys : List X) (j : ℕ) (x : X) → take (length xs) ys ≡ xs → slice_get xs j ≡ Some x → slice_get ys j ≡ Some x
in_longer xs ys j x front h = (slice_get-take (length xs) ys j x (ap (λ zs. slice_get zs j) front ∙ h)).1

pub at_end : {X : Type 0} (xs : List X) (x : X) → slice_get (xs ++ x ∷ []) (length xs) ≡ Some x
at_end [] x = refl
at_end (y ∷ xs) x = at_end xs x

-- an object is known by the code's copy of it, where the faces stay at their places
same_copy : (before after : List Face) (x : Obj) (o p : Object) → take (length before) after ≡ before → (o.path ≡ x.path) × (o.id ≡ x.id) × (slice_get before x.face ≡ Some o.face) → (p.path ≡ x.path) × (p.id ≡ x.id) × (slice_get after x.face ≡ Some p.face) → p ≡ o
same_copy before after x o p faces a b =
    let seen : Some p.face ≡ Some o.face = ◌∙◌ {b = slice_get after x.face} (sym b.2) (in_longer before after x.face o.face faces a.2) in
    let face : p.face ≡ o.face = cc in
    let path : p.path ≡ o.path = ◌∙◌ {b = x.path} b.0 (sym a.0) in
    let id : p.id ≡ o.id = ◌∙◌ {b = x.id} b.1 (sym a.1) in
    ap (λ t. record { path = t; id = p.id; face = p.face }) path ∙ ap (λ t. record { path = o.path; id = t; face = p.face }) id ∙ ap (λ t. record { path = o.path; id = o.id; face = t }) face

same_there : (before after : List Face) (olds news : List Obj) (os ps : List Object) → take (length before) after ≡ before → take (length olds) news ≡ olds → AreObjects before olds os → AreObjects after news ps → (j : ℕ) (o : Object) (x : Obj) (p : Object) → slice_get os j ≡ Some o → slice_get olds j ≡ Some x → slice_get ps j ≡ Some p → slice_get ps j ≡ Some o
same_there before after olds news os ps faces front old there j o x p h at got =
    let same : p ≡ o = same_copy before after x o p faces (old.each j x o at h) (there.each j x p (in_longer olds news j x front at) got) in
    cc

-- the objects so far stay the same where the faces stay at their places
pub same_object : (before after : List Face) (olds news : List Obj) (os ps : List Object) → take (length before) after ≡ before → take (length olds) news ≡ olds → length olds ≤ length news → AreObjects before olds os → AreObjects after news ps → (j : ℕ) (o : Object) → slice_get os j ≡ Some o → slice_get ps j ≡ Some o
same_object before after olds news os ps faces front longer old there j o h =
    let within : j < length os = slice_get_within os j o h in
    let size = old.count in
    let more = there.count in
    let x = some_at olds j (omega arith) in
    let p = some_at ps j (omega arith) in
    same_there before after olds news os ps faces front old there j o x.0 p.0 h x.1 p.1

-- the requests for the needs of objects
asked_in : (k : ℕ) (ns : List (List ℕ)) (ts : List ℕ) (e : ℕ) (n : List ℕ) (t : ℕ) → slice_get ns e ≡ Some n → slice_get ts e ≡ Some t → WentFor (asked_to k ns ts) k n t
asked_in k [] ts e n t h g = cc
asked_in k (x ∷ ns) [] e n t h g = cc
asked_in k (x ∷ ns) (y ∷ ts) zero n t h g =
    let a : x ≡ n = cc in
    let b : y ≡ t = cc in
    (0, ap (λ z. Some (record { request = record { by = k; name = z }; target = y })) a ∙ ap (λ z. Some (record { request = record { by = k; name = n }; target = z })) b)
asked_in k (x ∷ ns) (y ∷ ts) (suc e) n t h g = let r = asked_in k ns ts e n t h g in (suc r.0, r.1)

went_as : (log : List Asked) (i j : ℕ) (n : List ℕ) (t : ℕ) → i ≡ j → WentFor log i n t → WentFor log j n t
went_as log i j n t same went = (went.0, went.1 ∙ ap (λ k. Some (record { request = record { by = k; name = n }; target = t })) same)

pub need_in : (i : ℕ) (os : List Object) (tss : List (List ℕ)) (k : ℕ) (o : Object) (ts : List ℕ) → slice_get os k ≡ Some o → slice_get tss k ≡ Some ts → (e : ℕ) (n : List ℕ) (t : ℕ) → slice_get o.face.needs e ≡ Some n → slice_get ts e ≡ Some t → WentFor (needs_asked i os tss) (i + k) n t
need_in i [] tss k o ts h g e n t p q = cc
need_in i (x ∷ os) [] k o ts h g e n t p q = cc
need_in i (x ∷ os) (y ∷ tss) zero o ts h g e n t p q =
    let a : x ≡ o = cc in
    let b : y ≡ ts = cc in
    let z : i ≡ i + 0 = omega arith in
    let r = asked_in i x.face.needs y e n t (ap (λ (w : Object). slice_get w.face.needs e) a ∙ p) (ap (λ w. slice_get w e) b ∙ q) in
    went_as (needs_asked i (x ∷ os) (y ∷ tss)) i (i + 0) n t z (r.0, slice_get_left (asked_to i x.face.needs y) (needs_asked (suc i) os tss) r.0 _ r.1)
need_in i (x ∷ os) (y ∷ tss) (suc k) o ts h g e n t p q =
    let r = need_in (suc i) os tss k o ts h g e n t p q in
    let w = at_second (asked_to i x.face.needs y) (needs_asked (suc i) os tss) r.0 (record { request = record { by = suc i + k; name = n }; target = t }) r.1 in
    let up : suc i + k ≡ i + suc k = omega arith in
    went_as (needs_asked i (x ∷ os) (y ∷ tss)) (suc i + k) (i + suc k) n t up (w.0, w.1)

-- what was loaded and asked stays
pub kept_on : (a b c : Loaded) → StaysInFront a b → StaysInFront b c → StaysInFront a c
kept_on a b c p q = record { objs = λ j o h. q.objs j o (p.objs j o h); log = λ m x h. q.log m x (p.log m x h) }

pub kept_found : (s : Loaded) (r : Request) (f : Found) → StaysInFront s (with_found s r f)
kept_found s r (Known i) = record { objs = λ j o h. h; log = λ m a h. slice_get_left s.log (record { request = r; target = i } ∷ []) m a h }
kept_found s r (Brought o) = record { objs = λ j x h. slice_get_left s.objs (o ∷ []) j x h; log = λ m a h. slice_get_left s.log (record { request = r; target = length s.objs } ∷ []) m a h }

pub kept_log : (a b : Loaded) (more : List Asked) → ((j : ℕ) (o : Object) → slice_get a.objs j ≡ Some o → slice_get b.objs j ≡ Some o) → b.log ≡ a.log ++ more → StaysInFront a b
kept_log a b more objs log = record { objs = objs; log = λ m x h. ap (λ xs. slice_get xs m) log ∙ slice_get_left a.log more m x h }

pub went_found : (s : Loaded) (by : ℕ) (n : List ℕ) (t : ℕ) (f : Found) → t ≡ number_of s f → WentFor (with_found s (record { by = by; name = n }) f).log by n t
went_found s by n t (Known i) e = (length s.log, at_end s.log (record { request = record { by = by; name = n }; target = i }) ∙ ap (λ k. Some (record { request = record { by = by; name = n }; target = k })) (sym e))
went_found s by n t (Brought o) e = (length s.log, at_end s.log (record { request = record { by = by; name = n }; target = length s.objs }) ∙ ap (λ k. Some (record { request = record { by = by; name = n }; target = k })) (sym e))

pub kept_start : (a b : Loaded) → 0 < length a.objs → StaysInFront a b → start_path b ≡ start_path a
kept_start a b some kept =
    let x = some_at a.objs 0 some in
    ap path_by (kept.objs 0 x.0 x.1 ∙ sym x.1)

pub noted_kept : (a b : Loaded) (targets : List (List ℕ)) → length targets ≤ length a.objs → StaysInFront a b → AreNoted a targets → AreNoted b targets
noted_kept a b targets le kept noted k o ts h g e n t p q =
    let within : k < length targets = slice_get_within targets k ts g in
    let x = some_at a.objs k (omega arith) in
    let both : Some x.0 ≡ Some o = sym (kept.objs k x.0 x.1) ∙ h in
    let same : x.0 ≡ o = cc in
    let r = noted k o ts (x.1 ∙ ap Some same) g e n t p q in
    (r.0, kept.log r.0 _ r.1)

-- after a walk
pub noted_walk : (a b : Loaded) (olds news : List (List ℕ)) → length olds ≤ length a.objs → StaysInFront a b → take (length olds) news ≡ olds → b.log ≡ a.log ++ needs_asked (length olds) (drop (length olds) b.objs) (drop (length olds) news) → AreNoted a olds → AreNoted b news
noted_walk a b olds news le kept front log noted k o ts h g e n t p q =
    let c : ℕ = length olds in
    elim (cases_lt k c) [
      | inl less ↦
          let old : slice_get olds k ≡ Some ts = ap (λ xs. slice_get xs k) (sym front) ∙ slice_get_front c news k ts less g in
          noted_kept a b olds le kept noted k o ts h old e n t p q
      | inr past ↦
          let d : ℕ = k - c in
          let at : c + d ≡ k = omega arith in
          let r = need_in c (drop c b.objs) (drop c news) d o ts (slice_get-drop c b.objs d ∙ ap (slice_get b.objs) at ∙ h) (slice_get-drop c news d ∙ ap (slice_get news) at ∙ g) e n t p q in
          let w = at_second a.log (needs_asked c (drop c b.objs) (drop c news)) r.0 (record { request = record { by = c + d; name = n }; target = t }) r.1 in
          (w.0, ap (λ xs. slice_get xs w.0) log ∙ w.1 ∙ ap (λ j. Some (record { request = record { by = j; name = n }; target = t })) at)
    ]

-- the recursion of a phase that opens a name, and of runs with one opening more
module _ {X : Type 0} (answer : List Object → List Asked → Request → Result Found X) (limit : ℕ) where
  pub phase_ok : (s : Loaded) (n : List ℕ) (f : Found) (r : Result Loaded X) → answer s.objs s.log (record { by = 0; name = n }) ≡ Ok f → walk answer limit (length s.objs) (with_found s (record { by = 0; name = n }) f) ≡ r → phase answer limit s (n ∷ []) ≡ r
  unfolding phase
  phase_ok s n f r h g =
      ap (λ x. next (next (next x (λ f. Ok (with_found s (record { by = 0; name = n }) f))) (λ t. Ok t)) (λ t. walk answer limit (length s.objs) t)) h ∙ g

  pub phase_err : (s : Loaded) (n : List ℕ) (e : X) → answer s.objs s.log (record { by = 0; name = n }) ≡ Err e → phase answer limit s (n ∷ []) ≡ Err e
  unfolding phase
  phase_err s n e h =
      ap (λ x. next (next (next x (λ f. Ok (with_found s (record { by = 0; name = n }) f))) (λ t. Ok t)) (λ t. walk answer limit (length s.objs) t)) h

  pub first_phase : (program : Object) → phase answer limit (start_of program) program.face.needs ≡ walk answer (suc limit) 0 (start_of program)
  unfolding phase walk
  first_phase program = refl

  pub run_step : (os : List (List (List ℕ))) (s t u : Loaded) (o : List (List ℕ)) → run_from answer limit s os ≡ Ok t → phase answer limit t o ≡ Ok u → run_from answer limit s (os ++ o ∷ []) ≡ Ok u
  run_step [] s t u o h g =
      let same : s ≡ t = cc in
      ap (λ r. next r (λ x. Ok x)) (ap (λ x. phase answer limit x o) same ∙ g)
  run_step (x ∷ os) s t u o h g =
      let w = next_ok (phase answer limit s x) (λ y. run_from answer limit y os) t h in
      ap (λ r. next r (λ y. run_from answer limit y (os ++ o ∷ []))) w.1 ∙ run_step os w.0 t u o w.2 g

  pub run_stop : (os rest : List (List (List ℕ))) (s t : Loaded) (o : List (List ℕ)) (e : X) → run_from answer limit s os ≡ Ok t → phase answer limit t o ≡ Err e → run_from answer limit s (os ++ o ∷ rest) ≡ Err e
  run_stop [] rest s t o e h g =
      let same : s ≡ t = cc in
      ap (λ r. next r (λ y. run_from answer limit y rest)) (ap (λ x. phase answer limit x o) same ∙ g)
  run_stop (x ∷ os) rest s t o e h g =
      let w = next_ok (phase answer limit s x) (λ y. run_from answer limit y os) t h in
      ap (λ r. next r (λ y. run_from answer limit y (os ++ o ∷ rest))) w.1 ∙ run_stop os rest w.0 t o e w.2 g

  pub ends_step : (os : List (List (List ℕ))) (s t u : Loaded) (o : List (List ℕ)) (es : List Loaded) → run_from answer limit s os ≡ Ok t → ends_from answer limit s os ≡ Ok es → phase answer limit t o ≡ Ok u → ends_from answer limit s (os ++ o ∷ []) ≡ Ok (es ++ u ∷ [])
  ends_step [] s t u o es h k g =
      let same : s ≡ t = cc in
      let none : [] ≡ es = cc in
      ap (λ r. next r (λ x. Ok (x ∷ []))) (ap (λ x. phase answer limit x o) same ∙ g) ∙ ap (λ xs. Ok (xs ++ u ∷ [])) none
  ends_step (x ∷ os) s t u o es h k g =
      let w = next_ok (phase answer limit s x) (λ y. run_from answer limit y os) t h in
      let v = next_ok (phase answer limit s x) (λ y. next (ends_from answer limit y os) (λ ends. Ok (y ∷ ends))) es k in
      let z = next_ok (ends_from answer limit v.0 os) (λ ends. Ok (v.0 ∷ ends)) es v.2 in
      let both : Ok w.0 ≡ Ok v.0 = sym w.1 ∙ v.1 in
      let mid : w.0 ≡ v.0 = cc in
      let rest = ends_step os v.0 t u o z.0 (ap (λ y. run_from answer limit y os) (sym mid) ∙ w.2) z.1 g in
      let all : v.0 ∷ z.0 ≡ es = let q = z.2 in cc in
      ap (λ r. next r (λ y. next (ends_from answer limit y (os ++ o ∷ [])) (λ ends. Ok (y ∷ ends)))) v.1
      ∙ ap (λ r. next r (λ ends. Ok (v.0 ∷ ends))) rest ∙ ap (λ xs. Ok (xs ++ u ∷ [])) all

-- the phases of the openings so far, and the next
pub phases_more : (program : Object) (opens : List (List ℕ)) (i : ℕ) → i < length opens → phases_of program (take (i + 1) opens) ≡ phases_of program (take i opens) ++ (get_or opens i [] ∷ []) ∷ []
phases_more program opens i less =
    let up : i + 1 ≡ suc i = omega arith in
    ap (phases_of program) (ap (λ j. take j opens) up ∙ take-suc opens i [] less) ∙ ap (λ xs. program.face.needs ∷ xs) (map-append (λ n. n ∷ []) (take i opens) (get_or opens i [] ∷ []))

pub phases_rest : (program : Object) (opens : List (List ℕ)) (i : ℕ) → i < length opens → phases_of program opens ≡ phases_of program (take i opens) ++ (get_or opens i [] ∷ []) ∷ map (λ n. n ∷ []) (drop (suc i) opens)
phases_rest program opens i less =
    ap (phases_of program) (sym (take-append-drop i opens) ∙ ap (λ xs. take i opens ++ xs) (drop-cons opens i [] less))
    ∙ ap (λ xs. program.face.needs ∷ xs) (map-append (λ n. n ∷ []) (take i opens) (get_or opens i [] ∷ drop (suc i) opens))

-- the number of a phase, with one end more
front_place : {X : Type 0} (test : X → Bool) (i : ℕ) (xs ys : List X) (k : ℕ) (x : X) → slice_get xs k ≡ Some x → test x ≡ true → position_from test i (xs ++ ys) ≡ position_from test i xs
front_place test i [] ys k x h t = cc
front_place test i (y ∷ xs) ys zero x h t =
    let same : y ≡ x = cc in
    let passes : test y ≡ true = ap test same ∙ t in
    ap (λ b. cond b (Some i) (position_from test (i + 1) (xs ++ ys))) passes ∙ sym (ap (λ b. cond b (Some i) (position_from test (i + 1) xs)) passes)
front_place test i (y ∷ xs) ys (suc k) x h t = ap (λ r. cond (test y) (Some i) r) (front_place test (i + 1) xs ys k x h t)

last_place : {X : Type 0} (test : X → Bool) (i : ℕ) (xs : List X) (x : X) → ((k : ℕ) (y : X) → slice_get xs k ≡ Some y → test y ≡ false) → test x ≡ true → position_from test i (xs ++ x ∷ []) ≡ Some (i + length xs)
last_place test i [] x none t = let z : i ≡ i + 0 = omega arith in ap (λ b. cond b (Some i) None) t ∙ ap Some z
last_place test i (y ∷ xs) x none t =
    let up : i + 1 + length xs ≡ i + suc (length xs) = omega arith in
    ap (λ b. cond b (Some i) (position_from test (i + 1) (xs ++ x ∷ []))) (none 0 y refl) ∙ last_place test (i + 1) xs x (λ k z h. none (suc k) z h) t ∙ ap Some up

pub phase_old : (ends : List Loaded) (end last : Loaded) (p j : ℕ) → slice_get ends p ≡ Some last → j < length last.objs → phase_of (ends ++ end ∷ []) j ≡ phase_of ends j
unfolding phase_of
phase_old ends end last p j h less = ap (λ o. unwrap_or o 0) (front_place (λ (e : Loaded). nat_lt j (length e.objs)) 0 ends (end ∷ []) p last h (lt-ltb j (length last.objs) less))

pub phase_new : (ends : List Loaded) (end : Loaded) (j count : ℕ) → ((k : ℕ) (e : Loaded) → slice_get ends k ≡ Some e → length e.objs ≤ count) → count ≤ j → j < length end.objs → phase_of (ends ++ end ∷ []) j ≡ length ends
unfolding phase_of
phase_new ends end j count most past less =
    let z : 0 + length ends ≡ length ends = omega arith in
    ap (λ o. unwrap_or o 0) (last_place (λ (e : Loaded). nat_lt j (length e.objs)) 0 ends end (λ k e h. let m = most k e h in le-ltb j (length e.objs) (omega arith)) (lt-ltb j (length end.objs) less)) ∙ z

pub start_more : (ends : List Loaded) (end : Loaded) (n : ℕ) → length ends ≡ suc n → start_count (ends ++ end ∷ []) ≡ start_count ends
start_more [] end n h = absurd (omega arith)
start_more (e ∷ ends) end n h = refl
