-- Versions are met there: the file of an ask is the object of its new name, which is known by then.
use Rattle.std.proofs.Common.{◌≡◌, ◌∙◌, sym, ap, refl, ℕ, zero, suc, ◌+◌, ◌≤◌, ◌<◌, List, [], ◌∷◌, Bool, true, false, cond, Option, Some, None, Result, length, take, map, filter, slice_get, zip, arith, inl, inr, nat_le, ◌==◌, ◌&&◌}
use Rattle.std.specs.List.{enumerate_from, flat_map, list_any}
use Rattle.std.specs.Option.{option_map, unwrap_or}
use Rattle.std.specs.Str.{bytes_eq}
use Rattle.std.proofs.lemmas.Bool.{and_from, and_parts, cases_lt, eq-eqb, eqb-true, false_from_ne_true, le-leb, or_cases, or_right}
use Rattle.std.proofs.lemmas.Cmp.{nat_list_eq_equiv}
use Rattle.std.proofs.lemmas.List.{take_all}
use Rattle.std.proofs.lemmas.Option.{slice_get_within}
use Rattle.load_model.specs.LoadList.{Object, Request, Asked, Found, Loaded, Search, IsRun, IsEndedRun, count_after, found_for, is_named, up_to}
use Rattle.load_model.specs.Runs.{face_at, need_targets, needs_at, phase_of, target_in}
use Rattle.load_model.specs.VersionCheck.{Unmet, UnmetAsk, VersionLacking, asked_by, asks_in, defs_in, first_unmet, has_defined, is_known_by, loaded_by, needs_in, needs_to, phase_at, soname_in, unmet, unmet_at, unmet_by, unmet_of, version_file_of}
use Rattle.load_model.specs.declared.asks.Ask.{Ask}
use Rattle.load_model.specs.declared.faces.Face.{Face}
use Rattle.load_model.specs.declared.runs.Run.{Run}
use Rattle.load_model.proofs.AskedNeeds.{get_map, map_get, all_asked, opened_asked}
use Rattle.load_model.proofs.Counts.{slice_get-append, slice_get_left}
use Rattle.load_model.proofs.Ended.{run_of_ends}
use Rattle.load_model.proofs.History.{IsHistory, brought_by, at_second, in_front, target_count}
use Rattle.load_model.proofs.LesserLemmas.{find-filter, find_first}
use Rattle.load_model.proofs.NumberLemmas.{length-up_to, number_at}
use Rattle.load_model.proofs.OneRun.{there}
use Rattle.load_model.proofs.Places.{any_here, any_place, slice_get-take, slice_get_front}
use Rattle.load_model.proofs.TwoWorlds.{named_some, same_bytes}
use Rattle.moved_runs.specs.Moved.{AreMoved, new_name, new_names}
use Rattle.moved_runs.proofs.ListLemmas.{all_none, flat_in, flat_out, none_first, numbered_in, numbered_out}
use Rattle.moved_runs.proofs.MovedLemmas.{run_hist}
use Rattle.moved_runs.proofs.MovedPartLemmas.{end_grown, one_target}
use Rattle.moved_runs.proofs.PhaseLemmas.{end_asked, end_whole, ends_grow, last_end, phase_at_end, phase_le, request_of}

-- ---- two lists side by side

zip_out : {A B : Type 0} (xs : List A) (ys : List B) (e : ℕ) (p : A × B) → slice_get (zip xs ys) e ≡ Some p → (slice_get xs e ≡ Some p.0) × (slice_get ys e ≡ Some p.1)
zip_out [] ys e p h = cc
zip_out (x ∷ xs) [] e p h = cc
zip_out {A = A} {B = B} (x ∷ xs) (y ∷ ys) zero p h = let s : (x, y) ≡ p = cc in (ap (λ (q : A × B). Some q.0) s, ap (λ (q : A × B). Some q.1) s)
zip_out (x ∷ xs) (y ∷ ys) (suc e) p h = zip_out xs ys e p h

zip_in : {A B : Type 0} (xs : List A) (ys : List B) (e : ℕ) (x : A) (y : B) → slice_get xs e ≡ Some x → slice_get ys e ≡ Some y → slice_get (zip xs ys) e ≡ Some (x, y)
zip_in [] ys e x y g h = cc
zip_in (z ∷ xs) [] e x y g h = cc
zip_in (z ∷ xs) (w ∷ ys) zero x y g h =
    let s : z ≡ x = cc in
    let t : w ≡ y = cc in
    ap (λ a. Some (a, w)) s ∙ ap (λ b. Some (x, b)) t
zip_in (z ∷ xs) (w ∷ ys) (suc e) x y g h = zip_in xs ys e x y g h

filter_by : {A : Type 0} (test : A → Bool) (y : A) (ys : List A) (i : ℕ) (x : A) (b : Bool) → test y ≡ b → slice_get (cond b (y ∷ filter test ys) (filter test ys)) i ≡ Some x → ((k : ℕ) → slice_get (filter test ys) k ≡ Some x → (j : ℕ) × (slice_get ys j ≡ Some x) × (test x ≡ true)) → (j : ℕ) × (slice_get (y ∷ ys) j ≡ Some x) × (test x ≡ true)
filter_by test y ys zero x true e h rest = let s : y ≡ x = cc in (0, ap Some s, ap test (sym s) ∙ e)
filter_by test y ys (suc i) x true e h rest = let w = rest i h in (suc w.0, w.1, w.2)
filter_by test y ys i x false e h rest = let w = rest i h in (suc w.0, w.1, w.2)

pub filter_out : {A : Type 0} (test : A → Bool) (xs : List A) (i : ℕ) (x : A) → slice_get (filter test xs) i ≡ Some x → (j : ℕ) × (slice_get xs j ≡ Some x) × (test x ≡ true)
filter_out test [] i x h = cc
filter_out test (y ∷ ys) i x h = filter_by test y ys i x (test y) refl h (λ k g. filter_out test ys k x g)

filter_in_by : {A : Type 0} (test : A → Bool) (y : A) (ys : List A) (i : ℕ) (x : A) (b : Bool) → slice_get (filter test ys) i ≡ Some x → (k : ℕ) × (slice_get (cond b (y ∷ filter test ys) (filter test ys)) k ≡ Some x)
filter_in_by test y ys i x true h = (suc i, h)
filter_in_by test y ys i x false h = (i, h)

filter_in : {A : Type 0} (test : A → Bool) (xs : List A) (j : ℕ) (x : A) → slice_get xs j ≡ Some x → test x ≡ true → (i : ℕ) × (slice_get (filter test xs) i ≡ Some x)
filter_in test [] j x g t = cc
filter_in test (y ∷ ys) zero x g t =
    let s : y ≡ x = cc in
    (0, ap (λ b. slice_get (cond b (y ∷ filter test ys) (filter test ys)) 0) (ap test s ∙ t) ∙ ap Some s)
filter_in test (y ∷ ys) (suc j) x g t = let w = filter_in test ys j x g t in filter_in_by test y ys w.0 x (test y) w.1

-- what a number up to a bound is
pub number_below : (n i j : ℕ) → slice_get (up_to n) i ≡ Some j → j < n
number_below n i j h =
    let within : i < length (up_to n) = slice_get_within (up_to n) i j h in
    let size = length-up_to n in
    let at : slice_get (up_to n) i ≡ Some i = number_at n i (omega arith) in
    let one : Some i ≡ Some j = sym at ∙ h in
    let same : i ≡ j = cc in
    omega arith

-- ---- asks that are not met

module _ (faces : List Face) (run : Run) where
  abbrev numbered_unmet : ℕ → (ℕ × Ask) → Option UnmetAsk
  numbered_unmet j numbered = unmet_at faces run j numbered.0 numbered.1

  abbrev because : ℕ → ℕ → Unmet → UnmetAsk
  because j k why = record { obj = j; ask = k; why = why }

  no_why : (j k : ℕ) (o : Option Unmet) → option_map (because j k) o ≡ None → o ≡ None
  no_why j k None h = refl
  no_why j k (Some why) h = cc

  -- where none is first, each is met
  pub each_met : first_unmet faces run ≡ None → (j k : ℕ) (face : Face) (ask : Ask) → j < length run.objs → face_at faces run j ≡ Some face → slice_get face.asks k ≡ Some ask → unmet faces run j ask ≡ None
  unfolding first_unmet
  each_met none j k face ask below f g =
      let numbered : slice_get (enumerate_from 0 (asks_in (face_at faces run j))) k ≡ Some (0 + k, ask) = ap (λ o. slice_get (enumerate_from 0 (asks_in o)) k) f ∙ numbered_in 0 face.asks k ask g in
      let here = map_get (numbered_unmet j) (enumerate_from 0 (asks_in (face_at faces run j))) k (0 + k, ask) numbered in
      let w = flat_in (unmet_of faces run) (up_to (length run.objs)) j k j (unmet_at faces run j (0 + k) ask) (number_at (length run.objs) j below) here in
      no_why j (0 + k) (unmet faces run j ask) (all_none (flat_map (unmet_of faces run) (up_to (length run.objs))) none w.0 (unmet_at faces run j (0 + k) ask) w.1)

  nothing : (k : ℕ) → ◌≡◌ {A = Option Ask} (slice_get [] k) None
  nothing k = refl

  asks_at : (j : ℕ) (o : Option Face) (k : ℕ) (ask : Ask) → face_at faces run j ≡ o → slice_get (asks_in (face_at faces run j)) k ≡ Some ask → (face : Face) × (face_at faces run j ≡ Some face) × (slice_get face.asks k ≡ Some ask)
  asks_at j None k ask e h = let no : None ≡ Some ask = sym (ap (λ f. slice_get (asks_in f) k) e ∙ nothing k) ∙ h in cc
  asks_at j (Some face) k ask e h = (face, e, ap (λ f. slice_get (asks_in f) k) (sym e) ∙ h)

  -- where each is met, none is first
  pub none_unmet : ((j k : ℕ) (face : Face) (ask : Ask) → j < length run.objs → face_at faces run j ≡ Some face → slice_get face.asks k ≡ Some ask → unmet faces run j ask ≡ None) → first_unmet faces run ≡ None
  unfolding first_unmet
  none_unmet met =
      none_first (flat_map (unmet_of faces run) (up_to (length run.objs))) (λ i x g.
      let w = flat_out (unmet_of faces run) (up_to (length run.objs)) i x g in
      let v = get_map (numbered_unmet w.1) (enumerate_from 0 (asks_in (face_at faces run w.1))) w.2 x w.4 in
      let n = numbered_out 0 (asks_in (face_at faces run w.1)) w.2 v.0 v.1 in
      let f = asks_at w.1 (face_at faces run w.1) w.2 v.0.1 refl n.1 in
      v.2 ∙ ap (option_map (because w.1 v.0.0)) (met w.1 w.2 f.0 v.0.1 (number_below (length run.objs) w.0 w.1 w.3) f.1 f.2))

-- ---- the file of an ask there

module _ {X : Type 0} (too_many : X) (limit : ℕ) (here search_there : Search X) (name_of : ℕ → List ℕ) (program : Object) (opens : List (List ℕ)) (loaded : Loaded) (ends : List Loaded) (objs_there : List Object) (ended : IsEndedRun (found_for too_many limit here) program opens loaded ends) (moved : AreMoved name_of search_there loaded objs_there) where
  abbrev answer : List Object → List Asked → Request → Result Found X
  answer = found_for too_many limit here

  abbrev start : Loaded
  start = record { objs = program ∷ []; log = [] }

  abbrev openings : List (List (List ℕ))
  openings = program.face.needs ∷ map (λ n. n ∷ []) opens

  is_run : IsRun (found_for too_many limit here) program opens loaded
  is_run = run_of_ends (found_for too_many limit here) openings start loaded ends ended

  hist : IsHistory (found_for too_many limit here) loaded.objs loaded.log
  hist = run_hist too_many too_many limit here search_there name_of program program opens loaded objs_there is_run

  targets_one : (m : ℕ) (a : Asked) → slice_get loaded.log m ≡ Some a → target_in loaded.log a.request.name ≡ a.target
  targets_one m a g = one_target too_many limit here search_there name_of program opens loaded objs_there is_run moved m a g

  -- what is asked for goes to an object other than the program
  abbrev GoesSomewhere : List ℕ → Type 0
  GoesSomewhere n = (0 < target_in loaded.log n) × (target_in loaded.log n < length loaded.objs)

  goes_to : (n : List ℕ) (m : ℕ) (a : Asked) → slice_get loaded.log m ≡ Some a → a.request.name ≡ n → GoesSomewhere n
  goes_to n m a g e =
      let at : target_in loaded.log n ≡ a.target = ap (target_in loaded.log) (sym e) ∙ targets_one m a g in
      let some = moved.never m a g in
      let inside = target_count loaded.log m a g in
      let all = hist.whole in
      (omega arith, omega arith)

  need_goes : (k : ℕ) (o : Object) (e : ℕ) (n : List ℕ) → slice_get loaded.objs k ≡ Some o → slice_get o.face.needs e ≡ Some n → GoesSomewhere n
  need_goes k o e n g h = let a = (all_asked (found_for too_many limit here) program opens loaded is_run).asked k o g e n h in goes_to n a.0 a.1 a.2 (ap (λ (r : Request). r.name) a.3)

  opened_goes : (k : ℕ) (n : List ℕ) → slice_get opens k ≡ Some n → GoesSomewhere n
  opened_goes k n g = let a = opened_asked (found_for too_many limit here) program opens loaded is_run k n g in goes_to n a.0 a.1 a.2 (ap (λ (r : Request). r.name) a.3)

  -- ---- phases

  pub in_end : (t : ℕ) → t < length loaded.objs → (u : Loaded) × (slice_get ends (phase_of ends t) ≡ Some u) × (t < length u.objs)
  in_end t below =
      let w = last_end (found_for too_many limit here) program.face.needs (map (λ n. n ∷ []) opens) start loaded ends ended in
      phase_at_end ends t w.0 loaded w.1 below

  -- a need goes to an object of the same phase, or of one before it
  pub need_phase : (j k e : ℕ) → j < length loaded.objs → slice_get (need_targets loaded j) e ≡ Some k → (k < length loaded.objs) × (0 < k) × (phase_of ends k ≤ phase_of ends j)
  need_phase j k e below g =
      let o = there loaded.objs j below in
      let w = get_map (target_in loaded.log) o.0.face.needs e k (ap (λ x. slice_get (map (target_in loaded.log) (needs_at x)) e) (sym o.1) ∙ g) in
      let somewhere = need_goes j o.0 e w.0 o.1 w.1 in
      let u = in_end j below in
      let grown = end_grown (found_for too_many limit here) openings start loaded ends ended (phase_of ends j) u.0 u.1 in
      let early : slice_get u.0.objs j ≡ Some o.0 = ap (λ os. slice_get os j) (sym grown.objs) ∙ slice_get_front (length u.0.objs) loaded.objs j o.0 u.2 o.1 in
      let asked = (end_asked (found_for too_many limit here) program opens loaded ends ended (phase_of ends j) u.0 u.1).asked j o.0 early e w.0 w.1 in
      let front = in_front u.0.log grown.more asked.0 asked.1 asked.2 in
      let stands : slice_get loaded.log asked.0 ≡ Some asked.1 = ap (λ xs. slice_get xs asked.0) grown.log ∙ front.0 in
      let one : k ≡ asked.1.target = w.2 ∙ ap (target_in loaded.log) (sym (ap (λ (r : Request). r.name) asked.3)) ∙ targets_one asked.0 asked.1 stands in
      let inside = target_count u.0.log asked.0 asked.1 asked.2 in
      let whole = end_whole (found_for too_many limit here) openings start loaded ends ended (phase_of ends j) u.0 u.1 in
      let k_is : k ≡ target_in loaded.log w.0 = w.2 in
      let some = somewhere.0 in
      let low = somewhere.1 in
      (omega arith, omega arith, phase_le ends k (phase_of ends j) u.0 u.1 (omega arith))

  -- ---- what is known there at the end of a phase

  -- the run there, with the numbers of the run here
  pub record IsThere (faces' : List Face) (run' : Run) : Type 0 where
    pub size : length run'.objs ≡ length loaded.objs
    pub phase : (j : ℕ) → j < length loaded.objs → phase_at run' j ≡ phase_of ends j
    pub face : (j : ℕ) (q : Object) → slice_get objs_there j ≡ Some q → face_at faces' run' j ≡ Some q.face
    pub none : (j : ℕ) → slice_get objs_there j ≡ None → face_at faces' run' j ≡ None
    pub needs_went : run'.targets ≡ map (need_targets loaded) (up_to (length loaded.objs))
    pub opened : run'.opens ≡ new_names name_of loaded.log opens
    pub went : run'.roots ≡ map (target_in loaded.log) opens

  module _ (faces' : List Face) (run' : Run) (is : IsThere faces' run') where
    abbrev Pair : Type 0
    Pair = List ℕ × ℕ

    -- a name with the object that it is the name of
    abbrev IsNamedPair : Pair → Type 0
    IsNamedPair p = (p.0 ≡ name_of p.1) × (0 < p.1)

    targets_at : (h : ℕ) → h < length loaded.objs → unwrap_or (slice_get run'.targets h) [] ≡ need_targets loaded h
    targets_at h below =
        ap (λ ts. unwrap_or (slice_get ts h) []) is.needs_went
        ∙ ap (λ o. unwrap_or o []) (map_get (need_targets loaded) (up_to (length loaded.objs)) h h (number_at (length loaded.objs) h below))

    below_there : (h : ℕ) (q : Object) → slice_get objs_there h ≡ Some q → h < length loaded.objs
    below_there h q g = let within = slice_get_within objs_there h q g in let size = moved.count in omega arith

    no_need : (e : ℕ) → ◌≡◌ {A = Option (List ℕ)} (slice_get [] e) None
    no_need e = refl

    need_pair : (h e : ℕ) (p : Pair) (found : Option Object) → slice_get objs_there h ≡ found → slice_get (needs_to faces' run' h) e ≡ Some p → IsNamedPair p
    need_pair h e p None g s =
        let w = zip_out (needs_in (face_at faces' run' h)) (unwrap_or (slice_get run'.targets h) []) e p s in
        let no : None ≡ Some p.0 = sym (ap (λ f. slice_get (needs_in f) e) (is.none h g) ∙ no_need e) ∙ w.0 in
        cc
    need_pair h e p (Some q) g s =
        let below = below_there h q g in
        let o = there loaded.objs h below in
        let w = zip_out (needs_in (face_at faces' run' h)) (unwrap_or (slice_get run'.targets h) []) e p s in
        let need : slice_get (new_names name_of loaded.log o.0.face.needs) e ≡ Some p.0 = ap (λ ns. slice_get ns e) (sym (ap needs_in (is.face h q g) ∙ moved.needs h o.0 q o.1 g)) ∙ w.0 in
        let n = get_map (new_name name_of loaded.log) o.0.face.needs e p.0 need in
        let target : slice_get (map (target_in loaded.log) o.0.face.needs) e ≡ Some p.1 = ap (λ x. slice_get (map (target_in loaded.log) (needs_at x)) e) (sym o.1) ∙ ap (λ ts. slice_get ts e) (sym (targets_at h below)) ∙ w.1 in
        let at : slice_get (map (target_in loaded.log) o.0.face.needs) e ≡ Some (target_in loaded.log n.0) = map_get (target_in loaded.log) o.0.face.needs e n.0 n.1 in
        let one : Some p.1 ≡ Some (target_in loaded.log n.0) = sym target ∙ at in
        let same : p.1 ≡ target_in loaded.log n.0 = cc in
        let some = (need_goes h o.0 e n.0 o.1 n.1).0 in
        (n.2 ∙ ap name_of (sym same), omega arith)

    opened_pair : (e : ℕ) (p : Pair) → slice_get (zip run'.opens run'.roots) e ≡ Some p → IsNamedPair p
    opened_pair e p s =
        let w = zip_out run'.opens run'.roots e p s in
        let n = get_map (new_name name_of loaded.log) opens e p.0 (ap (λ ns. slice_get ns e) (sym is.opened) ∙ w.0) in
        let at : slice_get (map (target_in loaded.log) opens) e ≡ Some (target_in loaded.log n.0) = map_get (target_in loaded.log) opens e n.0 n.1 in
        let one : Some p.1 ≡ Some (target_in loaded.log n.0) = sym (ap (λ ns. slice_get ns e) (sym is.went) ∙ w.1) ∙ at in
        let same : p.1 ≡ target_in loaded.log n.0 = cc in
        let some = (opened_goes e n.0 n.1).0 in
        (n.2 ∙ ap name_of (sym same), omega arith)

    asked_pair : (phase m : ℕ) (p : Pair) → slice_get (asked_by faces' run' phase) m ≡ Some p → IsNamedPair p
    asked_pair phase m p s =
        elim (slice_get-append (flat_map (needs_to faces' run') (loaded_by run' phase)) (take phase (zip run'.opens run'.roots)) m p s) [
          | inl g ↦ let w = flat_out (needs_to faces' run') (loaded_by run' phase) m p g in need_pair w.1 w.2 p (slice_get objs_there w.1) refl w.4
          | inr g ↦ let w = slice_get-take phase (zip run'.opens run'.roots) g.0 p g.1 in opened_pair g.0 p w.1
        ]

    soname_tells : (k : ℕ) (name : List ℕ) (found : Option Object) → slice_get objs_there k ≡ found → is_named (soname_in (face_at faces' run' k)) name ≡ true → (0 < k) × (name_of k ≡ name)
    soname_tells k name None g t = let no : false ≡ true = sym (ap (λ f. is_named (soname_in f) name) (is.none k g)) ∙ t in cc
    soname_tells zero name (Some q) g t =
        let w = named_some q.face.soname name (ap (λ f. is_named (soname_in f) name) (sym (is.face 0 q g)) ∙ t) in
        let no : Some w.0 ≡ None = sym w.1 ∙ moved.program q g in
        cc
    soname_tells (suc k) name (Some q) g t =
        let w = named_some q.face.soname name (ap (λ f. is_named (soname_in f) name) (sym (is.face (suc k) q g)) ∙ t) in
        (omega arith, sym (moved.sonames (suc k) q w.0 (omega arith) g w.1) ∙ w.2)

    -- a name that is known there is the object's
    known_tells : (phase k : ℕ) (name : List ℕ) → is_known_by faces' run' phase name k ≡ true → (0 < k) × (name_of k ≡ name)
    known_tells phase k name h =
        elim (or_cases (is_named (soname_in (face_at faces' run' k)) name) (list_any (λ (a : Pair). bytes_eq a.0 name && (a.1 == k)) (asked_by faces' run' phase)) h) [
          | inl t ↦ soname_tells k name (slice_get objs_there k) refl t
          | inr t ↦
              let w = any_place (λ (a : Pair). bytes_eq a.0 name && (a.1 == k)) (asked_by faces' run' phase) t in
              let parts = and_parts (bytes_eq w.1.0 name) (w.1.1 == k) w.3 in
              let p = asked_pair phase w.0 w.1 w.2 in
              let at : w.1.1 ≡ k = eqb-true w.1.1 k parts.1 in
              let some : 0 < w.1.1 = p.1 in
              (omega arith, ap name_of (sym at) ∙ sym p.0 ∙ same_bytes w.1.0 name parts.0)
        ]

    known_pair : (phase m t : ℕ) → slice_get (asked_by faces' run' phase) m ≡ Some (name_of t, t) → is_known_by faces' run' phase (name_of t) t ≡ true
    known_pair phase m t g =
        or_right (is_named (soname_in (face_at faces' run' t)) (name_of t)) (list_any (λ (a : Pair). bytes_eq a.0 (name_of t) && (a.1 == t)) (asked_by faces' run' phase))
        (any_here (λ (a : Pair). bytes_eq a.0 (name_of t) && (a.1 == t)) (asked_by faces' run' phase) m (name_of t, t) g (and_from (bytes_eq (name_of t) (name_of t)) (t == t) (nat_list_eq_equiv.refl (name_of t)) (eq-eqb t t refl)))

    -- an object that is loaded at the end of a phase is known then by its name
    known_loaded : (phase t : ℕ) → 0 < t → t < length loaded.objs → phase_of ends t ≤ phase → is_known_by faces' run' phase (name_of t) t ≡ true
    known_loaded phase t some below le =
        let all : take (length loaded.log) loaded.log ≡ loaded.log = take_all (length loaded.log) loaded.log (omega arith) in
        let whole : count_after (take (length loaded.log) loaded.log) ≡ length loaded.objs = ap count_after all ∙ hist.whole in
        let w = brought_by (found_for too_many limit here) loaded.objs loaded.log hist (length loaded.log) t (omega arith) some (omega arith) in
        let at : target_in loaded.log w.1.request.name ≡ t = targets_one w.0 w.1 w.3 ∙ w.4 in
        let count : count_after (take w.0 loaded.log) ≡ t = w.5 in
        let asker : w.1.request.by < count_after (take w.0 loaded.log) = (hist.answered w.0 w.1 w.3).asker in
        let u = in_end t below in
        elim (request_of (found_for too_many limit here) program opens loaded ends ended w.0 w.1 w.3) [
          | inl need ↦
              let h : ℕ = w.1.request.by in
              let early = phase_le ends h (phase_of ends t) u.0 u.1 (let inside : t < length u.0.objs = u.2 in omega arith) in
              let q = there objs_there h (let size = moved.count in omega arith) in
              let phase_is : phase_at run' h ≡ phase_of ends h = is.phase h (omega arith) in
              let loaded_then = filter_in (λ k. nat_le (phase_at run' k) phase) (up_to (length run'.objs)) h h (number_at (length run'.objs) h (let size = is.size in omega arith)) (le-leb (phase_at run' h) phase (omega arith)) in
              let name_there : slice_get (needs_in (face_at faces' run' h)) need.1 ≡ Some (name_of t) =
              ap (λ f. slice_get (needs_in f) need.1) (is.face h q.0 q.1) ∙ ap (λ ns. slice_get ns need.1) (moved.needs h need.0 q.0 need.2 q.1)
              ∙ map_get (new_name name_of loaded.log) need.0.face.needs need.1 w.1.request.name need.3 ∙ ap (λ k. Some (name_of k)) at in
              let target_there : slice_get (unwrap_or (slice_get run'.targets h) []) need.1 ≡ Some t =
              ap (λ ts. slice_get ts need.1) (targets_at h (omega arith)) ∙ ap (λ x. slice_get (map (target_in loaded.log) (needs_at x)) need.1) need.2
              ∙ map_get (target_in loaded.log) need.0.face.needs need.1 w.1.request.name need.3 ∙ ap Some at in
              let pair = zip_in (needs_in (face_at faces' run' h)) (unwrap_or (slice_get run'.targets h) []) need.1 (name_of t) t name_there target_there in
              let among = flat_in (needs_to faces' run') (loaded_by run' phase) loaded_then.0 need.1 h (name_of t, t) loaded_then.1 pair in
              known_pair phase among.0 t (slice_get_left (flat_map (needs_to faces' run') (loaded_by run' phase)) (take phase (zip run'.opens run'.roots)) among.0 (name_of t, t) among.1)
          | inr opened ↦
              let before : length opened.start.objs ≤ count_after (take w.0 loaded.log) = opened.before in
              let later : opened.nth < phase_of ends t = elim (cases_lt opened.nth (phase_of ends t)) [
                | inl b ↦ b
                | inr b ↦
                    let grow = ends_grow (found_for too_many limit here) openings start loaded ends ended (phase_of ends t) opened.nth u.0 opened.start u.1 opened.start_is b in
                    let inside : t < length u.0.objs = u.2 in
                    absurd (omega arith)
              ] in
              let name_there : slice_get run'.opens opened.nth ≡ Some (name_of t) =
              ap (λ ns. slice_get ns opened.nth) is.opened ∙ map_get (new_name name_of loaded.log) opens opened.nth w.1.request.name opened.name_is ∙ ap (λ k. Some (name_of k)) at in
              let root_there : slice_get run'.roots opened.nth ≡ Some t =
              ap (λ ns. slice_get ns opened.nth) is.went ∙ map_get (target_in loaded.log) opens opened.nth w.1.request.name opened.name_is ∙ ap Some at in
              let pair = slice_get_front phase (zip run'.opens run'.roots) opened.nth (name_of t, t) (omega arith) (zip_in run'.opens run'.roots opened.nth (name_of t) t name_there root_there) in
              let among = at_second (flat_map (needs_to faces' run') (loaded_by run' phase)) (take phase (zip run'.opens run'.roots)) opened.nth (name_of t, t) pair in
              known_pair phase among.0 t among.1
        ]

    -- the file of an ask by the name of an object that is loaded then is this object
    pub named_file : (j t : ℕ) → j < length loaded.objs → 0 < t → t < length loaded.objs → phase_of ends t ≤ phase_of ends j → version_file_of faces' run' j (name_of t) ≡ Some t
    unfolding version_file_of
    named_file j t bj some bt le =
        let phase_is : phase_at run' j ≡ phase_of ends j = is.phase j bj in
        let phase_t : phase_at run' t ≡ phase_of ends t = is.phase t bt in
        let size = is.size in
        find-filter (λ k. nat_le (phase_at run' k) (phase_at run' j)) (is_known_by faces' run' (phase_at run' j) (name_of t)) (up_to (length run'.objs))
        ∙ find_first (λ k. nat_le (phase_at run' k) (phase_at run' j) && is_known_by faces' run' (phase_at run' j) (name_of t) k) (length run'.objs) t (omega arith)
        (and_from (nat_le (phase_at run' t) (phase_at run' j)) (is_known_by faces' run' (phase_at run' j) (name_of t) t) (le-leb (phase_at run' t) (phase_at run' j) (omega arith)) (known_loaded (phase_at run' j) t some bt (omega arith)))
        (λ k less.
        false_from_ne_true (nat_le (phase_at run' k) (phase_at run' j) && is_known_by faces' run' (phase_at run' j) (name_of t) k) (λ both.
        let parts = and_parts (nat_le (phase_at run' k) (phase_at run' j)) (is_known_by faces' run' (phase_at run' j) (name_of t) k) both in
        let tells = known_tells (phase_at run' j) k (name_of t) parts.1 in
        let same = moved.distinct k t tells.0 (omega arith) some bt tells.1 in
        omega arith))

    met_if : (b : Bool) (o : Option Unmet) → o ≡ None → cond b None o ≡ None
    met_if true o e = refl
    met_if false o e = e

    -- and an ask of it is met that has the version
    pub met_by : (j t : ℕ) (ask : Ask) (q : Object) → version_file_of faces' run' j ask.file ≡ Some t → slice_get objs_there t ≡ Some q → has_defined ask.name q.face.defs ≡ true → unmet faces' run' j ask ≡ None
    met_by j t ask q file g has =
        met_if ask.weak (unmet_by faces' run' ask.name (version_file_of faces' run' j ask.file))
        (ap (unmet_by faces' run' ask.name) file
        ∙ ap (λ f. cond (has_defined ask.name (defs_in f)) None (Some VersionLacking)) (is.face t q g)
        ∙ ap (λ b. cond b None (Some VersionLacking)) has)
