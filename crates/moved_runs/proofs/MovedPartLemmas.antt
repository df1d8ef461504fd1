-- Targets, loaders, phases and local lists of a moved run.
use Rattle.std.proofs.Common.{◌≡◌, ◌∙◌, sym, ap, refl, ℕ, zero, suc, ◌+◌, ◌<◌, List, [], ◌∷◌, ◌++◌, cond, Option, Some, None, Result, length, take, map, slice_get, arith, subst, ◌==◌, nat_lt}
use Rattle.std.specs.List.{flat_map, position_from}
use Rattle.std.specs.Option.{unwrap_or}
use Rattle.std.proofs.lemmas.List.{length-take-le}
use Rattle.std.proofs.lemmas.Option.{slice_get_within}
use Rattle.load_model.specs.Candidates.{loader_in}
use Rattle.load_model.specs.LoadList.{Object, Request, Asked, Found, Loaded, Search, IsRun, IsEndedFrom, IsEndedRun, found_for, with_numbers}
use Rattle.load_model.specs.Runs.{IsLocal, loader_of, need_targets, needs_at, phase_of, start_count, target_in}
use Rattle.load_model.proofs.AskedNeeds.{map_get, all_asked, opened_asked}
use Rattle.load_model.proofs.Ended.{run_of_ends}
use Rattle.load_model.proofs.History.{IsHistory, IsGrown, target_count, run_grown}
use Rattle.load_model.proofs.OneName.{one_name, first_in}
use Rattle.load_model.proofs.OneRun.{there}
use Rattle.moved_runs.specs.Moved.{renamed, all_renamed, new_name, new_names, loaded_there, AreMoved}
use Rattle.moved_runs.proofs.MovedLemmas.{run_hist, moved_size, renamed_entry}

pub two_maps : {X Y Z : Type 0} (f : X → Z) (f' : Y → Z) (g : X → Y) (xs : List X) → ((m : ℕ) (x : X) → slice_get xs m ≡ Some x → f' (g x) ≡ f x) → map f' (map g xs) ≡ map f xs
two_maps f f' g [] h = refl
two_maps f f' g (x ∷ xs) h = ap (λ y. y ∷ map f' (map g xs)) (h 0 x refl) ∙ ap (λ ys. f x ∷ ys) (two_maps f f' g xs (λ m y e. h (suc m) y e))

pub flat_same : {X Y : Type 0} (f g : X → List Y) (xs : List X) → ((x : X) → f x ≡ g x) → flat_map f xs ≡ flat_map g xs
flat_same f g [] h = refl
flat_same f g (x ∷ xs) h = ap (λ ys. ys ++ flat_map f xs) (h x) ∙ ap (λ ys. g x ++ ys) (flat_same f g xs h)

-- the loader of an object is the same
same_loader : (name_of : ℕ → List ℕ) (log : List Asked) (j : ℕ) → loader_in (all_renamed name_of log) j ≡ loader_in log j
unfolding loader_in
same_loader name_of [] j = refl
same_loader name_of (a ∷ log) j = ap (λ k. cond (a.target == j) a.request.by k) (same_loader name_of log j)

pub same_loaders : (name_of : ℕ → List ℕ) (log : List Asked) (j : ℕ) → loader_of (all_renamed name_of log) j ≡ loader_of log j
same_loaders name_of log zero = refl
same_loaders name_of log (suc j) = same_loader name_of log (suc j)

local_same : (s t : Loaded) (root : ℕ) (ks : List ℕ) → ((k : ℕ) → need_targets t k ≡ need_targets s k) → IsLocal s root ks → IsLocal t root ks
local_same s t root ks e p =
    record {
      order = ap (with_numbers (root ∷ [])) (flat_same (need_targets t) (need_targets s) ks e) ∙ p.order;
      brought = λ i b.
          let was = p.brought i b in
          let same = ap (λ ts. length (with_numbers (root ∷ []) ts)) (flat_same (need_targets t) (need_targets s) (take i ks) e) in
          omega arith;
    }

module _ {X : Type 0} (too_many : X) (limit : ℕ) (here search_there : Search X) (name_of : ℕ → List ℕ) (program : Object) (opens : List (List ℕ)) (run : Loaded) (objs_there : List Object) (p : IsRun (found_for too_many limit here) program opens run) (moved : AreMoved name_of search_there run objs_there) where
  abbrev run_there : Loaded
  run_there = record { objs = objs_there; log = all_renamed name_of run.log }

  hist : IsHistory (found_for too_many limit here) run.objs run.log
  hist = run_hist too_many too_many limit here search_there name_of program program opens run objs_there p

  bound : (m : ℕ) (a : Asked) → slice_get run.log m ≡ Some a → a.target < length run.objs
  bound m a g = let b = target_count run.log m a g in let all = hist.whole in omega arith

  -- the first request of a name tells the target of each
  pub one_target : (m : ℕ) (a : Asked) → slice_get run.log m ≡ Some a → target_in run.log a.request.name ≡ a.target
  one_target m a g = first_in run.log a.request.name a.target (λ i b h e. one_name too_many limit here run.objs run.log hist i m b a h g e) m a g refl

  -- the new name of a target is asked there for it alone
  pub same_name : (m : ℕ) (a : Asked) → slice_get run.log m ≡ Some a → target_in (all_renamed name_of run.log) (name_of a.target) ≡ a.target
  same_name m a g =
      first_in (all_renamed name_of run.log) (name_of a.target) a.target
      (λ i b h e.
      let v = renamed_entry name_of run.log i b h in
      let name : name_of v.0.target ≡ name_of a.target = ap (λ (x : Asked). x.request.name) (sym v.2) ∙ e in
      let one : v.0.target ≡ a.target = moved.distinct v.0.target a.target (moved.never i v.0 v.1) (bound i v.0 v.1) (moved.never m a g) (bound m a g) name in
      ap (λ (x : Asked). x.target) v.2 ∙ one)
      m (renamed name_of a) (map_get (λ a. renamed name_of a) run.log m a g) refl

  -- a name that is asked for goes there where it goes here
  asked_name : (n : List ℕ) (m : ℕ) (a : Asked) → slice_get run.log m ≡ Some a → a.request.name ≡ n → target_in (all_renamed name_of run.log) (new_name name_of run.log n) ≡ target_in run.log n
  asked_name n m a g e =
      let at : target_in run.log n ≡ a.target = ap (target_in run.log) (sym e) ∙ one_target m a g in
      ap (λ t. target_in (all_renamed name_of run.log) (name_of t)) at ∙ same_name m a g ∙ sym at

  same_needs : (k : ℕ) (x y : Option Object) → slice_get run.objs k ≡ x → slice_get objs_there k ≡ y → map (target_in (all_renamed name_of run.log)) (needs_at y) ≡ map (target_in run.log) (needs_at x)
  same_needs k None None e f = refl
  same_needs k None (Some q) e f =
      let within = slice_get_within objs_there k q f in
      let size = moved.count in
      let o = there run.objs k (omega arith) in
      let no : None ≡ Some o.0 = sym e ∙ o.1 in
      cc
  same_needs k (Some o) None e f =
      let within = slice_get_within run.objs k o e in
      let size = moved.count in
      let q = there objs_there k (omega arith) in
      let no : None ≡ Some q.0 = sym f ∙ q.1 in
      cc
  same_needs k (Some o) (Some q) e f =
      ap (map (target_in (all_renamed name_of run.log))) (moved.needs k o q e f)
      ∙ two_maps (target_in run.log) (target_in (all_renamed name_of run.log)) (new_name name_of run.log) o.face.needs
      (λ i n g.
      let a = (all_asked (found_for too_many limit here) program opens run p).asked k o e i n g in
      asked_name n a.0 a.1 a.2 (ap (λ (r : Request). r.name) a.3))

  pub same_targets : (k : ℕ) → need_targets run_there k ≡ need_targets run k
  same_targets k = same_needs k (slice_get run.objs k) (slice_get objs_there k) refl refl

  pub same_roots : map (target_in (all_renamed name_of run.log)) (new_names name_of run.log opens) ≡ map (target_in run.log) opens
  same_roots =
      two_maps (target_in run.log) (target_in (all_renamed name_of run.log)) (new_name name_of run.log) opens
      (λ k n g.
      let a = opened_asked (found_for too_many limit here) program opens run p k n g in
      asked_name n a.0 a.1 a.2 (ap (λ (r : Request). r.name) a.3))

  pub same_local : (root : ℕ) (ks : List ℕ) → IsLocal run root ks → IsLocal run_there root ks
  same_local root ks h = local_same run run_there root ks same_targets h

-- ---- phases

same_place : (h : Loaded → Loaded) (j k : ℕ) (ends : List Loaded) → ((i : ℕ) (s : Loaded) → slice_get ends i ≡ Some s → length (h s).objs ≡ length s.objs) → position_from (λ end. nat_lt j (length end.objs)) k (map h ends) ≡ position_from (λ end. nat_lt j (length end.objs)) k ends
same_place h j k [] e = refl
same_place h j k (s ∷ ends) e =
    ap (λ n. cond (nat_lt j n) (Some k) (position_from (λ end. nat_lt j (length end.objs)) (k + 1) (map h ends))) (e 0 s refl)
    ∙ ap (λ r. cond (nat_lt j (length s.objs)) (Some k) r) (same_place h j (k + 1) ends (λ i t q. e (suc i) t q))

pub same_counts : (h : Loaded → Loaded) (ends : List Loaded) → ((i : ℕ) (s : Loaded) → slice_get ends i ≡ Some s → length (h s).objs ≡ length s.objs) → (j : ℕ) → phase_of (map h ends) j ≡ phase_of ends j
unfolding phase_of
same_counts h ends e j = ap (λ r. unwrap_or r 0) (same_place h j 0 ends e)

pub same_start : (h : Loaded → Loaded) (ends : List Loaded) → ((i : ℕ) (s : Loaded) → slice_get ends i ≡ Some s → length (h s).objs ≡ length s.objs) → start_count (map h ends) ≡ start_count ends
same_start h [] e = refl
same_start h (s ∷ ends) e = e 0 s refl

module _ {X : Type 0} (answer : List Object → List Asked → Request → Result Found X) where
  -- what is loaded and asked at the end of a phase stands in front of all
  pub end_grown : (os : List (List (List ℕ))) (before after : Loaded) (ends : List Loaded) → IsEndedFrom answer before os after ends → (i : ℕ) (s : Loaded) → slice_get ends i ≡ Some s → IsGrown s after
  end_grown [] before after [] p i s g = cc
  end_grown [] before after (end ∷ ends) p i s g = absurd p
  end_grown (o ∷ os) before after [] p i s g = cc
  end_grown (o ∷ os) before after (end ∷ ends) p zero s g =
      let same : end ≡ s = cc in
      subst (λ (t : Loaded). IsGrown t after) same (run_grown answer os end after p.0.whole (run_of_ends answer os end after ends p.1))
  end_grown (o ∷ os) before after (end ∷ ends) p (suc i) s g = end_grown os end after ends p.1 i s g

module _ {X : Type 0} (too_many : X) (limit : ℕ) (here search_there : Search X) (name_of : ℕ → List ℕ) (program : Object) (opens : List (List ℕ)) (run : Loaded) (ends : List Loaded) (objs_there : List Object) (p : IsEndedRun (found_for too_many limit here) program opens run ends) (moved : AreMoved name_of search_there run objs_there) where
  same_size : (i : ℕ) (s : Loaded) → slice_get ends i ≡ Some s → length (loaded_there name_of objs_there s).objs ≡ length s.objs
  same_size i s g =
      let openings : List (List (List ℕ)) = program.face.needs ∷ map (λ n. n ∷ []) opens in
      let start : Loaded = record { objs = program ∷ []; log = [] } in
      let plain = run_of_ends (found_for too_many limit here) openings start run ends p in
      let grown = end_grown (found_for too_many limit here) openings start run ends p i s g in
      let size = moved_size name_of too_many too_many limit here search_there run objs_there (run_hist too_many too_many limit here search_there name_of program program opens run objs_there plain) moved s grown in
      length-take-le (length s.objs) objs_there size

  pub same_phase : (j : ℕ) → phase_of (map (loaded_there name_of objs_there) ends) j ≡ phase_of ends j
  same_phase j = same_counts (loaded_there name_of objs_there) ends same_size j

  pub same_first : start_count (map (loaded_there name_of objs_there) ends) ≡ start_count ends
  same_first = same_start (loaded_there name_of objs_there) ends same_size
