-- A run that is a load list has its numbers in range.
use Rattle.std.proofs.Common.{◌≡◌, ◌∙◌, sym, ap, refl, subst, ℕ, zero, suc, ◌+◌, ◌≤◌, ◌<◌, ◌^◌, ◌==◌, List, [], ◌∷◌, ◌++◌, All, Bool, true, false, cond, Option, Some, None, Result, Ok, get_or, length, map, nat_lt, slice_get, take, arith}
use Rattle.std.specs.List.{AllZip, flat_map, list_any, position_from}
use Rattle.std.specs.Option.{unwrap_or}
use Rattle.std.proofs.lemmas.List.{length-map, length-take, length-take-le, take_all}
use Rattle.std.proofs.lemmas.List.Elements.{All-append, All-cons, All-head, All-nil, All-push, All-tail}
use Rattle.std.proofs.lemmas.Option.{slice_get-get_or, slice_get_within}
use Rattle.build_runs.specs.BuildRuns.{IsRunFor}
use Rattle.build_runs.specs.declared.programs.Start.{Start}
use Rattle.build_runs.proofs.ZipLemmas.{zip_right}
use Rattle.byte_view.specs.declared.flaws.Flaw.{Flaw}
use Rattle.load_model.specs.Faces.{face_or_flaw}
use Rattle.load_model.specs.LoadList.{Object, Request, Asked, Found, Known, Brought, Loaded, IsEndedFrom, WentTo, count_after, up_to, with_numbers}
use Rattle.load_model.specs.Loads.{IsLoadList, goes_to}
use Rattle.load_model.specs.Replays.{Loads}
use Rattle.load_model.specs.Runs.{AreBelow, IsObjOver, IsRunOf, IsRunOver, face_at, loader_of, need_targets, needs_at, phase_of, start_count, target_in}
use Rattle.load_model.specs.World.{World}
use Rattle.load_model.specs.declared.faces.Face.{Face}
use Rattle.load_model.specs.declared.limits.TheConstants.{MOST_OBJECTS}
use Rattle.load_model.specs.declared.runs.Obj.{Obj}
use Rattle.load_model.specs.declared.runs.Run.{Run}
use Rattle.load_model.specs.declared.setting.Setting.{Setting}
use Rattle.load_model.proofs.AskedNeeds.{all_asked, get_map, opened_asked}
use Rattle.load_model.proofs.Counts.{count-le}
use Rattle.load_model.proofs.History.{IsHistory, brought_by, target_count}
use Rattle.load_model.proofs.LoadLists.{forget, goes_sound}
use Rattle.load_model.proofs.Loaders.{small_loader}
use Rattle.load_model.proofs.NumberLemmas.{length-up_to, number_at}
use Rattle.load_model.proofs.OneRun.{there}
use Rattle.moved_runs.proofs.MovedPartLemmas.{end_grown}
use Rattle.moved_runs.proofs.RunLemmas.{face_is}
use Rattle.build_laws.proofs.LoadedLemmas.{hist, went}

-- ---- lists of numbers

all_by : {X : Type 0} (P : X → Type 0) (xs : List X) → ((k : ℕ) (x : X) → slice_get xs k ≡ Some x → P x) → All P xs
all_by P xs h = λ k d less. h k (get_or xs k d) (slice_get-get_or xs k d less)

numbers_by : (bound n : ℕ) (ks : List ℕ) (b : Bool) → AreBelow bound ks → n < bound → AreBelow bound (cond b ks (ks ++ n ∷ []))
numbers_by bound n ks true all less = all
numbers_by bound n ks false all less = All-push (λ k. k < bound) ks n all less

numbers_below : (bound : ℕ) (ks ns : List ℕ) → AreBelow bound ks → AreBelow bound ns → AreBelow bound (with_numbers ks ns)
unfolding with_numbers
numbers_below bound ks [] all more = all
numbers_below bound ks (n ∷ ns) all more =
    numbers_below bound (cond (list_any (λ k. k == n) ks) ks (ks ++ n ∷ [])) ns
    (numbers_by bound n ks (list_any (λ k. k == n) ks) all (All-head (λ k. k < bound) n ns more)) (All-tail (λ k. k < bound) n ns more)

flat_below : (bound : ℕ) (f : ℕ → List ℕ) (xs : List ℕ) → ((x : ℕ) → AreBelow bound (f x)) → AreBelow bound (flat_map f xs)
flat_below bound f [] h = All-nil (λ k. k < bound)
flat_below bound f (x ∷ xs) h = All-append (λ k. k < bound) (f x) (flat_map f xs) (h x) (flat_below bound f xs h)

number_is : (n j k : ℕ) → slice_get (up_to n) j ≡ Some k → k ≡ j
number_is n j k h =
    let within = slice_get_within (up_to n) j k h in
    let size = length-up_to n in
    let both : Some k ≡ Some j = sym h ∙ number_at n j (omega (arith, within, size)) in
    cc

place_by : {A : Type 0} (test : A → Bool) (k w : ℕ) (x : A) (xs : List A) (b : Bool) → (position_from test (k + 1) xs ≡ Some w → w < k + 1 + length xs) → cond b (Some k) (position_from test (k + 1) xs) ≡ Some w → w < k + length (x ∷ xs)
place_by test k w x xs true rest h = let one : k ≡ w = cc in omega (arith, one)
place_by test k w x xs false rest h = let less = rest h in omega (arith, less)

place_within : {A : Type 0} (test : A → Bool) (k w : ℕ) (xs : List A) → position_from test k xs ≡ Some w → w < k + length xs
place_within test k w [] h = cc
place_within test k w (x ∷ xs) h = place_by test k w x xs (test x) (λ g. place_within test (k + 1) w xs g) h

at_most : (o : Option ℕ) (n : ℕ) → ((w : ℕ) → o ≡ Some w → w < suc n) → unwrap_or o 0 ≤ n
at_most None n h = omega arith
at_most (Some w) n h = let less = h w refl in omega (arith, less)

ended_count : {X : Type 0} (answer : List Object → List Asked → Request → Result Found X) (os : List (List (List ℕ))) (before after : Loaded) (ends : List Loaded) → IsEndedFrom answer before os after ends → length ends ≡ length os
ended_count answer [] before after [] p = refl
ended_count answer [] before after (end ∷ ends) p = absurd p
ended_count answer (o ∷ os) before after [] p = absurd p
ended_count answer (o ∷ os) before after (end ∷ ends) p = ap suc (ended_count answer os end after ends p.1)

-- ---- a load list

module _ (read : List ℕ → Result Face Flaw) (setting : Setting) (world : World) (path : List ℕ) (opens : List (List ℕ)) (loaded : Loaded) (ends : List Loaded) (list : IsLoadList read setting world path opens loaded ends) where
  abbrev size : ℕ
  size = length loaded.objs

  history_is : IsHistory (goes_to read setting world path) loaded.objs loaded.log
  history_is = hist read setting world path opens loaded ends list

  some_objects : 0 < size
  some_objects = let whole = history_is.whole in let one = count-le 1 loaded.log in omega (arith, whole, one)

  asked_below : (m : ℕ) (a : Asked) (n : List ℕ) → slice_get loaded.log m ≡ Some a → a.request.name ≡ n → target_in loaded.log n < size
  asked_below m a n g e =
      let to = went read setting world path opens loaded ends list m a g in
      let same : target_in loaded.log n ≡ a.target = ap (target_in loaded.log) (sym e) ∙ to in
      let count = target_count loaded.log m a g in
      let whole = history_is.whole in
      omega (arith, same, count, whole)

  need_below : (k : ℕ) (o : Object) (e : ℕ) (n : List ℕ) → slice_get loaded.objs k ≡ Some o → slice_get o.face.needs e ≡ Some n → target_in loaded.log n < size
  need_below k o e n h g =
      let w = (all_asked (goes_to read setting world path) list.program opens loaded (forget read setting world path list.program opens loaded ends list.run)).asked k o h e n g in
      asked_below w.0 w.1 n w.2 (ap (λ (r : Request). r.name) w.3)

  opened_below : (k : ℕ) (n : List ℕ) → slice_get opens k ≡ Some n → target_in loaded.log n < size
  opened_below k n h =
      let w = opened_asked (goes_to read setting world path) list.program opens loaded (forget read setting world path list.program opens loaded ends list.run) k n h in
      asked_below w.0 w.1 n w.2 (ap (λ (r : Request). r.name) w.3)

  targets_by : (k : ℕ) (o : Option Object) → slice_get loaded.objs k ≡ o → AreBelow size (map (target_in loaded.log) (needs_at o))
  targets_by k None h = All-nil (λ t. t < size)
  targets_by k (Some o) h =
      all_by (λ t. t < size) (map (target_in loaded.log) o.face.needs)
      (λ e t g. let w = get_map (target_in loaded.log) o.face.needs e t g in let less = need_below k o e w.0 h w.1 in let same = w.2 in omega (arith, less, same))

  targets_below : (k : ℕ) → AreBelow size (need_targets loaded k)
  targets_below k = targets_by k (slice_get loaded.objs k) refl

  found_below : (j t : ℕ) (before : List Asked) (a : Asked) (f : Found) → t ≡ j → count_after before ≡ j → j ≤ size → goes_to read setting world path (take (count_after before) loaded.objs) before a.request ≡ Ok f → WentTo loaded.objs (count_after before) t f → j < MOST_OBJECTS
  found_below j t before a (Known k) e c le is to = let same = to.0 in let less = to.1 in absurd (omega (arith, same, less, e, c))
  found_below j t before a (Brought o) e c le is to =
      let few = (goes_sound read setting world path).brought (take (count_after before) loaded.objs) before a.request o is in
      let many = length-take-le (count_after before) loaded.objs (omega (arith, c, le)) in
      omega (arith, few, many, c)

  number_below : (j : ℕ) → 0 < j → j < size → j < MOST_OBJECTS
  number_below j some less =
      let whole = history_is.whole in
      let all : take (length loaded.log) loaded.log ≡ loaded.log = take_all (length loaded.log) loaded.log (omega arith) in
      let count : count_after (take (length loaded.log) loaded.log) ≡ size = ap count_after all ∙ whole in
      let w = brought_by (goes_to read setting world path) loaded.objs loaded.log history_is (length loaded.log) j (omega arith) some (omega (arith, count, less)) in
      let r = history_is.answered w.0 w.1 w.3 in
      found_below j w.1.target (take w.0 loaded.log) w.1 r.found w.4 w.5 (omega (arith, less)) r.found_is r.target

  few_by : (n : ℕ) → n ≡ size → size < 2 ^ 32
  few_by zero e = omega (arith, e)
  few_by (suc zero) e = omega (arith, e)
  few_by (suc (suc k)) e = let less = number_below (suc k) (omega arith) (omega (arith, e)) in omega (arith, less, e)

  loader_below : (j : ℕ) → j < size → loader_of loaded.log j < size
  loader_below zero less = less
  loader_below (suc j) less = let small = small_loader (goes_to read setting world path) loaded.objs loaded.log history_is (suc j) (omega arith) less in omega (arith, small, less)

  ends_are : length ends ≡ suc (length opens)
  ends_are = ended_count (goes_to read setting world path) (list.program.face.needs ∷ map (λ n. n ∷ []) opens) (record { objs = list.program ∷ []; log = [] }) loaded ends list.run ∙ ap suc (length-map opens (λ n. n ∷ []))

  phase_below : (j : ℕ) → phase_of ends j ≤ length opens
  unfolding phase_of
  phase_below j = at_most (position_from (λ (end : Loaded). nat_lt j (length end.objs)) 0 ends) (length opens) (λ w h. let less = place_within (λ (end : Loaded). nat_lt j (length end.objs)) 0 w ends h in let many = ends_are in omega (arith, less, many))

  start_by : (es : List Loaded) → ends ≡ es → start_count es ≤ size
  start_by [] e = omega arith
  start_by (end ∷ es) e =
      let grown = end_grown (goes_to read setting world path) (list.program.face.needs ∷ map (λ n. n ∷ []) opens) (record { objs = list.program ∷ []; log = [] }) loaded ends list.run 0 end (ap (λ l. slice_get l 0) e) in
      let same = ap length grown.objs in
      let cut = length-take (length end.objs) loaded.objs in
      omega (arith, same, cut)

  start_below : start_count ends ≤ size
  start_below = start_by ends refl

-- ---- the run

module _ (read : List ℕ → Result Face Flaw) (setting : Setting) (world : World) (faces : List Face) (path : List ℕ) (opens : List (List ℕ)) (run : Run) (loads : Loads read setting world faces path opens run) where
  abbrev loaded_here : Loaded
  loaded_here = loads.loaded

  abbrev count_here : ℕ
  count_here = length loads.loaded.objs

  is : IsRunOf faces opens loads.loaded loads.ends run
  is = loads.run_is

  fits : (P : ℕ → Type 0) → P count_here → P (length run.objs)
  fits P p = subst P (sym is.count) p

  obj_over : (j : ℕ) (x : Obj) → slice_get run.objs j ≡ Some x → IsObjOver faces run x
  obj_over j x h =
      let w = is.objs j x h in
      let within = slice_get_within loads.loaded.objs j w.object w.stands in
      let loader = loader_below read setting world path opens loads.loaded loads.ends loads.list j within in
      let phase = phase_below read setting world path opens loads.loaded loads.ends loads.list j in
      let count = is.count in
      let own = w.loader in
      let came = w.phase in
      let opened = ap length is.opened in
      record {
        face = slice_get_within faces x.face w.object.face w.face;
        loader = omega (arith, loader, count, own);
        phase = omega (arith, phase, came, opened);
      }

  targets_over : (k : ℕ) (ts : List ℕ) → slice_get run.targets k ≡ Some ts → AreBelow (length run.objs) ts
  targets_over k ts h =
      let w = get_map (need_targets loads.loaded) (up_to count_here) k ts (ap (λ l. slice_get l k) (sym is.targets) ∙ h) in
      fits (λ n. AreBelow n ts) (subst (AreBelow count_here) (sym w.2) (targets_below read setting world path opens loads.loaded loads.ends loads.list w.0))

  counts_over : (j : ℕ) (face : Face) (ts : List ℕ) → face_at faces run j ≡ Some face → slice_get run.targets j ≡ Some ts → length ts ≡ length face.needs
  counts_over j face ts f h =
      let w = get_map (need_targets loads.loaded) (up_to count_here) j ts (ap (λ l. slice_get l j) (sym is.targets) ∙ h) in
      let within = slice_get_within (up_to count_here) j w.0 w.1 in
      let size = length-up_to count_here in
      let o = there loads.loaded.objs j (omega (arith, within, size)) in
      let number : w.0 ≡ j = number_is count_here j w.0 w.1 in
      let both : Some o.0.face ≡ Some face = sym (face_is faces opens loads.loaded loads.ends run is j o.0 o.1) ∙ f in
      let one : o.0.face ≡ face = cc in
      ap length w.2 ∙ ap (λ k. length (need_targets loads.loaded k)) number ∙ ap (λ x. length (map (target_in loads.loaded.log) (needs_at x))) o.1
      ∙ length-map o.0.face.needs (target_in loads.loaded.log) ∙ ap (λ (g : Face). length g.needs) one

  root_over : (k root : ℕ) → slice_get run.roots k ≡ Some root → root < length run.objs
  root_over k root h =
      let w = get_map (target_in loads.loaded.log) opens k root (ap (λ l. slice_get l k) (sym is.roots) ∙ h) in
      let less = opened_below read setting world path opens loads.loaded loads.ends loads.list k w.0 w.1 in
      let same = w.2 in
      let count = is.count in
      omega (arith, less, same, count)

  root_count : length run.roots ≡ length run.opens
  root_count = ap length is.roots ∙ length-map opens (target_in loads.loaded.log) ∙ sym (ap length is.opened)

  local_over : (k : ℕ) (ks : List ℕ) → slice_get run.locals k ≡ Some ks → AreBelow (length run.objs) ks
  local_over k ks h =
      let within = slice_get_within run.locals k ks h in
      let many = is.local_count in
      let roots = root_count in
      let opened = ap length is.opened in
      let root = there run.roots k (omega (arith, within, many, roots, opened)) in
      let local = is.locals k root.0 ks root.1 h in
      let below = root_over k root.0 root.1 in
      let count = is.count in
      fits (λ n. AreBelow n ks)
      (subst (AreBelow count_here) local.order
      (numbers_below count_here (root.0 ∷ []) (flat_map (need_targets loads.loaded) ks) (All-cons (λ t. t < count_here) root.0 [] (omega (arith, below, count)) (All-nil (λ t. t < count_here)))
      (flat_below count_here (need_targets loads.loaded) ks (targets_below read setting world path opens loads.loaded loads.ends loads.list))))

  -- The numbers of a run that says a load list are in range.
  pub run_over : IsRunOver faces run
  run_over =
      let count = is.count in
      let some = some_objects read setting world path opens loads.loaded loads.ends loads.list in
      let few = few_by read setting world path opens loads.loaded loads.ends loads.list count_here refl in
      let start = start_below read setting world path opens loads.loaded loads.ends loads.list in
      let global = is.global in
      let size = length-up_to count_here in
      let listed = ap length is.targets ∙ length-map (up_to count_here) (need_targets loads.loaded) in
      record {
        program = omega (arith, count, some);
        few = fits (λ n. n < 2 ^ 32) few;
        objs = all_by (IsObjOver faces run) run.objs obj_over;
        global = omega (arith, global, start, count);
        lists = omega (arith, listed, size, count);
        counts = counts_over;
        targets = all_by (AreBelow (length run.objs)) run.targets targets_over;
        root_count = root_count;
        roots = all_by (λ t. t < length run.objs) run.roots root_over;
        local_count = is.local_count ∙ sym (ap length is.opened);
        locals = all_by (AreBelow (length run.objs)) run.locals local_over;
      }

-- The same of all runs of a build.
pub runs_over : (setting : Setting) (world : World) (faces : List Face) (programs : List Start) (runs : List Run) → AllZip (IsRunFor setting world faces) programs runs → All (IsRunOver faces) runs
runs_over setting world faces programs runs each =
    zip_right (IsRunFor setting world faces) (IsRunOver faces) (λ program run is. run_over face_or_flaw setting world faces program.path program.opens run is.loads) programs runs each
