-- The objects of a load list are different files, and what is asked for is a need or is opened.
use Rattle.std.proofs.Common.{◌≡◌, ◌∙◌, sym, ap, refl, subst, ℕ, zero, suc, ◌<◌, List, [], ◌∷◌, Bool, true, false, cond, Option, Some, None, Result, Ok, Err, length, map, take, slice_get, arith, nat_lt, ◌⊎◌, inl, inr}
use Rattle.std.specs.Cmp.Lexicographic.{bytes_decides}
use Rattle.std.specs.Str.{bytes_eq}
use Rattle.std.proofs.lemmas.Bool.{both_ways, cases_lt}
use Rattle.std.proofs.lemmas.List.{take_all}
use Rattle.std.proofs.lemmas.Option.{slice_get_within}
use Rattle.byte_view.specs.declared.flaws.Flaw.{Flaw}
use Rattle.load_model.specs.Candidates.{Candidate, At, Refused, asker_path, candidates, decided_by, decision, first_decision, found_or, loader_in, path_search}
use Rattle.load_model.specs.LoadList.{Object, Request, Asked, Found, Known, Brought, Loaded, Search, WentTo, by_id, by_name, by_search, count_after, count_from, first_place, found_for, is_known, phases_of, start_of}
use Rattle.load_model.specs.Loads.{IsLoadList, goes_to, program_at, program_by}
use Rattle.load_model.specs.Runs.{need_targets, needs_at, target_in}
use Rattle.load_model.specs.World.{World, Kind, Absent, Other, Object as IsObject, Damaged as IsDamaged, file_at, is_other, kind_of, kind_of_file, kind_of_read}
use Rattle.load_model.specs.declared.faces.Face.{Face}
use Rattle.load_model.specs.declared.limits.TheConstants.{MOST_OBJECTS}
use Rattle.load_model.specs.declared.refusals.LoadRefusal.{LoadRefusal}
use Rattle.load_model.specs.declared.refusals.LoadRefusal.TheVariants.{MissingLibrary, TooManyObjects}
use Rattle.load_model.specs.declared.setting.Setting.{Setting}
use Rattle.load_model.specs.declared.world.WorldFile.{WorldFile}
use Rattle.load_model.proofs.DecidingLemmas.{first_decides}
use Rattle.load_model.proofs.AskedNeeds.{map_get, opened_asked}
use Rattle.load_model.proofs.History.{IsHistory, brought_by, run_grown, target_count}
use Rattle.load_model.proofs.LoadLists.{forget, history, one_target}
use Rattle.load_model.proofs.OneRun.{there}
use Rattle.load_model.proofs.Places.{none_passes, slice_get_front}
use Rattle.moved_runs.proofs.MovingLemmas.{goes_ok}
use Rattle.moved_runs.proofs.PhaseLemmas.{IsNeed, IsOpened, request_of}

-- ---- what is brought has no identity that is there

module _ {X : Type 0} (too_many : X) (limit : ℕ) (search : Search X) where
  limit_is : (b : Bool) (o q : Object) → ◌≡◌ {A = Result Found X} (cond b (Ok (Brought o)) (Err too_many)) (Ok (Brought q)) → o ≡ q
  limit_is true o q h = let e : Brought o ≡ Brought q = cc in cc
  limit_is false o q h = cc

  id_new : (objs : List Object) (o q : Object) (p : Option ℕ) → first_place (λ j x. bytes_eq x.id o.id) 0 objs ≡ p → by_id too_many limit search objs o p ≡ Ok (Brought q) → first_place (λ j x. bytes_eq x.id q.id) 0 objs ≡ None
  id_new objs o q (Some j) e h = let c : Known j ≡ Brought q = cc in cc
  id_new objs o q None e h =
      let same : o ≡ q = limit_is (nat_lt (length objs) limit) o q h in
      subst (λ (y : Object). first_place (λ j x. bytes_eq x.id y.id) 0 objs ≡ None) same e

  search_new : (objs : List Object) (q : Object) (s : Result Object X) → by_search too_many limit search objs s ≡ Ok (Brought q) → first_place (λ j x. bytes_eq x.id q.id) 0 objs ≡ None
  search_new objs q (Err r) h = cc
  search_new objs q (Ok o) h = id_new objs o q (first_place (λ j x. bytes_eq x.id o.id) 0 objs) refl h

  name_new : (objs : List Object) (log : List Asked) (r : Request) (q : Object) (p : Option ℕ) → by_name too_many limit search objs log r p ≡ Ok (Brought q) → first_place (λ j x. bytes_eq x.id q.id) 0 objs ≡ None
  name_new objs log r q (Some j) h = let c : Known j ≡ Brought q = cc in cc
  name_new objs log r q None h = search_new objs q (search objs log r) h

  pub brought_apart : (objs : List Object) (log : List Asked) (r : Request) (q : Object) → found_for too_many limit search objs log r ≡ Ok (Brought q) → (i : ℕ) (x : Object) → slice_get objs i ≡ Some x → bytes_eq x.id q.id ≡ false
  unfolding found_for
  brought_apart objs log r q h i x g =
      none_passes (λ j y. bytes_eq y.id q.id) objs (name_new objs log r q (first_place (is_known log r.name) 0 objs) h) i x g

  brought_id : (objs : List Object) (o q : Object) (p : Option ℕ) → by_id too_many limit search objs o p ≡ Ok (Brought q) → o ≡ q
  brought_id objs o q (Some j) h = let c : Known j ≡ Brought q = cc in cc
  brought_id objs o q None h = limit_is (nat_lt (length objs) limit) o q h

  brought_search : (objs : List Object) (q : Object) (s : Result Object X) → by_search too_many limit search objs s ≡ Ok (Brought q) → s ≡ Ok q
  brought_search objs q (Err r) h = cc
  brought_search objs q (Ok o) h = ap (λ (y : Object). Ok y) (brought_id objs o q (first_place (λ j x. bytes_eq x.id o.id) 0 objs) h)

  brought_name : (objs : List Object) (log : List Asked) (r : Request) (q : Object) (p : Option ℕ) → by_name too_many limit search objs log r p ≡ Ok (Brought q) → search objs log r ≡ Ok q
  brought_name objs log r q (Some j) h = let c : Known j ≡ Brought q = cc in cc
  brought_name objs log r q None h = brought_search objs q (search objs log r) h

  -- what is brought is what the search finds
  pub brought_found : (objs : List Object) (log : List Asked) (r : Request) (q : Object) → found_for too_many limit search objs log r ≡ Ok (Brought q) → search objs log r ≡ Ok q
  unfolding found_for
  brought_found objs log r q h = brought_name objs log r q (first_place (is_known log r.name) 0 objs) h

-- ---- what is found is a file for this machine

module _ (read : List ℕ → Result Face Flaw) (setting : Setting) (world : World) where
  pub record IsRightFile (o : Object) : Type 0 where
    pub file : WorldFile
    pub lies : file_at world o.path ≡ Some file
    pub id : file.id ≡ o.id
    pub reads : read file.bytes ≡ Ok o.face
    pub right : is_other setting.machine file.bytes ≡ false

  right_read : (path : List ℕ) (f : WorldFile) (q : Object) (r : Result Face Flaw) → file_at world path ≡ Some f → is_other setting.machine f.bytes ≡ false → read f.bytes ≡ r → decided_by read setting world path (kind_of_read read f r) ≡ Some (Ok q) → IsRightFile q
  right_read path f q (Ok face) lies right is h =
      let made : Object = record { path = path; id = f.id; face = face } in
      let e : ◌≡◌ {A = Result Object LoadRefusal} (Ok made) (Ok q) = cc in
      let one : made ≡ q = cc in
      subst (λ (y : Object). IsRightFile y) one (record { file = f; lies = lies; id = refl; reads = is; right = right })
  right_read path f q (Err flaw) lies right is h = cc

  right_other : (path : List ℕ) (f : WorldFile) (q : Object) (other : Bool) → file_at world path ≡ Some f → is_other setting.machine f.bytes ≡ other → decided_by read setting world path (cond other Other (kind_of_read read f (read f.bytes))) ≡ Some (Ok q) → IsRightFile q
  right_other path f q true lies is h = cc
  right_other path f q false lies is h = right_read path f q (read f.bytes) lies is refl h

  right_lying : (path : List ℕ) (found : Option WorldFile) (q : Object) → file_at world path ≡ found → decided_by read setting world path (kind_of_file read setting.machine found) ≡ Some (Ok q) → IsRightFile q
  right_lying path None q lies h = cc
  right_lying path (Some f) q lies h = right_other path f q (is_other setting.machine f.bytes) lies refl h

  pub decided_right : (c : Candidate) (q : Object) → decision read setting world c ≡ Some (Ok q) → IsRightFile q
  unfolding decision
  decided_right (At path) q h = right_lying path (file_at world path) q refl h
  decided_right (Refused refusal) q h = let e : ◌≡◌ {A = Result Object LoadRefusal} (Err refusal) (Ok q) = cc in cc

  found_some : (missing : LoadRefusal) (o : Option (Result Object LoadRefusal)) (q : Object) → found_or read setting world missing o ≡ Ok q → o ≡ Some (Ok q)
  found_some missing None q h = cc
  found_some missing (Some found) q h = ap Some h

  pub first_right : (cs : List Candidate) (q : Object) → first_decision read setting world cs ≡ Some (Ok q) → IsRightFile q
  first_right cs q h = let w = first_decides read setting world cs (Ok q) h in decided_right w.candidate q w.decides

  search_right : (objs : List Object) (log : List Asked) (r : Request) (q : Object) → path_search read setting world objs log r ≡ Ok q → IsRightFile q
  unfolding path_search
  search_right objs log r q h =
      first_right (candidates setting objs (loader_in log) r) q (found_some (MissingLibrary r.name (asker_path objs r)) (first_decision read setting world (candidates setting objs (loader_in log) r)) q h)

  pub brought_right : (path : List ℕ) (objs : List Object) (log : List Asked) (r : Request) (q : Object) → found_for (TooManyObjects path) MOST_OBJECTS (path_search read setting world) objs log r ≡ Ok (Brought q) → IsRightFile q
  brought_right path objs log r q h = search_right objs log r q (brought_found (TooManyObjects path) MOST_OBJECTS (path_search read setting world) objs log r q h)

  decided_program : (path : List ℕ) (kind : Kind Face Flaw) (q : Object) → program_by read setting world path kind ≡ Ok q → decided_by read setting world path kind ≡ Some (Ok q)
  decided_program path Absent q h = cc
  decided_program path Other q h = cc
  decided_program path (IsDamaged file flaw) q h = cc
  decided_program path (IsObject file face) q h = ap Some h

  pub program_right : (path : List ℕ) (q : Object) → program_at read setting world path ≡ Ok q → IsRightFile q
  unfolding program_at
  program_right path q h = right_lying path (file_at world path) q refl (decided_program path (kind_of read setting.machine world path) q h)

module _ (read : List ℕ → Result Face Flaw) (setting : Setting) (world : World) (path : List ℕ) (opens : List (List ℕ)) (loaded : Loaded) (ends : List Loaded) (list : IsLoadList read setting world path opens loaded ends) where
  pub hist : IsHistory (goes_to read setting world path) loaded.objs loaded.log
  hist = history read setting world path list.program opens loaded (forget read setting world path list.program opens loaded ends list.run)

  apart_by : (m i j : ℕ) (a : Asked) (x y : Object) (f : Found) → a.target ≡ j → count_after (take m loaded.log) ≡ j → i < j → slice_get loaded.objs i ≡ Some x → slice_get loaded.objs j ≡ Some y → goes_to read setting world path (take (count_after (take m loaded.log)) loaded.objs) (take m loaded.log) a.request ≡ Ok f → WentTo loaded.objs (count_after (take m loaded.log)) a.target f → x.id ≡ y.id → ⊥
  apart_by m i j a x y (Known k) t c less gx gy is went same = let e = went.0 in let b = went.1 in omega arith
  apart_by m i j a x y (Brought o) t c less gx gy is went same =
      let both : Some o ≡ Some y = sym went.1 ∙ ap (slice_get loaded.objs) c ∙ gy in
      let one : o ≡ y = cc in
      let front = slice_get_front (count_after (take m loaded.log)) loaded.objs i x (omega arith) gx in
      let off = brought_apart (TooManyObjects path) MOST_OBJECTS (path_search read setting world) (take (count_after (take m loaded.log)) loaded.objs) (take m loaded.log) a.request o (goes_ok read setting world path (take (count_after (take m loaded.log)) loaded.objs) (take m loaded.log) a.request (Brought o) is) i x front in
      both_ways (bytes_eq x.id o.id) off ((bytes_decides x.id o.id).1 (same ∙ ap (λ (z : Object). z.id) (sym one)))

  ids_apart : (i j : ℕ) (x y : Object) → i < j → slice_get loaded.objs i ≡ Some x → slice_get loaded.objs j ≡ Some y → x.id ≡ y.id → ⊥
  ids_apart i j x y less gx gy same =
      let within = slice_get_within loaded.objs j y gy in
      let whole = hist.whole in
      let all : take (length loaded.log) loaded.log ≡ loaded.log = take_all (length loaded.log) loaded.log (omega arith) in
      let count : count_after (take (length loaded.log) loaded.log) ≡ length loaded.objs = ap count_after all ∙ whole in
      let w = brought_by (goes_to read setting world path) loaded.objs loaded.log hist (length loaded.log) j (omega arith) (omega arith) (omega arith) in
      let r = hist.answered w.0 w.1 w.3 in
      apart_by w.0 i j w.1 x y r.found w.4 w.5 less gx gy r.found_is r.target same

  -- ---- each object is a file of the world, for this machine

  went_right : (m : ℕ) (a : Asked) (o : Object) (f : Found) → a.target ≡ count_after (take m loaded.log) → slice_get loaded.objs (count_after (take m loaded.log)) ≡ Some o → goes_to read setting world path (take (count_after (take m loaded.log)) loaded.objs) (take m loaded.log) a.request ≡ Ok f → WentTo loaded.objs (count_after (take m loaded.log)) a.target f → IsRightFile read setting world o
  went_right m a o (Known k) t g is went = let e = went.0 in let less = went.1 in absurd (omega arith)
  went_right m a o (Brought x) t g is went =
      let both : Some x ≡ Some o = sym went.1 ∙ g in
      let one : x ≡ o = cc in
      subst (λ (y : Object). IsRightFile read setting world y) one
      (brought_right read setting world path (take (count_after (take m loaded.log)) loaded.objs) (take m loaded.log) a.request x (goes_ok read setting world path (take (count_after (take m loaded.log)) loaded.objs) (take m loaded.log) a.request (Brought x) is))

  later_right : (j : ℕ) (o : Object) → 0 < j → slice_get loaded.objs j ≡ Some o → IsRightFile read setting world o
  later_right j o some g =
      let within = slice_get_within loaded.objs j o g in
      let whole = hist.whole in
      let all : take (length loaded.log) loaded.log ≡ loaded.log = take_all (length loaded.log) loaded.log (omega arith) in
      let count : count_after (take (length loaded.log) loaded.log) ≡ length loaded.objs = ap count_after all ∙ whole in
      let w = brought_by (goes_to read setting world path) loaded.objs loaded.log hist (length loaded.log) j (omega arith) some (omega arith) in
      let r = hist.answered w.0 w.1 w.3 in
      went_right w.0 w.1 o r.found (w.4 ∙ sym w.5) (ap (slice_get loaded.objs) w.5 ∙ g) r.found_is r.target

  first_is : take 1 loaded.objs ≡ list.program ∷ []
  unfolding count_from
  first_is = (run_grown (goes_to read setting world path) (phases_of list.program opens) (start_of list.program) loaded refl (forget read setting world path list.program opens loaded ends list.run)).objs

  pub right_file : (j : ℕ) (o : Object) → slice_get loaded.objs j ≡ Some o → IsRightFile read setting world o
  right_file zero o g =
      let front : slice_get (take 1 loaded.objs) 0 ≡ Some o = slice_get_front 1 loaded.objs 0 o (omega arith) g in
      let both : Some list.program ≡ Some o = ap (λ xs. slice_get xs 0) (sym first_is) ∙ front in
      let one : list.program ≡ o = cc in
      subst (λ (y : Object). IsRightFile read setting world y) one (program_right read setting world path list.program list.starts)
  right_file (suc j) o g = later_right (suc j) o (omega arith) g

  -- Two objects are two files.
  pub ids_differ : (i j : ℕ) (x y : Object) → slice_get loaded.objs i ≡ Some x → slice_get loaded.objs j ≡ Some y → x.id ≡ y.id → i ≡ j
  ids_differ i j x y gx gy same =
      elim (cases_lt i j) [
        | inl b ↦ absurd (ids_apart i j x y b gx gy same)
        | inr b ↦ elim (cases_lt j i) [
          | inl c ↦ absurd (ids_apart j i y x c gy gx (sym same))
          | inr c ↦ omega arith
        ]
      ]

  -- What is asked for is a need, or is opened by the program.
  pub asked_as : (m : ℕ) (a : Asked) → slice_get loaded.log m ≡ Some a → IsNeed (goes_to read setting world path) loaded.objs a.request ⊎ IsOpened (goes_to read setting world path) opens ends loaded m a.request
  asked_as m a g = request_of (goes_to read setting world path) list.program opens loaded ends list.run m a g

  pub went : (m : ℕ) (a : Asked) → slice_get loaded.log m ≡ Some a → target_in loaded.log a.request.name ≡ a.target
  went m a g = one_target read setting world path loaded.objs loaded.log hist m a g

  pub target_there : (m : ℕ) (a : Asked) → slice_get loaded.log m ≡ Some a → (x : Object) × (slice_get loaded.objs a.target ≡ Some x)
  target_there m a g =
      let count = target_count loaded.log m a g in
      let whole = hist.whole in
      there loaded.objs a.target (omega arith)

  -- The target of a need stands beside it.
  pub need_went : (m : ℕ) (a : Asked) (o : Object) (e : ℕ) → slice_get loaded.log m ≡ Some a → slice_get loaded.objs a.request.by ≡ Some o → slice_get o.face.needs e ≡ Some a.request.name → slice_get (need_targets loaded a.request.by) e ≡ Some a.target
  need_went m a o e g go ge =
      ap (λ x. slice_get (map (target_in loaded.log) (needs_at x)) e) go
      ∙ map_get (target_in loaded.log) o.face.needs e a.request.name ge
      ∙ ap Some (went m a g)

  -- An opened name went to an object that is there.
  pub opened_there : (k : ℕ) (name : List ℕ) → slice_get opens k ≡ Some name → (x : Object) × (slice_get loaded.objs (target_in loaded.log name) ≡ Some x)
  opened_there k name h =
      let w = opened_asked (goes_to read setting world path) list.program opens loaded (forget read setting world path list.program opens loaded ends list.run) k name h in
      let to : target_in loaded.log name ≡ w.1.target = ap (target_in loaded.log) (sym (ap (λ (r : Request). r.name) w.3)) ∙ went w.0 w.1 w.2 in
      let x = target_there w.0 w.1 w.2 in
      (x.0, ap (slice_get loaded.objs) to ∙ x.1)
