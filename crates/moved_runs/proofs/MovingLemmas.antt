-- A moved program has its load list at a place.
use Rattle.std.proofs.Common.{◌≡◌, ◌∙◌, sym, ap, refl, ℕ, zero, suc, ◌≤◌, ◌<◌, List, [], ◌∷◌, ◌++◌, Bool, true, false, cond, Option, Some, None, Result, Ok, length, map, take, slice_get, arith, subst, ◌⊎◌, inl, inr}
use Rattle.std.specs.Prelude.{codes}
use Rattle.std.proofs.lemmas.Bool.{cases_Bool}
use Rattle.std.proofs.lemmas.Option.{slice_get_within}
use Rattle.byte_view.specs.declared.flaws.Flaw.{Flaw}
use Rattle.path_text.specs.FileName.{IsFileName}
use Rattle.path_text.specs.Path.{IsNormalPath}
use Rattle.load_model.specs.Candidates.{candidate_in, listed_candidates, loader_in, path_search, refused_text}
use Rattle.load_model.specs.Joined.{joined}
use Rattle.load_model.specs.LoadList.{Object, Request, Asked, Found, Loaded, count_after, IsPhase, IsEndedFrom, IsEndedRun, found_for}
use Rattle.load_model.specs.Loads.{IsLoadList, answer_unless, goes_to, program_at, program_by}
use Rattle.load_model.specs.RunPaths.{Folder}
use Rattle.load_model.specs.World.{World, Other, file_at, is_other, kind_of_file, kind_of_read}
use Rattle.load_model.specs.declared.faces.Face.{Face}
use Rattle.load_model.specs.declared.limits.TheConstants.{MOST_OBJECTS}
use Rattle.load_model.specs.declared.refusals.LoadRefusal.{LoadRefusal}
use Rattle.load_model.specs.declared.refusals.LoadRefusal.TheVariants.{TooManyObjects}
use Rattle.load_model.specs.declared.setting.Setting.{Setting}
use Rattle.load_model.specs.declared.world.WorldFile.{WorldFile}
use Rattle.load_model.proofs.Counts.{count-le}
use Rattle.load_model.proofs.Ended.{run_of_ends}
use Rattle.load_model.proofs.History.{IsHistory, IsGrown, at_second, in_front, count_at, run_grown, target_count}
use Rattle.load_model.proofs.ListedLemmas.{all_at, plain_text}
use Rattle.load_model.proofs.LoadLists.{forget, history}
use Rattle.load_model.proofs.OneRun.{there}
use Rattle.load_model.proofs.Places.{slice_get-take, slice_get_front}
use Rattle.load_model.proofs.TwoWorlds.{same_bytes}
use Rattle.moved_runs.specs.Moved.{AreMoved, all_renamed, loaded_there, new_names, renamed}
use Rattle.moved_runs.specs.Placed.{lib_folder, lib_place}
use Rattle.moved_runs.specs.Placed.{Item}
use Rattle.moved_runs.specs.Places.{IsHostFile, IsItem, IsMoved, IsWritten, LeadsToLibs}
use Rattle.moved_runs.proofs.MovedLemmas.{moved_run, renamed_entry}
use Rattle.moved_runs.proofs.PlaceLemmas.{dir_under, same_tail, same_target}
use Rattle.moved_runs.proofs.SearchLemmas.{bare_candidates, bundled_first, find_at, found_in, host_first, item_file, led_candidates, search_is}

-- ---- runs by another answer

module _ {X : Type 0} (answer other : List Object → List Asked → Request → Result Found X) (run : Loaded) (same : (m : ℕ) (a : Asked) → slice_get run.log m ≡ Some a → (objs : List Object) (log : List Asked) (f : Found) → answer objs log a.request ≡ Ok f → other objs log a.request ≡ Ok f) where
  phase_to : (before mid : Loaded) (o : List (List ℕ)) → IsGrown mid run → IsPhase answer before o mid → IsPhase other before o mid
  phase_to before mid o grown p =
      record {
        objs = p.objs;
        more = p.more;
        log = p.log;
        asked = p.asked;
        answered = λ m a g.
            let w = at_second before.log p.more m a g in
            let f = in_front mid.log grown.more w.0 a (ap (λ xs. slice_get xs w.0) p.log ∙ w.1) in
            let r = p.answered m a g in
            let log_before : List Asked = before.log ++ take m p.more in
            record {
              asker = r.asker;
              found = r.found;
              found_is = same w.0 a (ap (λ xs. slice_get xs w.0) grown.log ∙ f.0) (take (count_after log_before) mid.objs) log_before r.found r.found_is;
              target = r.target;
            };
        whole = p.whole;
      }

  -- where a run goes by one answer, it goes by any that says the same of its requests
  pub ended_to : (os : List (List (List ℕ))) (before : Loaded) (ends : List Loaded) → IsEndedFrom answer before os run ends → IsEndedFrom other before os run ends
  ended_to [] before [] p = p
  ended_to [] before (end ∷ ends) p = absurd p
  ended_to (o ∷ os) before [] p = absurd p
  ended_to (o ∷ os) before (end ∷ ends) p =
      (phase_to before end o (run_grown answer os end run p.0.whole (run_of_ends answer os end run ends p.1)) p.0, ended_to os end ends p.1)

module _ (read : List ℕ → Result Face Flaw) (setting : Setting) (world : World) (path : List ℕ) where
  abbrev pub target : List Object → List Asked → Request → Result Found LoadRefusal
  target = found_for (TooManyObjects path) MOST_OBJECTS (path_search read setting world)

  text_ok : (objs : List Object) (log : List Asked) (r : Request) (o : Option LoadRefusal) (f : Found) → answer_unless read setting world path objs log r o ≡ Ok f → target objs log r ≡ Ok f
  text_ok objs log r None f h = h
  text_ok objs log r (Some refusal) f h = cc

  pub goes_ok : (objs : List Object) (log : List Asked) (r : Request) (f : Found) → goes_to read setting world path objs log r ≡ Ok f → target objs log r ≡ Ok f
  unfolding goes_to
  goes_ok objs log r f h = text_ok objs log r (refused_text objs r) f h

  pub ok_goes : (objs : List Object) (log : List Asked) (r : Request) (f : Found) → IsFileName r.name → target objs log r ≡ Ok f → goes_to read setting world path objs log r ≡ Ok f
  unfolding goes_to
  ok_goes objs log r f plain h = ap (answer_unless read setting world path objs log r) (plain_text objs r plain) ∙ h

  pub started_at : (file : WorldFile) (q : Object) → file_at world path ≡ Some file → is_other setting.machine file.bytes ≡ false → read file.bytes ≡ Ok q.face → q.path ≡ path → file.id ≡ q.id → program_at read setting world path ≡ Ok q
  unfolding program_at
  started_at file q lies right seen at id =
      ap (λ o. program_by read setting world path (kind_of_file read setting.machine o)) lies
      ∙ ap (λ b. program_by read setting world path (cond b Other (kind_of_read read file (read file.bytes)))) right
      ∙ ap (λ r. program_by read setting world path (kind_of_read read file r)) seen
      ∙ ap (λ p. Ok (record { path = p; id = file.id; face = q.face })) (sym at)
      ∙ ap (λ i. Ok (record { path = q.path; id = i; face = q.face })) id

  -- a load list goes where the names and the search say
  pub plain_run : (program : Object) (opens : List (List ℕ)) (loaded : Loaded) (ends : List Loaded) → IsEndedRun (goes_to read setting world path) program opens loaded ends → IsEndedRun target program opens loaded ends
  plain_run program opens loaded ends p =
      ended_to (goes_to read setting world path) target loaded (λ m a g objs log f h. goes_ok objs log a.request f h) (program.face.needs ∷ map (λ n. n ∷ []) opens) (record { objs = program ∷ []; log = [] }) ends p

-- ---- the premises of the moved run

zero_or_more : (j : ℕ) → (j ≡ 0) ⊎ (0 < j)
zero_or_more zero = inl refl
zero_or_more (suc j) = inr (omega arith)

module _ (read : List ℕ → Result Face Flaw) (setting : Setting) (world : World) (place : List ℕ) (items : List Item) (name_of : ℕ → List ℕ) (is_bundled : ℕ → Bool) (program : List ℕ) (run : Loaded) (objs_there : List Object) (moved : IsMoved read setting world place items name_of is_bundled program run objs_there) where
  from_here : (j : ℕ) (q : Object) → slice_get objs_there j ≡ Some q → (o : Object) × (slice_get run.objs j ≡ Some o)
  from_here j q g =
      let within = slice_get_within objs_there j q g in
      let size = moved.count in
      there run.objs j (omega arith)

  below : (j : ℕ) (q : Object) → slice_get objs_there j ≡ Some q → j < length run.objs
  below j q g = let within = slice_get_within objs_there j q g in let size = moved.count in omega arith

  -- what is known of a file that was written
  pub record IsDone (j : ℕ) (q : Object) : Type 0 where
    pub path : List ℕ
    pub here : Object
    pub here_is : slice_get run.objs j ≡ Some here
    pub written : IsWritten read setting world place items name_of run.log path here q
    pub path_is : ((j ≡ 0) × (path ≡ program)) ⊎ ((0 < j) × (is_bundled j ≡ true) × (path ≡ lib_place (name_of j)))

  pub record IsHosted (j : ℕ) (q : Object) : Type 0 where
    pub some : 0 < j
    pub not_bundled : is_bundled j ≡ false
    pub here : Object
    pub here_is : slice_get run.objs j ≡ Some here
    pub host : IsHostFile read setting world place items name_of run.log (name_of j) here q

  zero_done : (j : ℕ) (q o : Object) → j ≡ 0 → slice_get objs_there j ≡ Some q → slice_get run.objs j ≡ Some o → IsDone j q
  zero_done j q o e g h =
      let w = moved.program_is o q (ap (slice_get run.objs) (sym e) ∙ h) (ap (slice_get objs_there) (sym e) ∙ g) in
      record { path = program; here = o; here_is = h; written = w.0; path_is = inl (e, refl) }

  -- each object there is a file that was written, or one of the host
  pub each_there : (j : ℕ) (q : Object) → slice_get objs_there j ≡ Some q → IsDone j q ⊎ IsHosted j q
  each_there j q g =
      let o = from_here j q g in
      elim (zero_or_more j) [
        | inl e ↦ inl (zero_done j q o.0 e g o.1)
        | inr some ↦
            elim (cases_Bool (is_bundled j)) [
              | inl b ↦ inl (record { path = lib_place (name_of j); here = o.0; here_is = o.1; written = moved.bundled j o.0 q some b o.1 g; path_is = inr (some, b, refl) })
              | inr b ↦ inr (record { some = some; not_bundled = b; here = o.0; here_is = o.1; host = moved.hosts j o.0 q some b o.1 g })
            ]
      ]

  pub no_rpath : (j : ℕ) (q : Object) → slice_get objs_there j ≡ Some q → q.face.rpath ≡ None
  no_rpath j q g = elim (each_there j q g) [
    | inl w ↦ w.written.rpath
    | inr w ↦ w.host.run_path.rpath
  ]

  -- an object there has no RUNPATH, or one that leads to the folder of libraries
  pub runpath_cases : (j : ℕ) (q : Object) → slice_get objs_there j ≡ Some q → (q.face.runpath ≡ None) ⊎ LeadsToLibs read setting world place items q
  runpath_cases j q g = elim (each_there j q g) [
    | inl w ↦ w.written.runpath
    | inr w ↦ inl w.host.run_path.runpath
  ]

  pub needs_there : (j : ℕ) (o q : Object) → slice_get run.objs j ≡ Some o → slice_get objs_there j ≡ Some q → q.face.needs ≡ new_names name_of run.log o.face.needs
  needs_there j o q h g = elim (each_there j q g) [
    | inl w ↦ let e : Some w.here ≡ Some o = sym w.here_is ∙ h in let s : w.here ≡ o = cc in w.written.needs ∙ ap (λ (x : Object). new_names name_of run.log x.face.needs) s
    | inr w ↦ let e : Some w.here ≡ Some o = sym w.here_is ∙ h in let s : w.here ≡ o = cc in w.host.needs ∙ ap (λ (x : Object). new_names name_of run.log x.face.needs) s
  ]

  -- ---- different files

  same_path : (i j : ℕ) (x y : Object) → (w : IsDone i x) → (v : IsDone j y) → w.path ≡ v.path → i < length run.objs → j < length run.objs → i ≡ j
  same_path i j x y w v e bi bj =
      elim w.path_is [
        | inl a ↦ elim v.path_is [
          | inl b ↦ a.0 ∙ sym b.0
          | inr b ↦ absurd (moved.program_apart j b.0 bj b.1 (sym a.1 ∙ e ∙ b.2))
        ]
        | inr a ↦ elim v.path_is [
          | inl b ↦ absurd (moved.program_apart i a.0 bi a.1 (sym b.1 ∙ sym e ∙ a.2))
          | inr b ↦ moved.distinct i j a.0 bi b.0 bj (same_tail (codes "usr/lib/") (name_of i) (name_of j) (sym a.2 ∙ e ∙ b.2))
        ]
      ]

  -- a file that was written is none of the host
  no_host : (i j : ℕ) (x y : Object) → (w : IsDone i x) → (v : IsHosted j y) → j < length run.objs → x.id ≡ y.id → ⊥
  no_host i j x y w v bj same =
      let f = item_file read setting world place items moved.place_normal moved.placed w.path x w.written.item in
      let g = found_in read setting world (name_of j) y moved.dirs_normal (moved.names j v.some bj) v.host.found in
      let at = find_at (joined g.dir (name_of j)) world g.file g.lies in
      let one : g.file.path ≡ f.1.path = moved.placed.own f.0 at.0 f.1 g.file f.2 at.1 (w.path, f.3) (sym g.same ∙ sym same ∙ sym f.4) in
      let meet : joined g.dir (name_of j) ≡ joined place w.path = sym at.2 ∙ one ∙ f.3 in
      let apart = moved.apart g.number g.dir g.listed in
      elim (dir_under g.dir place (name_of j) w.path (all_at IsNormalPath setting.dirs g.number g.dir moved.dirs_normal g.listed) moved.place_normal (moved.names j v.some bj) meet) [
        | inl e ↦ apart.0 e
        | inr u ↦ apart.1 u
      ]

  pub different : (i j : ℕ) (x y : Object) → slice_get objs_there i ≡ Some x → slice_get objs_there j ≡ Some y → x.id ≡ y.id → i ≡ j
  different i j x y gi gj same =
      elim (each_there i x gi) [
        | inl w ↦ elim (each_there j y gj) [
          | inl v ↦
              let f = item_file read setting world place items moved.place_normal moved.placed w.path x w.written.item in
              let g = item_file read setting world place items moved.place_normal moved.placed v.path y v.written.item in
              let one : g.1.path ≡ f.1.path = moved.placed.own f.0 g.0 f.1 g.1 f.2 g.2 (w.path, f.3) (g.4 ∙ sym same ∙ sym f.4) in
              same_path i j x y w v (same_target place w.path v.path (sym f.3 ∙ sym one ∙ g.3)) (below i x gi) (below j y gj)
          | inr v ↦ absurd (no_host i j x y w v (below j y gj) same)
        ]
        | inr w ↦ elim (each_there j y gj) [
          | inl v ↦ absurd (no_host j i y x v w (below i x gi) (sym same))
          | inr v ↦ moved.host_ids i j x y w.some v.some w.not_bundled v.not_bundled gi gj same
        ]
      ]

  -- ---- the search

  name_is : (t : ℕ) (q : Object) → 0 < t → slice_get objs_there t ≡ Some q → IsFileName (name_of t)
  name_is t q some g = moved.names t some (below t q g)

  -- the search by an asker that is loaded, for the name of another object, finds this object
  pub search_finds : (m c : ℕ) (a : Asked) (q : Object) (log : List Asked) → slice_get run.log m ≡ Some a → 0 < a.target → a.request.by < c → c ≤ length objs_there → slice_get objs_there a.target ≡ Some q → path_search read setting world (take c objs_there) log (renamed name_of a).request ≡ Ok q
  search_finds m c a q log g some by size gq =
      let x = there objs_there a.request.by (omega arith) in
      let asker : slice_get (take c objs_there) a.request.by ≡ Some x.0 = slice_get_front c objs_there a.request.by x.0 by x.1 in
      let bare : (k : ℕ) (y : Object) → slice_get (take c objs_there) k ≡ Some y → y.face.rpath ≡ None = λ k y h. no_rpath k y (slice_get-take c objs_there k y h).1 in
      let n : List ℕ = name_of a.target in
      let file_name = name_is a.target q some gq in
      let r : Request = (renamed name_of a).request in
      elim (each_there a.target q gq) [
        | inl w ↦
            elim w.path_is [
              | inl z ↦ let e = z.0 in absurd (omega arith)
              | inr b ↦
                  let leads = moved.askers m a x.0 g b.1 x.1 in
                  let item : IsItem read setting world place items (lib_place (name_of a.target)) q = subst (λ (p : List ℕ). IsItem read setting world place items p q) b.2 w.written.item in
                  search_is read setting world (take c objs_there) log r (candidate_in n (Folder (lib_folder place)) ++ listed_candidates setting n) q
                  (led_candidates setting (take c objs_there) (loader_in log) bare read world place items r x.0 asker file_name leads)
                  (bundled_first read setting world place items moved.place_normal moved.placed n q file_name (moved.texts a.target some (below a.target q gq) b.1) item)
            ]
        | inr w ↦
            elim (runpath_cases a.request.by x.0 x.1) [
              | inl none ↦ search_is read setting world (take c objs_there) log r (listed_candidates setting n) q (bare_candidates setting (take c objs_there) (loader_in log) bare r x.0 asker file_name none) w.host.found
              | inr leads ↦
                  search_is read setting world (take c objs_there) log r (candidate_in n (Folder (lib_folder place)) ++ listed_candidates setting n) q
                  (led_candidates setting (take c objs_there) (loader_in log) bare read world place items r x.0 asker file_name leads)
                  (host_first read setting world place items moved.place_normal moved.placed n file_name (moved.off_list a.target some (below a.target q gq) w.not_bundled) ∙ w.host.found)
            ]
      ]

  module _ {X : Type 0} (answer : List Object → List Asked → Request → Result Found X) (hist : IsHistory answer run.objs run.log) where
    pub are_moved : AreMoved name_of (path_search read setting world) run objs_there
    are_moved = record {
      never = moved.never;
      distinct = moved.distinct;
      count = moved.count;
      needs = needs_there;
      program = λ q g. let o = from_here 0 q g in (moved.program_is o.0 q o.1 g).1;
      sonames = moved.sonames;
      ids = λ i j x y gi gj t. different i j x y gi gj (same_bytes x.id y.id t);
      found = λ m a q g e gq.
          let r = hist.answered m a g in
          let by : a.request.by < count_after (take m run.log) = r.asker in
          let size = moved.count in
          let most = count_at run.log m in
          let all = hist.whole in
          search_finds m a.target a q (all_renamed name_of (take m run.log)) g (moved.never m a g) (omega arith) (omega arith) gq;
    }

-- ---- the load list

module _ (read : List ℕ → Result Face Flaw) (setting setting_there : Setting) (here there_world : World) (path : List ℕ) (opens : List (List ℕ)) (loaded : Loaded) (ends : List Loaded) (list : IsLoadList read setting here path opens loaded ends) (place : List ℕ) (items : List Item) (name_of : ℕ → List ℕ) (is_bundled : ℕ → Bool) (program : List ℕ) (objs_there : List Object) (moved : IsMoved read setting_there there_world place items name_of is_bundled program loaded objs_there) where
  hist : IsHistory (goes_to read setting here path) loaded.objs loaded.log
  hist = history read setting here path list.program opens loaded (forget read setting here path list.program opens loaded ends list.run)

  pub moved_search : AreMoved name_of (path_search read setting_there there_world) loaded objs_there
  moved_search = are_moved read setting_there there_world place items name_of is_bundled program loaded objs_there moved (goes_to read setting here path) hist

  first_there : (q : Object) × (slice_get objs_there 0 ≡ Some q)
  first_there =
      let size = moved.count in
      let all = hist.whole in
      let some = count-le 1 loaded.log in
      there objs_there 0 (omega arith)

  starts_there : (q : Object) → slice_get objs_there 0 ≡ Some q → program_at read setting_there there_world (joined place program) ≡ Ok q
  starts_there q g =
      let size = moved.count in
      let within = slice_get_within objs_there 0 q g in
      let o = there loaded.objs 0 (omega arith) in
      let is = (moved.program_is o.0 q o.1 g).0.item in
      let w = moved.placed.lies is.number is.item is.is_item in
      let lies : file_at there_world (joined place program) ≡ Some w.0 = ap (λ p. file_at there_world (joined place p)) (sym is.path_is) ∙ w.1 in
      started_at read setting_there there_world (joined place program) w.0 q lies (ap (is_other setting_there.machine) w.2 ∙ is.right) (ap read w.2 ∙ is.seen) is.lies (is.id w.0 (ap (file_at there_world) is.lies ∙ lies))

  pub moved_list : IsLoadList read setting_there there_world (joined place program) (new_names name_of loaded.log opens) (record { objs = objs_there; log = all_renamed name_of loaded.log }) (map (loaded_there name_of objs_there) ends)
  moved_list =
      let q = first_there in
      record {
        program = q.0;
        starts = starts_there q.0 q.1;
        run =
            ended_to (target read setting_there there_world (joined place program)) (goes_to read setting_there there_world (joined place program)) (record { objs = objs_there; log = all_renamed name_of loaded.log })
            (λ m b g objs log f h.
            let v = renamed_entry name_of loaded.log m b g in
            let inside = target_count loaded.log m v.0 v.1 in
            let all = hist.whole in
            ok_goes read setting_there there_world (joined place program) objs log b.request f (subst IsFileName (ap (λ (x : Asked). x.request.name) (sym v.2)) (moved.names v.0.target (moved.never m v.0 v.1) (omega arith))) h)
            (q.0.face.needs ∷ map (λ n. n ∷ []) (new_names name_of loaded.log opens)) (record { objs = q.0 ∷ []; log = [] }) (map (loaded_there name_of objs_there) ends)
            (moved_run (TooManyObjects path) (TooManyObjects (joined place program)) MOST_OBJECTS (path_search read setting here) (path_search read setting_there there_world) name_of list.program q.0 opens loaded objs_there ends
            (plain_run read setting here path list.program opens loaded ends list.run) moved_search q.1);
      }
