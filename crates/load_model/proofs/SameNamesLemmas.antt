-- A list that goes by names is the same in another world that has an object for each name.
use Rattle.std.proofs.Common.{◌≡◌, ◌∙◌, sym, ap, refl, ℕ, zero, suc, ◌<◌, List, [], ◌∷◌, Bool, true, false, cond, Option, Some, None, Result, Ok, Err, length, map, take, slice_get, arith, subst, ◌⊎◌, inl, inr, nat_lt}
use Rattle.std.specs.Prelude.{All}
use Rattle.std.specs.Str.{bytes_eq}
use Rattle.std.proofs.lemmas.List.{length-map, take_all}
use Rattle.std.proofs.lemmas.Option.{slice_get_within}
use Rattle.byte_view.specs.declared.flaws.Flaw.{Flaw}
use Rattle.path_text.specs.FileName.{IsFileName}
use Rattle.path_text.specs.Path.{IsNormalPath}
use Rattle.load_model.specs.Candidates.{Candidate, At, IsOpenedIn, asker_path, decided_by, decision, first_found, found_or, listed_candidates, loader_in, path_search, refused_text}
use Rattle.load_model.specs.Deciding.{IsUpToDeciding}
use Rattle.load_model.specs.Joined.{joined}
use Rattle.load_model.specs.LoadList.{Object, Request, Asked, Found, Brought, Loaded, count_after, IsAnswered, IsPhase, IsRun, IsEndedRun, Search, by_id, by_name, by_search, first_place, is_known, found_for, AreAlike}
use Rattle.load_model.specs.Loads.{IsLoadList, answer_unless, goes_to, program_at, program_by}
use Rattle.load_model.specs.SameNames.{HasNoRunPath, HasObject, IsByNames, IsCarried, IsCopyOrAskedFor, IsListedUpTo, LoadsAlike, copied, found_instead, key_of, listed_decision, loaded_there, object_there, objects_there}
use Rattle.load_model.specs.World.{World, Kind, Absent, Other, Object as IsObject, Damaged as IsDamaged, file_at, is_other, kind_of, kind_of_file, kind_of_read}
use Rattle.load_model.specs.declared.faces.Face.{Face}
use Rattle.load_model.specs.declared.limits.TheConstants.{MOST_OBJECTS}
use Rattle.load_model.specs.declared.refusals.LoadRefusal.{LoadRefusal}
use Rattle.load_model.specs.declared.refusals.LoadRefusal.TheVariants.{MissingLibrary, TooManyObjects}
use Rattle.load_model.specs.declared.setting.Setting.{Setting}
use Rattle.load_model.specs.declared.world.WorldFile.{WorldFile}
use Rattle.load_model.proofs.DecidingLemmas.{first_decides, run_searched}
use Rattle.load_model.proofs.JoinedLemmas.{same_dir}
use Rattle.load_model.proofs.OneRun.{there}
use Rattle.load_model.proofs.Places.{slice_get-take}
use Rattle.load_model.proofs.TwoWorlds.{brought_by, same_bytes, same_run}
use Rattle.load_model.proofs.ListedLemmas.{all_at, at_mapped, listed_cases, mapped_at, only_listed, plain_text}

-- ---- answers and phases

-- where a phase goes by one answer, it goes by any that says the same of its requests
phase_to : (answer other : List Object → List Asked → Request → Result Found LoadRefusal) (p : Object) (opening : List (List ℕ)) (after : Loaded) → IsPhase answer (record { objs = p ∷ []; log = [] }) opening after → ((m : ℕ) (a : Asked) → slice_get after.log m ≡ Some a → (objs : List Object) (log : List Asked) (f : Found) → answer objs log a.request ≡ Ok f → other objs log a.request ≡ Ok f) → IsPhase other (record { objs = p ∷ []; log = [] }) opening after
phase_to answer other p opening after w same = record {
  objs = w.objs;
  more = w.more;
  log = w.log;
  asked = w.asked;
  answered = λ m a g.
      let r = w.answered m a g in
      record { asker = r.asker; found = r.found; found_is = same m a (ap (λ xs. slice_get xs m) w.log ∙ g) (take (count_after (take m w.more)) after.objs) (take m w.more) r.found r.found_is; target = r.target };
  whole = w.whole;
}

-- a run of no opened names is its one phase
one_phase : (answer : List Object → List Asked → Request → Result Found LoadRefusal) (p : Object) (after : Loaded) (ends : List Loaded) → IsEndedRun answer p [] after ends → IsPhase answer (record { objs = p ∷ []; log = [] }) p.face.needs after
one_phase answer p after [] w = absurd w
one_phase answer p after (end ∷ []) w = subst (λ (s : Loaded). IsPhase answer (record { objs = p ∷ []; log = [] }) p.face.needs s) (sym w.1) w.0
one_phase answer p after (end ∷ more ∷ ends) w = absurd w.1

-- the reason of a full list has no part in where a request goes
limit_ok : (x y : LoadRefusal) (b : Bool) (o : Object) (f : Found) → ◌≡◌ {A = Result Found LoadRefusal} (cond b (Ok (Brought o)) (Err x)) (Ok f) → ◌≡◌ {A = Result Found LoadRefusal} (cond b (Ok (Brought o)) (Err y)) (Ok f)
limit_ok x y true o f h = h
limit_ok x y false o f h = cc

module _ (x y : LoadRefusal) (limit : ℕ) (search : Search LoadRefusal) where
  id_ok : (objs : List Object) (o : Object) (p : Option ℕ) (f : Found) → by_id x limit search objs o p ≡ Ok f → by_id y limit search objs o p ≡ Ok f
  id_ok objs o None f h = limit_ok x y (nat_lt (length objs) limit) o f h
  id_ok objs o (Some j) f h = h

  search_ok : (objs : List Object) (s : Result Object LoadRefusal) (f : Found) → by_search x limit search objs s ≡ Ok f → by_search y limit search objs s ≡ Ok f
  search_ok objs (Err r) f h = h
  search_ok objs (Ok o) f h = id_ok objs o (first_place (λ j z. bytes_eq z.id o.id) 0 objs) f h

  name_ok : (objs : List Object) (log : List Asked) (r : Request) (p : Option ℕ) (f : Found) → by_name x limit search objs log r p ≡ Ok f → by_name y limit search objs log r p ≡ Ok f
  name_ok objs log r None f h = search_ok objs (search objs log r) f h
  name_ok objs log r (Some j) f h = h

  target_ok : (objs : List Object) (log : List Asked) (r : Request) (f : Found) → found_for x limit search objs log r ≡ Ok f → found_for y limit search objs log r ≡ Ok f
  unfolding found_for
  target_ok objs log r f h = name_ok objs log r (first_place (is_known log r.name) 0 objs) f h

module _ (read : List ℕ → Result Face Flaw) (setting : Setting) (world : World) where
  abbrev target : List ℕ → List Object → List Asked → Request → Result Found LoadRefusal
  target program = found_for (TooManyObjects program) MOST_OBJECTS (path_search read setting world)

  text_ok : (program : List ℕ) (objs : List Object) (log : List Asked) (r : Request) (o : Option LoadRefusal) (f : Found) → answer_unless read setting world program objs log r o ≡ Ok f → target program objs log r ≡ Ok f
  text_ok program objs log r None f h = h
  text_ok program objs log r (Some refusal) f h = cc

  goes_ok : (program other : List ℕ) (objs : List Object) (log : List Asked) (r : Request) (f : Found) → goes_to read setting world program objs log r ≡ Ok f → target other objs log r ≡ Ok f
  unfolding goes_to
  goes_ok program other objs log r f h =
      target_ok (TooManyObjects program) (TooManyObjects other) MOST_OBJECTS (path_search read setting world) objs log r f (text_ok program objs log r (refused_text objs r) f h)

  ok_goes : (program : List ℕ) (objs : List Object) (log : List Asked) (r : Request) (f : Found) → IsFileName r.name → target program objs log r ≡ Ok f → goes_to read setting world program objs log r ≡ Ok f
  unfolding goes_to
  ok_goes program objs log r f plain h = ap (answer_unless read setting world program objs log r) (plain_text objs r plain) ∙ h

-- ---- the program and its copy

module _ (read : List ℕ → Result Face Flaw) (setting : Setting) (world : World) (path : List ℕ) where
  -- a program that starts is for the machine, and is read
  abbrev IsStarted : WorldFile → Object → Type 0
  IsStarted file p = (is_other setting.machine file.bytes ≡ false) × (read file.bytes ≡ Ok p.face)

  started_read : (file : WorldFile) (r : Result Face Flaw) (p : Object) → read file.bytes ≡ r → program_by read setting world path (kind_of_read read file r) ≡ Ok p → read file.bytes ≡ Ok p.face
  started_read file (Ok face) p e h =
      let is : record { path = path; id = file.id; face = face } ≡ p = cc in
      e ∙ ap (λ (o : Object). Ok o.face) is
  started_read file (Err flaw) p e h = cc

  started_other : (file : WorldFile) (b : Bool) (p : Object) → is_other setting.machine file.bytes ≡ b → program_by read setting world path (cond b Other (kind_of_read read file (read file.bytes))) ≡ Ok p → IsStarted file p
  started_other file true p e h = cc
  started_other file false p e h = (e, started_read file (read file.bytes) p refl h)

  started : (file : WorldFile) (p : Object) → file_at world path ≡ Some file → program_at read setting world path ≡ Ok p → IsStarted file p
  unfolding program_at
  started file p lies h =
      started_other file (is_other setting.machine file.bytes) p refl (ap (λ o. program_by read setting world path (kind_of_file read setting.machine o)) (sym lies) ∙ h)

  starts_as : (file : WorldFile) (face : Face) → file_at world path ≡ Some file → is_other setting.machine file.bytes ≡ false → read file.bytes ≡ Ok face → program_at read setting world path ≡ Ok (record { path = path; id = file.id; face = face })
  unfolding program_at
  starts_as file face lies right readable =
      ap (λ o. program_by read setting world path (kind_of_file read setting.machine o)) lies
      ∙ ap (λ b. program_by read setting world path (cond b Other (kind_of_read read file (read file.bytes)))) right
      ∙ ap (λ r. program_by read setting world path (kind_of_read read file r)) readable

-- ---- the files there

find_cases : (b : Bool) (path : List ℕ) (g f : WorldFile) (rest : Option WorldFile) → bytes_eq g.path path ≡ b → cond b (Some g) rest ≡ Some f → ((g ≡ f) × (g.path ≡ path)) ⊎ (rest ≡ Some f)
find_cases true path g f rest e h = inl (cc, same_bytes g.path path e)
find_cases false path g f rest e h = inr h

find_at : (path : List ℕ) (world : World) (f : WorldFile) → file_at world path ≡ Some f → (i : ℕ) × (slice_get world i ≡ Some f) × (f.path ≡ path)
find_at path [] f h = cc
find_at path (g ∷ gs) f h =
    elim (find_cases (bytes_eq g.path path) path g f (file_at gs path) refl h) [
      | inl w ↦ (0, ap Some w.0, ap (λ (x : WorldFile). x.path) (sym w.0) ∙ w.1)
      | inr w ↦ let rest = find_at path gs f w in (suc rest.0, rest.1, rest.2)
    ]

module _ (read : List ℕ → Result Face Flaw) (setting : Setting) (world : World) where
  decided_file : (path : List ℕ) (kind : Kind Face Flaw) (q : Object) → decided_by read setting world path kind ≡ Some (Ok q) → (file : WorldFile) × (face : Face) × (kind ≡ IsObject file face) × (q.id ≡ file.id)
  decided_file path Absent q h = cc
  decided_file path Other q h = cc
  decided_file path (IsDamaged file flaw) q h = cc
  decided_file path (IsObject file face) q h =
      let e : ◌≡◌ {A = Result Object LoadRefusal} (Ok (record { path = path; id = file.id; face = face })) (Ok q) = cc in
      let is : record { path = path; id = file.id; face = face } ≡ q = cc in
      (file, face, refl, ap (λ (x : Object). x.id) (sym is))

  read_file : (g : WorldFile) (r : Result Face Flaw) (file : WorldFile) (face : Face) → kind_of_read read g r ≡ IsObject file face → g ≡ file
  read_file g (Ok seen) file face h = cc
  read_file g (Err flaw) file face h = cc

  other_file : (b : Bool) (g : WorldFile) (file : WorldFile) (face : Face) → cond b Other (kind_of_read read g (read g.bytes)) ≡ IsObject file face → g ≡ file
  other_file true g file face h = cc
  other_file false g file face h = read_file g (read g.bytes) file face h

  kind_file : (o : Option WorldFile) (file : WorldFile) (face : Face) → kind_of_file read setting.machine o ≡ IsObject file face → o ≡ Some file
  kind_file None file face h = cc
  kind_file (Some g) file face h = ap Some (other_file (is_other setting.machine g.bytes) g file face h)

  -- a file that a name finds lies in a listed directory
  record IsFoundIn (name : List ℕ) (q : Object) : Type 0 where
    number : ℕ
    dir : List ℕ
    listed : slice_get setting.dirs number ≡ Some dir
    file : WorldFile
    lies : file_at world (joined dir name) ≡ Some file
    same : q.id ≡ file.id

  found_at : (dir name : List ℕ) (number : ℕ) (q : Object) → slice_get setting.dirs number ≡ Some dir → decision read setting world (At (joined dir name)) ≡ Some (Ok q) → IsFoundIn name q
  unfolding decision
  found_at dir name number q listed h =
      let w = decided_file (joined dir name) (kind_of read setting.machine world (joined dir name)) q h in
      record { number = number; dir = dir; listed = listed; file = w.0; lies = kind_file (file_at world (joined dir name)) w.0 w.1 w.2; same = w.3 }

  found_in : (name : List ℕ) (q : Object) → All IsNormalPath setting.dirs → IsFileName name → listed_decision read setting world name ≡ Some (Ok q) → IsFoundIn name q
  found_in name q d h found =
      let w = first_decides read setting world (listed_candidates setting name) (Ok q) found in
      elim (listed_cases setting name d h) [
        | inl e ↦
            let at = mapped_at (λ dir. At (joined dir name)) setting.dirs w.number w.candidate (ap (λ cs. slice_get cs w.number) (sym e) ∙ w.stands) in
            found_at at.0 name w.number q at.1 (ap (decision read setting world) (sym at.2) ∙ w.decides)
        | inr e ↦ absurd (let none : None ≡ Some w.candidate = ap (λ (cs : List Candidate). slice_get cs w.number) (sym e) ∙ w.stands in cc)
      ]

  up_to_listed : (name path : List ℕ) → IsUpToDeciding read setting world (map (λ dir. At (joined dir name)) setting.dirs) path → IsListedUpTo read setting world name path
  up_to_listed name path w =
      let at = mapped_at (λ dir. At (joined dir name)) setting.dirs w.number (At path) w.stands in
      record {
        number = w.number;
        dir = at.0;
        listed = at.1;
        joined_is = cc (at.2);
        present = w.present;
        before = λ i d less g. w.before i (At (joined d name)) less (at_mapped (λ dir. At (joined dir name)) setting.dirs i d g);
      }

  listed_up_to : (name path : List ℕ) → All IsNormalPath setting.dirs → IsFileName name → IsUpToDeciding read setting world (listed_candidates setting name) path → IsListedUpTo read setting world name path
  listed_up_to name path d h w =
      elim (listed_cases setting name d h) [
        | inl e ↦ up_to_listed name path (subst (λ (cs : List Candidate). IsUpToDeciding read setting world cs path) e w)
        | inr e ↦ absurd (let none : None ≡ Some (At path) = ap (λ (cs : List Candidate). slice_get cs w.number) (sym e) ∙ w.stands in cc)
      ]

module _ (read : List ℕ → Result Face Flaw) (setting : Setting) (world : World) (start : WorldFile) (objs : List Object) (place name : List ℕ) (copy : WorldFile) (carried : IsCarried read setting world start objs place name copy) where
  copy_path : copy.path ≡ joined place name
  copy_path = (find_at (joined place name) world copy carried.lies).2

  -- no name finds the copy
  not_copy : (n : List ℕ) (q : Object) → IsFileName n → listed_decision read setting world n ≡ Some (Ok q) → q.id ≡ copy.id → ⊥
  not_copy n q h found same =
      let at = found_in read setting world n q carried.dirs_normal h found in
      let file = find_at (joined at.dir n) world at.file at.lies in
      let paths : joined at.dir n ≡ joined place name = sym file.2 ∙ carried.own file.0 at.file file.1 (sym at.same ∙ same) ∙ copy_path in
      carried.apart at.number at.dir at.listed
      (same_dir at.dir place n name (all_at IsNormalPath setting.dirs at.number at.dir carried.dirs_normal at.listed) carried.place_normal h carried.name_is paths)

  abbrev mine : List Object → List Object
  mine os = objects_there read setting world copy os

  length_there : (os : List Object) → length (mine os) ≡ length os
  length_there [] = refl
  length_there (p ∷ os) = ap suc (length-map os (object_there read setting world))

  other_there : (os : List Object) (j : ℕ) (o : Object) → 0 < j → slice_get os j ≡ Some o → slice_get (mine os) j ≡ Some (object_there read setting world o)
  other_there [] j o some g = cc
  other_there (p ∷ os) zero o some g = absurd (omega arith)
  other_there (p ∷ os) (suc j) o some g = at_mapped (object_there read setting world) os j o g

  first_there : (os : List Object) (p : Object) → slice_get os 0 ≡ Some p → slice_get (mine os) 0 ≡ Some (copied copy p)
  first_there [] p g = cc
  first_there (o ∷ os) p g = let e : o ≡ p = cc in ap (λ x. Some (copied copy x)) e

  -- the object there in the place of one from here
  object_is : (j : ℕ) (o y : Object) (w : HasObject read setting world o) → 0 < j → slice_get objs j ≡ Some o → slice_get (mine objs) j ≡ Some y → y ≡ w.there
  object_is j o y w some g h =
      let one : Some y ≡ Some (object_there read setting world o) = sym h ∙ other_there objs j o some g in
      let is : y ≡ object_there read setting world o = cc in
      is ∙ ap (found_instead o) w.found

  from_here : (j : ℕ) (y : Object) → slice_get (mine objs) j ≡ Some y → (o : Object) × (slice_get objs j ≡ Some o)
  from_here j y h =
      let size = length_there objs in
      let within = slice_get_within (mine objs) j y h in
      there objs j (omega arith)

  module _ (program : Object) (first : slice_get objs 0 ≡ Some program) (plain : program.face.soname ≡ None) (bare : HasNoRunPath program) (keys : (j : ℕ) (o : Object) → 0 < j → slice_get objs j ≡ Some o → IsFileName (key_of o)) where
    copy_is : (y : Object) → slice_get (mine objs) 0 ≡ Some y → y ≡ copied copy program
    copy_is y h = let one : Some y ≡ Some (copied copy program) = sym h ∙ first_there objs program first in cc

    all_bare : (j : ℕ) (y : Object) → slice_get (mine objs) j ≡ Some y → HasNoRunPath y
    all_bare zero y h =
        let is = copy_is y h in
        record { rpath = ap (λ (x : Object). x.face.rpath) is ∙ bare.rpath; runpath = ap (λ (x : Object). x.face.runpath) is ∙ bare.runpath }
    all_bare (suc j) y h =
        let o = from_here (suc j) y h in
        let w = carried.files (suc j) o.0 (omega arith) o.1 in
        subst HasNoRunPath (sym (object_is (suc j) o.0 y w (omega arith) o.1 h)) w.run_path

    front_bare : (n j : ℕ) (y : Object) → slice_get (take n (mine objs)) j ≡ Some y → HasNoRunPath y
    front_bare n j y h = all_bare j y (slice_get-take n (mine objs) j y h).1

    no_copy : (j : ℕ) (x y : Object) → 0 < j → slice_get (mine objs) 0 ≡ Some x → slice_get (mine objs) j ≡ Some y → x.id ≡ y.id → ⊥
    no_copy j x y some g h same =
        let o = from_here j y h in
        let w = carried.files j o.0 some o.1 in
        let is = object_is j o.0 y w some o.1 h in
        not_copy (key_of o.0) w.there (keys j o.0 some o.1) w.found (ap (λ (z : Object). z.id) (sym is) ∙ sym same ∙ ap (λ (z : Object). z.id) (copy_is x g))

    ids_there : (i j : ℕ) (x y : Object) → slice_get (mine objs) i ≡ Some x → slice_get (mine objs) j ≡ Some y → x.id ≡ y.id → i ≡ j
    ids_there zero zero x y g h same = refl
    ids_there zero (suc j) x y g h same = absurd (no_copy (suc j) x y (omega arith) g h same)
    ids_there (suc i) zero x y g h same = absurd (no_copy (suc i) y x (omega arith) h g (sym same))
    ids_there (suc i) (suc j) x y g h same =
        let o = from_here (suc i) x g in
        let q = from_here (suc j) y h in
        let w = carried.files (suc i) o.0 (omega arith) o.1 in
        let v = carried.files (suc j) q.0 (omega arith) q.1 in
        let x_is = object_is (suc i) o.0 x w (omega arith) o.1 g in
        let y_is = object_is (suc j) q.0 y v (omega arith) q.1 h in
        carried.ids (suc i) (suc j) o.0 q.0 w.there v.there (omega arith) (omega arith) o.1 q.1 w.found v.found (ap (λ (z : Object). z.id) (sym x_is) ∙ same ∙ ap (λ (z : Object). z.id) y_is)

    found_there : (j : ℕ) (o y : Object) (w : HasObject read setting world o) → IsFileName (key_of o) → y ≡ w.there → (log : List Asked) (r : Request) → r.name ≡ key_of o → path_search read setting world (take j (mine objs)) log r ≡ Ok y
    unfolding path_search
    found_there j o y w key is log r e =
        let missing : LoadRefusal = MissingLibrary r.name (asker_path (take j (mine objs)) r) in
        ap (first_found read setting world missing) (only_listed setting (take j (mine objs)) (loader_in log) r (front_bare j) (subst IsFileName (sym e) key))
        ∙ ap (λ n. first_found read setting world missing (listed_candidates setting n)) e
        ∙ ap (found_or read setting world missing) w.found
        ∙ ap Ok (sym is)

    alike : AreAlike (path_search read setting world) key_of objs (mine objs)
    alike = record {
      count = length_there objs;
      program = λ o y g h.
          let one : Some o ≡ Some program = sym g ∙ first in
          let same : o ≡ program = cc in
          let is = copy_is y h in
          (ap (λ (x : Object). x.face.needs) is ∙ ap (λ (x : Object). x.face.needs) (sym same), ap (λ (x : Object). x.face.soname) is ∙ plain);
      others = λ j o y some g h.
          let w = carried.files j o some g in
          let is = object_is j o y w some g h in
          record {
            needs = ap (λ (x : Object). x.face.needs) is ∙ w.needs;
            soname = λ s t. w.soname s (ap (λ (x : Object). x.face.soname) (sym is) ∙ t);
            found = found_there j o y w (keys j o some g) is;
          };
      ids = λ i j x y g h same. ids_there i j x y g h (same_bytes x.id y.id same);
    }

    -- a path that is opened there is the copy's, or asked for
    asked_there : (log : List Asked) → ((m : ℕ) (a : Asked) → slice_get log m ≡ Some a → IsFileName a.request.name) → (path : List ℕ) → IsOpenedIn read setting world copy.path (record { objs = mine objs; log = log }) path → IsCopyOrAskedFor read setting world copy.path log path
    asked_there log names path h =
        elim (run_searched read setting world copy.path (record { objs = mine objs; log = log }) path h) [
          | inl e ↦ inl e
          | inr w ↦
              let r : Request = w.asked.request in
              let n : ℕ = count_after (take w.number log) in
              let plain_name = names w.number w.asked w.stands in
              let same = only_listed setting (take n (mine objs)) (loader_in (take w.number log)) r (front_bare n) plain_name in
              inr (w.number, w.asked, w.stands, listed_up_to read setting world r.name path carried.dirs_normal plain_name (subst (λ (cs : List Candidate). IsUpToDeciding read setting world cs path) same w.searched.reached))
        ]

module _ (read : List ℕ → Result Face Flaw) (setting setting_there : Setting) (here there : World) (path : List ℕ) (loaded : Loaded) (ends : List Loaded) (start : WorldFile) (place name : List ℕ) (copy : WorldFile) (list : IsLoadList read setting here path [] loaded ends) (by_names : IsByNames loaded) (starts : file_at here path ≡ Some start) (machine : setting_there.machine ≡ setting.machine) (carried : IsCarried read setting_there there start loaded.objs place name copy) where
  abbrev search_here : Search LoadRefusal
  search_here = path_search read setting here

  abbrev search_there : Search LoadRefusal
  search_there = path_search read setting_there there

  abbrev objs_there : List Object
  objs_there = objects_there read setting_there there copy loaded.objs

  here_phase : IsPhase (target read setting here copy.path) (record { objs = list.program ∷ []; log = [] }) list.program.face.needs loaded
  here_phase =
      phase_to (goes_to read setting here path) (target read setting here copy.path) list.program list.program.face.needs loaded
      (one_phase (goes_to read setting here path) list.program loaded ends list.run)
      (λ m a g objs log f h. goes_ok read setting here path copy.path objs log a.request f h)

  first : slice_get loaded.objs 0 ≡ Some list.program
  first = (slice_get-take 1 loaded.objs 0 list.program (ap (λ os. slice_get os 0) here_phase.objs)).1

  answered : (m : ℕ) (a : Asked) → slice_get loaded.log m ≡ Some a → IsAnswered (target read setting here copy.path) loaded.objs (take m loaded.log) a
  answered = subst (λ (xs : List Asked). (m : ℕ) (a : Asked) → slice_get xs m ≡ Some a → IsAnswered (target read setting here copy.path) loaded.objs (take m xs) a) (sym here_phase.log) here_phase.answered

  -- each object but the program was asked for by its key
  keys : (j : ℕ) (o : Object) → 0 < j → slice_get loaded.objs j ≡ Some o → IsFileName (key_of o)
  keys j o some g =
      let whole : take (length loaded.log) loaded.log ≡ loaded.log = take_all (length loaded.log) loaded.log (omega arith) in
      let within : j < length loaded.objs = slice_get_within loaded.objs j o g in
      let below : j < count_after (take (length loaded.log) loaded.log) = subst (λ (k : ℕ). j < k) (sym here_phase.whole ∙ ap count_after (sym whole)) within in
      let w = brought_by (TooManyObjects copy.path) MOST_OBJECTS search_here search_there key_of loaded.objs objs_there loaded.log answered by_names.goes here_phase.whole (length loaded.log) j (omega arith) some below in
      let k = by_names.goes.by_key w.0 w.1 w.3 in
      let one : Some k.0 ≡ Some o = sym k.1 ∙ ap (slice_get loaded.objs) w.4 ∙ g in
      let same : k.0 ≡ o = cc in
      subst IsFileName (sym k.3 ∙ ap key_of same) (by_names.names w.0 w.1 w.3)

  run_there : IsRun (target read setting_there there copy.path) (copied copy list.program) [] (record { objs = objs_there; log = loaded.log })
  run_there =
      same_run (TooManyObjects copy.path) MOST_OBJECTS search_here search_there key_of list.program (copied copy list.program) objs_there loaded (loaded, here_phase, refl) by_names.goes
      (alike read setting_there there start loaded.objs place name copy carried list.program first (by_names.soname list.program first) (by_names.run_path list.program first) keys)
      (first_there read setting_there there start loaded.objs place name copy carried loaded.objs list.program first)

  there_phase : IsPhase (goes_to read setting_there there copy.path) (record { objs = copied copy list.program ∷ []; log = [] }) list.program.face.needs (loaded_there read setting_there there copy loaded)
  there_phase =
      phase_to (target read setting_there there copy.path) (goes_to read setting_there there copy.path) (copied copy list.program) list.program.face.needs (loaded_there read setting_there there copy loaded)
      (subst (λ (s : Loaded). IsPhase (target read setting_there there copy.path) (record { objs = copied copy list.program ∷ []; log = [] }) list.program.face.needs s) (sym run_there.2) run_there.1)
      (λ m a g objs log f h. ok_goes read setting_there there copy.path objs log a.request f (by_names.names m a g) h)

  copy_starts : program_at read setting_there there copy.path ≡ Ok (copied copy list.program)
  copy_starts =
      let w = started read setting here path start list.program starts list.starts in
      starts_as read setting_there there copy.path copy list.program.face
      (ap (file_at there) (copy_path read setting_there there start loaded.objs place name copy carried) ∙ carried.lies)
      (ap (λ m. is_other m copy.bytes) machine ∙ ap (is_other setting.machine) carried.bytes ∙ w.0)
      (ap read carried.bytes ∙ w.1)

  pub loads_alike : LoadsAlike read setting_there there loaded copy
  loads_alike = record {
    list = record { program = copied copy list.program; starts = copy_starts; run = (there_phase, refl) };
    goes = λ m a g.
        let k = by_names.goes.by_key m a g in
        let w = carried.files a.target k.0 k.2 k.1 in
        record {
          object = w.there;
          target = other_there read setting_there there start loaded.objs place name copy carried loaded.objs a.target k.0 k.2 k.1 ∙ ap (λ d. Some (found_instead k.0 d)) w.found;
          found = ap (listed_decision read setting_there there) (sym k.3) ∙ w.found;
        };
    opens = asked_there read setting_there there start loaded.objs place name copy carried list.program first (by_names.soname list.program first) (by_names.run_path list.program first) keys loaded.log by_names.names;
  }
