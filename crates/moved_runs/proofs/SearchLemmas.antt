-- What the search for a new name finds at a place: a bundled library in the directory, a host library in the listed directories.
use Rattle.std.proofs.Common.{◌≡◌, ◌∙◌, sym, ap, refl, ℕ, suc, List, [], ◌∷◌, ◌++◌, Bool, true, false, cond, Option, Some, None, Result, Ok, Err, length, map, slice_get, ◌⊎◌, inl, inr}
use Rattle.std.specs.Prelude.{All, IsUtf8}
use Rattle.std.specs.List.{flat_map}
use Rattle.std.specs.Str.{bytes_eq, is_utf8}
use Rattle.std.proofs.lemmas.Bool.{cases_Bool, ne_eqb}
use Rattle.std.proofs.lemmas.Grind.{flat_map-append}
use Rattle.std.proofs.lemmas.List.Elements.{All-head}
use Rattle.std.proofs.lemmas.Str.{IsUtf8-from_is_utf8}
use Rattle.answers.specs.First.{first_some}
use Rattle.byte_view.specs.declared.flaws.Flaw.{Flaw}
use Rattle.path_text.specs.FileName.{IsFileName, IsNameByte}
use Rattle.path_text.specs.Path.{IsNormalPath, begins_at_root, path_of}
use Rattle.path_text.proofs.PathLemmas.{not_utf8}
use Rattle.load_model.specs.Candidates.{Candidate, At, asker_path, candidate_at, candidate_in, candidates, chain_items, decided_by, decision, first_decision, first_found, found_or, items_by, items_held, listed_candidates, listed_items, loader_chain, loader_in, own_items, path_search, rpath_by, rpath_items, search_items}
use Rattle.load_model.specs.Joined.{joined}
use Rattle.load_model.specs.LoadList.{Object, Request, Asked}
use Rattle.load_model.specs.RunPaths.{Folder}
use Rattle.load_model.specs.SameNames.{listed_decision}
use Rattle.load_model.specs.World.{World, Kind, Absent, Other, Object as IsObject, Damaged as IsDamaged, file_at, is_other, kind_of, kind_of_file, kind_of_read}
use Rattle.load_model.specs.declared.faces.Face.{Face}
use Rattle.load_model.specs.declared.refusals.LoadRefusal.{LoadRefusal}
use Rattle.load_model.specs.declared.refusals.LoadRefusal.TheVariants.{MissingLibrary}
use Rattle.load_model.specs.declared.setting.Setting.{Setting}
use Rattle.load_model.specs.declared.world.WorldFile.{WorldFile}
use Rattle.load_model.proofs.DecidingLemmas.{first_decides}
use Rattle.load_model.proofs.Joined.{not_joined}
use Rattle.load_model.proofs.JoinedLemmas.{joined_is}
use Rattle.load_model.proofs.ListedLemmas.{mapped_at, listed_cases}
use Rattle.load_model.proofs.TwoWorlds.{same_bytes}
use Rattle.moved_runs.specs.Placed.{HasPath, IsPlaced, Item, lib_folder, lib_place}
use Rattle.moved_runs.specs.Places.{IsItem, LeadsToLibs}
use Rattle.moved_runs.proofs.PlaceLemmas.{in_libs, lib_is_normal}

-- ---- files of a world

find_cases : (b : Bool) (path : List ℕ) (g f : WorldFile) (rest : Option WorldFile) → bytes_eq g.path path ≡ b → cond b (Some g) rest ≡ Some f → ((g ≡ f) × (g.path ≡ path)) ⊎ (rest ≡ Some f)
find_cases true path g f rest e h = inl (cc, same_bytes g.path path e)
find_cases false path g f rest e h = inr h

pub find_at : (path : List ℕ) (world : World) (f : WorldFile) → file_at world path ≡ Some f → (i : ℕ) × (slice_get world i ≡ Some f) × (f.path ≡ path)
find_at path [] f h = cc
find_at path (g ∷ gs) f h =
    elim (find_cases (bytes_eq g.path path) path g f (file_at gs path) refl h) [
      | inl w ↦ (0, ap Some w.0, ap (λ (x : WorldFile). x.path) (sym w.0) ∙ w.1)
      | inr w ↦ let rest = find_at path gs f w in (suc rest.0, rest.1, rest.2)
    ]

no_file : (o : Option WorldFile) → ((f : WorldFile) → o ≡ Some f → ⊥) → o ≡ None
no_file None h = refl
no_file (Some f) h = absurd (h f refl)

module _ (read : List ℕ → Result Face Flaw) (setting : Setting) (world : World) where
  -- a file that is for the machine, and whose bytes are read, is found
  pub decided_at : (path : List ℕ) (file : WorldFile) (q : Object) → file_at world path ≡ Some file → is_other setting.machine file.bytes ≡ false → read file.bytes ≡ Ok q.face → q.path ≡ path → file.id ≡ q.id → decision read setting world (At path) ≡ Some (Ok q)
  unfolding decision
  decided_at path file q lies right seen at id =
      ap (λ o. decided_by read setting world path (kind_of_file read setting.machine o)) lies
      ∙ ap (λ b. decided_by read setting world path (cond b Other (kind_of_read read file (read file.bytes)))) right
      ∙ ap (λ r. decided_by read setting world path (kind_of_read read file r)) seen
      ∙ ap (λ p. Some (Ok (record { path = p; id = file.id; face = q.face }))) (sym at)
      ∙ ap (λ i. Some (Ok (record { path = q.path; id = i; face = q.face }))) id

  pub absent_at : (path : List ℕ) → file_at world path ≡ None → decision read setting world (At path) ≡ None
  unfolding decision
  absent_at path none = ap (λ o. decided_by read setting world path (kind_of_file read setting.machine o)) none

  -- ---- the first that decides

  pub decides_first : (c : Candidate) (cs : List Candidate) (d : Result Object LoadRefusal) → decision read setting world c ≡ Some d → first_decision read setting world (c ∷ cs) ≡ Some d
  unfolding first_decision
  decides_first c cs d h = ap (λ o. first_some (o ∷ map (decision read setting world) cs)) h

  pub passed_first : (c : Candidate) (cs : List Candidate) → decision read setting world c ≡ None → first_decision read setting world (c ∷ cs) ≡ first_decision read setting world cs
  unfolding first_decision
  passed_first c cs h = ap (λ o. first_some (o ∷ map (decision read setting world) cs)) h

  pub search_is : (objs : List Object) (log : List Asked) (r : Request) (cs : List Candidate) (q : Object) → candidates setting objs (loader_in log) r ≡ cs → first_decision read setting world cs ≡ Some (Ok q) → path_search read setting world objs log r ≡ Ok q
  unfolding path_search
  search_is objs log r cs q e h =
      ap (first_found read setting world (MissingLibrary r.name (asker_path objs r))) e
      ∙ ap (found_or read setting world (MissingLibrary r.name (asker_path objs r))) h

  -- ---- files that names find in the listed directories

  decided_file : (path : List ℕ) (kind : Kind Face Flaw) (q : Object) → decided_by read setting world path kind ≡ Some (Ok q) → (file : WorldFile) × (face : Face) × (kind ≡ IsObject file face) × (q.id ≡ file.id)
  decided_file path Absent q h = cc
  decided_file path Other q h = cc
  decided_file path (IsDamaged file flaw) q h = cc
  decided_file path (IsObject file face) q h =
      let e : ◌≡◌ {A = Result Object LoadRefusal} (Ok (record { path = path; id = file.id; face = face })) (Ok q) = cc in
      let is : record { path = path; id = file.id; face = face } ≡ q = cc in
      (file, face, refl, ap (λ (x : Object). x.id) (sym is))

  read_file : (g : WorldFile) (r : Result Face Flaw) (file : WorldFile) (face : Face) → kind_of_read read g r ≡ IsObject file face → g ≡ file
  read_file g (Ok seen) file face h = cc
  read_file g (Err flaw) file face h = cc

  other_file : (b : Bool) (g : WorldFile) (file : WorldFile) (face : Face) → cond b Other (kind_of_read read g (read g.bytes)) ≡ IsObject file face → g ≡ file
  other_file true g file face h = cc
  other_file false g file face h = read_file g (read g.bytes) file face h

  kind_file : (o : Option WorldFile) (file : WorldFile) (face : Face) → kind_of_file read setting.machine o ≡ IsObject file face → o ≡ Some file
  kind_file None file face h = cc
  kind_file (Some g) file face h = ap Some (other_file (is_other setting.machine g.bytes) g file face h)

  -- a file that a name finds lies in a listed directory
  pub record IsFoundIn (name : List ℕ) (q : Object) : Type 0 where
    pub number : ℕ
    pub dir : List ℕ
    pub listed : slice_get setting.dirs number ≡ Some dir
    pub file : WorldFile
    pub lies : file_at world (joined dir name) ≡ Some file
    pub same : q.id ≡ file.id

  found_at : (dir name : List ℕ) (number : ℕ) (q : Object) → slice_get setting.dirs number ≡ Some dir → decision read setting world (At (joined dir name)) ≡ Some (Ok q) → IsFoundIn name q
  unfolding decision
  found_at dir name number q listed h =
      let w = decided_file (joined dir name) (kind_of read setting.machine world (joined dir name)) q h in
      record { number = number; dir = dir; listed = listed; file = w.0; lies = kind_file (file_at world (joined dir name)) w.0 w.1 w.2; same = w.3 }

  pub found_in : (name : List ℕ) (q : Object) → All IsNormalPath setting.dirs → IsFileName name → listed_decision read setting world name ≡ Some (Ok q) → IsFoundIn name q
  found_in name q d h found =
      let w = first_decides read setting world (listed_candidates setting name) (Ok q) found in
      elim (listed_cases setting name d h) [
        | inl e ↦
            let at = mapped_at (λ dir. At (joined dir name)) setting.dirs w.number w.candidate (ap (λ cs. slice_get cs w.number) (sym e) ∙ w.stands) in
            found_at at.0 name w.number q at.1 (ap (decision read setting world) (sym at.2) ∙ w.decides)
        | inr e ↦ absurd (let none : None ≡ Some w.candidate = ap (λ (cs : List Candidate). slice_get cs w.number) (sym e) ∙ w.stands in cc)
      ]

-- ---- candidates

not_rooted : (name : List ℕ) → IsFileName name → begins_at_root name ≡ false
not_rooted [] h = refl
not_rooted (c ∷ name) h = let b : IsNameByte c = All-head IsNameByte c name h.bytes in ne_eqb c 47 b.0

flat_nil : {A B : Type 0} (f : A → List B) (xs : List A) → ((x : A) → f x ≡ []) → flat_map f xs ≡ []
flat_nil f [] h = refl
flat_nil f (x ∷ xs) h = ap (λ ys. ys ++ flat_map f xs) (h x) ∙ flat_nil f xs h

module _ (setting : Setting) (objs : List Object) (loader : ℕ → ℕ) (bare : (k : ℕ) (x : Object) → slice_get objs k ≡ Some x → x.face.rpath ≡ None) where
  no_rpath_by : (x : Object) (r : Option (List ℕ)) → x.face.rpath ≡ None → rpath_by setting x r ≡ []
  no_rpath_by x None h = ap (items_held setting x.path) h
  no_rpath_by x (Some runpath) h = refl

  no_rpath : (o : Option Object) → ((x : Object) → o ≡ Some x → x.face.rpath ≡ None) → rpath_items setting o ≡ []
  no_rpath None h = refl
  no_rpath (Some x) h = no_rpath_by x x.face.runpath (h x refl)

  no_chain : (j : ℕ) → chain_items setting objs loader j ≡ []
  no_chain j = flat_nil (λ k. rpath_items setting (slice_get objs k)) (loader_chain (length objs) loader j) (λ k. no_rpath (slice_get objs k) (λ x g. bare k x g))

  own_candidates : (r : Request) (x : Object) → slice_get objs r.by ≡ Some x → IsFileName r.name → candidates setting objs loader r ≡ flat_map (candidate_in r.name) (items_by setting objs loader r.by x x.face.runpath) ++ listed_candidates setting r.name
  unfolding candidates search_items listed_candidates
  own_candidates r x g h =
      ap (λ b. cond b (candidate_at (path_of r.name)) (flat_map (candidate_in r.name) (own_items setting objs loader r.by (slice_get objs r.by) ++ listed_items setting))) (not_rooted r.name h)
      ∙ ap (λ o. flat_map (candidate_in r.name) (own_items setting objs loader r.by o ++ listed_items setting)) g
      ∙ flat_map-append (candidate_in r.name) (items_by setting objs loader r.by x x.face.runpath) (listed_items setting)

  -- an asker without RUNPATH looks in the listed directories alone
  pub bare_candidates : (r : Request) (x : Object) → slice_get objs r.by ≡ Some x → IsFileName r.name → x.face.runpath ≡ None → candidates setting objs loader r ≡ listed_candidates setting r.name
  bare_candidates r x g h none =
      own_candidates r x g h
      ∙ ap (λ p. flat_map (candidate_in r.name) (items_by setting objs loader r.by x p) ++ listed_candidates setting r.name) none
      ∙ ap (λ is. flat_map (candidate_in r.name) is ++ listed_candidates setting r.name) (no_chain r.by)

  -- another one in the folder of libraries, and then there
  pub led_candidates : (read : List ℕ → Result Face Flaw) (world : World) (place : List ℕ) (items : List Item) (r : Request) (x : Object) → slice_get objs r.by ≡ Some x → IsFileName r.name → LeadsToLibs read setting world place items x → candidates setting objs loader r ≡ candidate_in r.name (Folder (lib_folder place)) ++ listed_candidates setting r.name
  led_candidates read world place items r x g h leads =
      own_candidates r x g h
      ∙ ap (λ p. flat_map (candidate_in r.name) (items_by setting objs loader r.by x p) ++ listed_candidates setting r.name) leads.runpath_is
      ∙ ap (λ p. flat_map (candidate_in r.name) (items_held setting x.path p) ++ listed_candidates setting r.name) leads.runpath_is
      ∙ ap (λ cs. cs ++ listed_candidates setting r.name) (leads.leads r.name h)

-- ---- the folder of libraries

module _ (read : List ℕ → Result Face Flaw) (setting : Setting) (world : World) (place : List ℕ) (items : List Item) (normal : IsNormalPath place) (placed : IsPlaced world place items) where
  pub lib_candidate : (name : List ℕ) → IsFileName name → IsUtf8 name → candidate_in name (Folder (lib_folder place)) ≡ At (joined place (lib_place name)) ∷ []
  lib_candidate name h utf8 =
      ap candidate_at (joined_is (lib_folder place) name (lib_is_normal place normal) h utf8) ∙ ap (λ p. At p ∷ []) (in_libs place name)

  pub lib_candidate_cases : (name : List ℕ) → IsFileName name → (candidate_in name (Folder (lib_folder place)) ≡ At (joined place (lib_place name)) ∷ []) ⊎ (candidate_in name (Folder (lib_folder place)) ≡ [])
  lib_candidate_cases name h =
      elim (cases_Bool (is_utf8 name)) [
        | inl t ↦ inl (lib_candidate name h (IsUtf8-from_is_utf8 name t))
        | inr f ↦ inr (ap candidate_at (not_joined (lib_folder place) name (lib_is_normal place normal) h (not_utf8 name f)))
      ]

  -- an item is found where it lies
  pub item_file : (path : List ℕ) (q : Object) → IsItem read setting world place items path q → (i : ℕ) × (file : WorldFile) × (slice_get world i ≡ Some file) × (file.path ≡ joined place path) × (file.id ≡ q.id)
  item_file path q is =
      let w = placed.lies is.number is.item is.is_item in
      let lies : file_at world (joined place path) ≡ Some w.0 = ap (λ p. file_at world (joined place p)) (sym is.path_is) ∙ w.1 in
      let at = find_at (joined place path) world w.0 lies in
      (at.0, w.0, at.1, at.2, is.id w.0 (ap (file_at world) is.lies ∙ lies))

  pub item_decided : (path : List ℕ) (q : Object) → IsItem read setting world place items path q → decision read setting world (At (joined place path)) ≡ Some (Ok q)
  item_decided path q is =
      let w = placed.lies is.number is.item is.is_item in
      let lies : file_at world (joined place path) ≡ Some w.0 = ap (λ p. file_at world (joined place p)) (sym is.path_is) ∙ w.1 in
      decided_at read setting world (joined place path) w.0 q lies (ap (is_other setting.machine) w.2 ∙ is.right) (ap read w.2 ∙ is.seen) is.lies (is.id w.0 (ap (file_at world) is.lies ∙ lies))

  -- what is no item is nothing
  pub nothing_at : (target : List ℕ) → (HasPath items target → ⊥) → file_at world (joined place target) ≡ None
  nothing_at target none =
      no_file (file_at world (joined place target)) (λ f h. let at = find_at (joined place target) world f h in none (placed.only at.0 f target at.1 at.2))

  -- a bundled library is found by its name in the folder of libraries
  pub bundled_first : (name : List ℕ) (q : Object) → IsFileName name → IsUtf8 name → IsItem read setting world place items (lib_place name) q → first_decision read setting world (candidate_in name (Folder (lib_folder place)) ++ listed_candidates setting name) ≡ Some (Ok q)
  bundled_first name q h utf8 is =
      ap (λ cs. first_decision read setting world (cs ++ listed_candidates setting name)) (lib_candidate name h utf8)
      ∙ decides_first read setting world (At (joined place (lib_place name))) (listed_candidates setting name) (Ok q) (item_decided (lib_place name) q is)

  -- a host library is not, and so by its name in the listed directories
  pub host_first : (name : List ℕ) → IsFileName name → (HasPath items (lib_place name) → ⊥) → first_decision read setting world (candidate_in name (Folder (lib_folder place)) ++ listed_candidates setting name) ≡ listed_decision read setting world name
  host_first name h none =
      elim (lib_candidate_cases name h) [
        | inl e ↦
            ap (λ cs. first_decision read setting world (cs ++ listed_candidates setting name)) e
            ∙ passed_first read setting world (At (joined place (lib_place name))) (listed_candidates setting name) (absent_at read setting world (joined place (lib_place name)) (nothing_at (lib_place name) none))
        | inr e ↦ ap (λ cs. first_decision read setting world (cs ++ listed_candidates setting name)) e
      ]
