-- The files of asks: objects that are there, with their names.
use Rattle.std.proofs.Common.{◌≡◌, ◌∙◌, sym, ap, refl, ℕ, ◌+◌, ◌<◌, List, [], Bool, true, false, cond, Option, Some, None, arith, length, nat_le, slice_get, inl, inr}
use Rattle.std.specs.List.{Contains, enumerate_from, flat_map}
use Rattle.std.specs.Option.{option_and_then, unwrap_or}
use Rattle.std.proofs.lemmas.Bool.{cases_lt}
use Rattle.std.proofs.lemmas.List.Elements.{All-contains}
use Rattle.app_config.specs.declared.config.Config.{Config}
use Rattle.build_plan.specs.Building.{Building, starts_of}
use Rattle.build_runs.specs.BuildRuns.{IsRunFor}
use Rattle.build_runs.specs.declared.programs.Start.{Start}
use Rattle.build_runs.proofs.ZipLemmas.{zip_back}
use Rattle.lib_closure.specs.Objects.{Occurrence, files_named, in_same_list, occurrence_at, own_asks}
use Rattle.lib_closure.specs.SplitLaws.{IsLibraryId}
use Rattle.lib_closure.proofs.ContainedLemmas.{at_place, found_in, is_there, of_filter, place_of}
use Rattle.lib_closure.proofs.PlacedLemmas.{Comes, Occurs, occurs, standing_at}
use Rattle.lib_closure.proofs.SplitLemmas.{none_mapped}
use Rattle.load_model.specs.LoadList.{up_to}
use Rattle.load_model.specs.Runs.{IsRunOver, face_at}
use Rattle.load_model.specs.VersionCheck.{Unmet, asks_in, first_unmet, is_known_by, loaded_by, phase_at, unmet, unmet_at, unmet_by, unmet_of, version_file_of}
use Rattle.load_model.specs.World.{World}
use Rattle.load_model.specs.declared.asks.Ask.{Ask}
use Rattle.load_model.specs.declared.faces.Face.{Face}
use Rattle.load_model.specs.declared.runs.Obj.{Obj}
use Rattle.load_model.specs.declared.runs.Run.{Run}
use Rattle.load_model.proofs.AskedNeeds.{map_get}
use Rattle.load_model.proofs.NumberLemmas.{length-up_to, number_at}
use Rattle.moved_runs.proofs.ListLemmas.{all_none, flat_in, numbered_in}
use Rattle.object_changes.specs.Names.{name_beside, new_name_of}
use Rattle.build_laws.specs.BuiltRuns.{IsRunIn}
use Rattle.build_laws.specs.Renaming.{name_in}
use Rattle.build_laws.proofs.FilesLemmas.{right_obj, same_face}
use Rattle.met_hosts.proofs.HostNumberLemmas.{program_id}
use Rattle.appdir_build.proofs.FirstLemmas.{get_zip}
use Rattle.build_laws.proofs.NamesLemmas.{all_objects_there, host_at, lib_at, split_ids}
use Rattle.build_laws.proofs.RunInLemmas.{run_there}

-- ---- files of asks

number_below : (n t : ℕ) → Contains (up_to n) t → t < n
number_below n t c =
    let long = length-up_to n in
    let less = c.1 in
    let both : Some c.0 ≡ Some t = sym (number_at n c.0 (omega (arith, long, less))) ∙ place_of (up_to n) t c in
    let same : c.0 ≡ t = cc in
    omega (arith, long, less, same)

pub file_below : (faces : List Face) (run : Run) (j t : ℕ) (file : List ℕ) → version_file_of faces run j file ≡ Some t → t < length run.objs
unfolding version_file_of
file_below faces run j t file h =
    let c = found_in (is_known_by faces run (phase_at run j) file) (loaded_by run (phase_at run j)) t h in
    number_below (length run.objs) t (of_filter (λ k. nat_le (phase_at run k) (phase_at run j)) (up_to (length run.objs)) t c).0

met_if : (weak : Bool) (o : Option Unmet) → weak ≡ false → cond weak None o ≡ None → o ≡ None
met_if true o w h = cc
met_if false o w h = h

file_of_met : (faces : List Face) (run : Run) (name : List ℕ) (o : Option ℕ) → unmet_by faces run name o ≡ None → (t : ℕ) × (o ≡ Some t)
file_of_met faces run name None h = cc
file_of_met faces run name (Some t) h = (t, refl)

-- An ask that is not weak names an object.
pub met_ask : (faces : List Face) (run : Run) (j k : ℕ) (x : Obj) (face : Face) (ask : Ask) → first_unmet faces run ≡ None → j < length run.objs → face_at faces run j ≡ Some face → slice_get face.asks k ≡ Some ask → ask.weak ≡ false → (t : ℕ) × (version_file_of faces run j ask.file ≡ Some t)
unfolding first_unmet
met_ask faces run j k x face ask none less f a weak =
    let asks : slice_get (asks_in (face_at faces run j)) k ≡ Some ask = ap (λ o. slice_get (asks_in o) k) f ∙ a in
    let numbered = numbered_in 0 (asks_in (face_at faces run j)) k ask asks in
    let at = map_get (λ (n : ℕ × Ask). unmet_at faces run j n.0 n.1) (enumerate_from 0 (asks_in (face_at faces run j))) k (0 + k, ask) numbered in
    let w = flat_in (unmet_of faces run) (up_to (length run.objs)) j k j (unmet_at faces run j (0 + k) ask) (number_at (length run.objs) j less) at in
    let off = none_mapped (λ (why : Unmet). record { obj = j; ask = 0 + k; why = why }) (unmet faces run j ask) (all_none (flat_map (unmet_of faces run) (up_to (length run.objs))) none w.0 (unmet_at faces run j (0 + k) ask) w.1) in
    file_of_met faces run ask.name (version_file_of faces run j ask.file) (met_if ask.weak (unmet_by faces run ask.name (version_file_of faces run j ask.file)) weak off)

-- ---- asks of an object where it stands

pub face_of_occurrence : (faces : List Face) (run : Run) (j : ℕ) (p : Occurrence) → Occurs faces run j p → face_at faces run j ≡ Some p.face
face_of_occurrence faces run j p is = ap (option_and_then (λ (x : Obj). slice_get faces x.face)) is.obj ∙ is.face

pub file_at_place : (faces : List Face) (run : Run) (j k : ℕ) (p : Occurrence) (ask : Ask) → Occurs faces run j p → slice_get p.face.asks k ≡ Some ask → slice_get (files_named p) k ≡ Some (version_file_of faces run j ask.file)
unfolding files_named
file_at_place faces run j k p ask is a =
    map_get (λ (x : Ask). version_file_of p.faces p.run p.number x.file) p.face.asks k ask a
    ∙ ap (λ fs. Some (version_file_of fs p.run p.number ask.file)) is.faces_are
    ∙ ap (λ r. Some (version_file_of faces r p.number ask.file)) is.run_is
    ∙ ap (λ n. Some (version_file_of faces run n ask.file)) is.number

pub own_ask_at : (faces : List Face) (run : Run) (j k : ℕ) (p : Occurrence) (ask : Ask) → Occurs faces run j p → slice_get p.face.asks k ≡ Some ask → slice_get (own_asks p) k ≡ Some (ask, version_file_of faces run j ask.file)
own_ask_at faces run j k p ask is a = get_zip p.face.asks (files_named p) k ask (version_file_of faces run j ask.file) a (file_at_place faces run j k p ask is a)

-- ---- and their names

-- The file of an ask names a library, which has a name.
pub record IsFileNamed (b : Building) (p : Occurrence) (run : Run) (t : ℕ) : Type 0 where
  pub obj : Obj
  pub stands : slice_get run.objs t ≡ Some obj
  pub library : IsLibraryId b.split obj.id
  pub beside : Occurrence
  pub beside_is : in_same_list p t ≡ Some beside
  pub same : beside.obj ≡ obj
  pub name : List ℕ
  pub known : new_name_of b.split b.layout obj.id ≡ Some name

pub beside_named : (b : Building) (p : Occurrence) (run : Run) (t : ℕ) (w : IsFileNamed b p run t) → name_beside b.split b.layout p t ≡ Some w.name
unfolding name_beside
beside_named b p run t w =
    ap (option_and_then (λ (target : Occurrence). new_name_of b.split b.layout target.obj.id)) w.beside_is
    ∙ ap (λ (x : Obj). new_name_of b.split b.layout x.id) w.same ∙ w.known

pub named_in : (b : Building) (p : Occurrence) (run : Run) (t : ℕ) (w : IsFileNamed b p run t) → name_in b run t ≡ w.name
named_in b p run t w =
    ap (λ o. unwrap_or (option_and_then (λ (x : Obj). new_name_of b.split b.layout x.id) o) []) w.stands
    ∙ ap (λ o. unwrap_or o []) w.known

module _ (world : World) (config : Config) (b : Building) (number : ℕ) (start : Start) (run : Run) (path : List ℕ) (at : IsRunIn world config b number start run path) where
  library_named : (id : List ℕ) → IsLibraryId b.split id → (name : List ℕ) × (new_name_of b.split b.layout id ≡ Some name)
  library_named id (inl lib) = let w = lib_at b id at.builds.plan.layout.count lib in (w.name, w.known)
  library_named id (inr host) = let w = host_at b id (split_ids world config b number start run path at) host in (w.host.name, w.known)

  beside : (r : Run) (j t : ℕ) (o p : Occurrence) → Occurs b.faces r j o → occurrence_at b.faces r t ≡ Some p → in_same_list o t ≡ Some p
  beside r j t o p is h = ap (λ fs. occurrence_at fs o.run t) is.faces_are ∙ ap (λ x. occurrence_at b.faces x t) is.run_is ∙ h

  pub file_named : (r : Run) (j k t : ℕ) (p : Occurrence) (ask : Ask) → Contains b.runs r → Occurs b.faces r j p → slice_get p.face.asks k ≡ Some ask → version_file_of b.faces r j ask.file ≡ Some t → IsFileNamed b p r t
  file_named r j k t p ask c is a file =
      let x = is_there r.objs t (file_below b.faces r j t ask.file file) in
      let s = standing_at b.faces r t x.it (All-contains (IsRunOver b.faces) b.runs r at.over c) x.is in
      let library = (all_objects_there world config b number start run path at).files r j t p.face ask x.it c (face_of_occurrence b.faces r j p is) (at_place p.face.asks k ask a) file x.is in
      let name = library_named x.it.id library in
      record { obj = x.it; stands = x.is; library = library; beside = s.it; beside_is = beside r j t p s.it is s.at; same = s.obj; name = name.0; known = name.1 }

  -- No library is the program.
  pub not_program : (t : ℕ) (x : Obj) → slice_get run.objs t ≡ Some x → IsLibraryId b.split x.id → 0 < t
  not_program t x h library =
      elim (cases_lt 0 t) [
        | inl some ↦ some
        | inr none ↦
            let zero_is : t ≡ 0 = omega (arith, none) in
            absurd ((split_ids world config b number start run path at).programs x.id (program_id b config.names at.builds.plan.split at.over run (run_there world config b number start run path at) x (ap (slice_get run.objs) (sym zero_is) ∙ h)) library)
      ]

  -- The versions of each run are met.
  pub all_met : (r : Run) → Contains b.runs r → first_unmet b.faces r ≡ None
  all_met r c = (zip_back (IsRunFor config.setting world b.faces) (starts_of config) b.runs c.0 r at.builds.runs.each (place_of b.runs r c)).2.met

  -- Objects of one identity have one face, wherever they stand.
  pub one_face : (p q : Occurrence) → Comes b.faces b.runs p → Comes b.faces b.runs q → p.obj.id ≡ q.obj.id → p.face ≡ q.face
  one_face p q c d same =
      let is = occurs b.faces c.run c.number p c.at in
      let js = occurs b.faces d.run d.number q d.at in
      let v = right_obj world config b number start run path at c.run p.obj c.there (at_place c.run.objs c.number p.obj is.obj) in
      let w = right_obj world config b number start run path at d.run q.obj d.there (at_place d.run.objs d.number q.obj js.obj) in
      let one = same_face world config b number start run path at p.obj q.obj v w same in
      let here : Some p.face ≡ Some v.seen = sym is.face ∙ v.stands in
      let there : Some w.seen ≡ Some q.face = sym w.stands ∙ js.face in
      let all : Some p.face ≡ Some q.face = here ∙ ap Some one ∙ there in
      cc
