-- Each object of a load list is a file of the world.
use Rattle.std.proofs.Common.{◌≡◌, ◌∙◌, sym, ap, refl, ℕ, zero, suc, ◌<◌, List, [], ◌∷◌, Bool, true, false, cond, Option, Some, None, Result, Ok, Err, length, take, slice_get, nat_lt, arith, subst}
use Rattle.std.proofs.lemmas.List.{take_all}
use Rattle.std.proofs.lemmas.Option.{slice_get_within}
use Rattle.std.specs.Str.{bytes_eq}
use Rattle.byte_view.specs.declared.flaws.Flaw.{Flaw}
use Rattle.load_model.proofs.DecidingLemmas.{first_decides}
use Rattle.load_model.proofs.History.{IsHistory, brought_by, run_grown}
use Rattle.load_model.proofs.Places.{slice_get_front}
use Rattle.load_model.proofs.LoadLists.{forget, history}
use Rattle.load_model.specs.Candidates.{At, Candidate, Refused, asker_path, candidates, decided_by, decision, first_decision, found_or, loader_in, path_search, refused_text}
use Rattle.load_model.specs.Faces.{face_or_flaw}
use Rattle.load_model.specs.LoadList.{Asked, Brought, Found, IsRun, Known, Loaded, Object, Request, WentTo, by_id, by_name, by_search, count_after, count_from, first_place, found_for, is_known, phases_of, start_of}
use Rattle.load_model.specs.Loads.{IsLoadList, answer_unless, goes_to, program_at, program_by}
use Rattle.load_model.specs.World.{World, Kind, Absent, Other, Object as IsObject, Damaged as IsDamaged, file_at, is_other, kind_of, kind_of_file, kind_of_read}
use Rattle.load_model.specs.declared.faces.Face.{Face}
use Rattle.load_model.specs.declared.limits.TheConstants.{MOST_OBJECTS}
use Rattle.load_model.specs.declared.refusals.LoadRefusal.{LoadRefusal}
use Rattle.load_model.specs.declared.refusals.LoadRefusal.TheVariants.{MissingLibrary, TooManyObjects}
use Rattle.load_model.specs.declared.runs.Obj.{Obj}
use Rattle.load_model.specs.declared.runs.Run.{Run}
use Rattle.load_model.specs.declared.setting.Setting.{Setting}
use Rattle.load_model.specs.declared.world.WorldFile.{WorldFile}
use Rattle.build_runs.proofs.ZipLemmas.{zip_back}
use Rattle.build_runs.specs.BuildRuns.{AreRuns, IsFileIn, IsRunFor}
use Rattle.build_runs.specs.declared.programs.Start.{Start}

-- an object is a file of the world
pub record IsFound (world : World) (o : Object) : Type 0 where
  pub file : WorldFile
  pub lies : file_at world o.path ≡ Some file
  pub id : file.id ≡ o.id
  pub reads : face_or_flaw file.bytes ≡ Ok o.face

module _ (m : ℕ) (f : WorldFile) (file : WorldFile) (face : Face) where
  read_parts : (b : Bool) (r : Result Face Flaw) → face_or_flaw f.bytes ≡ r → cond b Other (kind_of_read face_or_flaw f r) ≡ IsObject file face → (f ≡ file) × (face_or_flaw f.bytes ≡ Ok face)
  read_parts true r e h = absurd (cc)
  read_parts false (Ok g) e h = ((let same : f ≡ file = cc in same), e ∙ ap Ok (let same : g ≡ face = cc in same))
  read_parts false (Err flaw) e h = absurd (cc)

kind_parts : (m : ℕ) (found : Option WorldFile) (file : WorldFile) (face : Face) → kind_of_file face_or_flaw m found ≡ IsObject file face → (found ≡ Some file) × (face_or_flaw file.bytes ≡ Ok face)
kind_parts m None file face h = absurd (cc)
kind_parts m (Some f) file face h =
    let parts = read_parts m f file face (is_other m f.bytes) (face_or_flaw f.bytes) refl h in
    (ap Some parts.0, ap (λ (g : WorldFile). face_or_flaw g.bytes) (sym parts.0) ∙ parts.1)

module _ (setting : Setting) (world : World) where
  found_by : (path : List ℕ) (kind : Kind Face Flaw) (o : Object) → kind_of face_or_flaw setting.machine world path ≡ kind → decided_by face_or_flaw setting world path kind ≡ Some (Ok o) → IsFound world o
  found_by path Absent o e h = absurd (cc)
  found_by path Other o e h = absurd (cc)
  found_by path (IsDamaged file flaw) o e h = absurd (cc)
  found_by path (IsObject file face) o e h =
      let parts = kind_parts setting.machine (file_at world path) file face e in
      let same : record { path = path; id = file.id; face = face } ≡ o = cc in
      subst (λ (x : Object). IsFound world x) same (record { file = file; lies = parts.0; id = refl; reads = parts.1 })

  started_by : (path : List ℕ) (kind : Kind Face Flaw) (o : Object) → kind_of face_or_flaw setting.machine world path ≡ kind → program_by face_or_flaw setting world path kind ≡ Ok o → IsFound world o
  started_by path Absent o e h = absurd (cc)
  started_by path Other o e h = absurd (cc)
  started_by path (IsDamaged file flaw) o e h = absurd (cc)
  started_by path (IsObject file face) o e h =
      let parts = kind_parts setting.machine (file_at world path) file face e in
      let same : record { path = path; id = file.id; face = face } ≡ o = cc in
      subst (λ (x : Object). IsFound world x) same (record { file = file; lies = parts.0; id = refl; reads = parts.1 })

  program_found : (path : List ℕ) (o : Object) → program_at face_or_flaw setting world path ≡ Ok o → IsFound world o
  unfolding program_at
  program_found path o h = started_by path (kind_of face_or_flaw setting.machine world path) o refl h

  decided_found : (c : Candidate) (o : Object) → decision face_or_flaw setting world c ≡ Some (Ok o) → IsFound world o
  unfolding decision
  decided_found (At path) o h = found_by path (kind_of face_or_flaw setting.machine world path) o refl h
  decided_found (Refused refusal) o h = absurd (cc)

  found_first : (missing : LoadRefusal) (o : Object) (decided : Option (Result Object LoadRefusal)) → found_or face_or_flaw setting world missing decided ≡ Ok o → decided ≡ Some (Ok o)
  found_first missing o None h = absurd (cc)
  found_first missing o (Some found) h = ap Some h

  search_found : (objs : List Object) (log : List Asked) (r : Request) (o : Object) → path_search face_or_flaw setting world objs log r ≡ Ok o → IsFound world o
  unfolding path_search
  search_found objs log r o h =
      let cs : List Candidate = candidates setting objs (loader_in log) r in
      let first = first_decides face_or_flaw setting world cs (Ok o) (found_first (MissingLibrary r.name (asker_path objs r)) o (first_decision face_or_flaw setting world cs) h) in
      decided_found first.candidate o first.decides

  module _ (path : List ℕ) (objs : List Object) (log : List Asked) (r : Request) (o : Object) where
    limit_found : (b : Bool) (x : Object) → ◌≡◌ {A = Result Found LoadRefusal} (cond b (Ok (Brought x)) (Err (TooManyObjects path))) (Ok (Brought o)) → x ≡ o
    limit_found true x h = cc
    limit_found false x h = absurd (cc)

    id_found : (x : Object) (place : Option ℕ) → by_id (TooManyObjects path) MOST_OBJECTS (path_search face_or_flaw setting world) objs x place ≡ Ok (Brought o) → x ≡ o
    id_found x None h = limit_found (nat_lt (length objs) MOST_OBJECTS) x h
    id_found x (Some j) h = absurd (cc)

    by_search_found : (s : Result Object LoadRefusal) → path_search face_or_flaw setting world objs log r ≡ s → by_search (TooManyObjects path) MOST_OBJECTS (path_search face_or_flaw setting world) objs s ≡ Ok (Brought o) → IsFound world o
    by_search_found (Err refusal) e h = absurd (cc)
    by_search_found (Ok x) e h = search_found objs log r o (e ∙ ap Ok (id_found x (first_place (λ j z. bytes_eq z.id x.id) 0 objs) h))

    by_name_found : (place : Option ℕ) → by_name (TooManyObjects path) MOST_OBJECTS (path_search face_or_flaw setting world) objs log r place ≡ Ok (Brought o) → IsFound world o
    by_name_found None h = by_search_found (path_search face_or_flaw setting world objs log r) refl h
    by_name_found (Some j) h = absurd (cc)

    for_found : found_for (TooManyObjects path) MOST_OBJECTS (path_search face_or_flaw setting world) objs log r ≡ Ok (Brought o) → IsFound world o
    unfolding found_for
    for_found h = by_name_found (first_place (is_known log r.name) 0 objs) h

    unless_found : (refused : Option LoadRefusal) → answer_unless face_or_flaw setting world path objs log r refused ≡ Ok (Brought o) → IsFound world o
    unless_found None h = for_found h
    unless_found (Some refusal) h = absurd (cc)

    brought_found : goes_to face_or_flaw setting world path objs log r ≡ Ok (Brought o) → IsFound world o
    unfolding goes_to
    brought_found h = unless_found (refused_text objs r) h

  went_found : (path : List ℕ) (objs objs' : List Object) (log : List Asked) (a : Asked) (count : ℕ) (found : Found) (o : Object) → goes_to face_or_flaw setting world path objs log a.request ≡ Ok found → WentTo objs' count a.target found → a.target ≡ count → slice_get objs' count ≡ Some o → IsFound world o
  went_found path objs objs' log a count (Known i) o e w t g = let less = w.1 in let at = w.0 in absurd (omega (arith, less, at, t))
  went_found path objs objs' log a count (Brought x) o e w t g =
      let one : Some x ≡ Some o = sym w.1 ∙ g in
      let same : x ≡ o = cc in
      subst (λ (y : Object). IsFound world y) same (brought_found path objs log a.request x e)

  first_found : (path : List ℕ) (opens : List (List ℕ)) (loaded : Loaded) (ends : List Loaded) → IsLoadList face_or_flaw setting world path opens loaded ends → (hist : IsHistory (goes_to face_or_flaw setting world path) loaded.objs loaded.log) → (j : ℕ) (o : Object) → 0 < j → slice_get loaded.objs j ≡ Some o → IsFound world o
  first_found path opens loaded ends list hist j o some g =
      let below : j < length loaded.objs = slice_get_within loaded.objs j o g in
      let all : take (length loaded.log) loaded.log ≡ loaded.log = take_all (length loaded.log) loaded.log (omega arith) in
      let whole : count_after (take (length loaded.log) loaded.log) ≡ length loaded.objs = ap count_after all ∙ hist.whole in
      let w = brought_by (goes_to face_or_flaw setting world path) loaded.objs loaded.log hist (length loaded.log) j (omega arith) some (omega arith) in
      let r = hist.answered w.0 w.1 w.3 in
      went_found path (take (count_after (take w.0 loaded.log)) loaded.objs) loaded.objs (take w.0 loaded.log) w.1 (count_after (take w.0 loaded.log)) r.found o r.found_is r.target (w.4 ∙ sym w.5) (ap (slice_get loaded.objs) w.5 ∙ g)

  start_stands : (path : List ℕ) (program : Object) (opens : List (List ℕ)) (loaded : Loaded) → IsRun (goes_to face_or_flaw setting world path) program opens loaded → take 1 loaded.objs ≡ program ∷ []
  unfolding count_from
  start_stands path program opens loaded run = (run_grown (goes_to face_or_flaw setting world path) (phases_of program opens) (start_of program) loaded refl run).objs

  pub object_found : (path : List ℕ) (opens : List (List ℕ)) (loaded : Loaded) (ends : List Loaded) → IsLoadList face_or_flaw setting world path opens loaded ends → (j : ℕ) (o : Object) → slice_get loaded.objs j ≡ Some o → IsFound world o
  object_found path opens loaded ends list zero o g =
      let run : IsRun (goes_to face_or_flaw setting world path) list.program opens loaded = forget face_or_flaw setting world path list.program opens loaded ends list.run in
      let front : slice_get (take 1 loaded.objs) 0 ≡ Some o = slice_get_front 1 loaded.objs 0 o (omega arith) g in
      let both : Some list.program ≡ Some o = ap (λ xs. slice_get xs 0) (sym (start_stands path list.program opens loaded run)) ∙ front in
      let same : list.program ≡ o = cc in
      subst (λ (x : Object). IsFound world x) same (program_found path list.program list.starts)
  object_found path opens loaded ends list (suc j) o g =
      let run : IsRun (goes_to face_or_flaw setting world path) list.program opens loaded = forget face_or_flaw setting world path list.program opens loaded ends list.run in
      first_found path opens loaded ends list (history face_or_flaw setting world path list.program opens loaded run) (suc j) o (omega arith) g

  pub file_of_object : (programs : List Start) (faces : List Face) (runs : List Run) (k j : ℕ) (run : Run) (x : Obj) → AreRuns setting world programs faces runs → slice_get runs k ≡ Some run → slice_get run.objs j ≡ Some x → IsFileIn world faces x
  file_of_object programs faces runs k j run x are g h =
      let w = zip_back (IsRunFor setting world faces) programs runs k run are.each g in
      let loads = w.2.loads in
      let is = loads.run_is.objs j x h in
      let found : IsFound world is.object = object_found w.0.path w.0.opens loads.loaded loads.ends loads.list j is.object is.stands in
      record {
        file = found.file;
        lies = ap (file_at world) is.path ∙ found.lies;
        id = found.id ∙ sym is.id;
        face = is.object.face;
        stands = is.face;
        reads = found.reads;
      }
