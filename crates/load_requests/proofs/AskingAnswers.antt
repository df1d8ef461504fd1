-- What asking for a name answers.
use Rattle.std.proofs.Common.{◌≡◌, ◌∙◌, sym, ap, refl, subst, ℕ, zero, suc, ◌<◌, List, Option, Some, None, option_map, Result, Ok, Err, length, slice_get, arith}
use Rattle.std.specs.Option.{unwrap_or}
use Rattle.std.specs.Str.{bytes_eq}
use Rattle.load_model.specs.Candidates.{asker_path, candidates, first_decision, found_or, loader_in, path_search, refused_text}
use Rattle.load_model.specs.Faces.{face_or_flaw}
use Rattle.load_model.specs.LoadList.{Asked, Known, Loaded, Object, Request, Search as SearchFor, by_name, by_search, first_place, found_for, is_known, with_found}
use Rattle.load_model.specs.Loads.{answer_unless, goes_to}
use Rattle.load_model.specs.Opening.{OpenerView}
use Rattle.load_model.specs.Runs.{AreObjects, loader_by, loader_of}
use Rattle.load_model.specs.World.{World}
use Rattle.load_model.specs.declared.faces.Face.{Face}
use Rattle.load_model.specs.declared.limits.TheConstants.{MOST_OBJECTS}
use Rattle.load_model.specs.declared.opening.OpenFault.TheVariants.{Read, Damaged as OpensDamaged, NoMemory as OpensNoMemory}
use Rattle.load_model.specs.declared.refusals.LoadRefusal.{LoadRefusal}
use Rattle.load_model.specs.declared.refusals.LoadRefusal.TheVariants.{MissingLibrary, TooManyObjects}
use Rattle.load_model.specs.declared.runs.Obj.{Obj}
use Rattle.load_model.specs.declared.setting.Setting.{Setting}
use Rattle.search_paths.specs.Searching.{IsAnswer}
use Rattle.search_paths.specs.declared.hits.Hit.TheVariants.{Found as FoundAt, Missing}
use Rattle.search_paths.specs.declared.hits.SearchStop.{SearchStop}
use Rattle.search_paths.specs.declared.hits.SearchStop.TheVariants.{RelativeItem as StopsRelative, TokenUnset as StopsUnset, Open, NoMemory as SearchNoMemory}
use Rattle.load_requests.specs.Asking.{IsTaken, IsTextAnswer, goes_for}
use Rattle.load_requests.specs.Known.{IsLearnt, first_known}
use Rattle.load_requests.specs.Loading.{IsRefusedBy, refusal_of}
use Rattle.load_requests.specs.Standing.{IsAskedFor, IsSafe, Stands, start_path}
use Rattle.load_requests.specs.declared.loading.Loading.{Loading}
use Rattle.load_requests.specs.declared.stops.LoadStop.{LoadStop}
use Rattle.load_requests.specs.declared.stops.LoadStop.TheVariants.{MissingLibrary as Misses, Search}
use Rattle.load_requests.proofs.AskingChains.{candidates_same}
use Rattle.load_requests.proofs.AskingFound.{stands_known}
use Rattle.load_requests.proofs.AskingPlaces.{within_get}
use Rattle.load_requests.proofs.AskingSteps.{same_some}
use Rattle.load_requests.proofs.KnownLemmas.{learnt_not}

refused_by : (P Q : LoadRefusal → Type 0) (m : Option LoadRefusal) → ((x : LoadRefusal) → P x → Q x) → IsRefusedBy P m → IsRefusedBy Q m
refused_by P Q None f h = tt
refused_by P Q (Some x) f h = f x h

-- ---- where a request goes, step by step

module _ (setting : Setting) (world : World) (program : List ℕ) (objs : List Object) (log : List Asked) (r : Request) where
  goes_refused : (refusal : LoadRefusal) → refused_text objs r ≡ Some refusal → goes_to face_or_flaw setting world program objs log r ≡ Err refusal
  unfolding goes_to
  goes_refused refusal h = ap (answer_unless face_or_flaw setting world program objs log r) h

  goes_found : refused_text objs r ≡ None → goes_to face_or_flaw setting world program objs log r ≡ found_for (TooManyObjects program) MOST_OBJECTS (path_search face_or_flaw setting world) objs log r
  unfolding goes_to
  goes_found h = ap (answer_unless face_or_flaw setting world program objs log r) h

  goes_named : (p : Option ℕ) → refused_text objs r ≡ None → first_place (is_known log r.name) 0 objs ≡ p → goes_to face_or_flaw setting world program objs log r ≡ by_name (TooManyObjects program) MOST_OBJECTS (path_search face_or_flaw setting world) objs log r p
  unfolding found_for
  goes_named p h e = goes_found h ∙ ap (by_name (TooManyObjects program) MOST_OBJECTS (path_search face_or_flaw setting world) objs log r) e

  path_decided : (d : Option (Result Object LoadRefusal)) → first_decision face_or_flaw setting world (candidates setting objs (loader_in log) r) ≡ d → path_search face_or_flaw setting world objs log r ≡ found_or face_or_flaw setting world (MissingLibrary r.name (asker_path objs r)) d
  unfolding path_search
  path_decided d h = ap (found_or face_or_flaw setting world (MissingLibrary r.name (asker_path objs r))) h

  goes_decided : (d : Option (Result Object LoadRefusal)) → refused_text objs r ≡ None → first_place (is_known log r.name) 0 objs ≡ None → first_decision face_or_flaw setting world (candidates setting objs (loader_in log) r) ≡ d
      → goes_to face_or_flaw setting world program objs log r ≡ by_search (TooManyObjects program) MOST_OBJECTS (path_search face_or_flaw setting world) objs (found_or face_or_flaw setting world (MissingLibrary r.name (asker_path objs r)) d)
  goes_decided d h e f = goes_named None h e ∙ ap (by_search (TooManyObjects program) MOST_OBJECTS (path_search face_or_flaw setting world) objs) (path_decided d f)

loader_pos : (log : List Asked) (j : ℕ) → 0 < j → loader_of log j ≡ loader_in log j
loader_pos log zero pos = absurd (omega (arith, pos))
loader_pos log (suc j) pos = refl

module _ (setting : Setting) (before after : OpenerView) (s : Loading) (loaded : Loaded) (r : Request) (st : Stands before.faces s loaded) where
  pub asked_refused : (new : Loading) (stop : LoadStop) → IsTextAnswer loaded.objs r (Err stop) → IsAskedFor setting before after new loaded r (Err stop)
  asked_refused new stop h = (
    λ world told. refused_by (λ refusal. refused_text loaded.objs r ≡ Some refusal) (λ refusal. goes_to face_or_flaw setting world (start_path loaded) loaded.objs loaded.log r ≡ Err refusal) (refusal_of stop) (goes_refused setting world (start_path loaded) loaded.objs loaded.log r) h.0,
    λ e. absurd (h.1 e),
  )

  pub asked_known : (new : Loading) (i : ℕ) → IsSafe before.faces s → refused_text loaded.objs r ≡ None → first_known r.name s.known ≡ Some i → new.objs ≡ s.objs → new.known ≡ s.known → after.faces ≡ before.faces → IsAskedFor setting before after new loaded r (Ok i)
  asked_known new i safe text at objs known same =
      let below = safe.known r.name i at in
      let c = st.objects.count in (
        Known i,
        refl,
        subst (λ faces. Stands faces new (with_found loaded r (Known i))) (sym same) (stands_known before.faces s new loaded st r i (omega (arith, below, c)) objs (subst (λ l. IsLearnt (bytes_eq r.name) i s.known l) (sym known) (learnt_not r.name i s.known at))),
        λ world told. goes_named setting world (start_path loaded) loaded.objs loaded.log r (Some i) text (sym (st.names r.name) ∙ at),
      )

  -- ---- nothing is known by the name, and so it is searched for

  module _ (objs : List Obj) (is : objs ≡ s.objs) (safe : IsSafe before.faces s) (below : r.by < length s.objs) (text : refused_text loaded.objs r ≡ None) (none : first_known r.name s.known ≡ None) where
    abbrev Decided : World → Option (Result Object LoadRefusal) → Type 0
    Decided world d = (objects : List Object) → AreObjects before.faces objs objects → first_decision face_or_flaw setting world (candidates setting objects (loader_by objs) r) ≡ d

    loader_is : (j : ℕ) (x : Obj) → slice_get s.objs j ≡ Some x → loader_by objs j ≡ x.loader
    loader_is j x g = ap (λ os. loader_by os j) is ∙ ap (λ o. unwrap_or (option_map (λ (y : Obj). y.loader) o) 0) g

    same_loaders : (j : ℕ) → 0 < j → j < length s.objs → loader_by objs j ≡ loader_in loaded.log j
    same_loaders j pos b = let x = within_get s.objs j b in loader_is j x.0 x.1 ∙ st.loaders j x.0 x.1 ∙ loader_pos loaded.log j pos

    smaller_loaders : (j : ℕ) → 0 < j → j < length s.objs → loader_by objs j < length s.objs
    smaller_loaders j pos b = let x = within_get s.objs j b in let e = loader_is j x.0 x.1 in let l = safe.smaller j x.0 pos x.1 in omega (arith, e, l, b)

    goes : (world : World) (d : Option (Result Object LoadRefusal)) → Decided world d → goes_to face_or_flaw setting world (start_path loaded) loaded.objs loaded.log r ≡ by_search (TooManyObjects (start_path loaded)) MOST_OBJECTS (path_search face_or_flaw setting world) loaded.objs (found_or face_or_flaw setting world (MissingLibrary r.name (asker_path loaded.objs r)) d)
    goes world d h = goes_decided setting world (start_path loaded) loaded.objs loaded.log r d text (sym (st.names r.name) ∙ none)
        (sym (ap (first_decision face_or_flaw setting world) (candidates_same (loader_by objs) (loader_in loaded.log) (length s.objs) same_loaders smaller_loaders setting loaded.objs r below))
        ∙ h loaded.objs (subst (λ os. AreObjects before.faces os loaded.objs) (sym is) st.objects))

    goes_this : (world : World) (path id : List ℕ) (found face : Face) → found ≡ face → Decided world (Some (Ok (record { path = path; id = id; face = found }))) → goes_to face_or_flaw setting world (start_path loaded) loaded.objs loaded.log r ≡ goes_for (path_search face_or_flaw setting world) loaded (record { path = path; id = id; face = face })
    goes_this world path id found face e h = goes world _ h ∙ ap (λ f. goes_for (path_search face_or_flaw setting world) loaded (record { path = path; id = id; face = f })) e

    pub asked_missing : (new : Loading) (stop : LoadStop) → stop ≡ Misses r.name (asker_path loaded.objs r) → IsAnswer Decided before after (Ok Missing) → IsAskedFor setting before after new loaded r (Err stop)
    asked_missing new stop e h = subst (λ m. IsAskedFor setting before after new loaded r (Err m)) (sym e) ((λ world told. goes world None (h world told)), λ q. cc)

    pub asked_stopped : (new : Loading) (stop : SearchStop) → IsAnswer Decided before after (Err stop) → IsAskedFor setting before after new loaded r (Err (Search stop))
    asked_stopped new (StopsRelative item) h = ((λ world told. goes world _ (h world told)), λ q. cc)
    asked_stopped new (StopsUnset item) h = ((λ world told. goes world _ (h world told)), λ q. cc)
    asked_stopped new (Open Read) h = ((λ world told. tt), λ q. h)
    asked_stopped new (Open (OpensDamaged path flaw)) h = ((λ world told. goes world _ (h world told)), λ q. cc)
    asked_stopped new (Open OpensNoMemory) h = ((λ world told. tt), λ q. cc)
    asked_stopped new SearchNoMemory h = ((λ world told. tt), λ q. cc)

    pub asked_found : (new : Loading) (path id : List ℕ) (place : ℕ) (face : Face) (result : Result ℕ LoadStop) → slice_get after.faces place ≡ Some face → IsAnswer Decided before after (Ok (FoundAt path id place)) → IsTaken after.faces new loaded r (record { path = path; id = id; face = face }) result → IsAskedFor setting before after new loaded r result
    asked_found new path id place face (Ok t) at h taken =
        (taken.0, taken.1, taken.2, λ world told. let f = h.1 world told in goes_this world path id f.face face (same_some f.face face (sym f.stands ∙ at)) f.found ∙ taken.3 (path_search face_or_flaw setting world))
    asked_found new path id place face (Err stop) at h taken = (
      (λ world told. let f = h.1 world told in
          refused_by (λ refusal. (search : SearchFor LoadRefusal) → goes_for search loaded (record { path = path; id = id; face = face }) ≡ Err refusal) (λ refusal. goes_to face_or_flaw setting world (start_path loaded) loaded.objs loaded.log r ≡ Err refusal) (refusal_of stop)
          (λ refusal q. goes_this world path id f.face face (same_some f.face face (sym f.stands ∙ at)) f.found ∙ q (path_search face_or_flaw setting world)) taken.0),
      λ q. absurd (taken.1 q),
    )
