-- Runs over a table of faces are runs over one that only grew.
use Rattle.std.proofs.Common.{◌≡◌, ◌∙◌, sym, ap, ℕ, ◌+◌, ◌<◌, List, [], ◌∷◌, ◌++◌, Option, Some, None, All, length, take, get_or, slice_get, arith, refl, subst}
use Rattle.std.proofs.lemmas.Option.{get_or_from_slice_get, slice_get_within}
use Rattle.std.specs.List.{AllZip}
use Rattle.std.specs.Option.{option_and_then}
use Rattle.load_model.proofs.Places.{slice_get-take, slice_get_front}
use Rattle.load_model.specs.LoadList.{Loaded}
use Rattle.load_model.specs.Opening.{OnlyGrew, OpenerView}
use Rattle.load_model.specs.Runs.{IsObjOf, IsObjOver, IsRunOf, IsRunOver}
use Rattle.load_model.specs.World.{World}
use Rattle.load_model.specs.declared.faces.Face.{Face}
use Rattle.load_model.specs.declared.runs.Obj.{Obj}
use Rattle.load_model.specs.declared.runs.Run.{Run}
use Rattle.load_model.specs.declared.setting.Setting.{Setting}
use Rattle.load_requests.proofs.AskingPlaces.{all_at, all_more}
use Rattle.build_runs.proofs.ZipLemmas.{zip_map, zip_more}
use Rattle.build_runs.specs.Loading.{IsListFor, IsSafeList}
use Rattle.build_runs.specs.declared.programs.Start.{Start}

module _ (before after : OpenerView) (grew : OnlyGrew before after) where
  -- a face that was in the table is the one at its place
  face_was : (k : ℕ) (face : Face) → k < length before.faces → slice_get after.faces k ≡ Some face → slice_get before.faces k ≡ Some face
  face_was k face less h =
      ap (λ l. slice_get l k) (sym grew.faces)
      ∙ slice_get_front (length before.faces) after.faces k face less h

  face_stays : (k : ℕ) (face : Face) → slice_get before.faces k ≡ Some face → slice_get after.faces k ≡ Some face
  face_stays k face h = (slice_get-take (length before.faces) after.faces k face (ap (λ l. slice_get l k) grew.faces ∙ h)).1

  face_of_was : (run : Run) (j : ℕ) (face : Face) (obj : Option Obj) → All (IsObjOver before.faces run) run.objs → slice_get run.objs j ≡ obj → option_and_then (λ (o : Obj). slice_get after.faces o.face) obj ≡ Some face → option_and_then (λ (o : Obj). slice_get before.faces o.face) obj ≡ Some face
  face_of_was run j face None over g h = cc
  face_of_was run j face (Some o) over g h =
      face_was o.face face (all_at (IsObjOver before.faces run) run.objs j o over g).face h

  obj_over : (run : Run) (o : Obj) → IsObjOver before.faces run o → IsObjOver after.faces run o
  obj_over run o over = record {
    face = omega (arith, over.face, grew.longer);
    loader = over.loader;
    phase = over.phase;
  }

  run_over : (run : Run) → IsRunOver before.faces run → IsRunOver after.faces run
  run_over run over = record {
    program = over.program;
    few = over.few;
    objs = all_more (IsObjOver before.faces run) (IsObjOver after.faces run) run.objs (obj_over run) over.objs;
    global = over.global;
    lists = over.lists;
    counts = λ j face ts h g. over.counts j face ts (face_of_was run j face (slice_get run.objs j) over.objs refl h) g;
    targets = over.targets;
    root_count = over.root_count;
    roots = over.roots;
    local_count = over.local_count;
    locals = over.locals;
  }

  pub safe_list : (program : Start) (run : Run) → IsSafeList before.faces program run → IsSafeList after.faces program run
  safe_list program run safe = record { over = run_over run safe.over; loaders = safe.loaders; opens = safe.opens }

  obj_of : (loaded : Loaded) (ends : List Loaded) (j : ℕ) (x : Obj) → IsObjOf before.faces loaded ends j x → IsObjOf after.faces loaded ends j x
  obj_of loaded ends j x is = record {
    object = is.object;
    stands = is.stands;
    path = is.path;
    id = is.id;
    face = face_stays x.face is.object.face is.face;
    loader = is.loader;
    phase = is.phase;
  }

  run_of : (opens : List (List ℕ)) (loaded : Loaded) (ends : List Loaded) (run : Run) → IsRunOf before.faces opens loaded ends run → IsRunOf after.faces opens loaded ends run
  run_of opens loaded ends run is = record {
    count = is.count;
    objs = λ j x g. obj_of loaded ends j x (is.objs j x g);
    targets = is.targets;
    global = is.global;
    opened = is.opened;
    roots = is.roots;
    local_count = is.local_count;
    locals = is.locals;
  }

  pub list_for : (setting : Setting) (world : World) (program : Start) (run : Run) → IsListFor setting world before.faces program run → IsListFor setting world after.faces program run
  list_for setting world program run loads = record {
    loaded = loads.loaded;
    ends = loads.ends;
    list = loads.list;
    run_is = run_of program.opens loads.loaded loads.ends run loads.run_is;
  }

-- one program more, over a table that grew meanwhile
module _ (before after : OpenerView) (grew : OnlyGrew before after) (programs : List Start) (i : ℕ) (program : Start) (runs more : List Run) (run : Run) (stands : slice_get programs i ≡ Some program) (added : more ≡ runs ++ run ∷ []) where
  below : i < length programs
  below = slice_get_within programs i program stands

  named : program ≡ get_or programs i program
  named = sym (get_or_from_slice_get programs i program program stands)

  pub more_safe : AllZip (IsSafeList before.faces) (take i programs) runs → IsSafeList after.faces program run → AllZip (IsSafeList after.faces) (take (i + 1) programs) more
  more_safe safe one =
      subst (λ (rs : List Run). AllZip (IsSafeList after.faces) (take (i + 1) programs) rs) (sym added)
      (zip_more (IsSafeList after.faces) programs runs i program run (zip_map (IsSafeList before.faces) (IsSafeList after.faces) (safe_list before after grew) (take i programs) runs safe) below named one)

  pub more_lists : (setting : Setting) (world : World) → AllZip (IsListFor setting world before.faces) (take i programs) runs → IsListFor setting world after.faces program run → AllZip (IsListFor setting world after.faces) (take (i + 1) programs) more
  more_lists setting world lists one =
      subst (λ (rs : List Run). AllZip (IsListFor setting world after.faces) (take (i + 1) programs) rs) (sym added)
      (zip_more (IsListFor setting world after.faces) programs runs i program run (zip_map (IsListFor setting world before.faces) (IsListFor setting world after.faces) (list_for before after grew setting world) (take i programs) runs lists) below named one)
