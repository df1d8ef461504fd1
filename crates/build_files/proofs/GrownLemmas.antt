-- Runs over a table of faces are runs over one that only grew.
use Rattle.std.proofs.Common.{◌≡◌, ◌∙◌, sym, ap, ℕ, ◌<◌, List, [], ◌∷◌, ◌++◌, Option, Some, None, All, length, slice_get, arith, refl}
use Rattle.std.specs.Option.{option_and_then}
use Rattle.std.proofs.lemmas.List.Elements.{All-append, All-cons, All-nil, All-same}
use Rattle.load_model.proofs.Places.{slice_get_front}
use Rattle.load_model.specs.Opening.{OnlyGrew, OpenerView}
use Rattle.load_model.specs.Runs.{IsObjOver, IsRunOver}
use Rattle.load_model.specs.declared.faces.Face.{Face}
use Rattle.load_model.specs.declared.runs.Obj.{Obj}
use Rattle.load_model.specs.declared.runs.Run.{Run}
use Rattle.load_requests.proofs.AskingPlaces.{all_at, all_more}

module _ (before after : OpenerView) (grew : OnlyGrew before after) where
  -- a face that was in the table is the one at its place
  face_was : (k : ℕ) (face : Face) → k < length before.faces → slice_get after.faces k ≡ Some face → slice_get before.faces k ≡ Some face
  face_was k face less h =
      ap (λ l. slice_get l k) (sym grew.faces)
      ∙ slice_get_front (length before.faces) after.faces k face less h

  face_of_was : (run : Run) (j : ℕ) (face : Face) (obj : Option Obj) → All (IsObjOver before.faces run) run.objs → slice_get run.objs j ≡ obj → option_and_then (λ (o : Obj). slice_get after.faces o.face) obj ≡ Some face → option_and_then (λ (o : Obj). slice_get before.faces o.face) obj ≡ Some face
  face_of_was run j face None over g h = cc
  face_of_was run j face (Some o) over g h =
      face_was o.face face (all_at (IsObjOver before.faces run) run.objs j o over g).face h

  obj_over : (run : Run) (o : Obj) → IsObjOver before.faces run o → IsObjOver after.faces run o
  obj_over run o over = record {
    face = omega (arith, over.face, grew.longer);
    loader = over.loader;
    phase = over.phase;
  }

  run_over : (run : Run) → IsRunOver before.faces run → IsRunOver after.faces run
  run_over run over = record {
    program = over.program;
    few = over.few;
    objs = all_more (IsObjOver before.faces run) (IsObjOver after.faces run) run.objs (obj_over run) over.objs;
    global = over.global;
    lists = over.lists;
    counts = λ j face ts h g. over.counts j face ts (face_of_was run j face (slice_get run.objs j) over.objs refl h) g;
    targets = over.targets;
    root_count = over.root_count;
    roots = over.roots;
    local_count = over.local_count;
    locals = over.locals;
  }

  -- all runs, and one more
  pub runs_over : (runs grown : List Run) (run : Run) → All (IsRunOver before.faces) runs → IsRunOver after.faces run → grown ≡ runs ++ run ∷ [] → All (IsRunOver after.faces) grown
  runs_over runs grown run over one e =
      All-same (IsRunOver after.faces) grown (runs ++ run ∷ []) e
      (All-append (IsRunOver after.faces) runs (run ∷ [])
      (all_more (IsRunOver before.faces) (IsRunOver after.faces) runs run_over over)
      (All-cons (IsRunOver after.faces) run [] one (All-nil (IsRunOver after.faces))))
