-- The record of a build is for the machine of its setting.
use Rattle.std.proofs.Common.{◌≡◌, ◌∙◌, sym, ap, refl, subst, ℕ, ◌<◌, ◌==◌, arith, List, [], ◌∷◌, Bool, true, false, cond, Option, Some, None, Result, Ok, Err, length, slice_get, inl, inr}
use Rattle.std.specs.Option.{option_and_then}
use Rattle.std.proofs.lemmas.Bool.{cases_Bool, eqb-true}
use Rattle.app_config.specs.declared.config.Config.{Config}
use Rattle.build_plan.specs.Building.{Building, IsBuilding}
use Rattle.build_laws.specs.BuiltRuns.{IsRunIn}
use Rattle.build_laws.proofs.FilesLemmas.{right_obj}
use Rattle.build_runs.specs.declared.programs.Start.{Start}
use Rattle.build_texts.specs.Texts.{first_face, machine_in, record_in}
use Rattle.lib_closure.proofs.ContainedLemmas.{at_place, is_there}
use Rattle.load_model.specs.Faces.{face_or_flaw}
use Rattle.load_model.specs.Runs.{IsRunOver, face_at}
use Rattle.load_model.specs.World.{Kind, Object, Other, World, file_at, is_other, kind_of, kind_of_file, kind_of_read}
use Rattle.load_model.specs.declared.faces.Face.{Face}
use Rattle.load_model.specs.declared.runs.Obj.{Obj}
use Rattle.load_model.specs.declared.runs.Run.{Run}
use Rattle.load_model.specs.declared.world.WorldFile.{WorldFile}
use Rattle.byte_view.specs.declared.flaws.Flaw.{Flaw}
use Rattle.moved_runs.proofs.SearchLemmas.{find_at}
use Rattle.object_changes.proofs.StandingLemmas.{all_at}
use Rattle.ports.specs.Reading.{bytes_at, bytes_of}
use Rattle.tree_opener.specs.Reading.{LiesAt, seen_in, seen_unless}
use Rattle.tree_opener.specs.declared.reading.Seen.{Seen}
use Rattle.tree_opener.specs.declared.reading.Seen.TheVariants.{Faced, ForAnother}
use Rattle.tree_opener.proofs.OpeningLemmas.{kind_other}

-- A file that a loader of a machine sees as an object is for this machine.
module _ (m : ℕ) (world : World) (path : List ℕ) (file : WorldFile) (face : Face) (lies : file_at world path ≡ Some file) (right : is_other m file.bytes ≡ false) (reads : face_or_flaw file.bytes ≡ Ok face) where
  lying : LiesAt world path file.id (length file.bytes)
  lying = record { file = file; lies = lies; path_is = (find_at path world file lies).2; id_is = refl; len_is = refl }

  seen_by : (b : Bool) → (face.machine == m) ≡ b → seen_in m (bytes_at world path) ≡ cond b (Faced face) ForAnother
  unfolding seen_in
  seen_by b e =
      ap (λ bytes. seen_unless (is_other m bytes) m (face_or_flaw bytes)) (ap bytes_of lies)
      ∙ (ap (λ o. seen_unless o m (face_or_flaw file.bytes)) right
      ∙ (ap (λ r. seen_unless false m r) reads ∙ ap (λ c. cond c (Faced face) ForAnother) e))

  kind_by : Option WorldFile → Kind Face Flaw
  kind_by found = kind_of_file face_or_flaw m found

  is_object : kind_of face_or_flaw m world path ≡ Object file face
  unfolding kind_by
  is_object =
      ap kind_by lies
      ∙ (ap (λ o. cond o Other (kind_of_read face_or_flaw file (face_or_flaw file.bytes))) right ∙ ap (kind_of_read face_or_flaw file) reads)

  not_another : (face.machine == m) ≡ false → ⊥
  not_another e =
      let other : kind_of face_or_flaw m world path ≡ Other = kind_other m world path file.id (length file.bytes) lying (sym (seen_by false e)) in
      let both : Other ≡ Object file face = sym other ∙ is_object in
      cc

  shown : face.machine ≡ m
  shown =
      elim (cases_Bool (face.machine == m)) [
        | inl same ↦ eqb-true face.machine m same
        | inr other ↦ absurd (not_another other)
      ]

-- ---- the record

face_machine : (m : ℕ) (faces : List Face) (run : Run) (x : Obj) (face : Face) → slice_get run.objs 0 ≡ Some x → slice_get faces x.face ≡ Some face → face.machine ≡ m → machine_in (face_at faces run 0) ≡ m
face_machine m faces run x face h f e =
    ap machine_in (ap (option_and_then (λ (o : Obj). slice_get faces o.face)) h ∙ f) ∙ e

first_machine : (m : ℕ) (faces : List Face) (runs : List Run) (run : Run) → slice_get runs 0 ≡ Some run → machine_in (face_at faces run 0) ≡ m → machine_in (first_face faces runs) ≡ m
first_machine m faces [] run h e = cc
first_machine m faces (r ∷ runs) run h e = let is : r ≡ run = cc in ap (λ x. machine_in (face_at faces x 0)) is ∙ e

machine_told : (b : Building) (m : ℕ) → machine_in (first_face b.faces b.runs) ≡ m → (record_in b).machine ≡ m
unfolding record_in
machine_told b m e = e

-- The record of a build is for the machine of the configuration's setting.
pub record_machine_of : (world : World) (config : Config) (b : Building) (start : Start) (run : Run) (path : List ℕ) → IsRunIn world config b 0 start run path → (record_in b).machine ≡ config.setting.machine
record_machine_of world config b start run path at =
    let m = config.setting.machine in
    let some = (all_at (IsRunOver b.faces) b.runs 0 run at.over at.is.runs).program in
    let x = is_there run.objs 0 some in
    let v = right_obj world config b 0 start run path at run x.it (at_place b.runs 0 run at.is.runs) (at_place run.objs 0 x.it x.is) in
    machine_told b m (first_machine m b.faces b.runs run at.is.runs (face_machine m b.faces run x.it v.seen x.is v.stands (shown m world x.it.path v.file v.seen v.lies v.right v.reads)))
