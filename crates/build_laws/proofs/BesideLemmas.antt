-- The objects there, each in the place of one from here, and what is known of each of them.
use Rattle.std.proofs.Common.{◌≡◌, ℕ, zero, suc, List, cond, Some, Ok, map, slice_get}
use Rattle.std.specs.List.{enumerate_from, find}
use Rattle.build_plan.specs.Building.{Building}
use Rattle.elf_rewrite.specs.FittingFace.{FitsFace}
use Rattle.elf_rewrite.specs.declared.change.Change.{Change}
use Rattle.lib_closure.specs.Objects.{Occurrence, first_places, has_id, occurrence_at}
use Rattle.lib_closure.specs.declared.splits.HostLib.{HostLib}
use Rattle.load_model.specs.Candidates.{At, decision}
use Rattle.load_model.specs.Escaping.{AreBytes}
use Rattle.load_model.specs.Faces.{face_or_flaw}
use Rattle.load_model.specs.Joined.{joined}
use Rattle.load_model.specs.LoadList.{Object}
use Rattle.load_model.specs.SameNames.{found_instead, listed_decision}
use Rattle.load_model.specs.World.{World}
use Rattle.load_model.specs.declared.runs.Run.{Run}
use Rattle.load_model.specs.declared.setting.Setting.{Setting}
use Rattle.moved_runs.specs.Placed.{lib_place}
use Rattle.object_changes.specs.Changing.{change_of_lib, change_of_program}
use Rattle.object_changes.specs.NamedFiles.{all_files_named}
use Rattle.object_rewriting.specs.Rewritten.{rewritten}
use Rattle.build_laws.specs.Renaming.{is_bundled_in, name_in}

module _ (setting : Setting) (world : World) (place program : List ℕ) (b : Building) (run : Run) where
  -- What lies at a path of the directory, and what the listed directories have for a name.
  abbrev pub object_lying : List ℕ → Object → Object
  object_lying path o = found_instead o (decision face_or_flaw setting world (At (joined place path)))

  abbrev pub object_listed : List ℕ → Object → Object
  object_listed name o = found_instead o (listed_decision face_or_flaw setting world name)

  -- The program and the bundled libraries lie in the directory; the others are of the host.
  abbrev pub object_for : ℕ → Object → Object
  object_for zero o = object_lying program o
  object_for (suc j) o = cond (is_bundled_in b run (suc j)) (object_lying (lib_place (name_in b run (suc j))) o) (object_listed (name_in b run (suc j)) o)

  unfoldable pub objects_for : List Object → List Object
  objects_for objs = map (λ p. object_for p.0 p.1) (enumerate_from 0 objs)

-- The face there is that of the file here, with the texts of the change.
pub record IsRewrittenBy (change : Change) (o q : Object) : Type 0 where
  pub bytes : List ℕ
  pub are_bytes : AreBytes bytes
  pub reads : face_or_flaw bytes ≡ Ok o.face
  pub fits : FitsFace change o.face
  pub made : List ℕ
  pub made_is : rewritten bytes change ≡ Ok made
  pub seen : face_or_flaw made ≡ Ok q.face

module _ (b : Building) (run : Run) where
  -- The program there, by its place in its own run.
  pub record IsProgramThere (o q : Object) : Type 0 where
    pub run_path : List ℕ
    pub stands : Occurrence
    pub at : occurrence_at b.faces run 0 ≡ Some stands
    pub by : IsRewrittenBy (change_of_program b.split b.layout run_path stands) o q

  -- A bundled library there, by the place where it stands first of all.
  pub record IsLibThere (j : ℕ) (o q : Object) : Type 0 where
    pub stands : Occurrence
    pub at : occurrence_at b.faces run j ≡ Some stands
    pub first : Occurrence
    pub found : find (has_id o.id) (first_places b.faces b.runs) ≡ Some first
    pub by : IsRewrittenBy (change_of_lib b.split b.layout (all_files_named b.split b.layout b.faces b.runs) first) o q

  -- A host library there, by the library of the split.
  pub record IsHostThere (setting : Setting) (world : World) (j : ℕ) (o q : Object) : Type 0 where
    pub number : ℕ
    pub host : HostLib
    pub stands : slice_get b.split.hosts number ≡ Some host
    pub id : host.id ≡ o.id
    pub face : slice_get b.faces host.face ≡ Some o.face
    pub name : name_in b run j ≡ host.name
    pub found : listed_decision face_or_flaw setting world host.name ≡ Some (Ok q)
