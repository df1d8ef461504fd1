-- Changes that fit the faces of the files that they are made to.
use Rattle.std.specs.Prelude.{ℕ, List, ◌≡◌, true, All, Some, length, slice_get}
use Rattle.std.specs.List.{list_all}
use Rattle.elf_rewrite.specs.FittingFace.{FitsFace, files_in}
use Rattle.elf_rewrite.specs.NewFile.{is_name_or_none, is_name_text}
use Rattle.elf_rewrite.specs.declared.change.Change.{Change}
use Rattle.lib_closure.specs.declared.splits.Member.{Member}
use Rattle.lib_closure.specs.declared.splits.Split.{Split}
use Rattle.load_model.specs.declared.faces.Face.{Face}
use Rattle.name_layout.specs.declared.layouts.Layout.{Layout}
use Rattle.object_changes.specs.declared.changes.Changes.{Changes}

-- What a loader sees of a file are names.
pub record HasNameTexts (face : Face) : Type 0 where
  pub needs : list_all is_name_text face.needs ≡ true
  pub soname : is_name_or_none face.soname ≡ true
  pub files : list_all is_name_text (files_in face.asks) ≡ true

-- The names of files, host libraries and bundled libraries can stand in string tables.
pub record AreNameTexts (faces : List Face) (split : Split) (layout : Layout) : Type 0 where
  pub faces_texts : All HasNameTexts faces
  pub keys : list_all (λ host. is_name_text host.name) split.hosts ≡ true
  pub names : list_all is_name_text layout.libs ≡ true

-- There is a change for each of these, which fits what a loader sees of it.
pub record FitMembers (faces : List Face) (members : List Member) (changes : List Change) :
    Type 0 where
  pub count : length changes ≡ length members
  pub each : (i : ℕ) (member : Member) (change : Change) (face : Face)
      → slice_get members i ≡ Some member → slice_get changes i ≡ Some change
      → slice_get faces member.face ≡ Some face → FitsFace change face

pub record AreFitting (faces : List Face) (split : Split) (changes : Changes) : Type 0 where
  pub programs : FitMembers faces split.programs changes.programs
  pub libs : FitMembers faces split.libs changes.libs
