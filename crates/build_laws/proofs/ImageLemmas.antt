-- A written file has the memory of the one that it is made of, but for what a change writes over it.
use Rattle.std.proofs.Common.{◌≡◌, ◌∙◌, sym, ap, subst, ℕ, ◌++◌, List, Some, None, inl, inr, map, slice_get, zip}
use Rattle.std.specs.List.{Contains}
use Rattle.std.proofs.lemmas.List.Elements.{Contains-append_cases}
use Rattle.app_config.specs.declared.config.Config.{Config}
use Rattle.appdir_build.specs.Objects.{first_unwritten, lib_objects, new_bytes_of, program_objects}
use Rattle.build_plan.specs.Building.{Building}
use Rattle.build_runs.specs.declared.programs.Start.{Start}
use Rattle.elf_rewrite.specs.Patched.{range_of}
use Rattle.elf_rewrite.specs.Rewriting.{rewriting}
use Rattle.elf_rewrite.specs.declared.change.Change.{Change}
use Rattle.lib_closure.specs.SplitLaws.{StandsIn}
use Rattle.lib_closure.specs.declared.splits.Member.{Member}
use Rattle.lib_closure.proofs.ContainedLemmas.{at_place, place_of}
use Rattle.lib_closure.proofs.SplitLemmas.{members_stand}
use Rattle.load_model.specs.Escaping.{AreBytes}
use Rattle.load_model.specs.Faces.{face_or_flaw}
use Rattle.load_model.specs.World.{World}
use Rattle.load_model.specs.declared.runs.Run.{Run}
use Rattle.object_changes.specs.Changing.{changes_of}
use Rattle.object_changes.specs.Fitting.{FitMembers}
use Rattle.object_changes.specs.declared.changes.Changes.{Changes}
use Rattle.object_rewriting.proofs.RewrittenLemmas.{rewritten_new}
use Rattle.ports.specs.Reading.{bytes_at, bytes_of}
use Rattle.two_files.specs.Kept.{SameImage}
use Rattle.build_laws.specs.BuiltRuns.{IsRunIn}
use Rattle.build_laws.proofs.NeedsLemmas.{zip_parts}
use Rattle.build_laws.proofs.FilesLemmas.{right_obj}
use Rattle.build_laws.proofs.TableLemmas.{fitting}
use Rattle.build_laws.proofs.WrittenLemmas.{libs_beside, programs_beside, unstopped}

module _ (world : World) (config : Config) (b : Building) (number : ℕ) (start : Start) (run : Run) (path : List ℕ) (at : IsRunIn world config b number start run path) (written : first_unwritten world b ≡ None) where
  abbrev KeepsMemory : Member × Change → Type 0
  KeepsMemory object = SameImage (bytes_at world object.0.path) (new_bytes_of world object) (map range_of (rewriting (bytes_at world object.0.path) object.1).patches)

  member_kept : (members : List Member) (changes : List Change) (k : ℕ) (object : Member × Change) → FitMembers b.faces members changes → slice_get (zip members changes) k ≡ Some object → StandsIn b.faces b.runs object.0.id object.0.path object.0.face → Contains (program_objects b ++ lib_objects b) object → KeepsMemory object
  member_kept members changes k object fits h stands c =
      let parts = zip_parts members changes k object h in
      let v = right_obj world config b number start run path at stands.run stands.obj stands.run_is (at_place stands.run.objs stands.number stands.obj stands.object) in
      let face : slice_get b.faces object.0.face ≡ Some v.seen = ap (slice_get b.faces) (sym stands.place) ∙ v.stands in
      let bytes_are : v.file.bytes ≡ bytes_at world object.0.path = sym (ap (bytes_at world) (sym stands.path_is) ∙ ap bytes_of v.lies) in
      let fit = fits.each k object.0 object.1 v.seen parts.0 parts.1 face in
      (rewritten_new (bytes_at world object.0.path) (new_bytes_of world object) object.1 v.seen (subst AreBytes bytes_are v.are_bytes) (ap face_or_flaw (sym bytes_are) ∙ v.reads) fit (unstopped world b object written c)).image

  pub memory_kept : (object : Member × Change) → Contains (program_objects b ++ lib_objects b) object → KeepsMemory object
  memory_kept object c =
      let changes : Changes = changes_of b.faces b.runs b.split b.layout in
      let stand = members_stand b.faces b.runs config.names b.split at.builds.plan.split in
      let fits = fitting world config b number start run path at in
      elim (Contains-append_cases (program_objects b) (lib_objects b) object c) [
        | inl program ↦
            let h : slice_get (zip b.split.programs changes.programs) program.0 ≡ Some object = ap (λ os. slice_get os program.0) (sym (programs_beside b)) ∙ place_of (program_objects b) object program in
            let parts = zip_parts b.split.programs changes.programs program.0 object h in
            member_kept b.split.programs changes.programs program.0 object fits.programs h (stand.programs object.0 (at_place b.split.programs program.0 object.0 parts.0)) c
        | inr lib ↦
            let h : slice_get (zip b.split.libs changes.libs) lib.0 ≡ Some object = ap (λ os. slice_get os lib.0) (sym (libs_beside b)) ∙ place_of (lib_objects b) object lib in
            let parts = zip_parts b.split.libs changes.libs lib.0 object h in
            member_kept b.split.libs changes.libs lib.0 object fits.libs h (stand.libs object.0 (at_place b.split.libs lib.0 object.0 parts.0)) c
      ]
