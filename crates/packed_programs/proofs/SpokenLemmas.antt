-- The record of a build speaks of file names alone.
use Rattle.std.proofs.Common.{◌≡◌, subst, ℕ, ◌<◌, List, [], ◌∷◌, length, inl, inr}
use Rattle.std.specs.List.{AllByRecursion, Contains}
use Rattle.app_config.specs.declared.config.Config.{Config}
use Rattle.build_laws.specs.BuiltRuns.{IsRunIn}
use Rattle.build_laws.proofs.NamesLemmas.{host_name}
use Rattle.build_plan.specs.Building.{Building}
use Rattle.build_runs.specs.declared.programs.Start.{Start}
use Rattle.build_texts.specs.Texts.{record_in}
use Rattle.host_list.specs.Recording.{recorded_lib}
use Rattle.host_record.specs.Canonical.{IsCanonical, IsLookOver, IsVersionOver}
use Rattle.host_record.specs.declared.records.RecLib.{RecLib}
use Rattle.lib_closure.proofs.ContainedLemmas.{cases, in_none, of_map, place_of}
use Rattle.load_model.specs.World.{World}
use Rattle.load_model.specs.declared.runs.Run.{Run}
use Rattle.moved_builds.proofs.PlacedLemmas.{record_libs}
use Rattle.packed_programs.proofs.SourceLemmas.{SpeaksOfNames}
use Rattle.path_text.specs.FileName.{IsFileName}
use Rattle.read_records.proofs.BuildBytesLemmas.{record_canonical}

each_of : {X : Type 0} (P : X → Type 0) (xs : List X) (x : X) → AllByRecursion P xs → Contains xs x → P x
each_of P [] x all c = absurd (in_none x c)
each_of P (y ∷ ys) x all c =
    elim (cases y x ys c) [
      | inl same ↦ subst P same all.0
      | inr more ↦ each_of P ys x all.1 more
    ]

module _ (world : World) (config : Config) (b : Building) (start : Start) (run : Run) (path : List ℕ) (at : IsRunIn world config b 0 start run path) where
  canonical : IsCanonical (record_in b)
  canonical = record_canonical world config b at.builds

  named : (lib : RecLib) → Contains (record_in b).libs lib → IsFileName lib.name
  named lib c =
      let h = of_map (recorded_lib b.faces) b.split.hosts lib (subst (λ libs. Contains libs lib) (record_libs b) c) in
      let text = host_name world config b 0 start run path at h.there.0 h.from (place_of b.split.hosts h.from h.there) in
      subst (λ (l : RecLib). IsFileName l.name) h.is text.0

  pub speaks_of_names : SpeaksOfNames (record_in b)
  speaks_of_names = record {
    named = named;
    declared = canonical.declared;
    versions = λ v c. each_of (IsVersionOver (record_in b).libs) (record_in b).versions v canonical.versions c;
    looks = λ l c. each_of (IsLookOver (record_in b).libs) (record_in b).looks l canonical.looks c;
  }
