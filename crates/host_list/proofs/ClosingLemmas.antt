-- A split of runs has closed host libraries, and their programs have interpreters that read as paths.
use Rattle.std.proofs.Common.{◌≡◌, ◌≢◌, ◌∙◌, sym, ap, refl, subst, ℕ, List, [], ◌∷◌, ◌++◌, All, Bool, true, false, Option, Some, None, bytes_eq, map, get_or, slice_get, inl, inr}
use Rattle.std.specs.Prelude.{IsSome, Ok}
use Rattle.std.specs.List.{Contains, list_all}
use Rattle.std.specs.Option.{option_and_then}
use Rattle.std.specs.Result.{result_ok}
use Rattle.std.proofs.lemmas.Bool.{false_from_ne_true}
use Rattle.std.proofs.lemmas.List.Elements.{Contains-append_cases, Contains-get_or}
use Rattle.load_model.proofs.TwoWorlds.{same_bytes}
use Rattle.load_model.specs.Runs.{IsRunOver, face_at}
use Rattle.load_model.specs.VersionCheck.{needs_in}
use Rattle.load_model.specs.declared.faces.Face.{Face}
use Rattle.load_model.specs.declared.runs.Run.{Run}
use Rattle.path_text.specs.Path.{path_of}
use Rattle.listed_runs.specs.Fitting.{has_listed_interpreter, is_listed_path}
use Rattle.lib_closure.specs.SplitLaws.{HasClosedHosts}
use Rattle.lib_closure.specs.Splits.{split_of}
use Rattle.lib_closure.specs.declared.splits.HostLib.{HostLib}
use Rattle.lib_closure.specs.declared.splits.Split.{Split}
use Rattle.lib_closure.proofs.ContainedLemmas.{all_of, any_in, cases, here, in_map, in_none, later, of_any, of_map, Paired}
use Rattle.lib_closure.proofs.PlacedLemmas.{bytes_same}
use Rattle.lib_closure.proofs.ReachedLemmas.{hosts_closed, names_paired}
use Rattle.lib_closure.proofs.SplitLemmas.{programs_listed}
use Rattle.host_record.specs.Canonical.{AreDistinct}
use Rattle.host_record.specs.Said.{is_declared, lib_names, needs_declared}
use Rattle.host_record.specs.declared.records.RecLib.{RecLib}
use Rattle.host_list.specs.Recording.{AreClosed, normal_interp, program_interp, recorded_lib}

-- ---- distinct names

distinct_by : (faces : List Face) (before : List (List ℕ)) (hosts : List HostLib) → Paired (λ (a b : HostLib). a.name ≢ b.name) hosts → ((name : List ℕ) (h : HostLib) → Contains before name → Contains hosts h → name ≢ h.name) → AreDistinct before (lib_names (map (recorded_lib faces) hosts))
distinct_by faces before [] p apart = tt
distinct_by faces before (h ∷ hosts) p apart = (
  false_from_ne_true (is_declared before h.name) (λ e.
      let q = of_any (bytes_eq h.name) before e in
      apart q.it h q.there (here h hosts) (sym (same_bytes h.name q.it q.passes))),
  distinct_by faces (before ++ h.name ∷ []) hosts p.1 (λ name g c d e.
      elim (Contains-append_cases before (h.name ∷ []) name c) [
        | inl was ↦ apart name g was (later h g hosts d) e
        | inr new ↦ elim (cases h.name name [] new) [
          | inl same ↦ p.0 g d (same ∙ e)
          | inr none ↦ in_none name none
        ]
      ]),
)

-- ---- needs

declared_by : (faces : List Face) (hosts : List HostLib) (h : HostLib) (need : List ℕ) (face : Option Face) → ((f : Face) (n : List ℕ) → face ≡ Some f → Contains f.needs n → Contains (map (λ (g : HostLib). g.name) hosts) n) → Contains (needs_in face) need → is_declared (lib_names (map (recorded_lib faces) hosts)) need ≡ true
declared_by faces hosts h need None closed c = absurd (in_none need c)
declared_by faces hosts h need (Some f) closed c =
    let g = of_map (λ (x : HostLib). x.name) hosts need (closed f need refl c) in
    any_in (bytes_eq need) (lib_names (map (recorded_lib faces) hosts)) g.from.name
    (in_map (λ (lib : RecLib). lib.name) (map (recorded_lib faces) hosts) (recorded_lib faces g.from) (in_map (recorded_lib faces) hosts g.from g.there))
    (bytes_same need g.from.name (sym g.is))

all_declared : (faces : List Face) (split : Split) → HasClosedHosts faces split → needs_declared (map (recorded_lib faces) split.hosts) ≡ true
all_declared faces split closed =
    let libs : List RecLib = map (recorded_lib faces) split.hosts in
    all_of (λ (lib : RecLib). list_all (is_declared (lib_names libs)) lib.needs) libs (λ lib c.
    let h = of_map (recorded_lib faces) split.hosts lib c in
    all_of (is_declared (lib_names libs)) lib.needs (λ need d.
    declared_by faces split.hosts h.from need (slice_get faces h.from.face) (λ f n e m. closed.needs h.from f n h.there e m)
    (subst (λ (l : RecLib). Contains l.needs need) (sym h.is) d)))

-- The host libraries of a split are closed.
pub closed_split : (faces : List Face) (runs : List Run) (names : List (List ℕ)) (split : Split) → All (IsRunOver faces) runs → split_of faces runs names ≡ Ok split → AreClosed faces split.hosts
closed_split faces runs names split over h = record {
  distinct = distinct_by faces [] split.hosts (names_paired faces runs names split h) (λ name g c d e. in_none name c);
  declared = all_declared faces split (hosts_closed faces runs names split over h);
}

-- ---- interpreters

some_path : (names : List (List ℕ)) (path : Option (List ℕ)) → is_listed_path names path ≡ true → IsSome path
some_path names None h = cc
some_path names (Some p) h = refl

some_interp : (names : List (List ℕ)) (interp : Option (List ℕ)) → has_listed_interpreter names interp ≡ true → IsSome (option_and_then (λ text. result_ok (path_of text)) interp)
some_interp names None h = cc
some_interp names (Some text) h = some_path names (result_ok (path_of text)) h

-- The interpreter of each program of a split reads as a path.
pub split_interps : (faces : List Face) (runs : List Run) (names : List (List ℕ)) (split : Split) → All (IsRunOver faces) runs → split_of faces runs names ≡ Ok split → All (λ (run : Run). IsSome (program_interp faces run)) runs
split_interps faces runs names split over h = λ k d less.
    let run : Run = get_or runs k d in
    let p = programs_listed faces runs names split over h run (Contains-get_or runs k d less) in
    subst (λ f. IsSome (normal_interp f)) (sym p.at) (some_interp names p.face.interp p.listed)
