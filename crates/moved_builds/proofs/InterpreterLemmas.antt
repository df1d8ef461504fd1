-- The interpreter of each program is on the host list, and a file of a host that meets the record.
use Rattle.std.proofs.Common.{◌≡◌, ◌∙◌, sym, ap, refl, subst, ℕ, ◌++◌, List, [], ◌∷◌, Bool, true, false, cond, fold, map, Option, Some, None, is_none, inl, inr}
use Rattle.std.specs.List.{Contains, filter_map, flat_map, list_any}
use Rattle.std.specs.Option.{option_and_then}
use Rattle.std.specs.Result.{result_ok}
use Rattle.std.specs.Str.{bytes_eq}
use Rattle.std.proofs.lemmas.List.Elements.{Contains-append_left, Contains-append_right}
use Rattle.app_config.specs.declared.config.Config.{Config}
use Rattle.build_laws.specs.BuiltRuns.{IsRunIn}
use Rattle.build_laws.proofs.RunInLemmas.{run_there}
use Rattle.build_plan.specs.Building.{Building}
use Rattle.build_runs.specs.declared.programs.Start.{Start}
use Rattle.build_texts.specs.Texts.{record_in}
use Rattle.host_list.specs.Meeting.{HostMeets, first_difference, interp_difference, lib_difference, look_difference, own_differences, same_file, version_difference}
use Rattle.host_list.specs.Recording.{each_path, normal_interp, program_interp, with_new_path}
use Rattle.host_list.specs.declared.differences.Difference.{Difference}
use Rattle.host_list.specs.declared.differences.Difference.TheVariants.{NoInterp}
use Rattle.host_record.specs.declared.records.Record.{Record}
use Rattle.lib_closure.specs.Clashes.{beside_earlier}
use Rattle.lib_closure.proofs.ContainedLemmas.{here, in_filter_map, in_map, of_any, place_of, cases, in_none}
use Rattle.lib_closure.proofs.SplitLemmas.{programs_listed}
use Rattle.listed_runs.specs.Fitting.{has_listed_interpreter, is_listed_path, is_on_list}
use Rattle.load_model.specs.Faces.{face_or_flaw}
use Rattle.load_model.specs.World.{World, file_at}
use Rattle.load_model.specs.declared.runs.Run.{Run}
use Rattle.load_model.specs.declared.setting.Setting.{Setting}
use Rattle.load_model.specs.declared.world.WorldFile.{WorldFile}
use Rattle.load_model.proofs.TwoWorlds.{same_bytes}
use Rattle.moved_runs.proofs.ListLemmas.{all_none}
use Rattle.name_layout.proofs.LawLemmas.{nowhere}
use Rattle.path_text.specs.Path.{base_of, path_of}

-- ---- paths that are recorded once

kept_by : (paths : List (List ℕ)) (path : List ℕ) (b : Bool) → list_any (λ p. bytes_eq p path) paths ≡ b → Contains (cond b paths (paths ++ path ∷ [])) path
kept_by paths path true h =
    let w = of_any (λ (p : List ℕ). bytes_eq p path) paths h in
    subst (Contains paths) (same_bytes w.it path w.passes) w.there
kept_by paths path false h = Contains-append_right paths (path ∷ []) path (here path [])

stays_by : (paths : List (List ℕ)) (path other : List ℕ) (b : Bool) → Contains paths other → Contains (cond b paths (paths ++ path ∷ [])) other
stays_by paths path other true c = c
stays_by paths path other false c = Contains-append_left paths (path ∷ []) other c

stays : (paths more : List (List ℕ)) (path : List ℕ) → Contains paths path → Contains (fold with_new_path paths more) path
stays paths [] path c = c
stays paths (other ∷ more) path c = stays (with_new_path paths other) more path (stays_by paths other path (list_any (λ p. bytes_eq p other) paths) c)

added : (paths more : List (List ℕ)) (path : List ℕ) → Contains more path → Contains (fold with_new_path paths more) path
added paths [] path c = absurd (in_none path c)
added paths (other ∷ more) path c =
    elim (cases other path more c) [
      | inl same ↦ stays (with_new_path paths other) more path (subst (Contains (with_new_path paths other)) same (kept_by paths other (list_any (λ p. bytes_eq p other) paths) refl))
      | inr later ↦ added (with_new_path paths other) more path later
    ]

recorded_once : (paths : List (List ℕ)) (path : List ℕ) → Contains paths path → Contains (each_path paths) path
unfolding each_path
recorded_once paths path c = added [] paths path c

interps_are : (b : Building) → (record_in b).interps ≡ each_path (filter_map (program_interp b.faces) b.runs)
unfolding record_in
interps_are b = refl

-- ---- an interpreter that is recorded is there

file_by : (o : Option WorldFile) → is_none o ≡ false → (file : WorldFile) × (o ≡ Some file)
file_by None h = cc
file_by (Some file) h = (file, refl)

interp_met : (setting : Setting) (there : World) (r : Record) (path : List ℕ) → HostMeets face_or_flaw setting there r → Contains r.interps path → (file : WorldFile) × (file_at there path ≡ Some file)
unfolding first_difference
interp_met setting there r path meets c =
    let interp : List ℕ → Option Difference = interp_difference face_or_flaw setting there r in
    let rest : List (Option Difference) = map (lib_difference face_or_flaw setting there r) r.libs ++ (map (same_file face_or_flaw setting there r) (beside_earlier [] r.libs) ++ (map (version_difference face_or_flaw setting there r) r.versions ++ (map (look_difference face_or_flaw setting there r) r.looks ++ flat_map (own_differences face_or_flaw setting there r) r.libs))) in
    let all : List (Option Difference) = map interp r.interps ++ rest in
    let w : Contains all (interp path) = Contains-append_left (map interp r.interps) rest (interp path) (in_map interp r.interps path c) in
    let none : interp path ≡ None = all_none all meets w.0 (interp path) (place_of all (interp path) w) in
    file_by (file_at there path) (nowhere (is_none (file_at there path)) (NoInterp path) none)

-- ---- programs

listed_by : (names : List (List ℕ)) (r : Option (List ℕ)) → is_listed_path names r ≡ true → (path : List ℕ) × (r ≡ Some path) × (is_on_list names (base_of path) ≡ true)
listed_by names None h = cc
listed_by names (Some path) h = (path, refl, h)

interp_by : (names : List (List ℕ)) (interp : Option (List ℕ)) → has_listed_interpreter names interp ≡ true → (path : List ℕ) × (option_and_then (λ text. result_ok (path_of text)) interp ≡ Some path) × (is_on_list names (base_of path) ≡ true)
interp_by names None h = cc
interp_by names (Some text) h = listed_by names (result_ok (path_of text)) h

module _ (world : World) (config : Config) (b : Building) (number : ℕ) (start : Start) (run : Run) (path : List ℕ) (at : IsRunIn world config b number start run path) (setting : Setting) (there : World) (meets : HostMeets face_or_flaw setting there (record_in b)) where
  pub interpreter_there : (interp : List ℕ) × (program_interp b.faces run ≡ Some interp) × (is_on_list config.names (base_of interp) ≡ true) × (file : WorldFile) × (file_at there interp ≡ Some file)
  interpreter_there =
      let among = run_there world config b number start run path at in
      let p = programs_listed b.faces b.runs config.names b.split at.over at.builds.plan.split run among in
      let w = interp_by config.names p.face.interp p.listed in
      let is : program_interp b.faces run ≡ Some w.0 = ap normal_interp p.at ∙ w.1 in
      let c : Contains (record_in b).interps w.0 = subst (λ ps. Contains ps w.0) (sym (interps_are b)) (recorded_once (filter_map (program_interp b.faces) b.runs) w.0 (in_filter_map (program_interp b.faces) b.runs run w.0 among is)) in
      let f = interp_met setting there (record_in b) w.0 meets c in
      (w.0, is, w.2, f.0, f.1)
