-- Libraries of a record that are one file, one after the other.
use Rattle.std.proofs.Common.{◌≡◌, ◌∙◌, sym, ap, ℕ, ◌+◌, ◌<◌, List, [], ◌∷◌, ◌++◌, Option, Some, None, bytes_eq, cond, drop, false, get_or, length, map, slice_get, take, arith}
use Rattle.std.specs.Prelude.{position}
use Rattle.std.specs.List.{list_any}
use Rattle.std.specs.Option.{option_and_then, option_map}
use Rattle.std.proofs.lemmas.List.{length-map, length-take-le, map-append}
use Rattle.answers.specs.First.{first_some}
use Rattle.indexmap.specs.IndexSet.{insert_key}
use Rattle.lib_closure.specs.Clashes.{beside_earlier}
use Rattle.lib_closure.proofs.PlaceLemmas.{drop_read, none_then, some_then}
use Rattle.load_model.specs.Faces.{face_or_flaw}
use Rattle.load_model.specs.World.{World}
use Rattle.load_model.specs.declared.setting.Setting.{Setting}
use Rattle.load_model.proofs.Places.{slice_get_front}
use Rattle.host_list.specs.Meeting.{same_file}
use Rattle.host_list.specs.declared.differences.Difference.{Difference}
use Rattle.host_list.specs.declared.differences.Difference.TheVariants.{SameFile}
use Rattle.host_record.specs.declared.records.RecLib.{RecLib}
use Rattle.host_record.specs.declared.records.Record.{Record}
use Rattle.text_sets.proofs.MappedLemmas.{find-position}
use Rattle.text_sets.proofs.FoundLemmas.{none_any, position_within}
use Rattle.version_files.proofs.TakenLemmas.{take_next}
use Rattle.host_meeting.proofs.FileLemmas.{of_lib, one_file_by, read_at}
use Rattle.host_meeting.specs.Files.{HasFiles}
use Rattle.host_meeting.specs.declared.files.LibFile.{LibFile}

next_beside : (libs : List RecLib) (i : ℕ) (x : RecLib) → i < length libs → x ≡ get_or libs i x → beside_earlier (take i libs) (drop i libs) ≡ (take i libs, x) ∷ beside_earlier (take (i + 1) libs) (drop (i + 1) libs)
next_beside libs i x less at =
    ap (beside_earlier (take i libs)) (drop_read libs i x less at)
    ∙ ap (λ l. (take i libs, x) ∷ beside_earlier l (drop (i + 1) libs)) (sym (take_next libs i x less at))

pub ids_next : (files : List LibFile) (i : ℕ) (f : LibFile) (ids now : List (List ℕ)) → i < length files → f ≡ get_or files i f → ids ≡ map (λ (g : LibFile). g.id.now) (take i files) → None ≡ position (bytes_eq f.id.now) ids → now ≡ insert_key bytes_eq ids f.id.now → now ≡ map (λ (g : LibFile). g.id.now) (take (i + 1) files)
ids_next files i f ids now less at are new e =
    let none : list_any (bytes_eq f.id.now) ids ≡ false = none_any (bytes_eq f.id.now) ids (find-position (bytes_eq f.id.now) ids ∙ ap (option_and_then (slice_get ids)) (sym new)) in
    e ∙ ap (λ b. cond b ids (ids ++ f.id.now ∷ [])) none ∙ ap (λ l. l ++ f.id.now ∷ []) are
    ∙ sym (ap (map (λ (g : LibFile). g.id.now)) (take_next files i f less at) ∙ map-append (λ (g : LibFile). g.id.now) (take i files) (f ∷ []))

pub place_before : (files : List LibFile) (i p : ℕ) (id : List ℕ) (ids : List (List ℕ)) → i < length files → ids ≡ map (λ (g : LibFile). g.id.now) (take i files) → Some p ≡ position (bytes_eq id) ids → p < i
place_before files i p id ids less are at =
    let w = position_within (bytes_eq id) ids p (sym at) in
    let n : length ids ≡ i = ap length are ∙ length-map (take i files) (λ (g : LibFile). g.id.now) ∙ length-take-le i files (omega (arith, less)) in
    omega (arith, w, n)

module _ (r : Record) (files : List LibFile) (setting : Setting) (world : World) (has : HasFiles r files setting world) (i : ℕ) (x : RecLib) (f : LibFile) (ids : List (List ℕ)) (whole : Option Difference)
    (less : i < length r.libs) (x_at : x ≡ get_or r.libs i x) (less_f : i < length files) (f_at : f ≡ get_or files i f) (are : ids ≡ map (λ (g : LibFile). g.id.now) (take i files))
    (rest : first_some (map (same_file face_or_flaw setting world r) (beside_earlier (take i r.libs) (drop i r.libs))) ≡ whole) where
  -- A library whose file is new is passed over.
  pub file_passed : None ≡ position (bytes_eq f.id.now) ids → first_some (map (same_file face_or_flaw setting world r) (beside_earlier (take (i + 1) r.libs) (drop (i + 1) r.libs))) ≡ whole
  file_passed new =
      sym (ap (λ l. first_some (map (same_file face_or_flaw setting world r) l)) (next_beside r.libs i x less x_at)
      ∙ none_then (same_file face_or_flaw setting world r (take i r.libs, x)) (map (same_file face_or_flaw setting world r) (beside_earlier (take (i + 1) r.libs) (drop (i + 1) r.libs)))
      (one_file_by r files setting world has i x f ids None (of_lib r files setting world has i x f (read_at r.libs i x less x_at) (read_at files i f less_f f_at)) are new))
      ∙ rest

  -- One with the file of a library before it is the first that is not met.
  pub file_met : (p : ℕ) (y : RecLib) → p < i → y ≡ get_or r.libs p y → Some p ≡ position (bytes_eq f.id.now) ids → Some (SameFile y.name x.name) ≡ whole
  file_met p y below y_at at =
      let there : slice_get (take i r.libs) p ≡ Some y = slice_get_front i r.libs p y below (read_at r.libs p y (omega (arith, below, less)) y_at) in
      sym (ap (λ l. first_some (map (same_file face_or_flaw setting world r) l)) (next_beside r.libs i x less x_at)
      ∙ some_then (same_file face_or_flaw setting world r (take i r.libs, x)) (SameFile y.name x.name) (map (same_file face_or_flaw setting world r) (beside_earlier (take (i + 1) r.libs) (drop (i + 1) r.libs)))
      (one_file_by r files setting world has i x f ids (Some p) (of_lib r files setting world has i x f (read_at r.libs i x less x_at) (read_at files i f less_f f_at)) are at
      ∙ ap (option_map (λ (a : RecLib). SameFile a.name x.name)) there))
      ∙ rest
