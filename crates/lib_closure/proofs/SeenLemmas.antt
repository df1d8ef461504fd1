-- What stands at an object of a load list.
use Rattle.std.proofs.Common.{◌≡◌, ◌∙◌, sym, ap, refl, ℕ, ◌<◌, List, Option, Some, None, length, map, slice_get, vec_items}
use Rattle.std.specs.Option.{option_and_then, option_map}
use Rattle.std.proofs.lemmas.Option.{slice_get-map, slice_get_within}
use Rattle.load_model.specs.LoadList.{up_to}
use Rattle.load_model.specs.Runs.{face_at}
use Rattle.load_model.specs.VersionCheck.{asks_in, version_file_of}
use Rattle.load_model.specs.declared.faces.Face.{Face}
use Rattle.load_model.specs.declared.runs.Obj.{Obj}
use Rattle.load_model.specs.declared.runs.Run.{Run}
use Rattle.version_files.specs.Files.{files_at, files_of_run}
use Rattle.lib_closure.specs.Objects.{Occurrence, files_named, occurrence, occurrence_at}
use Rattle.lib_closure.specs.Seen.{standing}
use Rattle.lib_closure.specs.declared.seen.Seen.{Seen}
use Rattle.lib_closure.proofs.NumberLemmas.{number_at}

-- An object that stands at a number.
pub record Stands (faces : List Face) (run : Run) (j : ℕ) (o : Occurrence) : Type 0 where
  pub within : j < length run.objs
  pub faces_are : o.faces ≡ faces
  pub run_is : o.run ≡ run
  pub number : o.number ≡ j
  pub face : face_at faces run j ≡ Some o.face

stands_by : (faces : List Face) (run : Run) (j : ℕ) (o : Occurrence) (obj : Option Obj) (face : Option Face) → slice_get run.objs j ≡ obj → option_and_then (λ x. slice_get faces x.face) obj ≡ face → option_and_then (occurrence faces run j) obj ≡ Some o → Stands faces run j o
stands_by faces run j o None face h f e = cc
stands_by faces run j o (Some x) None h f e =
    absurd (let gone : option_map (λ (y : Face). record { faces = faces; run = run; number = j; obj = x; face = y }) (slice_get faces x.face) ≡ None = ap (option_map (λ (y : Face). record { faces = faces; run = run; number = j; obj = x; face = y })) f in
    let clash : Some o ≡ None = sym e ∙ gone in cc)
stands_by faces run j o (Some x) (Some y) h f e =
    let made : Occurrence = record { faces = faces; run = run; number = j; obj = x; face = y } in
    let there : option_map (λ (z : Face). record { faces = faces; run = run; number = j; obj = x; face = z }) (slice_get faces x.face) ≡ Some made = ap (option_map (λ (z : Face). record { faces = faces; run = run; number = j; obj = x; face = z })) f in
    let same : o ≡ made = let both : Some o ≡ Some made = sym e ∙ there in cc in
    record {
      within = slice_get_within run.objs j x h;
      faces_are = ap (λ (p : Occurrence). p.faces) same;
      run_is = ap (λ (p : Occurrence). p.run) same;
      number = ap (λ (p : Occurrence). p.number) same;
      face = ap (option_and_then (λ (z : Obj). slice_get faces z.face)) h ∙ f ∙ ap (λ (p : Occurrence). Some p.face) (sym same);
    }

pub stands : (faces : List Face) (run : Run) (j : ℕ) (o : Occurrence) → occurrence_at faces run j ≡ Some o → Stands faces run j o
unfolding occurrence_at
stands faces run j o h = stands_by faces run j o (slice_get run.objs j) (option_and_then (λ x. slice_get faces x.face) (slice_get run.objs j)) refl refl h

files_there : (faces : List Face) (run : Run) (j : ℕ) → j < length run.objs → slice_get (files_of_run faces run) j ≡ Some (files_at faces run j)
unfolding files_of_run
files_there faces run j h = slice_get-map (files_at faces run) (up_to (length run.objs)) j ∙ ap (option_map (files_at faces run)) (number_at (length run.objs) j h)

-- The files of its asks are those at its number.
pub files_seen : (seen : Seen) → slice_get (map vec_items seen.list.now.files.items) seen.number ≡ Some (files_named (standing seen))
unfolding files_named
files_seen seen =
    let faces : List Face = seen.list.now.faces.now in
    let run : Run = seen.list.now.run.now in
    let is = stands faces run seen.number (standing seen) seen.stands in
    ap (λ xs. slice_get xs seen.number) seen.list.now.files_are ∙ files_there faces run seen.number is.within
    ∙ ap (λ f. Some (map (λ ask. version_file_of faces run seen.number ask.file) (asks_in f))) is.face

pub files_read : (seen : Seen) (files : List (Option ℕ)) → slice_get (map vec_items seen.list.now.files.items) seen.number ≡ Some files → files ≡ files_named (standing seen)
files_read seen files h =
    let both : Some files ≡ Some (files_named (standing seen)) = sym h ∙ files_seen seen in
    cc

pub files_unread : (seen : Seen) → slice_get (map vec_items seen.list.now.files.items) seen.number ≡ None → ⊥
files_unread seen h =
    let both : ◌≡◌ {A = Option (List (Option ℕ))} None (Some (files_named (standing seen))) = sym h ∙ files_seen seen in
    cc
