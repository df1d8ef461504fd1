-- What the files of a host are to the libraries of a record.
use Rattle.std.proofs.Common.{◌≡◌, ◌∙◌, sym, ap, refl, ℕ, zero, suc, ◌<◌, ◌==◌, false, List, [], ◌∷◌, ◌++◌, ◌+◌, Bool, Option, Some, None, bytes_eq, length, map, not, slice_get, take, get_or, arith}
use Rattle.std.specs.Prelude.{position}
use Rattle.std.specs.List.{find, list_any}
use Rattle.std.specs.Option.{option_and_then, option_map}
use Rattle.std.proofs.Math.Path.{fun_ext}
use Rattle.std.proofs.lemmas.List.{length-map, map-append, take-map}
use Rattle.std.proofs.lemmas.Option.{slice_get-map, slice_get_read}
use Rattle.answers.specs.First.{first_some, some_where}
use Rattle.load_model.specs.Faces.{face_or_flaw}
use Rattle.load_model.specs.LoadList.{Object}
use Rattle.load_model.specs.VersionCheck.{has_defined}
use Rattle.load_model.specs.World.{World}
use Rattle.load_model.specs.declared.setting.Setting.{Setting}
use Rattle.load_model.proofs.TwoWorlds.{same_bytes}
use Rattle.lib_closure.proofs.ContainedLemmas.{is_there}
use Rattle.host_list.specs.Answers.{answer_in_face, class_of}
use Rattle.host_list.specs.Meeting.{answer_difference, are_one_file, asks_of_lib, is_answer, is_same_file, lacks_version, lib_object, look_difference, own_difference, own_differences, same_file, version_difference}
use Rattle.host_list.specs.declared.differences.Difference.{Difference}
use Rattle.host_list.specs.declared.differences.Difference.TheVariants.{AnswerDiffers, NoVersion, SameFile}
use Rattle.host_record.specs.Grammar.{lib_name_at}
use Rattle.host_record.specs.Said.{is_declared, lib_names}
use Rattle.host_record.specs.declared.records.Look.{Look}
use Rattle.host_record.specs.declared.records.RecLib.{RecLib}
use Rattle.host_record.specs.declared.records.RecVersion.{RecVersion}
use Rattle.host_record.specs.declared.records.Record.{Record}
use Rattle.version_files.proofs.TakenLemmas.{take_next}
use Rattle.text_sets.proofs.MappedLemmas.{any-map, find-position, position-map}
use Rattle.text_sets.proofs.FoundLemmas.{bytes_eq-sym, find_passes, none_any, position_within}
use Rattle.host_meeting.specs.Files.{HasFiles, object_of}
use Rattle.host_meeting.specs.declared.files.LibFile.{LibFile}

name_at : (libs : List RecLib) (k : ℕ) (lib : RecLib) → slice_get libs k ≡ Some lib → lib_name_at (lib_names libs) k ≡ lib.name
name_at [] k lib h = cc
name_at (l ∷ libs) zero lib h = let e : l ≡ lib = cc in ap (λ x. x.name) e
name_at (l ∷ libs) (suc k) lib h = name_at libs k lib h

pub read_at : {X : Type 0} (xs : List X) (k : ℕ) (x : X) → k < length xs → x ≡ get_or xs k x → slice_get xs k ≡ Some x
read_at xs k x less h = slice_get_read xs (length xs) k x refl less h

module _ (r : Record) (files : List LibFile) (setting : Setting) (world : World) (has : HasFiles r files setting world) where
  abbrev object : RecLib → Option Object
  object lib = lib_object face_or_flaw setting world r lib.name

  -- The object of a library is its file.
  pub of_lib : (k : ℕ) (lib : RecLib) (f : LibFile) → slice_get r.libs k ≡ Some lib → slice_get files k ≡ Some f → lib_object face_or_flaw setting world r lib.name ≡ Some (object_of f)
  of_lib k lib f l g =
      let both : Some (object lib) ≡ Some (Some (object_of f)) =
      sym (slice_get-map object r.libs k ∙ ap (option_map object) l) ∙ ap (λ xs. slice_get xs k) has
      ∙ slice_get-map (λ (h : LibFile). Some (object_of h)) files k ∙ ap (option_map (λ (h : LibFile). Some (object_of h))) g in
      cc

  pub version_by : (v : RecVersion) (lib : RecLib) (f : LibFile) (b : Bool) → slice_get r.libs v.lib ≡ Some lib → slice_get files v.lib ≡ Some f → b ≡ has_defined v.version f.face.now.defs → some_where (not b) (NoVersion lib.name v.version) ≡ version_difference face_or_flaw setting world r v
  version_by v lib f b l g is =
      sym (ap (λ n. some_where (lacks_version face_or_flaw setting world r v.version (lib_object face_or_flaw setting world r n)) (NoVersion n v.version)) (name_at r.libs v.lib lib l)
      ∙ ap (λ o. some_where (lacks_version face_or_flaw setting world r v.version o) (NoVersion lib.name v.version)) (of_lib v.lib lib f l g)
      ∙ ap (λ t. some_where (not t) (NoVersion lib.name v.version)) (sym is))

  pub look_by : (l : Look) (lib : RecLib) (f : LibFile) → slice_get r.libs l.lib ≡ Some lib → slice_get files l.lib ≡ Some f
      → some_where (not (is_answer l.answer (answer_in_face f.face.now l.name l.version l.call))) (AnswerDiffers lib.name l.name l.version (class_of l.call) l.answer (answer_in_face f.face.now l.name l.version l.call)) ≡ look_difference face_or_flaw setting world r l
  look_by l lib f at g =
      sym (ap (option_and_then (λ (o : Object). answer_difference face_or_flaw setting world r l (answer_in_face o.face l.name l.version l.call))) (ap (lib_object face_or_flaw setting world r) (name_at r.libs l.lib lib at) ∙ of_lib l.lib lib f at g)
      ∙ ap (λ n. some_where (not (is_answer l.answer (answer_in_face f.face.now l.name l.version l.call))) (AnswerDiffers n l.name l.version (class_of l.call) l.answer (answer_in_face f.face.now l.name l.version l.call))) (name_at r.libs l.lib lib at))

  -- The object of a name is the file of the library that has it.
  pub of_name : (name : List ℕ) (k : ℕ) (lib : RecLib) (f : LibFile) → slice_get r.libs k ≡ Some lib → lib.name ≡ name → slice_get files k ≡ Some f → lib_object face_or_flaw setting world r name ≡ Some (object_of f)
  of_name name k lib f l is g = ap (lib_object face_or_flaw setting world r) (sym is) ∙ of_lib k lib f l g

  pub own_by : (k : ℕ) (lib : RecLib) (f : LibFile) (d : Option Difference) → slice_get r.libs k ≡ Some lib → slice_get files k ≡ Some f → d ≡ first_some (map (own_difference face_or_flaw setting world r lib) f.face.now.asks) → d ≡ first_some (own_differences face_or_flaw setting world r lib)
  own_by k lib f d l g is =
      is ∙ sym (ap (λ (o : Option Object). first_some (map (own_difference face_or_flaw setting world r lib) (asks_of_lib face_or_flaw setting world r o))) (of_lib k lib f l g))

  -- ---- libraries that are one file

  objects_before : (i : ℕ) → map object (take i r.libs) ≡ map (λ (f : LibFile). Some (object_of f)) (take i files)
  objects_before i = sym (take-map object i r.libs) ∙ ap (take i) has ∙ take-map (λ (f : LibFile). Some (object_of f)) i files

  place_of_file : (i : ℕ) (lib : RecLib) (f : LibFile) → object lib ≡ Some (object_of f) → position (is_same_file face_or_flaw setting world r lib) (take i r.libs) ≡ position (bytes_eq f.id.now) (map (λ (g : LibFile). g.id.now) (take i files))
  place_of_file i lib f is =
      sym (position-map (λ (o : Option Object). are_one_file face_or_flaw setting world r o (object lib)) object (take i r.libs))
      ∙ ap (position (λ (o : Option Object). are_one_file face_or_flaw setting world r o (object lib))) (objects_before i)
      ∙ position-map (λ (o : Option Object). are_one_file face_or_flaw setting world r o (object lib)) (λ (g : LibFile). Some (object_of g)) (take i files)
      ∙ ap (λ (o : Option Object). position (λ (g : LibFile). are_one_file face_or_flaw setting world r (Some (object_of g)) o) (take i files)) is
      ∙ ap (λ (t : LibFile → Bool). position t (take i files)) (fun_ext (λ (g : LibFile). bytes_eq-sym g.id.now f.id.now))
      ∙ sym (position-map (bytes_eq f.id.now) (λ (g : LibFile). g.id.now) (take i files))

  pub one_file_by : (i : ℕ) (lib : RecLib) (f : LibFile) (ids : List (List ℕ)) (place : Option ℕ) → object lib ≡ Some (object_of f) → ids ≡ map (λ (g : LibFile). g.id.now) (take i files) → place ≡ position (bytes_eq f.id.now) ids → same_file face_or_flaw setting world r (take i r.libs, lib) ≡ option_map (λ (a : RecLib). SameFile a.name lib.name) (option_and_then (slice_get (take i r.libs)) place)
  one_file_by i lib f ids place is ids_are at =
      ap (option_map (λ (a : RecLib). SameFile a.name lib.name))
      (find-position (is_same_file face_or_flaw setting world r lib) (take i r.libs)
      ∙ ap (option_and_then (slice_get (take i r.libs))) (place_of_file i lib f is ∙ ap (position (bytes_eq f.id.now)) (sym ids_are) ∙ sym at))

-- ---- versions that a file defines

pub defined_by : (version : List ℕ) (defs : List (List ℕ)) → (length defs == 0) ≡ false → list_any (λ (n : List ℕ). bytes_eq n version) defs ≡ has_defined version defs
defined_by version [] h = absurd (cc)
defined_by version (d ∷ defs) h = refl

-- ---- libraries by their names

pub record Named (libs : List RecLib) (name : List ℕ) (k : ℕ) : Type 0 where
  pub lib : RecLib
  pub stands : slice_get libs k ≡ Some lib
  pub is : lib.name ≡ name

pub named_at : (libs : List RecLib) (name : List ℕ) (k : ℕ) → position (λ (l : RecLib). bytes_eq l.name name) libs ≡ Some k → Named libs name k
named_at libs name k h =
    let t = is_there libs k (position_within (λ (l : RecLib). bytes_eq l.name name) libs k h) in
    let found : find (λ (l : RecLib). bytes_eq l.name name) libs ≡ Some t.it = find-position (λ (l : RecLib). bytes_eq l.name name) libs ∙ ap (option_and_then (slice_get libs)) h ∙ t.is in
    record { lib = t.it; stands = t.is; is = same_bytes t.it.name name (find_passes (λ (l : RecLib). bytes_eq l.name name) libs t.it found) }

pub not_named : (libs : List RecLib) (name : List ℕ) → position (λ (l : RecLib). bytes_eq l.name name) libs ≡ None → is_declared (lib_names libs) name ≡ false
not_named libs name h =
    any-map (λ n. bytes_eq name n) (λ (l : RecLib). l.name) libs
    ∙ ap (λ (t : RecLib → Bool). list_any t libs) (fun_ext (λ (l : RecLib). bytes_eq-sym name l.name))
    ∙ none_any (λ (l : RecLib). bytes_eq l.name name) libs (find-position (λ (l : RecLib). bytes_eq l.name name) libs ∙ ap (option_and_then (slice_get libs)) h)

-- ---- lists that are made side by side

pub mapped_next : {X Y Z : Type 0} (f : X → Z) (g : Y → Z) (xs now : List X) (x : X) (ys : List Y) (i : ℕ) (y : Y) → i < length ys → y ≡ get_or ys i y → map f xs ≡ map g (take i ys) → f x ≡ g y → now ≡ xs ++ x ∷ [] → map f now ≡ map g (take (i + 1) ys)
mapped_next f g xs now x ys i y less at so_far same e =
    ap (map f) e ∙ map-append f xs (x ∷ []) ∙ ap (λ l. l ++ f x ∷ []) so_far ∙ ap (λ z. map g (take i ys) ++ z ∷ []) same
    ∙ sym (ap (map g) (take_next ys i y less at) ∙ map-append g (take i ys) (y ∷ []))

pub same_length : {X Y Z : Type 0} (f : X → Z) (g : Y → Z) (xs : List X) (ys : List Y) → map f xs ≡ map g ys → length xs ≡ length ys
same_length f g xs ys h =
    let a = length-map xs f in
    let b = length-map ys g in
    let e = ap length h in
    omega (arith, a, b, e)
