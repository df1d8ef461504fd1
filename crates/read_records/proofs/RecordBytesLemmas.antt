-- The record of runs over faces of bytes is of bytes.
use Rattle.std.proofs.Common.{◌≡◌, ap, refl, subst, ℕ, zero, suc, ◌≤◌, List, [], ◌∷◌, ◌++◌, Bool, true, false, cond, fold, Option, Some, None, Result, Ok, Err, length, map, slice_get, arith}
use Rattle.std.specs.Prelude.{option_to_list}
use Rattle.std.specs.List.{AllByRecursion, cons_option, filter_map, list_any}
use Rattle.std.specs.Option.{option_and_then, option_map}
use Rattle.std.specs.Result.{result_ok}
use Rattle.std.specs.Str.{bytes_eq}
use Rattle.build_plan.specs.Building.{Building}
use Rattle.build_texts.specs.Texts.{first_face, machine_in, record_in}
use Rattle.host_list.specs.Answers.{answer_of, answer_of_version}
use Rattle.host_list.specs.Recording.{asked_version, each_path, host_at, host_numbers, look_found, look_in_object, look_of, looked_past, looks_by, looks_by_symbol, looks_of_run, looks_past, program_interp, recorded_lib, versions_by, versions_of_run, with_new_path}
use Rattle.host_list.proofs.OrderLemmas.{all_chosen, all_distinct, all_flat, all_joined, all_mapped}
use Rattle.host_record.specs.Canonical.{IsOfBytes, LibBytes, LookBytes, VersionBytes}
use Rattle.host_record.specs.Lines.{AnswerBytes, IsPathBytes, OptionBytes}
use Rattle.host_record.specs.Orders.{full_look_cmp, version_cmp}
use Rattle.host_record.specs.declared.records.Answer.{Answer}
use Rattle.host_record.specs.declared.records.Answer.TheVariants.{Nothing}
use Rattle.host_record.specs.declared.records.Look.{Look}
use Rattle.host_record.specs.declared.records.RecVersion.{RecVersion}
use Rattle.lib_closure.specs.declared.splits.HostLib.{HostLib}
use Rattle.load_model.specs.Bindings.{all_binds, binds_itself, looked_in, symbol_at, wanted_version}
use Rattle.load_model.specs.Escaping.{AreBytes}
use Rattle.load_model.specs.LoadList.{up_to}
use Rattle.load_model.specs.Runs.{face_at}
use Rattle.load_model.specs.Scopes.{scope_of}
use Rattle.load_model.specs.VersionCheck.{asks_in, needs_in, version_file_of}
use Rattle.load_model.specs.declared.faces.Face.{Face}
use Rattle.load_model.specs.declared.runs.Bind.{Bind}
use Rattle.load_model.specs.declared.runs.Def.{Def}
use Rattle.load_model.specs.declared.runs.Obj.{Obj}
use Rattle.load_model.specs.declared.runs.Run.{Run}
use Rattle.load_model.specs.declared.symbols.Class.{Class}
use Rattle.load_model.specs.declared.symbols.Sym.{Sym}
use Rattle.path_text.specs.Path.{path_of}
use Rattle.path_text.specs.declared.absolute.PathFault.{PathFault}
use Rattle.path_text.proofs.PathLemmas.{IsNormalPath-path_of}
use Rattle.read_records.proofs.FaceBytesLemmas.{AskBytes, FaceBytes, SymBytes}
use Rattle.read_records.proofs.TextBytesLemmas.{text_bytes}

-- ---- lists

-- What stands at a place is as all are.
at_of : {X : Type 0} (P : X → Type 0) (xs : List X) (k : ℕ) (x : X) → AllByRecursion P xs → slice_get xs k ≡ Some x → P x
at_of P [] k x p h = cc
at_of P (y ∷ xs) zero x p h = let same : y ≡ x = cc in subst P same p.0
at_of P (y ∷ xs) (suc k) x p h = at_of P xs k x p.1 h

put_of : {X : Type 0} (P : X → Type 0) (o : Option X) (xs : List X) → ((x : X) → o ≡ Some x → P x) → AllByRecursion P xs → AllByRecursion P (cons_option o xs)
put_of P None xs h p = p
put_of P (Some x) xs h p = (h x refl, p)

chosen_of : {A X : Type 0} (Q : A → Type 0) (P : X → Type 0) (f : A → Option X) → ((a : A) (x : X) → Q a → f a ≡ Some x → P x) → (items : List A) → AllByRecursion Q items → AllByRecursion P (filter_map f items)
chosen_of Q P f h [] p = tt
chosen_of Q P f h (a ∷ items) p = put_of P (f a) (filter_map f items) (λ x e. h a x p.0 e) (chosen_of Q P f h items p.1)

one_of : {X : Type 0} (P : X → Type 0) (o : Option X) → ((x : X) → o ≡ Some x → P x) → AllByRecursion P (option_to_list o)
one_of P None h = tt
one_of P (Some x) h = (h x refl, tt)

-- ---- interpreters

path_added : (b : Bool) (paths : List (List ℕ)) (path : List ℕ) → AllByRecursion IsPathBytes paths → IsPathBytes path → AllByRecursion IsPathBytes (cond b paths (paths ++ path ∷ []))
path_added true paths path p h = p
path_added false paths path p h = all_joined IsPathBytes paths (path ∷ []) p (h, tt)

paths_added : (paths more : List (List ℕ)) → AllByRecursion IsPathBytes paths → AllByRecursion IsPathBytes more → AllByRecursion IsPathBytes (fold with_new_path paths more)
paths_added paths [] p q = p
paths_added paths (path ∷ more) p q =
    paths_added (with_new_path paths path) more (path_added (list_any (λ r. bytes_eq r path) paths) paths path p q.0) q.1

ok_is : (r : Result (List ℕ) PathFault) (path : List ℕ) → result_ok r ≡ Some path → r ≡ Ok path
ok_is (Ok p) path h = let same : p ≡ path = cc in ap (λ (x : List ℕ). Ok x) same
ok_is (Err fault) path h = cc

interp_by : (text : Option (List ℕ)) (path : List ℕ) → option_and_then (λ t. result_ok (path_of t)) text ≡ Some path → IsPathBytes path
interp_by None path h = cc
interp_by (Some text) path h =
    let normal = IsNormalPath-path_of text path (ok_is (path_of text) path h) in
    (text_bytes path normal.utf8, normal)

interps_bytes : (faces : List Face) (runs : List Run) → AllByRecursion IsPathBytes (each_path (filter_map (program_interp faces) runs))
unfolding each_path
interps_bytes faces runs =
    paths_added [] (filter_map (program_interp faces) runs) tt
    (all_mapped IsPathBytes (program_interp faces) (λ run path h. interp_by (option_and_then (λ (f : Face). f.interp) (face_at faces run 0)) path h) runs)

-- ---- over faces of bytes

module _ (faces : List Face) (seen : AllByRecursion FaceBytes faces) where
  face_seen : (k : ℕ) (face : Face) → slice_get faces k ≡ Some face → FaceBytes face
  face_seen k face h = at_of FaceBytes faces k face seen h

  of_object : (o : Option Obj) (face : Face) → option_and_then (λ (x : Obj). slice_get faces x.face) o ≡ Some face → FaceBytes face
  of_object None face h = cc
  of_object (Some x) face h = face_seen x.face face h

  at_seen : (run : Run) (j : ℕ) (face : Face) → face_at faces run j ≡ Some face → FaceBytes face
  at_seen run j face h = of_object (slice_get run.objs j) face h

  machine_by : (o : Option Face) → ((face : Face) → o ≡ Some face → FaceBytes face) → machine_in o ≤ 65535
  machine_by None h = omega arith
  machine_by (Some face) h = (h face refl).machine

  machine_bytes : (runs : List Run) → machine_in (first_face faces runs) ≤ 65535
  machine_bytes [] = omega arith
  machine_bytes (run ∷ runs) = machine_by (face_at faces run 0) (at_seen run 0)

  needs_by : (o : Option Face) → ((face : Face) → o ≡ Some face → FaceBytes face) → AllByRecursion AreBytes (needs_in o)
  needs_by None h = tt
  needs_by (Some face) h = (h face refl).needs

  libs_bytes : (hosts : List HostLib) → AllByRecursion (λ (h : HostLib). AreBytes h.name) hosts → AllByRecursion LibBytes (map (recorded_lib faces) hosts)
  libs_bytes [] p = tt
  libs_bytes (host ∷ hosts) p =
      (record { name = p.0; needs = needs_by (slice_get faces host.face) (face_seen host.face) }, libs_bytes hosts p.1)

  -- ---- versions

  asks_by : (o : Option Face) → ((face : Face) → o ≡ Some face → FaceBytes face) → AllByRecursion AskBytes (asks_in o)
  asks_by None h = tt
  asks_by (Some face) h = (h face refl).asks

  version_by : (name : List ℕ) (o : Option ℕ) (v : RecVersion) → AreBytes name → option_map (λ lib. record { lib = lib; version = name }) o ≡ Some v → VersionBytes v
  version_by name None v p h = cc
  version_by name (Some n) v p h = let same : name ≡ v.version = cc in subst AreBytes same p

  version_of_ask : (weak : Bool) (name : List ℕ) (o : Option ℕ) (v : RecVersion) → AreBytes name → cond weak None (option_map (λ lib. record { lib = lib; version = name }) o) ≡ Some v → VersionBytes v
  version_of_ask true name o v p h = cc
  version_of_ask false name o v p h = version_by name o v p h

  module _ (hosts : List HostLib) where
    versions_bytes_of : (run : Run) → AllByRecursion VersionBytes (versions_of_run faces hosts run)
    unfolding versions_by
    versions_bytes_of run =
        let numbers = host_numbers hosts run in
        all_flat VersionBytes (versions_by faces numbers run) (λ j.
        all_chosen VersionBytes _ _ (chosen_of AskBytes VersionBytes (asked_version faces numbers run j) (λ ask v p h. version_of_ask ask.weak ask.name (option_and_then (host_at numbers) (version_file_of faces run j ask.file)) v p h) (asks_in (face_at faces run j)) (asks_by (face_at faces run j) (at_seen run j)))) (up_to (length run.objs))

    -- ---- looks

    look_by : (s : Sym) (class : Class) (answer : Answer) (o : Option ℕ) (l : Look) → SymBytes s → AnswerBytes answer → option_map (look_of s class answer) o ≡ Some l → LookBytes l
    look_by s class answer None l p a h = cc
    look_by s class answer (Some n) l p a h =
        let same : look_of s class answer n ≡ l = cc in
        subst LookBytes same (record { name = p.name; version = p.version; answer = a })

    answer_by : (version : Option (List ℕ)) → OptionBytes version → AnswerBytes (answer_of_version version)
    answer_by None p = tt
    answer_by (Some version) p = p

    answer_bytes : (o : Option Sym) → ((s : Sym) → o ≡ Some s → SymBytes s) → AnswerBytes (answer_of o)
    answer_bytes None h = tt
    answer_bytes (Some s) h = answer_by (wanted_version s.version) (h s refl).version

    symbol_by : (o : Option Face) (i : ℕ) (s : Sym) → ((face : Face) → o ≡ Some face → FaceBytes face) → option_and_then (λ (face : Face). slice_get face.syms i) o ≡ Some s → SymBytes s
    symbol_by None i s h e = cc
    symbol_by (Some face) i s h e = at_of SymBytes face.syms i s (h face refl).syms e

    symbol_seen : (run : Run) (j i : ℕ) (s : Sym) → symbol_at faces run j i ≡ Some s → SymBytes s
    symbol_seen run j i s e = symbol_by (face_at faces run j) i s (at_seen run j) e

    look_there : (run : Run) (s : Sym) (class : Class) (answer : Answer) (k : ℕ) (l : Look) → SymBytes s → AnswerBytes answer → look_in_object (host_numbers hosts run) s class answer k ≡ Some l → LookBytes l
    look_there run s class answer k l p a h = look_by s class answer (host_at (host_numbers hosts run) k) l p a h

    found_bytes : (run : Run) (s : Sym) (class : Class) (to : Option Def) → SymBytes s → AllByRecursion LookBytes (look_found faces hosts run s class to)
    found_bytes run s class None p = tt
    found_bytes run s class (Some d) p =
        let answer = answer_of (symbol_at faces run d.obj d.sym) in
        one_of LookBytes (look_in_object (host_numbers hosts run) s class answer d.obj) (λ l h. look_there run s class answer d.obj l p (answer_bytes (symbol_at faces run d.obj d.sym) (symbol_seen run d.obj d.sym)) h)

    past_bytes : (run : Run) (s : Sym) (class : Class) (ks : List ℕ) → SymBytes s → AllByRecursion LookBytes (looks_past (host_numbers hosts run) s class ks)
    unfolding looks_past
    past_bytes run s class ks p =
        all_mapped LookBytes (look_in_object (host_numbers hosts run) s class Nothing) (λ k l h. look_there run s class Nothing k l p tt h) ks

    not_chosen : (b : Bool) (xs : List Look) → AllByRecursion LookBytes xs → AllByRecursion LookBytes (cond b [] xs)
    not_chosen true xs p = tt
    not_chosen false xs p = p

    symbol_looks : (run : Run) (bind : Bind) (o : Option Sym) → ((s : Sym) → o ≡ Some s → SymBytes s) → AllByRecursion LookBytes (looks_by_symbol faces hosts run bind o)
    symbol_looks run bind None h = tt
    symbol_looks run bind (Some s) h =
        not_chosen (binds_itself bind.class s) _
        (all_joined LookBytes _ _ (past_bytes run s bind.class (looked_past bind.to (looked_in bind.class (scope_of faces run bind.obj))) (h s refl)) (found_bytes run s bind.class bind.to (h s refl)))

    looks_bytes_of : (run : Run) → AllByRecursion LookBytes (looks_of_run faces hosts run)
    unfolding looks_by
    looks_bytes_of run =
        all_flat LookBytes (looks_by faces hosts run) (λ bind.
        all_chosen LookBytes _ _ (symbol_looks run bind (symbol_at faces run bind.obj bind.sym) (symbol_seen run bind.obj bind.sym))) (all_binds faces run)

-- ---- all of it

pub record_bytes : (b : Building) → AllByRecursion FaceBytes b.faces → AllByRecursion (λ (h : HostLib). AreBytes h.name) b.split.hosts → IsOfBytes (record_in b)
unfolding record_in
record_bytes b seen named = record {
  machine = machine_bytes b.faces seen b.runs;
  interps = interps_bytes b.faces b.runs;
  libs = libs_bytes b.faces seen b.split.hosts named;
  versions = all_distinct VersionBytes version_cmp _ (all_flat VersionBytes (versions_of_run b.faces b.split.hosts) (versions_bytes_of b.faces seen b.split.hosts) b.runs);
  looks = all_distinct LookBytes full_look_cmp _ (all_flat LookBytes (looks_of_run b.faces b.split.hosts) (looks_bytes_of b.faces seen b.split.hosts) b.runs);
}
