-- The record of a build: what its programs and bundled libraries ask of host libraries, and find
-- there. Of all asks and looks it has each once, in the order of the text.
use Rattle.std.specs.Prelude.{ℕ, List, [], ◌∷◌, ◌≡◌, ◌++◌, Bool, cond, false, fold, ◌==◌, Option, Some, None, is_none, length, map, not, option_to_list, true, position, slice_get, take_while}
use Rattle.std.specs.BTreeSet.{insert_key}
use Rattle.std.specs.List.{filter_map, flat_map, list_any}
use Rattle.std.specs.Option.{option_and_then, option_map, unwrap_or}
use Rattle.std.specs.Result.{result_ok}
use Rattle.std.specs.Str.{bytes_eq}
use Rattle.std.specs.declared.cmp.Ordering.{Ordering}
use Rattle.path_text.specs.Path.{path_of}
use Rattle.load_model.specs.Bindings.{all_binds, binds_itself, looked_in, symbol_at, wanted_version}
use Rattle.load_model.specs.LoadList.{up_to}
use Rattle.load_model.specs.Runs.{face_at}
use Rattle.load_model.specs.Scopes.{scope_of}
use Rattle.load_model.specs.VersionCheck.{asks_in, needs_in, version_file_of}
use Rattle.load_model.specs.declared.asks.Ask.{Ask}
use Rattle.load_model.specs.declared.faces.Face.{Face}
use Rattle.load_model.specs.declared.runs.Bind.{Bind}
use Rattle.load_model.specs.declared.runs.Def.{Def}
use Rattle.load_model.specs.declared.runs.Run.{Run}
use Rattle.load_model.specs.declared.symbols.Class.{Class}
use Rattle.load_model.specs.declared.symbols.Sym.{Sym}
use Rattle.lib_closure.specs.declared.splits.HostLib.{HostLib}
use Rattle.lib_closure.specs.declared.splits.Split.{Split}
use Rattle.host_record.specs.Canonical.{AreDistinct}
use Rattle.host_record.specs.Orders.{full_look_cmp, version_cmp}
use Rattle.host_record.specs.Said.{lib_names, needs_declared}
use Rattle.host_record.specs.declared.records.Look.{Look}
use Rattle.host_record.specs.declared.records.RecLib.{RecLib}
use Rattle.host_record.specs.declared.records.RecVersion.{RecVersion}
use Rattle.host_record.specs.declared.records.Record.{Record}
use Rattle.host_record.specs.declared.records.Answer.{Answer}
use Rattle.host_record.specs.declared.records.Answer.TheVariants.{Nothing}
use Rattle.host_list.specs.Answers.{answer_of, is_call}

-- Each of these once, in the order.
unfoldable pub distinct_in_order : {X : Type 0} → (X → X → Ordering) → List X → List X
distinct_in_order cmp xs = fold (insert_key cmp) [] xs

-- Each text once, where it stands first.
abbrev pub with_new_path : List (List ℕ) → List ℕ → List (List ℕ)
with_new_path paths path = cond (list_any (λ p. bytes_eq p path) paths) paths (paths ++ path ∷ [])

unfoldable pub each_path : List (List ℕ) → List (List ℕ)
each_path paths = fold with_new_path [] paths

-- ---- interpreters and libraries

-- The interpreter of a program, in normal form (System V gABI, Program Interpreter).
abbrev pub normal_interp : Option Face → Option (List ℕ)
normal_interp face =
    option_and_then (λ text. result_ok (path_of text)) (option_and_then (λ f. f.interp) face)

abbrev pub program_interp : List Face → Run → Option (List ℕ)
program_interp faces run = normal_interp (face_at faces run 0)

abbrev pub recorded_lib : List Face → HostLib → RecLib
recorded_lib faces host =
    record { name = host.name; needs = needs_in (slice_get faces host.face) }

-- Host libraries have distinct names, and each of their needs is one of these.
pub record AreClosed (faces : List Face) (hosts : List HostLib) : Type 0 where
  pub distinct : AreDistinct [] (lib_names (map (recorded_lib faces) hosts))
  pub declared : needs_declared (map (recorded_lib faces) hosts) ≡ true

-- The number of the host library of this identity, if it is that of one; and for each object of a
-- run.
abbrev pub host_number : List HostLib → List ℕ → Option ℕ
host_number hosts id = position (λ host. bytes_eq id host.id) hosts

unfoldable pub host_numbers : List HostLib → Run → List (Option ℕ)
host_numbers hosts run = map (λ o. host_number hosts o.id) run.objs

-- The number of the host library that the object of this number is.
abbrev pub host_at : List (Option ℕ) → ℕ → Option ℕ
host_at numbers k = unwrap_or (slice_get numbers k) None

-- ---- versions

-- What an ask of a file records: nothing where it is weak, or the file is no host library.
abbrev pub version_asked : List (Option ℕ) → Ask → Option ℕ → Option RecVersion
version_asked numbers ask file =
    cond ask.weak None
    (option_map (λ lib. record { lib = lib; version = ask.name })
    (option_and_then (host_at numbers) file))

abbrev pub asked_version : List Face → List (Option ℕ) → Run → ℕ → Ask → Option RecVersion
asked_version faces numbers run j ask =
    version_asked numbers ask (version_file_of faces run j ask.file)

-- The asks of programs and bundled libraries are recorded, and those of no host library.
unfoldable pub versions_by : List Face → List (Option ℕ) → Run → ℕ → List RecVersion
versions_by faces numbers run j =
    cond (is_none (host_at numbers j))
    (filter_map (asked_version faces numbers run j) (asks_in (face_at faces run j))) []

-- ---- looks

-- Whether what a reference binds to is in this object.
abbrev pub is_at : Option Def → ℕ → Bool
is_at None k = false
is_at (Some d) k = k == d.obj

-- The objects that a reference looks in before the one that it binds to, or all of them.
abbrev pub looked_past : Option Def → List ℕ → List ℕ
looked_past to scope = take_while (λ k. not (is_at to k)) scope

-- What a symbol, looked up in a class, finds in an object that is a host library.
abbrev pub look_of : Sym → Class → Answer → ℕ → Look
look_of s class answer lib = record {
  lib = lib;
  name = s.name;
  version = wanted_version s.version;
  call = is_call class;
  answer = answer;
}

abbrev pub look_in_object : List (Option ℕ) → Sym → Class → Answer → ℕ → Option Look
look_in_object numbers s class answer k = option_map (look_of s class answer) (host_at numbers k)

-- In those that it looks past it finds nothing.
unfoldable pub looks_past : List (Option ℕ) → Sym → Class → List ℕ → List Look
looks_past numbers s class ks = filter_map (look_in_object numbers s class Nothing) ks

-- A reference that binds to its own symbol by visibility looks nowhere, nor are the references of
-- host libraries recorded.
module _ (faces : List Face) (hosts : List HostLib) (run : Run) where
  -- In the one that it binds to it finds a symbol.
  abbrev pub look_found : Sym → Class → Option Def → List Look
  look_found s class None = []
  look_found s class (Some d) =
      option_to_list (look_in_object (host_numbers hosts run) s class
      (answer_of (symbol_at faces run d.obj d.sym)) d.obj)

  abbrev pub looks_in_scope : Sym → Class → Option Def → List ℕ → List Look
  looks_in_scope s class to scope =
      looks_past (host_numbers hosts run) s class (looked_past to scope) ++ look_found s class to

  abbrev pub looks_by_symbol : Bind → Option Sym → List Look
  looks_by_symbol bind None = []
  looks_by_symbol bind (Some s) =
      cond (binds_itself bind.class s) []
      (looks_in_scope s bind.class bind.to (looked_in bind.class (scope_of faces run bind.obj)))

  unfoldable pub looks_by : Bind → List Look
  looks_by bind =
      cond (is_none (host_at (host_numbers hosts run) bind.obj))
      (looks_by_symbol bind (symbol_at faces run bind.obj bind.sym)) []

-- ---- all of them

abbrev pub versions_of_run : List Face → List HostLib → Run → List RecVersion
versions_of_run faces hosts run =
    flat_map (versions_by faces (host_numbers hosts run) run) (up_to (length run.objs))

abbrev pub looks_of_run : List Face → List HostLib → Run → List Look
looks_of_run faces hosts run = flat_map (looks_by faces hosts run) (all_binds faces run)

-- The record of these runs, split so; the machine is that of the first program.
pub record IsRecordOf (faces : List Face) (runs : List Run) (split : Split) (r : Record) : Type 0
  where
    pub machine : (run : Run) (face : Face) → slice_get runs 0 ≡ Some run
        → face_at faces run 0 ≡ Some face → r.machine ≡ face.machine
    pub interps : r.interps ≡ each_path (filter_map (program_interp faces) runs)
    pub libs : r.libs ≡ map (recorded_lib faces) split.hosts
    pub versions : r.versions
        ≡ distinct_in_order version_cmp (flat_map (versions_of_run faces split.hosts) runs)
    pub looks : r.looks
        ≡ distinct_in_order full_look_cmp (flat_map (looks_of_run faces split.hosts) runs)
