-- What a loader sees of a file, and the first flaw that keeps it from seeing it (docs/ELF.md)
use Rattle.std.specs.Prelude.{ℕ, Bool, false, not, ◌==◌, ◌&&◌, ◌||◌, List, [], ◌∷◌, Option, Some, None, Result, Ok, Err, map, filter, take, drop}
use Rattle.std.specs.List.{before_first, enumerate_from, find}
use Rattle.std.specs.Option.{option_map}
use Rattle.std.specs.Str.{is_utf8}
use Rattle.answers.specs.First.{first_some, some_where}
use Rattle.byte_view.specs.Checks.{flaw, flaw_at}
use Rattle.byte_view.specs.Dynamic.{dynamic_entries, value_of}
use Rattle.byte_view.specs.DynamicFlaws.{dynamic_flaw, has_bit, has_tag}
use Rattle.byte_view.specs.HeaderFlaws.{header_flaw}
use Rattle.byte_view.specs.Headers.{e_machine, headers, is_interp}
use Rattle.byte_view.specs.declared.constants.TheConstants.{DF_SYMBOLIC, DT_FLAGS, DT_NEEDED, DT_RPATH, DT_RUNPATH, DT_SONAME, DT_SYMBOLIC}
use Rattle.byte_view.specs.declared.dynamic.Entry.{Entry}
use Rattle.byte_view.specs.declared.flaws.Flaw.{Flaw}
use Rattle.byte_view.specs.declared.flaws.TheConstants.{BAD_NAME}
use Rattle.byte_view.specs.declared.segments.Segment.{Segment}
use Rattle.load_model.specs.SymbolFlaws.{symbol_count, symbol_flaw, symbols_of}
use Rattle.load_model.specs.SymbolWords.{binding_of, has_value, is_defined, type_of, visibility_of}
use Rattle.load_model.specs.VersionFlaws.{version_flaw}
use Rattle.load_model.specs.VersionTables.{asks_of, definitions_of, dynamic_value, is_hidden, is_versioned, text_of, verneeds, version_of, vn_cnt, vn_file}
use Rattle.load_model.specs.declared.faces.Face.{Face}
use Rattle.load_model.specs.declared.symbols.RawSym.{RawSym}
use Rattle.load_model.specs.declared.symbols.Sym.{Sym}
use Rattle.load_model.specs.declared.symbols.Ver.{Ver}

-- the interpreter's path: the bytes of the first INTERP before the first zero byte, or all of them
-- (System V gABI, Program Interpreter)
abbrev pub is_zero : ℕ → Bool
is_zero c = c == 0

abbrev pub path_in : List ℕ → Segment → List ℕ
path_in file s = before_first is_zero (take s.filesz (drop s.offset file))

unfoldable pub interp_of : List ℕ → Option (List ℕ)
interp_of file = option_map (path_in file) (find is_interp (headers file))

-- the texts that entries of the dynamic table name: one, and all of a tag in order (System V gABI,
-- Dynamic Section)
unfoldable pub named_text : List ℕ → ℕ → Option (List ℕ)
named_text file tag = option_map (text_of file) (dynamic_value file tag)

abbrev pub needs_among : List ℕ → List Entry → List (List ℕ)
needs_among file entries =
    map (λ e. text_of file e.value) (filter (λ e. e.tag == DT_NEEDED) entries)

unfoldable pub needs_of : List ℕ → List (List ℕ)
needs_of file = needs_among file (dynamic_entries file)

-- DT_SYMBOLIC, or its bit in DT_FLAGS
abbrev pub has_symbolic_bit : Option ℕ → Bool
has_symbolic_bit None = false
has_symbolic_bit (Some flags) = has_bit DF_SYMBOLIC flags

abbrev pub says_symbolic : List Entry → Bool
says_symbolic entries = has_tag DT_SYMBOLIC entries || has_symbolic_bit (value_of DT_FLAGS entries)

unfoldable pub is_symbolic : List ℕ → Bool
is_symbolic file = says_symbolic (dynamic_entries file)

-- a symbol by its words, and what the version tables say of its index
abbrev pub sym_of : List ℕ → RawSym → Ver → Bool → Sym
sym_of file s version hidden = record {
  name = text_of file s.name;
  version = version;
  hidden = hidden;
  defined = is_defined s;
  value_set = has_value s;
  binding = binding_of s;
  kind = type_of s;
  visibility = visibility_of s;
}

abbrev pub sym_at : List ℕ → ℕ × RawSym → Sym
sym_at file numbered =
    sym_of file numbered.1 (version_of file numbered.0) (is_hidden file numbered.0)

unfoldable pub syms_of : List ℕ → List Sym
syms_of file = map (sym_at file) (enumerate_from 0 (symbols_of file))

-- what a loader sees of a file that has no flaw
unfoldable pub face_of : List ℕ → Face
face_of file = record {
  machine = e_machine file;
  interp = interp_of file;
  soname = named_text file DT_SONAME;
  needs = needs_of file;
  rpath = named_text file DT_RPATH;
  runpath = named_text file DT_RUNPATH;
  symbolic = is_symbolic file;
  syms = syms_of file;
  versioned = is_versioned file;
  defs = definitions_of file;
  asks = asks_of file;
}

-- 33, BadName: a name that is not UTF-8, by its string place
abbrev pub is_no_text : List ℕ → ℕ → Bool
is_no_text file at = not (is_utf8 (text_of file at))

-- the first of the entries with a tag
abbrev pub bad_place : List ℕ → ℕ → List Entry → Option ℕ
bad_place file tag entries =
    option_map (λ e. e.value) (find (λ e. (e.tag == tag) && is_no_text file e.value) entries)

abbrev pub bad_text_of : List ℕ → ℕ → Option Flaw
bad_text_of file tag = flaw_at BAD_NAME (bad_place file tag (dynamic_entries file))

-- a need of which a version is asked, and whose file is no text; the first such file
abbrev pub names_no_text : List ℕ → ℕ → Bool
names_no_text file verneed =
    not (vn_cnt file verneed == 0) && is_no_text file (vn_file file verneed)

abbrev pub bad_version_file : List ℕ → Option Flaw
bad_version_file file =
    flaw_at BAD_NAME (option_map (vn_file file) (find (names_no_text file) (verneeds file)))

-- or the interpreter's path, by its place in the file
abbrev pub bad_path_in : List ℕ → Option Segment → Option Flaw
bad_path_in file None = None
bad_path_in file (Some s) = some_where (not (is_utf8 (path_in file s))) (flaw BAD_NAME s.offset 0)

abbrev pub bad_interp : List ℕ → Option Flaw
bad_interp file = bad_path_in file (find is_interp (headers file))

unfoldable pub name_flaw : List ℕ → Option Flaw
name_flaw file =
    first_some (bad_text_of file DT_NEEDED ∷ bad_text_of file DT_SONAME ∷ bad_text_of file DT_RPATH
    ∷ bad_text_of file DT_RUNPATH ∷ bad_version_file file ∷ bad_interp file ∷ [])

-- the first flaw of a file: headers, dynamic table, symbols, versions, names
unfoldable pub first_flaw : List ℕ → Option Flaw
first_flaw file =
    first_some (header_flaw file ∷ dynamic_flaw file ∷ symbol_flaw file ∷ version_flaw (symbol_count
    file) file ∷ name_flaw file ∷ [])

-- the face of a file that has no flaw, or its first flaw
abbrev pub face_unless : Option Flaw → Face → Result Face Flaw
face_unless None face = Ok face
face_unless (Some f) face = Err f

unfoldable pub face_or_flaw : List ℕ → Result Face Flaw
face_or_flaw file = face_unless (first_flaw file) (face_of file)
