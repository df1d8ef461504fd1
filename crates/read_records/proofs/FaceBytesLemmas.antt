-- What a loader sees of a file of bytes: texts are bytes, and the machine is a number of 16 bits.
use Rattle.std.proofs.Common.{◌≡◌, sym, subst, ℕ, ◌≤◌, List, [], ◌∷◌, Bool, true, false, cond, Option, Some, None, Ok, ◌==◌, filter, map, arith}
use Rattle.std.specs.List.{AllByRecursion, enumerate_from}
use Rattle.std.specs.Option.{option_map, unwrap_or}
use Rattle.byte_view.specs.Dynamic.{dynamic_entries}
use Rattle.byte_view.specs.Headers.{e_machine}
use Rattle.byte_view.specs.declared.constants.TheConstants.{DT_NEEDED, E_MACHINE_AT, VER_NDX_GLOBAL, VER_NDX_LOCAL}
use Rattle.elf_rewrite.proofs.ShortLemmas.{number_small}
use Rattle.host_record.specs.Lines.{OptionBytes}
use Rattle.load_model.specs.Bindings.{wanted_version}
use Rattle.load_model.specs.Escaping.{AreBytes}
use Rattle.load_model.specs.Faces.{face_of, face_or_flaw, needs_of, sym_at, syms_of}
use Rattle.load_model.specs.SymbolFlaws.{symbols_of}
use Rattle.load_model.specs.VersionTables.{ask_of, asks_of, indexed_names, name_by, place_by, text_of, verneed_place, vernauxs, version_index, version_of, vna_name}
use Rattle.load_model.specs.declared.asks.Ask.{Ask}
use Rattle.load_model.specs.declared.faces.Face.{Face}
use Rattle.load_model.specs.declared.symbols.RawSym.{RawSym}
use Rattle.load_model.specs.declared.symbols.Sym.{Sym}
use Rattle.load_model.specs.declared.symbols.Ver.TheVariants.{Local, Global, Named}
use Rattle.object_rewriting.proofs.NamingLemmas.{with_face}
use Rattle.std.proofs.lemmas.List.Elements.{All-nil}
use Rattle.read_records.proofs.TextBytesLemmas.{string_bytes}

-- A symbol, and an ask, whose names are bytes.
pub record SymBytes (s : Sym) : Type 0 where
  pub name : AreBytes s.name
  pub version : OptionBytes (wanted_version s.version)

abbrev pub AskBytes : Ask → Type 0
AskBytes ask = AreBytes ask.name

-- A face whose names are bytes, for a machine that is a number of 16 bits.
pub record FaceBytes (face : Face) : Type 0 where
  pub machine : face.machine ≤ 65535
  pub needs : AllByRecursion AreBytes face.needs
  pub syms : AllByRecursion SymBytes face.syms
  pub asks : AllByRecursion AskBytes face.asks

pub made_of : {X Y : Type 0} (P : Y → Type 0) (f : X → Y) (xs : List X) → ((x : X) → P (f x)) → AllByRecursion P (map f xs)
made_of P f [] each = tt
made_of P f (x ∷ xs) each = (each x, made_of P f xs each)

module _ (file : List ℕ) (bytes : AreBytes file) where
  machine_short : e_machine file ≤ 65535
  machine_short = let small = number_small 2 E_MACHINE_AT file bytes in omega (arith, small)

  needs_bytes : AllByRecursion AreBytes (needs_of file)
  unfolding needs_of
  needs_bytes = made_of AreBytes (λ e. text_of file e.value) (filter (λ e. e.tag == DT_NEEDED) (dynamic_entries file)) (λ e. string_bytes file e.value bytes)

  name_bytes : (place : Option ℕ) → AreBytes (unwrap_or (option_map (text_of file) place) [])
  name_bytes None = All-nil (λ c. c ≤ 255)
  name_bytes (Some at) = string_bytes file at bytes

  version_bytes_by : (index : ℕ) (place : Option ℕ) (a b : Bool) → OptionBytes (wanted_version (cond a Local (cond b Global (Named index (name_by file place)))))
  version_bytes_by index place true b = tt
  version_bytes_by index place false true = tt
  version_bytes_by index place false false = name_bytes place

  version_bytes : (symbol : ℕ) → OptionBytes (wanted_version (version_of file symbol))
  version_bytes symbol =
      let index = version_index file symbol in
      version_bytes_by index (place_by index (indexed_names file)) (index == VER_NDX_LOCAL) (index == VER_NDX_GLOBAL)

  sym_bytes : (numbered : ℕ × RawSym) → SymBytes (sym_at file numbered)
  sym_bytes numbered = record { name = string_bytes file numbered.1.name bytes; version = version_bytes numbered.0 }

  syms_bytes : AllByRecursion SymBytes (syms_of file)
  unfolding syms_of
  syms_bytes = made_of SymBytes (sym_at file) (enumerate_from 0 (symbols_of file)) sym_bytes

  asks_bytes : AllByRecursion AskBytes (asks_of file)
  unfolding asks_of
  asks_bytes = made_of AskBytes (λ (a : ℕ × ℕ). ask_of file (verneed_place file a.0) a.1) (vernauxs file) (λ a. string_bytes file (vna_name file a.1) bytes)

  face_of_bytes : FaceBytes (face_of file)
  unfolding face_of
  face_of_bytes = record { machine = machine_short; needs = needs_bytes; syms = syms_bytes; asks = asks_bytes }

-- What a loader sees of a file of bytes.
pub face_bytes : (file : List ℕ) (face : Face) → AreBytes file → face_or_flaw file ≡ Ok face → FaceBytes face
face_bytes file face bytes reads = subst FaceBytes (sym (with_face file face reads).1) (face_of_bytes file bytes)
