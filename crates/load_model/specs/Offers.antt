-- What an object offers to a reference: the least index of a symbol that the rule accepts
-- (docs/LOADER.md, Offers)
use Rattle.std.specs.Prelude.{ℕ, ◌==◌, ◌&&◌, ◌||◌, Bool, true, false, cond, not, List, Option, Some, None, length, drop, filter}
use Rattle.std.specs.List.{list_any, position_from}
use Rattle.std.specs.Str.{bytes_eq}
use Rattle.load_model.specs.SymbolWords.{is_bindable}
use Rattle.load_model.specs.declared.symbols.Class.{Class}
use Rattle.load_model.specs.declared.symbols.Class.TheVariants.{Plain, Call, Copy}
use Rattle.load_model.specs.declared.symbols.Sym.{Sym}
use Rattle.load_model.specs.declared.symbols.Ver.{Ver}
use Rattle.load_model.specs.declared.symbols.Ver.TheVariants.{Local, Global, Named}

-- what an offer depends on: the symbols by index, and whether there is a table of version indexes
pub record Offered : Type 0 where
  pub syms : List Sym
  pub versioned : Bool

-- version indexes: 0, 1, 1 or 2, and the name of one of 2 or more
abbrev pub is_local : Ver → Bool
is_local Local = true
is_local Global = false
is_local (Named index name) = false

abbrev pub is_global : Ver → Bool
is_global Local = false
is_global Global = true
is_global (Named index name) = false

abbrev pub is_first_version : Ver → Bool
is_first_version Local = false
is_first_version Global = true
is_first_version (Named index name) = index == 2

abbrev pub has_version : List ℕ → Ver → Bool
has_version wanted Local = false
has_version wanted Global = false
has_version wanted (Named index name) = bytes_eq name wanted

-- a call goes to a definition alone; a plain reference and a copy take an undefined symbol with a
-- value too
abbrev pub suits : Class → Bool → Bool
suits Plain defined = true
suits Call defined = defined
suits Copy defined = true

-- a symbol that is open to references of a class: others may bind to it, and the class suits it
abbrev pub is_open_to : Class → Sym → Bool
is_open_to class s = is_bindable s.binding s.kind s.visibility s.value_set && suits class s.defined

-- an open symbol of the name; one of version index 0 never is
abbrev pub is_candidate : List ℕ → Class → Sym → Bool
is_candidate name class s = is_open_to class s && (bytes_eq s.name name && not (is_local s.version))

-- to a reference with a version: those of that version, and those without one that are not hidden
abbrev pub has_wanted_version : List ℕ → Sym → Bool
has_wanted_version wanted s = has_version wanted s.version || (is_global s.version && not s.hidden)

-- to a reference without a version: those of index 1 or 2, hidden or not
abbrev pub is_early : List ℕ → Class → Sym → Bool
is_early name class s = is_candidate name class s && is_first_version s.version

-- and where there are none, the one that is not hidden, if exactly one is not
abbrev pub is_shown : List ℕ → Class → Sym → Bool
is_shown name class s = is_candidate name class s && not s.hidden

abbrev pub is_one : (Sym → Bool) → List Sym → Bool
is_one test syms = length (filter test syms) == 1

-- whether a symbol of these is accepted: by whether there is a version table, and by the version
-- that is asked for
abbrev pub is_accepted : List Sym → List ℕ → Class → Bool → Option (List ℕ) → Sym → Bool
is_accepted syms name class false version s = is_candidate name class s
is_accepted syms name class true (Some wanted) s =
    is_candidate name class s && has_wanted_version wanted s
is_accepted syms name class true None s =
    cond (list_any (is_early name class) syms) (is_early name class s)
    (is_shown name class s && is_one (is_shown name class) syms)

-- the symbol of index 0 is none (System V gABI, Symbol Table)
abbrev pub real_syms : List Sym → List Sym
real_syms syms = drop 1 syms

-- the accepted symbol of the least index
unfoldable pub offer_of : Offered → List ℕ → Option (List ℕ) → Class → Option ℕ
offer_of o name version class =
    position_from (is_accepted (real_syms o.syms) name class o.versioned version) 1
    (real_syms o.syms)
