-- The symbols of a file by their names.
use Rattle.std.specs.Prelude.{ℕ, List, [], ◌≡◌, Option, None, Some, bytes_eq, filter, map}
use Rattle.std.specs.Borrow.{Bor}
use Rattle.std.specs.Global.{Vec}
use Rattle.std.specs.Map.{lookup}
use Rattle.std.specs.Option.{option_map}
use Rattle.load_model.specs.Offers.{real_syms}
use Rattle.load_model.specs.declared.symbols.Sym.{Sym}

-- The symbols of this name, in order.
abbrev pub named : List Sym → List ℕ → List Sym
named syms name = filter (λ s. bytes_eq s.name name) (real_syms syms)

-- Symbols behind references.
abbrev pub seen_syms : List (Bor Sym) → List Sym
seen_syms same = map (λ s. s.now) same

abbrev pub seen_sym : Option (Bor (Bor Sym)) → Option Sym
seen_sym found = option_map (λ s. s.now.now) found

abbrev pub kept_syms : Option (Vec (Bor Sym)) → List Sym
kept_syms None = []
kept_syms (Some kept) = seen_syms kept.items

-- The symbols that are kept for a name.
abbrev pub kept_for : List (Bor (List ℕ) × Vec (Bor Sym)) → List ℕ → List Sym
kept_for entries name = kept_syms (lookup (λ k. bytes_eq name k.now) entries)

-- For each name the symbols of a file are kept that have it.
abbrev pub HasNamed : List (Bor (List ℕ) × Vec (Bor Sym)) → List Sym → Type 0
HasNamed entries syms = (name : List ℕ) → kept_for entries name ≡ named syms name
