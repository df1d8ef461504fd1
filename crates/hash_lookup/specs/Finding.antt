-- What is kept of the symbols that are met, and the offer that follows from it: three numbers, so
-- that neither the order of the symbols counts nor how often one is met
use Rattle.std.specs.Prelude.{ℕ, ◌==◌, ◌&&◌, Bool, true, false, cond, List, Option, Some, None, max, min, slice_get}
use Rattle.std.specs.List.{fold, list_any}
use Rattle.std.specs.Option.{option_copied, option_or}
use Rattle.hash_lookup.specs.declared.candidates.Lookup.{Lookup}
use Rattle.hash_lookup.specs.declared.finding.Found.{Found}
use Rattle.load_model.specs.Offers.{has_wanted_version, is_candidate, is_early, is_shown}
use Rattle.load_model.specs.declared.symbols.Class.{Class}
use Rattle.load_model.specs.declared.symbols.Sym.{Sym}

-- what a reference asks an object for, and whether the object has a table of version indexes
pub record Wish : Type 0 where
  pub name : List ℕ
  pub version : Option (List ℕ)
  pub class : Class
  pub versioned : Bool

abbrev pub wish_of : Lookup → Wish
wish_of l = record {
  name = l.name.now;
  version = option_copied l.version;
  class = l.class;
  versioned = l.versioned;
}

-- a symbol that is accepted whatever other symbols there are
abbrev pub is_sure_by : Bool → Option (List ℕ) → List ℕ → Class → Sym → Bool
is_sure_by false version name class s = is_candidate name class s
is_sure_by true (Some wanted) name class s =
    is_candidate name class s && has_wanted_version wanted s
is_sure_by true None name class s = is_early name class s

unfoldable pub is_sure : Wish → Sym → Bool
is_sure w s = is_sure_by w.versioned w.version w.name w.class s

-- one that is accepted where no symbol is sure, if it is the only one of its kind
abbrev pub is_spare_by : Bool → Option (List ℕ) → List ℕ → Class → Sym → Bool
is_spare_by false version name class s = false
is_spare_by true (Some wanted) name class s = false
is_spare_by true None name class s = is_shown name class s

unfoldable pub is_spare : Wish → Sym → Bool
is_spare w s = is_spare_by w.versioned w.version w.name w.class s

-- the symbol of an index passes a test
abbrev pub passes_in : (Sym → Bool) → Option Sym → Bool
passes_in test None = false
passes_in test (Some s) = test s

unfoldable pub passes : (Sym → Bool) → List Sym → ℕ → Bool
passes test syms i = passes_in test (slice_get syms i)

-- the lesser and the greater of a number and those before it
abbrev pub lesser : Option ℕ → ℕ → Option ℕ
lesser None i = Some i
lesser (Some k) i = Some (min k i)

abbrev pub greater : Option ℕ → ℕ → Option ℕ
greater None i = Some i
greater (Some k) i = Some (max k i)

abbrev pub kept : (Option ℕ → ℕ → Option ℕ) → (Sym → Bool) → List Sym → Option ℕ → ℕ → Option ℕ
kept pick test syms so_far i = cond (passes test syms i) (pick so_far i) so_far

-- with the symbol of one index more
unfoldable pub with_symbol : Wish → List Sym → Found → ℕ → Found
with_symbol w syms f i = record {
  sure = kept lesser (is_sure w) syms f.sure i;
  least = kept lesser (is_spare w) syms f.least i;
  greatest = kept greater (is_spare w) syms f.greatest i;
}

abbrev pub nothing : Found
nothing = record { sure = None; least = None; greatest = None }

-- with those of all these indexes
unfoldable pub found_in : Wish → List Sym → Found → List ℕ → Found
found_in w syms f indexes = fold (with_symbol w syms) f indexes

-- the least is the greatest: there is one
abbrev pub the_one : Option ℕ → Option ℕ → Option ℕ
the_one None greatest = None
the_one (Some a) None = None
the_one (Some a) (Some b) = cond (a == b) (Some a) None

abbrev pub best_of : Found → Option ℕ
best_of f = option_or f.sure (the_one f.least f.greatest)

-- the index is one of these
abbrev pub is_among : ℕ → List ℕ → Bool
is_among i indexes = list_any (λ j. j == i) indexes
