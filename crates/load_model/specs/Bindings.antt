-- What a reference binds to: its own symbol by visibility, or the first offer of its scope
-- (System V gABI, Symbol Table and Shared Object Dependencies).
use Rattle.std.specs.Prelude.{ℕ, List, [], ◌∷◌, Bool, true, false, cond, not, ◌==◌, ◌&&◌, ◌||◌, All, IfSome, IsSome, Option, Some, None, drop, filter, length, map, slice_get}
use Rattle.std.specs.List.{enumerate_from, flat_map}
use Rattle.std.specs.Option.{option_and_then, option_map}
use Rattle.answers.specs.First.{first_some}
use Rattle.byte_view.specs.declared.constants.TheConstants.{STT_OBJECT, STV_HIDDEN, STV_INTERNAL, STV_PROTECTED}
use Rattle.load_model.specs.LoadList.{up_to}
use Rattle.load_model.specs.Offers.{Offered, offer_of}
use Rattle.load_model.specs.Runs.{face_at}
use Rattle.load_model.specs.Scopes.{scope_of}
use Rattle.load_model.specs.SymbolWords.{is_shared}
use Rattle.load_model.specs.declared.faces.Face.{Face}
use Rattle.load_model.specs.declared.runs.Bind.{Bind}
use Rattle.load_model.specs.declared.runs.Def.{Def}
use Rattle.load_model.specs.declared.runs.Run.{Run}
use Rattle.load_model.specs.declared.symbols.Class.{Class}
use Rattle.load_model.specs.declared.symbols.Class.TheVariants.{Plain, Call, Copy}
use Rattle.load_model.specs.declared.symbols.Sym.{Sym}
use Rattle.load_model.specs.declared.symbols.Ver.{Ver}
use Rattle.load_model.specs.declared.symbols.Ver.TheVariants.{Local, Global, Named}

-- What an offer depends on of a face.
abbrev pub offered_by : Face → Offered
offered_by face = record { syms = face.syms; versioned = face.versioned }

-- The symbol of this index, of the object of this number.
abbrev pub symbol_at : List Face → Run → ℕ → ℕ → Option Sym
symbol_at faces run j i = option_and_then (λ face. slice_get face.syms i) (face_at faces run j)

-- The version that a reference asks for, if any.
abbrev pub wanted_version : Ver → Option (List ℕ)
wanted_version Local = None
wanted_version Global = None
wanted_version (Named index name) = Some name

abbrev pub is_copy : Class → Bool
is_copy Plain = false
is_copy Call = false
is_copy Copy = true

-- A symbol that no other object's takes the place of, by its visibility: hidden or internal, or
-- protected and defined.
abbrev pub is_own : Sym → Bool
is_own s =
    (s.visibility == STV_HIDDEN)
    || ((s.visibility == STV_INTERNAL) || (s.defined && (s.visibility == STV_PROTECTED)))

-- A reference binds to its own symbol so, except in the class Copy.
abbrev pub binds_itself : Class → Sym → Bool
binds_itself class s = not (is_copy class) && is_own s

-- The objects where a reference is looked for: its scope, without the program in the class Copy.
abbrev pub looked_in : Class → List ℕ → List ℕ
looked_in class scope = filter (λ k. not (is_copy class && (k == 0))) scope

-- What the object of this number offers.
abbrev pub offer_at : List Face → Run → List ℕ → Option (List ℕ) → Class → ℕ → Option Def
offer_at faces run name version class k =
    option_map (λ i. record { obj = k; sym = i })
    (option_and_then (λ face. offer_of (offered_by face) name version class) (face_at faces run k))

-- The first of these objects that has an offer, and this offer.
unfoldable pub first_offer : List Face → Run → List ℕ → List ℕ → Option (List ℕ) → Class
    → Option Def
first_offer faces run scope name version class =
    first_some (map (offer_at faces run name version class) scope)

abbrev pub bound_by : List Face → Run → ℕ → ℕ → Class → Option Sym → Option Def
bound_by faces run j i class None = None
bound_by faces run j i class (Some s) =
    cond (binds_itself class s) (Some (record { obj = j; sym = i }))
    (first_offer faces run (looked_in class (scope_of faces run j)) s.name
    (wanted_version s.version) class)

-- What the reference of this class binds to, the symbol of this index of the object of this number.
unfoldable pub bound_to : List Face → Run → ℕ → ℕ → Class → Option Def
bound_to faces run j i class = bound_by faces run j i class (symbol_at faces run j i)

-- A defined variable of the program may be a copy of another object's.
abbrev pub may_copy : ℕ → Sym → Bool
may_copy j s = (j == 0) && (s.defined && (s.kind == STT_OBJECT))

-- The classes in which a symbol is a reference, in order.
abbrev pub classes_of : ℕ → Sym → List Class
classes_of j s = cond (may_copy j s) (Call ∷ Copy ∷ Plain ∷ []) (Call ∷ Plain ∷ [])

abbrev pub bind_of : List Face → Run → ℕ → ℕ → Class → Bind
bind_of faces run j i class =
    record { obj = j; sym = i; class = class; to = bound_to faces run j i class }

-- The bindings of a symbol: those that other objects see are references; the symbol of index 0 is
-- none.
abbrev pub binds_of_symbol : List Face → Run → ℕ → ℕ → Sym → List Bind
binds_of_symbol faces run j i s =
    cond (is_shared s.binding) (map (bind_of faces run j i) (classes_of j s)) []

abbrev pub syms_in : Option Face → List Sym
syms_in None = []
syms_in (Some face) = face.syms

unfoldable pub binds_of_object : List Face → Run → ℕ → List Bind
binds_of_object faces run j =
    flat_map (λ numbered. binds_of_symbol faces run j numbered.0 numbered.1)
    (drop 1 (enumerate_from 0 (syms_in (face_at faces run j))))

-- The bindings of all references, by object, symbol and class.
unfoldable pub all_binds : List Face → Run → List Bind
all_binds faces run = flat_map (binds_of_object faces run) (up_to (length run.objs))

-- The numbers of a binding are in range: its reference is a symbol of an object of the run, and so
-- is its definition, where it has one.
pub record IsBindOver (faces : List Face) (run : Run) (bind : Bind) : Type 0 where
  pub reference : IsSome (symbol_at faces run bind.obj bind.sym)
  pub target : IfSome bind.to (λ d. IsSome (symbol_at faces run d.obj d.sym))
