-- What the words of a symbol say (System V gABI, Symbol Table)
use Rattle.std.specs.Prelude.{ℕ, ◌/◌, ◌%◌, Bool, not, ◌==◌, ◌&&◌, ◌||◌, [], ◌∷◌}
use Rattle.std.specs.List.{list_any}
use Rattle.byte_view.specs.declared.constants.TheConstants.{SHN_UNDEF, SHN_ABS, STB_GLOBAL, STB_WEAK, STB_GNU_UNIQUE, STT_NOTYPE, STT_OBJECT, STT_FUNC, STT_COMMON, STT_TLS, STT_GNU_IFUNC, STV_DEFAULT, STV_PROTECTED}
use Rattle.load_model.specs.declared.symbols.RawSym.{RawSym}

-- binding and type share a byte; the visibility has the low two bits of its own
abbrev pub binding_of : RawSym → ℕ
binding_of s = s.info / 16

abbrev pub type_of : RawSym → ℕ
type_of s = s.info % 16

abbrev pub visibility_of : RawSym → ℕ
visibility_of s = s.other % 4

abbrev pub is_defined : RawSym → Bool
is_defined s = not (s.section == SHN_UNDEF)

-- a value that a reference can bind to: one that is not 0, or any of a defined symbol that has no
-- address
abbrev pub has_value : RawSym → Bool
has_value s =
    not (s.value == 0) || (is_defined s && ((type_of s == STT_TLS) || (s.section == SHN_ABS)))

-- a binding that other objects see
abbrev pub is_shared : ℕ → Bool
is_shared binding = list_any (λ b. b == binding) (STB_GLOBAL ∷ STB_WEAK ∷ STB_GNU_UNIQUE ∷ [])

-- a type of which something can be found by name
abbrev pub is_found_by_name : ℕ → Bool
is_found_by_name kind =
    list_any (λ t. t == kind)
    (STT_NOTYPE ∷ STT_OBJECT ∷ STT_FUNC ∷ STT_COMMON ∷ STT_TLS ∷ STT_GNU_IFUNC ∷ [])

-- a visibility that lets other objects see it
abbrev pub is_visible : ℕ → Bool
is_visible visibility = (visibility == STV_DEFAULT) || (visibility == STV_PROTECTED)

-- what other objects may bind to: shared, found by name, visible, and with a value
unfoldable pub is_bindable : ℕ → ℕ → ℕ → Bool → Bool
is_bindable binding kind visibility value_set =
    is_shared binding && (is_found_by_name kind && (is_visible visibility && value_set))

-- the same of a symbol's words
abbrev pub has_bindable_words : RawSym → Bool
has_bindable_words s = is_bindable (binding_of s) (type_of s) (visibility_of s) (has_value s)
