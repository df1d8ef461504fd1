-- What a look finds in a file.
use Rattle.std.specs.Prelude.{ℕ, List, Bool, true, false, cond, Option, Some, None, slice_get}
use Rattle.std.specs.Option.{option_and_then}
use Rattle.load_model.specs.Bindings.{offered_by, wanted_version}
use Rattle.load_model.specs.Offers.{offer_of}
use Rattle.load_model.specs.declared.faces.Face.{Face}
use Rattle.load_model.specs.declared.symbols.Class.{Class}
use Rattle.load_model.specs.declared.symbols.Class.TheVariants.{Plain, Call, Copy}
use Rattle.load_model.specs.declared.symbols.Sym.{Sym}
use Rattle.host_record.specs.declared.records.Answer.{Answer}
use Rattle.host_record.specs.declared.records.Answer.TheVariants.{Nothing, Plain as WithoutVersion, Version}

-- A call, or a plain reference; a copy is looked up as one.
abbrev pub is_call : Class → Bool
is_call Plain = false
is_call Call = true
is_call Copy = false

abbrev pub class_of : Bool → Class
class_of call = cond call Call Plain

-- The version of the symbol that is found.
abbrev pub answer_of_version : Option (List ℕ) → Answer
answer_of_version None = WithoutVersion
answer_of_version (Some version) = Version version

abbrev pub answer_of : Option Sym → Answer
answer_of None = Nothing
answer_of (Some s) = answer_of_version (wanted_version s.version)

-- What the name, with or without a version, finds in a file.
unfoldable pub answer_in_face : Face → List ℕ → Option (List ℕ) → Bool → Answer
answer_in_face face name version call =
    answer_of
    (option_and_then (λ i. slice_get face.syms i)
    (offer_of (offered_by face) name version (class_of call)))
