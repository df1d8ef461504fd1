-- What a text is the field or the line of. None says that it is that of no value.
use Rattle.std.specs.Borrow.{Bor}
use Rattle.std.specs.Prelude.{◌≡◌, ◌≢◌, ◌≤◌, ℕ, List, ◌∷◌, ◌++◌, Bool, Option, Some, None, All}
use Rattle.std.specs.Fmt.{decimal}
use Rattle.load_model.specs.Escaping.{AreBytes, escaped, version_text}
use Rattle.host_record.specs.Lines.{AnswerBytes, IsPathBytes, IsRecordLine, LookupBytes, OptionBytes, answer_field, class_field, line_text, look_fields, version_fields}
use Rattle.host_record.specs.declared.lines.Line.{Line}
use Rattle.host_record.specs.declared.lines.Lookup.{Lookup}
use Rattle.host_record.specs.declared.lookups.Parts.{Parts}
use Rattle.host_record.specs.declared.records.Answer.{Answer}

abbrev pub IsLine : List ℕ → Option Line → Type 0
IsLine text (Some line) = IsRecordLine line × (text ≡ line_text line)
IsLine text None = (line : Line) → IsRecordLine line → text ≡ line_text line → ⊥

-- The decimal form of a number of 16 bits.
abbrev pub IsNumber : List ℕ → Option ℕ → Type 0
IsNumber text (Some n) = (n ≤ 65535) × (text ≡ decimal n)
IsNumber text None = (n : ℕ) → n ≤ 65535 → text ≡ decimal n → ⊥

-- The escaped form of a normal path.
abbrev pub IsPathField : List ℕ → Option (List ℕ) → Type 0
IsPathField field (Some path) = IsPathBytes path × (field ≡ escaped path)
IsPathField field None = (path : List ℕ) → IsPathBytes path → field ≡ escaped path → ⊥

abbrev pub IsVersionField : List ℕ → Option (Option (List ℕ)) → Type 0
IsVersionField field (Some version) = OptionBytes version × (field ≡ version_text version)
IsVersionField field None =
    (version : Option (List ℕ)) → OptionBytes version → field ≡ version_text version → ⊥

abbrev pub IsClassField : List ℕ → Option Bool → Type 0
IsClassField field (Some call) = field ≡ class_field call
IsClassField field None = (call : Bool) → field ≡ class_field call → ⊥

abbrev pub IsAnswerField : List ℕ → Option Answer → Type 0
IsAnswerField field (Some answer) = AnswerBytes answer × (field ≡ answer_field answer)
IsAnswerField field None =
    (answer : Answer) → AnswerBytes answer → field ≡ answer_field answer → ⊥

-- The fields behind `version `, and those behind `look `.
abbrev pub AreVersionFields : List ℕ → Option (List ℕ × List ℕ) → Type 0
AreVersionFields text (Some f) =
    (AreBytes f.0 × AreBytes f.1) × (text ≡ version_fields f.0 f.1)
AreVersionFields text None = (lib version : List ℕ) → AreBytes lib → AreBytes version
    → text ≡ version_fields lib version → ⊥

abbrev pub AreLookFields : List ℕ → Option Lookup → Type 0
AreLookFields text (Some lookup) = LookupBytes lookup × (text ≡ look_fields lookup)
AreLookFields text None = (lookup : Lookup) → LookupBytes lookup → text ≡ look_fields lookup → ⊥

-- The text before the first such byte, and that behind it.
abbrev pub IsFree : ℕ → List ℕ → Type 0
IsFree byte text = All (λ c. c ≢ byte) text

abbrev pub IsCut : List ℕ → ℕ → Option (Bor (List ℕ) × Bor (List ℕ)) → Type 0
IsCut text byte (Some p) = IsFree byte p.0.now × (text ≡ p.0.now ++ byte ∷ p.1.now)
IsCut text byte None = IsFree byte text

-- What stands behind the words.
abbrev pub IsBehind : List ℕ → List ℕ → Option (Bor (List ℕ)) → Type 0
IsBehind text words (Some rest) = text ≡ words ++ rest.now
IsBehind text words None = (rest : List ℕ) → text ≡ words ++ rest → ⊥

-- Five parts with spaces between them, none but the last of which has a space.
abbrev pub five_parts : List ℕ → List ℕ → List ℕ → List ℕ → List ℕ → List ℕ
five_parts a b c d e = a ++ 32 ∷ (b ++ 32 ∷ (c ++ 32 ∷ (d ++ 32 ∷ e)))

pub record AreFiveParts (text : List ℕ) (p : Parts) : Type 0 where
  pub lib : IsFree 32 p.lib.now
  pub name : IsFree 32 p.name.now
  pub version : IsFree 32 p.version.now
  pub class : IsFree 32 p.class.now
  pub whole : text ≡ five_parts p.lib.now p.name.now p.version.now p.class.now p.answer.now

abbrev pub AreParts : List ℕ → Option Parts → Type 0
AreParts text (Some p) = AreFiveParts text p
AreParts text None = (a b c d e : List ℕ) → IsFree 32 a → IsFree 32 b → IsFree 32 c → IsFree 32 d
    → text ≡ five_parts a b c d e → ⊥
