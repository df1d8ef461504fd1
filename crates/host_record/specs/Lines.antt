-- The lines of a record's text: words, and fields with one space between them (docs/FORMATS.md,
-- host.txt).
use Rattle.std.specs.Prelude.{◌≤◌, ℕ, List, ◌∷◌, [], ◌++◌, Bool, true, false, Option, Some, None, codes}
use Rattle.std.specs.List.{flat_map}
use Rattle.std.specs.Fmt.{decimal}
use Rattle.path_text.specs.Path.{IsNormalPath}
use Rattle.load_model.specs.Escaping.{AreBytes, escaped, version_text}
use Rattle.host_record.specs.declared.lines.Line.{Line}
use Rattle.host_record.specs.declared.lines.Line.TheVariants.{Head, Machine, Interp, Declare, Need, Require, Ask, End}
use Rattle.host_record.specs.declared.lines.Lookup.{Lookup}
use Rattle.host_record.specs.declared.records.Answer.{Answer}
use Rattle.host_record.specs.declared.records.Answer.TheVariants.{Nothing, Plain, Version}

-- A call, or a plain reference.
abbrev pub class_field : Bool → List ℕ
class_field true = codes "c"
class_field false = codes "p"

-- Nothing is found, a symbol of version index 1, or one of a version.
abbrev pub answer_field : Answer → List ℕ
answer_field Nothing = codes "none"
answer_field Plain = codes "=-"
answer_field (Version version) = 61 ∷ escaped version

-- `LIB VERSION`
abbrev pub version_fields : List ℕ → List ℕ → List ℕ
version_fields lib version = escaped lib ++ 32 ∷ escaped version

-- `LIB NAME VERSION CLASS ANSWER`
abbrev pub look_fields : Lookup → List ℕ
look_fields l =
    escaped l.lib
    ++ 32 ∷ (escaped l.name
    ++ 32 ∷ (version_text l.version ++ 32 ∷ (class_field l.call ++ 32 ∷ answer_field l.answer)))

abbrev pub line_text : Line → List ℕ
line_text Head = codes "appdir-host 1"
line_text (Machine m) = codes "machine " ++ decimal m
line_text (Interp path) = codes "interp " ++ escaped path
line_text (Declare name) = codes "lib " ++ escaped name
line_text (Need name) = codes "need " ++ escaped name
line_text (Require lib version) = codes "version " ++ version_fields lib version
line_text (Ask lookup) = codes "look " ++ look_fields lookup
line_text End = codes "end"

-- The line with its line feed, and the text of several lines.
abbrev pub ended_line : Line → List ℕ
ended_line line = line_text line ++ 10 ∷ []

abbrev pub text_of_lines : List Line → List ℕ
text_of_lines lines = flat_map ended_line lines

-- Which values are lines: machines are numbers of 16 bits, paths are in normal form, and names are
-- bytes.
abbrev pub OptionBytes : Option (List ℕ) → Type 0
OptionBytes None = Unit {0}
OptionBytes (Some text) = AreBytes text

abbrev pub AnswerBytes : Answer → Type 0
AnswerBytes Nothing = Unit {0}
AnswerBytes Plain = Unit {0}
AnswerBytes (Version version) = AreBytes version

abbrev pub IsPathBytes : List ℕ → Type 0
IsPathBytes path = AreBytes path × IsNormalPath path

pub record LookupBytes (l : Lookup) : Type 0 where
  pub lib : AreBytes l.lib
  pub name : AreBytes l.name
  pub version : OptionBytes l.version
  pub answer : AnswerBytes l.answer

abbrev pub IsRecordLine : Line → Type 0
IsRecordLine Head = Unit {0}
IsRecordLine (Machine m) = m ≤ 65535
IsRecordLine (Interp path) = IsPathBytes path
IsRecordLine (Declare name) = AreBytes name
IsRecordLine (Need name) = AreBytes name
IsRecordLine (Require lib version) = AreBytes lib × AreBytes version
IsRecordLine (Ask lookup) = LookupBytes lookup
IsRecordLine End = Unit {0}
