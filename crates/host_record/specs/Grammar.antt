-- Which texts are records, and which line is the first that is refused.
use Rattle.std.specs.Prelude.{◌≡◌, ◌+◌, ℕ, suc, zero, List, [], ◌∷◌, ◌++◌, Result, Ok, Err, true, fold, length, map}
use Rattle.std.specs.List.{flat_map}
use Rattle.host_record.specs.Lines.{IsRecordLine, ended_line, text_of_lines}
use Rattle.host_record.specs.Said.{is_right, lib_names, may_follow, nothing_said, said, section_of}
use Rattle.host_record.specs.declared.lines.Line.{Line}
use Rattle.host_record.specs.declared.lines.Line.TheVariants.{Head, Machine, Interp, Declare, Need, Require, Ask, End}
use Rattle.host_record.specs.declared.lines.Lookup.{Lookup}
use Rattle.host_record.specs.declared.lines.Section.{Section}
use Rattle.host_record.specs.declared.lines.Section.TheVariants.{Start, Done}
use Rattle.host_record.specs.declared.reading.RecordFault.{RecordFault}
use Rattle.host_record.specs.declared.reading.RecordFault.TheVariants.{Line as AtLine, NoMemory}
use Rattle.host_record.specs.declared.records.Look.{Look}
use Rattle.host_record.specs.declared.records.RecLib.{RecLib}
use Rattle.host_record.specs.declared.records.RecVersion.{RecVersion}
use Rattle.host_record.specs.declared.records.Record.{Record}

-- ---- reading

-- Where lines lead: the section of the last one, and what all of them said.
abbrev pub section_after : Section → List Line → Section
section_after section lines = fold (λ _ line. section_of line) section lines

abbrev pub said_after : Record → List Line → Record
said_after r lines = fold said r lines

-- The line may come next: it is one, it may follow, and what was said before allows it.
pub record MayCome (section : Section) (r : Record) (line : Line) : Type 0 where
  pub fits : IsRecordLine line
  pub follows : may_follow section line ≡ true
  pub right : is_right r line ≡ true

-- Each line may come after those before it.
abbrev pub ComeInOrder : Section → Record → List Line → Type 0
ComeInOrder section r [] = Unit {0}
ComeInOrder section r (line ∷ lines) =
    MayCome section r line × ComeInOrder (section_of line) (said r line) lines

-- The text is lines in order, `end` last, and they say the record.
pub record Says (text : List ℕ) (r : Record) : Type 0 where
  pub lines : List Line
  pub each : ComeInOrder Start nothing_said lines
  pub last : section_after Start lines ≡ Done
  pub whole : text ≡ text_of_lines lines
  pub tells : said_after nothing_said lines ≡ r

-- The n-th line is the first that is refused: the text is n - 1 lines in order and a rest, the rest
-- does not begin with a line that may come next, and the text does not rightly end before it.
pub record Refuses (text : List ℕ) (n : ℕ) : Type 0 where
  pub lines : List Line
  pub rest : List ℕ
  pub each : ComeInOrder Start nothing_said lines
  pub parts : text ≡ text_of_lines lines ++ rest
  pub number : n ≡ length lines + 1
  pub none : (line : Line) (more : List ℕ)
      → MayCome (section_after Start lines) (said_after nothing_said lines) line
      → rest ≡ ended_line line ++ more → ⊥
  pub unended : section_after Start lines ≡ Done → rest ≡ [] → ⊥

-- What reading a text answers: the record that it says, or the first line that is refused.
abbrev pub IsReadingOf : List ℕ → Result Record RecordFault → Type 0
IsReadingOf text (Ok r) = Says text r
IsReadingOf text (Err (AtLine n)) = Refuses text n
IsReadingOf text (Err NoMemory) = Unit {0}

-- The answer is this record, or this line, or memory was refused.
abbrev pub IsReadAs : Record → Result Record RecordFault → Type 0
IsReadAs r (Ok s) = s ≡ r
IsReadAs r (Err (AtLine n)) = ⊥
IsReadAs r (Err NoMemory) = Unit {0}

abbrev pub IsRefusedAtLine : ℕ → Result Record RecordFault → Type 0
IsRefusedAtLine n (Ok s) = ⊥
IsRefusedAtLine n (Err (AtLine m)) = m ≡ n
IsRefusedAtLine n (Err NoMemory) = Unit {0}

-- ---- writing

abbrev pub library_lines : RecLib → List Line
library_lines lib = Declare lib.name ∷ map Need lib.needs

-- The name of the library of this number.
abbrev pub lib_name_at : List (List ℕ) → ℕ → List ℕ
lib_name_at [] n = []
lib_name_at (name ∷ names) zero = name
lib_name_at (name ∷ names) (suc n) = lib_name_at names n

abbrev pub version_line : List (List ℕ) → RecVersion → Line
version_line names v = Require (lib_name_at names v.lib) v.version

-- A look with the name of its library in place of the number.
abbrev pub lookup_in : List ℕ → Look → Lookup
lookup_in lib l = record {
  lib = lib;
  name = l.name;
  version = l.version;
  call = l.call;
  answer = l.answer;
}

abbrev pub look_line : List (List ℕ) → Look → Line
look_line names l = Ask (lookup_in (lib_name_at names l.lib) l)

-- The lines of a record, and its text.
abbrev pub record_lines : Record → List Line
record_lines r =
    let names = lib_names r.libs in
    Head ∷ Machine r.machine ∷ (map Interp r.interps
    ++ (flat_map library_lines r.libs
    ++ (map (version_line names) r.versions ++ (map (look_line names) r.looks ++ End ∷ []))))

abbrev pub record_text : Record → List ℕ
record_text r = text_of_lines (record_lines r)
