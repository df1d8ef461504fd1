-- How far a text is read, and what one line more does.
use Rattle.std.specs.Prelude.{◌≡◌, ◌+◌, ◌++◌, ℕ, List, Bool, true, false, length}
use Rattle.host_record.specs.Lines.{line_text, text_of_lines}
use Rattle.host_record.specs.Said.{is_right, lib_names, may_follow, nothing_said, said, section_of}
use Rattle.host_record.specs.Grammar.{ComeInOrder, MayCome, said_after, section_after}
use Rattle.host_record.specs.declared.lines.Line.{Line}
use Rattle.host_record.specs.declared.lines.Section.TheVariants.{Start}
use Rattle.host_record.specs.declared.records.Record.{Record}
use Rattle.host_record.specs.declared.taking.Reading.{Reading}

-- The record of what was said.
abbrev pub record_so_far : Reading → Record
record_so_far reading = record {
  machine = reading.machine;
  interps = reading.interps;
  libs = reading.libs.items;
  versions = reading.versions;
  looks = reading.looks;
}

-- The names are those of the libraries.
abbrev pub AgreesWith : Reading → Type 0
AgreesWith reading = reading.names ≡ lib_names reading.libs.items

abbrev pub IsStart : Reading → Type 0
IsStart reading =
    (reading.section ≡ Start) × (record_so_far reading ≡ nothing_said) × AgreesWith reading

-- What the line says was added, or what was said before does not allow it.
abbrev pub Adds : Reading → Line → Bool → Reading → Type 0
Adds old line true new =
    (is_right (record_so_far old) line ≡ true) × (new.section ≡ old.section)
    × (record_so_far new ≡ said (record_so_far old) line) × AgreesWith new
Adds old line false new = is_right (record_so_far old) line ≡ false

-- The line was taken, or may not come here.
abbrev pub Takes : Reading → Line → Bool → Reading → Type 0
Takes old line true new =
    (may_follow old.section line ≡ true) × (is_right (record_so_far old) line ≡ true)
    × (new.section ≡ section_of line) × (record_so_far new ≡ said (record_so_far old) line)
    × AgreesWith new
Takes old line false new =
    may_follow old.section line ≡ true → is_right (record_so_far old) line ≡ true → ⊥

-- The text was that of a line that was taken, or is that of none that may come here.
abbrev pub TakesText : Reading → List ℕ → Bool → Reading → Type 0
TakesText old text true new = (line : Line) × (text ≡ line_text line)
    × MayCome old.section (record_so_far old) line × (new.section ≡ section_of line)
    × (record_so_far new ≡ said (record_so_far old) line) × AgreesWith new
TakesText old text false new = (line : Line) → MayCome old.section (record_so_far old) line
    → text ≡ line_text line → ⊥

-- These lines were taken, and the rest is left.
pub record Reached (text rest : List ℕ) (number : ℕ) (reading : Reading) : Type 0 where
  pub lines : List Line
  pub each : ComeInOrder Start nothing_said lines
  pub parts : text ≡ text_of_lines lines ++ rest
  pub count : number ≡ length lines + 1
  pub section : reading.section ≡ section_after Start lines
  pub tells : record_so_far reading ≡ said_after nothing_said lines
  pub agrees : AgreesWith reading
