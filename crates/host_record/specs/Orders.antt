-- The order of versions and of looks in a record.
use Rattle.std.specs.Prelude.{ℕ, List, Bool, true, false, Option, Some, None}
use Rattle.std.specs.Cmp.Lexicographic.{slice_cmp}
use Rattle.std.specs.Option.{option_cmp}
use Rattle.std.specs.Ordering.{nat_cmp, on, then_cmp}
use Rattle.std.specs.declared.cmp.Ordering.{Ordering}
use Rattle.host_record.specs.declared.records.Answer.{Answer}
use Rattle.host_record.specs.declared.records.Answer.TheVariants.{Nothing, Plain, Version}
use Rattle.host_record.specs.declared.records.Look.{Look}
use Rattle.host_record.specs.declared.records.RecVersion.{RecVersion}

-- Texts go by their bytes, and none comes first.
abbrev pub text_cmp : List ℕ → List ℕ → Ordering
text_cmp = slice_cmp nat_cmp

-- By library, then by the version.
abbrev pub version_cmp : RecVersion → RecVersion → Ordering
version_cmp = then_cmp (on (λ v. v.lib) nat_cmp) (on (λ v. v.version) text_cmp)

-- A call comes before a plain reference.
abbrev pub class_number : Bool → ℕ
class_number true = 0
class_number false = 1

-- By library, then by name, version and class.
abbrev pub look_cmp : Look → Look → Ordering
look_cmp =
    then_cmp (on (λ l. l.lib) nat_cmp)
    (then_cmp (on (λ l. l.name) text_cmp)
    (then_cmp (on (λ l. l.version) (option_cmp text_cmp)) (on (λ l. class_number l.call) nat_cmp)))

-- Nothing comes before a symbol, and one without a version before those with one.
abbrev pub version_found : Answer → Option (Option (List ℕ))
version_found Nothing = None
version_found Plain = Some None
version_found (Version version) = Some (Some version)

abbrev pub answer_cmp : Answer → Answer → Ordering
answer_cmp = on version_found (option_cmp (option_cmp text_cmp))

-- The answer decides last: looks that differ in nothing else come from two files of one identity.
abbrev pub full_look_cmp : Look → Look → Ordering
full_look_cmp = then_cmp look_cmp (on (λ l. l.answer) answer_cmp)
