-- How a difference between a host and a record is said (docs/FORMATS.md has the fields of a look).
use Rattle.std.specs.Prelude.{ℕ, List, [], ◌++◌, Option, codes}
use Rattle.load_model.specs.Escaping.{version_text}
use Rattle.load_model.specs.declared.symbols.Class.{Class}
use Rattle.load_model.specs.declared.symbols.Class.TheVariants.{Plain, Call, Copy}
use Rattle.host_list.specs.declared.differences.Difference.{Difference}
use Rattle.host_list.specs.declared.differences.Difference.TheVariants.{NoInterp, NoLib, DamagedLib, SonameDiffers, HasRunPath, NeedsDiffer, SameFile, NoVersion, AnswerDiffers, OwnVersion}
use Rattle.host_record.specs.Lines.{answer_field}
use Rattle.host_record.specs.declared.records.Answer.{Answer}
use Rattle.refusals.specs.Damage.{flaw_text}
use Rattle.refusals.specs.Fields.{with_field, with_fields, with_number}

-- The letter of a class.
abbrev pub class_text : Class → List ℕ
class_text Plain = codes "p"
class_text Call = codes "c"
class_text Copy = codes "k"

-- What is found, and what is recorded.
abbrev pub answers_text : Answer → Answer → List ℕ
answers_text recorded found =
    codes " with " ++ (answer_field found ++ (codes ", recorded " ++ answer_field recorded))

-- The version and the class of a look, and its answers.
abbrev pub look_text : Option (List ℕ) → Class → Answer → Answer → List ℕ
look_text version class recorded found =
    codes " "
    ++ (version_text version ++ (codes " " ++ (class_text class ++ answers_text recorded found)))

unfoldable pub difference_text : Difference → List ℕ
difference_text (NoInterp path) = with_field (codes "interpreter ") path (codes " is absent")
difference_text (NoLib name) = with_field (codes "library ") name (codes " is absent")
difference_text (DamagedLib path flaw) =
    with_field (codes "library ") path (codes " is damaged: " ++ flaw_text flaw)
difference_text (SonameDiffers name found) =
    with_fields (codes "library ") name (codes " has the soname ") found []
difference_text (HasRunPath name) = with_field (codes "library ") name (codes " has a run path")
difference_text (NeedsDiffer name place) =
    with_field (codes "library ") name (with_number (codes " has other needs from ") place)
difference_text (SameFile one other) =
    with_fields (codes "libraries ") one (codes " and ") other (codes " are one file")
difference_text (NoVersion lib version) =
    with_fields (codes "library ") lib (codes " lacks ") version []
difference_text (AnswerDiffers lib name version class recorded found) =
    with_fields (codes "library ") lib (codes " answers ") name
    (look_text version class recorded found)
difference_text (OwnVersion lib file version) =
    with_fields (codes "library ") lib (codes " asks ") file
    (with_field (codes " for ") version [])
