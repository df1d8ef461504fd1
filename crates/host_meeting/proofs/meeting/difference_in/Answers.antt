use Rattle.std.proofs.Common.{◌≡◌, ◌∙◌, ◌++◌, [], sym, map, List, Option}
use Rattle.std.specs.List.{flat_map}
use Rattle.lib_closure.specs.Clashes.{beside_earlier}
use Rattle.load_model.specs.Faces.{face_or_flaw}
use Rattle.load_model.specs.World.{World}
use Rattle.load_model.specs.declared.setting.Setting.{Setting}
use Rattle.answers.specs.First.{first_some}
use Rattle.host_list.specs.Meeting.{look_difference, own_differences, same_file, version_difference}
use Rattle.host_list.specs.declared.differences.Difference.{Difference}
use Rattle.host_record.specs.declared.records.Record.{Record}
use Rattle.host_meeting.specs.Files.{WhereFiles, difference_of_files}
use Rattle.host_meeting.proofs.FirstLemmas.{leads, ok_more, past}
use Rattle.host_meeting.proofs.meeting.difference_in.Goals as goal

abbrev files_part : Record → Setting → World → List (Option Difference)
files_part r setting world = map (same_file face_or_flaw setting world r) (beside_earlier [] r.libs)

abbrev versions_part : Record → Setting → World → List (Option Difference)
versions_part r setting world = map (version_difference face_or_flaw setting world r) r.versions

abbrev looks_part : Record → Setting → World → List (Option Difference)
looks_part r setting world = map (look_difference face_or_flaw setting world r) r.looks

abbrev asks_part : Record → Setting → World → List (Option Difference)
asks_part r setting world = flat_map (own_differences face_or_flaw setting world r) r.libs

pub returns-in-Some : goal.returns-in-Some
returns-in-Some c setting world has =
    let r = c.args.rec.now in
    leads (files_part r setting world) (versions_part r setting world ++ (looks_part r setting world ++ asks_part r setting world)) c.in-Some.difference (sym c.in-Some.is ∙ c.in_ok-difference.ensures setting world has)

pub returns-in-Some-2 : goal.returns-in-Some-2
returns-in-Some-2 c setting world has =
    let r = c.args.rec.now in
    past (files_part r setting world) (versions_part r setting world ++ (looks_part r setting world ++ asks_part r setting world)) _ (sym c.in_default.is ∙ c.in_ok-difference.ensures setting world has)
    (leads (versions_part r setting world) (looks_part r setting world ++ asks_part r setting world) c.in-Some-2.difference (sym c.in-Some-2.is ∙ c.in_ok-difference-2.ensures setting world has))

pub returns-in-Some-3 : goal.returns-in-Some-3
returns-in-Some-3 c setting world has =
    let r = c.args.rec.now in
    past (files_part r setting world) (versions_part r setting world ++ (looks_part r setting world ++ asks_part r setting world)) _ (sym c.in_default.is ∙ c.in_ok-difference.ensures setting world has)
    (past (versions_part r setting world) (looks_part r setting world ++ asks_part r setting world) _ (sym c.in_default-2.is ∙ c.in_ok-difference-2.ensures setting world has)
    (leads (looks_part r setting world) (asks_part r setting world) c.in-Some-3.difference (sym c.in-Some-3.is ∙ c.in_ok-difference-3.ensures setting world has)))

pub returns : goal.returns
returns c =
    let r = c.args.rec.now in
    let files = c.args.files.now in
    ok_more c.own_difference.result (λ found. WhereFiles r files (λ setting world. found ≡ first_some (asks_part r setting world))) (λ found. WhereFiles r files (λ setting world. found ≡ difference_of_files face_or_flaw setting world r))
    (λ d h setting world has.
    past (files_part r setting world) (versions_part r setting world ++ (looks_part r setting world ++ asks_part r setting world)) d (sym c.in_default.is ∙ c.in_ok-difference.ensures setting world has)
    (past (versions_part r setting world) (looks_part r setting world ++ asks_part r setting world) d (sym c.in_default-2.is ∙ c.in_ok-difference-2.ensures setting world has)
    (past (looks_part r setting world) (asks_part r setting world) d (sym c.in_default-3.is ∙ c.in_ok-difference-3.ensures setting world has) (h setting world has))))
    c.own_difference.ensures
