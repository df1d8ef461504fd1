use Rattle.std.proofs.Common.{◌≡◌, ◌∙◌, IfOk, ap, length, subst, sym}
use Rattle.std.specs.List.{flat_map}
use Rattle.answers.specs.First.{first_some}
use Rattle.load_model.specs.Faces.{face_or_flaw}
use Rattle.host_list.specs.Meeting.{own_differences}
use Rattle.host_record.specs.Said.{needs_declared}
use Rattle.host_record.specs.declared.records.Record.{Record as Recorded}
use Rattle.host_meeting.specs.Files.{WhereFiles}
use Rattle.host_meeting.proofs.asks.own_difference.Goals as goal

pub first_unmet-requires-clause-declared : goal.first_unmet-requires-clause-declared
first_unmet-requires-clause-declared c = ap (λ (r : Recorded). needs_declared r.libs) c.in_ok-libs.ensures ∙ c.requires.declared

pub first_unmet-requires-clause-files : goal.first_unmet-requires-clause-files
first_unmet-requires-clause-files c = c.requires.files ∙ sym (ap (λ (r : Recorded). length r.libs) c.in_ok-libs.ensures)

pub returns : goal.returns
returns c =
    subst (λ (r : Recorded). IfOk c.first_unmet.result (λ found. WhereFiles r c.args.files.now (λ setting world. found ≡ first_some (flat_map (own_differences face_or_flaw setting world r) r.libs))))
    c.in_ok-libs.ensures c.first_unmet.ensures
