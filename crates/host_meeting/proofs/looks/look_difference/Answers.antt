use Rattle.std.proofs.Common.{◌≡◌, ◌∙◌, List, IfOk, ap, length, map, subst, sym}
use Rattle.std.proofs.lemmas.List.{length-map}
use Rattle.answers.specs.First.{first_some}
use Rattle.load_model.specs.Faces.{face_or_flaw}
use Rattle.host_list.specs.Meeting.{look_difference}
use Rattle.host_meeting.specs.Files.{WhereFiles}
use Rattle.host_meeting.specs.declared.files.LibFile.{LibFile}
use Rattle.host_meeting.specs.declared.named.NamedFile.{NamedFile}
use Rattle.host_meeting.proofs.looks.look_difference.Goals as goal

pub first_other-requires-clause-files : goal.first_other-requires-clause-files
first_other-requires-clause-files c =
    ap length c.as_slice.ensures.value
    ∙ sym (length-map c.in_ok-named.named.items (λ (n : NamedFile). n.file)) ∙ ap length c.in_ok-named.ensures ∙ c.requires.files

pub returns : goal.returns
returns c =
    let r = c.args.rec.now in
    subst (λ (files : List LibFile). IfOk c.first_other.result (λ found. WhereFiles r files (λ setting world. found ≡ first_some (map (look_difference face_or_flaw setting world r) r.looks))))
    (ap (map (λ (n : NamedFile). n.file)) c.as_slice.ensures.value ∙ c.in_ok-named.ensures) c.first_other.ensures
