use Rattle.std.proofs.Common.{◌≡◌, ◌∙◌, Some, ap, sym, length, map}
use Rattle.load_model.specs.Faces.{face_or_flaw}
use Rattle.load_model.specs.World.{World}
use Rattle.load_model.specs.declared.setting.Setting.{Setting}
use Rattle.host_list.specs.Meeting.{lib_object}
use Rattle.host_meeting.specs.Files.{WhereFiles, difference_of_files, object_at, object_found, object_of}
use Rattle.host_meeting.specs.declared.files.LibFile.{LibFile}
use Rattle.host_meeting.specs.declared.files.FoundFile.{FoundFile}
use Rattle.host_meeting.proofs.FileLemmas.{same_length}
use Rattle.host_meeting.proofs.FirstLemmas.{ok_more}
use Rattle.host_meeting.proofs.meeting.difference_on.Goals as goal

pub difference_in-requires-clause-files : goal.difference_in-requires-clause-files
difference_in-requires-clause-files c =
    ap length c.as_slice-2.ensures.value
    ∙ same_length (λ (f : LibFile). Some (object_of f)) (object_at c.args.faces.now) c.in_ok-files.files.items c.args.found.now
    (c.in_ok-files.ensures ∙ ap (map (λ (f : FoundFile). Some (object_found f))) c.as_slice.ensures.value ∙ c.in_ok-known.ensures) ∙ c.requires.count

pub returns : goal.returns
returns c =
    let r = c.args.rec.now in
    ok_more c.difference_in.result (λ d. WhereFiles r c.as_slice-2.result.now (λ setting world. d ≡ difference_of_files face_or_flaw setting world r))
    (λ d. (setting : Setting) (world : World) → map (λ lib. lib_object face_or_flaw setting world r lib.name) r.libs ≡ map (object_at c.args.faces.now) c.args.found.now → d ≡ difference_of_files face_or_flaw setting world r)
    (λ d h setting world e. h setting world (e ∙ sym (c.in_ok-files.ensures ∙ ap (map (λ (f : FoundFile). Some (object_found f))) c.as_slice.ensures.value ∙ c.in_ok-known.ensures)
    ∙ ap (map (λ (f : LibFile). Some (object_of f))) (sym c.as_slice-2.ensures.value)))
    c.difference_in.ensures
