-- The asks of an object that is no host library, beside its files.
use Rattle.std.proofs.Common.{◌≡◌, ◌∙◌, ap, sym, false, length}
use Rattle.std.specs.Prelude.{is_some}
use Rattle.std.proofs.lemmas.Result.{IfOk-weaker}
use Rattle.host_list.specs.Recording.{host_at, host_numbers}
use Rattle.host_list.specs.Versions.{versions_beside}
use Rattle.host_list.proofs.VersionLemmas.{asked_there, named_count, none_there}
use Rattle.host_list.proofs.versions.versions_by.Goals as goal

pub versions_asked-requires : goal.versions_asked-requires
versions_asked-requires c =
    named_count c.args.place.now.faces.now c.args.place.now.run.now c.args.obj c.face_of-face.result.now c.files_at-named.result.now c.face_of-face.ensures c.files_at-named.ensures
    ∙ sym (ap length c.as_slice.ensures)

pub returns : goal.returns
returns c =
    let place = c.args.place.now in
    let numbers = host_numbers place.hosts.now place.run.now in
    let same = c.as_slice-numbers.ensures.value ∙ c.requires.place.numbers_are in
    let none : is_some (host_at numbers c.args.obj) ≡ false = ap (λ ns. is_some (host_at ns c.args.obj)) (sym same) ∙ (sym (ap is_some c.host_at.ensures) ∙ sym c.if-is_some.ensures) in
    IfOk-weaker c.versions_asked.result _ _ (λ versions h.
    h ∙ (ap (λ ns. versions_beside ns c.as_slice.result.now c.files_at-named.result.now) same
    ∙ (ap (λ asks. versions_beside numbers asks c.files_at-named.result.now) c.as_slice.ensures
    ∙ asked_there place.faces.now place.run.now numbers c.args.obj c.face_of-face.result.now c.files_at-named.result.now (none_there (host_at numbers c.args.obj) none) c.face_of-face.ensures c.files_at-named.ensures))) c.versions_asked.ensures
