use Rattle.std.proofs.Common.{◌≡◌, ◌∙◌, ap, get_or, zip, take}
use Rattle.std.specs.List.{find, list_any}
use Rattle.load_model.specs.VersionCheck.{loaded_by, version_file_of}
use Rattle.load_model.specs.LoadList.{lesser_of}
use Rattle.scope_lookup.specs.Firsts.{is_request_to}
use Rattle.scope_lookup.proofs.AskingLemmas.{asked_count, file_is, phase_read, version_below}
use Rattle.scope_lookup.proofs.files.version_file.Goals as goal
use Rattle.scope_lookup.proofs.files.version_file.Goals.{After-lesser_of-2}

pub first_needed-needed-requires-clause-asked : goal.first_needed-needed-requires-clause-asked
first_needed-needed-requires-clause-asked c = asked_count c.args.faces.now c.args.run.now c.requires.run c.args.asked.now c.requires.asked

file_found : (c : After-lesser_of-2) → c.lesser_of-2.result ≡ version_file_of c.args.faces.now c.args.run.now c.args.obj c.args.file.now
file_found c =
    let phase = (get_or c.as_slice.result.now c.args.obj c.index-as_slice-obj.result).phase in
    c.lesser_of-2.ensures ∙ ap (lesser_of c.first_with_soname.result) c.lesser_of.ensures
    ∙ file_is c.args.faces.now c.args.run.now c.requires.run c.args.asked.now c.args.obj phase c.args.file.now c.first_with_soname.result c.first_needed-needed.result c.first_target-opened.result c.requires.asked
    (phase_read c.args.run.now c.as_slice.result.now c.args.obj c.index-as_slice-obj.result c.as_slice.ensures c.requires.obj c.index-as_slice-obj.is)
    c.first_with_soname.ensures c.first_needed-needed.ensures
    (c.first_target-opened.ensures
    ∙ ap (λ xs. find (λ j. list_any (is_request_to c.args.file.now j) (zip xs (take phase c.as_slice-3.result.now))) (loaded_by c.args.run.now phase)) (ap (take phase) c.as_slice-2.ensures)
    ∙ ap (λ ts. find (λ j. list_any (is_request_to c.args.file.now j) (zip (take phase c.args.run.now.opens) ts)) (loaded_by c.args.run.now phase)) (ap (take phase) c.as_slice-3.ensures))

pub returns-clause-file : goal.returns-clause-file
returns-clause-file c = file_found c

pub returns-clause-bound : goal.returns-clause-bound
returns-clause-bound c = version_below c.args.faces.now c.args.run.now c.args.obj c.args.file.now c.lesser_of-2.result (file_found c)
