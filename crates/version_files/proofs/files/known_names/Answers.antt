use Rattle.std.specs.List.{flat_map}
use Rattle.std.proofs.Common.{length}
use Rattle.load_model.specs.LoadList.{up_to}
use Rattle.version_files.specs.Known.{all_known, needs_known, opens_known, sonames_known}
use Rattle.version_files.proofs.AddingLemmas.{all_told}
use Rattle.version_files.proofs.files.known_names.Goals as goal

pub returns-clause-told : goal.returns-clause-told
unfolding all_known
returns-clause-told c = λ phase name.
    all_told c.new-known.result c.add_sonames.new.known c.add_needs.new.known c.add_opens.new.known
    (flat_map (sonames_known c.args.faces.now c.args.run.now) (up_to (length c.args.run.now.objs)))
    (flat_map (needs_known c.args.faces.now c.args.run.now) (up_to (length c.args.run.now.objs)))
    (opens_known c.args.run.now)
    c.new-known.ensures.told c.in_ok-add_sonames.ensures.added c.in_ok-add_needs.ensures.added c.in_ok-add_opens.ensures.added phase name
