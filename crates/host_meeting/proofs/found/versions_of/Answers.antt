use Rattle.std.proofs.Common.{◌∙◌, ap}
use Rattle.indexmap.specs.IndexSet.{insert_key}
use Rattle.std.specs.Str.{bytes_eq}
use Rattle.lib_closure.proofs.BuildLemmas.{listed_next}
use Rattle.host_meeting.proofs.found.versions_of.Goals as goal

pub loop-name-preserved : goal.loop-name-preserved
loop-name-preserved c =
    listed_next c.args.names.now c.loop-name.name-index c.name-item.result c.loop-name.set c.add.new.self c.loop-name-test.true c.name-item.is c.loop-name.invariant
    (c.in_ok-add.ensures ∙ ap (insert_key bytes_eq c.loop-name.set) c.as_bytes.ensures)
