use Rattle.std.proofs.Common.{◌∙◌, ap, sym, bytes_eq}
use Rattle.std.specs.List.{list_any}
use Rattle.indexmap.specs.IndexSet.{insert_key}
use Rattle.host_meeting.proofs.ReachingLemmas.{name_joined}
use Rattle.host_meeting.proofs.reaching.reach.Goals as goal

pub returns-in-Ok-clause-reached : goal.returns-in-Ok-clause-reached
returns-in-Ok-clause-reached c =
    name_joined c.args.names.now.items c.push.new.self.items c.args.name c.args.reached.now c.add.new.self c.requires
    (ap (λ n. list_any (bytes_eq n) c.args.reached.now) (sym c.as_bytes.ensures) ∙ sym c.contains.ensures ∙ c.if-contains.false)
    (c.in_ok-add.ensures ∙ ap (insert_key bytes_eq c.args.reached.now) c.as_bytes-2.ensures) c.in-Ok.ensures.items
