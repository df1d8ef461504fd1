use Rattle.std.proofs.Common.{◌∙◌, ap, sym}
use Rattle.std.specs.List.{list_any}
use Rattle.std.specs.Str.{bytes_eq}
use Rattle.indexmap.specs.IndexSet.{insert_key}
use Rattle.lib_closure.specs.Seen.{standing}
use Rattle.lib_closure.proofs.FirstsLemmas.{joined, kept}
use Rattle.lib_closure.proofs.firsts.Firsts.add.Goals as goal

pub returns-then-contains : goal.returns-then-contains
returns-then-contains c =
    kept c.args.self.now (standing c.args.seen) c.requires
    (ap (λ id. list_any (bytes_eq id) c.args.self.now.ids) (sym c.as_bytes.ensures) ∙ sym c.contains.ensures ∙ c.if-contains.true)

pub returns-in-Ok : goal.returns-in-Ok
returns-in-Ok c =
    joined c.args.self.now (record { seen = c.push.new.self; ids = c.add.new.self }) c.args.seen c.requires
    (ap (λ id. list_any (bytes_eq id) c.args.self.now.ids) (sym c.as_bytes.ensures) ∙ sym c.contains.ensures ∙ c.if-contains.false)
    c.in-Ok.ensures.items (c.in_ok-add.ensures ∙ ap (insert_key bytes_eq c.args.self.now.ids) c.as_bytes-2.ensures)
