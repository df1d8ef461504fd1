use Rattle.std.proofs.Common.{◌≡◌, ◌∙◌, ap, refl, bytes_eq}
use Rattle.indexmap.proofs.MapLemmas.{OnOk-map}
use Rattle.indexmap.specs.IndexSet.{insert_key}
use Rattle.name_layout.proofs.StartsLemmas.{tried_after}
use Rattle.name_layout.proofs.taken.Taken.take.Goals as goal

pub returns-clause-tried : goal.returns-clause-tried
returns-clause-tried c =
    OnOk-map c.add.result (c.add.new.self ≡ insert_key bytes_eq c.args.self.now.names c.as_bytes.result.now) _
    (λ e. tried_after c.args.listed.now c.args.self.now (record { names = c.add.new.self; keys = c.args.self.now.keys; starts = c.args.self.now.starts }) c.args.name.now c.requires refl refl (e ∙ ap (insert_key bytes_eq c.args.self.now.names) c.as_bytes.ensures))
    c.add.ensures
