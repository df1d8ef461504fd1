use Rattle.std.proofs.Common.{◌∙◌, sym, refl}
use Rattle.std.specs.Vec.{with_item}
use Rattle.name_layout.proofs.StartsLemmas.{start_read, tried_again, tried_new}
use Rattle.name_layout.proofs.taken.Taken.next_free.Goals as goal

pub first_free-requires : goal.first_free-requires
first_free-requires c =
    start_read c.args.listed.now c.args.self.now c.args.key.now c.in-Some.place c.index.result.now c.requires (sym c.position.ensures ∙ c.in-Some.is) c.index.ensures

pub returns-in_ok-free-in-Some-clause-tried : goal.returns-in_ok-free-in-Some-clause-tried
returns-in_ok-free-in-Some-clause-tried c =
    tried_again c.args.listed.now c.args.self.now (record { names = c.args.self.now.names; keys = c.args.self.now.keys; starts = with_item c.args.self.now.starts c.in-Some.place c.in_ok-free-in-Some.free.number }) c.args.key.now c.in_ok-free-in-Some.free.number c.in-Some.place c.requires
    (sym c.position.ensures ∙ c.in-Some.is) refl refl refl c.in_ok-free-in-Some.ensures.before

pub returns-in-Ok-clause-tried : goal.returns-in-Ok-clause-tried
returns-in-Ok-clause-tried c =
    tried_new c.args.listed.now c.args.self.now (record { names = c.args.self.now.names; keys = c.add.new.self; starts = c.push.new.self }) c.args.key.now c.in_ok-free-in-None.free.number c.requires
    (sym c.position.ensures ∙ c.in-None.is) c.in_ok-add-in-None.ensures c.in-Ok.ensures.items refl c.in_ok-free-in-None.ensures.before
