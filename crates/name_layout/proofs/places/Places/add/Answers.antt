use Rattle.std.proofs.Common.{◌∙◌, sym, refl}
use Rattle.name_layout.proofs.PlacesLemmas.{place_added, place_stays}
use Rattle.name_layout.proofs.places.Places.add.Goals as goal

pub returns-then-contains : goal.returns-then-contains
returns-then-contains c =
    place_stays c.args.self.now (record { names = c.args.self.now.names; firsts = c.args.self.now.firsts; count = c.in-Some.count }) c.args.name.now
    (sym c.contains.ensures ∙ c.if-contains.true) refl refl c.in-Some.ensures.1

pub returns-in-Ok : goal.returns-in-Ok
returns-in-Ok c =
    place_added c.args.self.now (record { names = c.add.new.self; firsts = c.push.new.self; count = c.in-Some.count }) c.args.name.now
    (sym c.contains.ensures ∙ c.if-contains.false) c.in_ok-add.ensures c.in-Ok.ensures.items c.in-Some.ensures.1
