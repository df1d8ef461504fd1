-- what is found along the chain is the offer
use Rattle.std.proofs.Common.{◌∙◌, ap}
use Rattle.std.specs.Option.{option_copied}
use Rattle.hash_lookup.specs.Finding.{best_of}
use Rattle.hash_lookup.specs.Listed.{Indexed}
use Rattle.hash_lookup.proofs.FindingLemmas.{looks_up}
use Rattle.hash_lookup.proofs.tables.Tables.find_counted.Goals as goal
use Rattle.load_model.specs.Offers.{offer_of}

pub returns-clause-offer : goal.returns-clause-offer
returns-clause-offer g c =
    let found = looks_up c.self.inside.table c.self.inside.syms c.args.name.now (option_copied c.args.version) c.args.class c.self.inside.versioned c.self.invariant in
    let here = rw c.as_slice.ensures at c.find.ensures.found in
    c.best.ensures ∙ (ap best_of here ∙ (found ∙ ap (λ (t : Indexed). offer_of t.offered c.args.name.now (option_copied c.args.version) c.args.class) c.self.view_is))
