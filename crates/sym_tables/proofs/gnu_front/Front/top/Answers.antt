-- the greatest bucket is 0 or begins a chain
use Rattle.std.proofs.Common.{ap, ◌∙◌}
use Rattle.load_model.specs.GnuTable.{greatest}
use Rattle.sym_tables.proofs.GnuParts.{sound_buckets}
use Rattle.sym_tables.proofs.Reach.{top_above}
use Rattle.sym_tables.proofs.gnu_front.Front.top.Goals as goal

pub returns-clause-chain : goal.returns-clause-chain
returns-clause-chain c = λ h.
    top_above c.args.self.now.offset c.greatest.result c.args.self.now.buckets.items (c.greatest.ensures ∙ ap greatest c.deref.ensures.value) (sound_buckets c.args.self.now c.requires) h
