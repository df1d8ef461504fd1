use Rattle.std.proofs.Common.{sym, ◌∙◌}
use Rattle.sym_tables.proofs.Unflawed.{chain_lists}
use Rattle.sym_tables.proofs.laws.chain_is_list.Goals as goal

pub returns : goal.returns
returns c = λ chains list at i ends is.
    (λ e. sym (chain_lists chains list at i ends is) ∙ e, λ e. chain_lists chains list at i ends is ∙ e)
