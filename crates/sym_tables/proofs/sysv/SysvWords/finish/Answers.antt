-- the chains end, and the table has these words
use Rattle.std.proofs.Common.{◌≡◌, ℕ, List, true, ◌∙◌, ap, length, sym}
use Rattle.std.specs.List.{list_all}
use Rattle.load_model.specs.SysvTable.{SysvTable, ends_in}
use Rattle.sym_tables.specs.FoundTables.{is_linked, words_table}
use Rattle.sym_tables.proofs.Linked.{sound}
use Rattle.sym_tables.proofs.sysv.SysvWords.finish.Goals as goal

pub returns : goal.returns
returns c =
    let chains = c.args.self.chains.items in
    let words : c.measure_all.new.self.next.items ≡ chains = ap (λ v. v.items) c.measure_all.ensures.words ∙ c.in_ok-chains.ensures.words in
    let linked : is_linked (words_table c.args.self) ≡ true = sym c.are_linked.ensures ∙ c.if-not-are_linked.false in
    let ends : c.in_ok-measure_all.field-0 ≡ list_all (λ at. ends_in (length chains) chains at) c.args.self.buckets.items = rw (c.in_ok-chains.ensures.words, c.deref.ensures.value) at c.in_ok-measure_all.ensures.ends in
    let table : (xs : List ℕ) → SysvTable = λ xs. record { buckets = c.args.self.buckets.items; chains = xs } in
    (ap table words, sound (words_table c.args.self) linked (sym ends ∙ c.if-not-branch.false))
