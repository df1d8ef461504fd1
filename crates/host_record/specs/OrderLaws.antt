-- Looks are in a total order.
use Rattle.std.specs.Cmp.{IsTotalOrder, IsEquivalence, IsPartialEquivalence, eq_by_cmp_equiv, nat_cmp_total, on_total, partial_equiv_from_equiv, then_total}
use Rattle.std.specs.Cmp.Lexicographic.{lists_total, options_total}
use Rattle.std.specs.Ordering.{eq_by_cmp}
use Rattle.host_record.specs.Orders.{class_number, full_look_cmp, look_cmp, text_cmp, version_found}
use Rattle.host_record.specs.declared.records.Look.{Look}

text_total : IsTotalOrder text_cmp
text_total = lists_total nat_cmp_total

pub look_total : IsTotalOrder look_cmp
look_total =
    then_total (on_total (λ (l : Look). l.lib) nat_cmp_total)
    (then_total (on_total (λ (l : Look). l.name) text_total)
    (then_total (on_total (λ (l : Look). l.version) (options_total text_total))
    (on_total (λ (l : Look). class_number l.call) nat_cmp_total)))

pub full_look_total : IsTotalOrder full_look_cmp
full_look_total =
    then_total look_total
    (on_total (λ (l : Look). l.answer)
    (on_total version_found (options_total (options_total text_total))))

pub look_equivalence : IsEquivalence (eq_by_cmp full_look_cmp)
look_equivalence = eq_by_cmp_equiv full_look_total

pub look_partial_equivalence : IsPartialEquivalence (eq_by_cmp full_look_cmp)
look_partial_equivalence = partial_equiv_from_equiv look_equivalence
