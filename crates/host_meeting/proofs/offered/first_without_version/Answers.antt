use Rattle.std.proofs.Common.{◌≡◌, ◌∙◌, ap, filter, length, sym, None}
use Rattle.std.specs.List.{find}
use Rattle.load_model.specs.Offers.{is_early, is_shown}
use Rattle.host_meeting.specs.Named.{seen_sym, seen_syms}
use Rattle.host_meeting.proofs.NamedLemmas.{early_first, find_seen, many_seen, none_shown, one_shown}
use Rattle.host_meeting.proofs.offered.first_without_version.Goals as goal

pub returns-in-Some : goal.returns-in-Some
returns-in-Some c =
    let same = c.args.same.now in
    early_first (seen_syms same) c.args.name.now c.args.class c.in-Some.early.now.now
    (ap seen_sym (sym c.in-Some.is) ∙ find_seen (is_early c.args.name.now c.args.class) same c.first_early.result c.first_early.ensures)

pub returns-then-count_shown-eq1 : goal.returns-then-count_shown-eq1
returns-then-count_shown-eq1 c =
    let same = c.args.same.now in
    let none : None ≡ find (is_early c.args.name.now c.args.class) (seen_syms same) = ap seen_sym (sym c.in_default.is) ∙ find_seen (is_early c.args.name.now c.args.class) same c.first_early.result c.first_early.ensures in
    let one : length (filter (is_shown c.args.name.now c.args.class) (seen_syms same)) ≡ 1 = many_seen (is_shown c.args.name.now c.args.class) same ∙ (sym c.count_shown.ensures ∙ c.if-count_shown-eq1.true) in
    one_shown (seen_syms same) c.args.name.now c.args.class (seen_sym c.first_shown.result) none one (find_seen (is_shown c.args.name.now c.args.class) same c.first_shown.result c.first_shown.ensures)

pub returns-else-count_shown-eq1 : goal.returns-else-count_shown-eq1
returns-else-count_shown-eq1 c =
    let same = c.args.same.now in
    let none : None ≡ find (is_early c.args.name.now c.args.class) (seen_syms same) = ap seen_sym (sym c.in_default.is) ∙ find_seen (is_early c.args.name.now c.args.class) same c.first_early.result c.first_early.ensures in
    none_shown (seen_syms same) c.args.name.now c.args.class none (λ one. c.if-count_shown-eq1.false (c.count_shown.ensures ∙ (sym (many_seen (is_shown c.args.name.now c.args.class) same) ∙ one)))
