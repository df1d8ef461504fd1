use Rattle.std.proofs.Common.{sym, ◌∙◌, ◌≡◌, ap, true, rules}
use Rattle.host_record.specs.Said.{may_follow, said, is_right, lib_names}
use Rattle.host_record.specs.Reached.{record_so_far}
use Rattle.host_record.proofs.StepLemmas.{names_kept}
use Rattle.host_record.proofs.taking.Reading.take.Goals as goal

pub returns-in_ok-add_need-in-Need : goal.returns-in_ok-add_need-in-Need
returns-in_ok-add_need-in-Need c =
    let e = c.in-Need.is in
    let h = c.in_ok-add_need-in-Need.ensures in
    let follow : may_follow c.args.self.now.section c.args.line ≡ true = search rules in
    let section = c.section_of-self.ensures in (
      follow,
      ap (is_right (record_so_far c.args.self.now)) e,
      section,
      ap (λ ls. record (record_so_far c.args.self.now) { libs = ls }) h ∙ sym (ap (said (record_so_far c.args.self.now)) e),
      c.requires ∙ (sym (names_kept c.args.self.now.libs.items c.in-Need.name) ∙ ap lib_names (sym h)),
    )
