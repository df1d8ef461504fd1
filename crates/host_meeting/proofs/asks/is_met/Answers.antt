use Rattle.std.proofs.Common.{◌≡◌, ◌∙◌, ap, sym, true, false, length, bytes_eq}
use Rattle.std.specs.List.{list_any}
use Rattle.host_record.specs.Said.{is_declared, lib_names}
use Rattle.host_meeting.proofs.ReachingLemmas.{reached_declared}
use Rattle.host_meeting.proofs.asks.is_met.Goals as goal

pub returns-in-None : goal.returns-in-None
returns-in-None c setting world has =
    let libs = c.args.libs.now.rec.now.libs in
    let file = c.args.ask.now.file in
    let there : is_declared (lib_names libs) file ≡ true =
    reached_declared libs (length libs) file c.args.lib.now.name c.requires.declared c.requires.lib
    (sym (c.requires.reached file) ∙ (ap (λ n. list_any (bytes_eq n) c.args.reached.now) (sym c.as_bytes.ensures) ∙ sym c.contains.ensures ∙ c.if-not-contains.false)) in
    absurd (let e : true ≡ false = sym there ∙ c.in-None.ensures in cc)
