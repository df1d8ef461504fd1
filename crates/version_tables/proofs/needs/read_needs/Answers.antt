-- each step of the walk leaves what is behind it
use Rattle.std.proofs.Common.{◌≡◌, ◌+◌, ◌<◌, ◌≤◌, sym, ◌∙◌, arith}
use Rattle.byte_view.specs.Dynamic.{dynamic_entries}
use Rattle.load_model.specs.VersionFlaws.{verneed_flaw, verneeds_flaw}
use Rattle.load_model.specs.VersionTables.{verneed_count}
use Rattle.version_tables.specs.Faults.{version_fault_flaw}
use Rattle.version_tables.specs.Walks.{asked_of_record, asked_of_need, file_word_of, from_on, lists_from}
use Rattle.version_tables.proofs.Places.{first_verneed}
use Rattle.version_tables.proofs.NeedSteps.{asked_by_here, file_word_here, verneed_here, verneed_named, verneed_step, verneeds_left}
use Rattle.version_tables.proofs.Walks.{flaw_named, flaw_none, flaw_passed, kept_all, kept_more, kept_none, lists_all, lists_more, lists_none}
use Rattle.version_tables.proofs.needs.read_needs.Goals as goal

pub loop-k-init : goal.loop-k-init
loop-k-init c =
    let same : c.entries-entries.result.now ≡ dynamic_entries c.args.bytes.now = c.entries-entries.ensures ∙ c.requires.table.entries in
    let said : c.need_count-said.result ≡ verneed_count c.args.bytes.now = rw same at c.need_count-said.ensures in
    let begins = rw same at c.first_need-at.ensures in
    record {
      place = begins ∙ sym (first_verneed c.args.bytes.now);
      turn = λ h. omega arith;
      flaw = verneeds_left c.args.bytes.now c.need_count-said.result said;
      words = kept_none (file_word_of c.args.bytes.now) c.need_count-said.result (verneed_count c.args.bytes.now) c.new-file_words.result.items c.new-file_words.ensures.items said;
      asks = lists_none (asked_of_need c.args.bytes.now) c.need_count-said.result (verneed_count c.args.bytes.now) c.new-asks.result.items c.new-asks.ensures.items said;
    }

pub loop-k-preserved : goal.loop-k-preserved
loop-k-preserved c = record {
  place = rw c.from-at.ensures (verneed_step c.args.bytes.now c.loop-k.k c.loop-k.at c.in-Ok.verneed c.loop-k.invariant.place c.in-Ok.ensures.words);
  turn = λ h.
      let low : c.loop-k.k ≤ c.loop-k.at = c.loop-k.invariant.turn c.loop-k-test.true in
      let more : 0 < c.in-Ok.verneed.next = c.in-Ok.ensures.step h in
      omega (arith, c.from-at.ensures);
  flaw =
      flaw_passed (verneed_flaw c.args.bytes.now) c.loop-k.k c.need_count-said.result (verneeds_flaw c.args.bytes.now) c.loop-k-test.true
      (sym (verneed_here c.args.bytes.now c.loop-k.k c.loop-k.at c.loop-k.invariant.place) ∙ c.in-Ok.ensures.flaw) c.loop-k.invariant.flaw;
  words =
      rw c.in-Ok-push.ensures.items
      (kept_more (file_word_of c.args.bytes.now) c.loop-k.k c.need_count-said.result c.loop-k.file_words.items (from_on (file_word_of c.args.bytes.now) 0 (verneed_count c.args.bytes.now)) (c.in-Ok.verneed.place + 4) c.loop-k-test.true
      (file_word_here c.args.bytes.now c.loop-k.k c.loop-k.at c.in-Ok.verneed c.loop-k.invariant.place c.in-Ok.ensures.words) c.loop-k.invariant.words);
  asks =
      rw c.in-Ok.ensures.kept
      (lists_more (asked_of_need c.args.bytes.now) c.loop-k.k c.need_count-said.result c.loop-k.asks.items (asked_of_record c.args.bytes.now c.loop-k.k c.loop-k.at) (lists_from (asked_of_need c.args.bytes.now) 0 (verneed_count c.args.bytes.now)) c.loop-k-test.true
      (asked_by_here c.args.bytes.now c.loop-k.k c.loop-k.at c.loop-k.invariant.place) c.loop-k.invariant.asks);
}

pub returns-in-Err-clause-flaw : goal.returns-in-Err-clause-flaw
returns-in-Err-clause-flaw c =
    flaw_named (verneed_flaw c.args.bytes.now) c.loop-k.k c.need_count-said.result (verneeds_flaw c.args.bytes.now) (version_fault_flaw c.in-Err.fault) c.loop-k-test.true
    (verneed_named c.args.bytes.now c.loop-k.k c.loop-k.at (version_fault_flaw c.in-Err.fault) c.loop-k.invariant.place c.in-Err.ensures.flaw) c.loop-k.invariant.flaw

pub returns-clause-flaw : goal.returns-clause-flaw
returns-clause-flaw c = flaw_none (verneed_flaw c.args.bytes.now) c.loop-k.k c.need_count-said.result (verneeds_flaw c.args.bytes.now) c.loop-k-test.false c.loop-k.invariant.flaw

pub returns-clause-file_words : goal.returns-clause-file_words
returns-clause-file_words c = kept_all (file_word_of c.args.bytes.now) c.loop-k.k c.need_count-said.result c.loop-k.file_words.items (from_on (file_word_of c.args.bytes.now) 0 (verneed_count c.args.bytes.now)) c.loop-k-test.false c.loop-k.invariant.words

pub returns-clause-asks : goal.returns-clause-asks
returns-clause-asks c = lists_all (asked_of_need c.args.bytes.now) c.loop-k.k c.need_count-said.result c.loop-k.asks.items (lists_from (asked_of_need c.args.bytes.now) 0 (verneed_count c.args.bytes.now)) c.loop-k-test.false c.loop-k.invariant.asks
