-- each step of the walk leaves what is behind it
use Rattle.std.proofs.Common.{◌≡◌, ◌++◌, sym, ◌∙◌}
use Rattle.load_model.specs.VersionFlaws.{vernaux_flaw, vernauxs_flaw}
use Rattle.load_model.specs.VersionTables.{vn_cnt}
use Rattle.version_tables.specs.Faults.{version_fault_flaw}
use Rattle.version_tables.specs.Walks.{asked_of_record, asked_of}
use Rattle.version_tables.proofs.AskedSteps.{asked_first, asked_here, asked_left, asked_said, vernaux_here, vernaux_named, vernaux_step, vernauxs_left}
use Rattle.version_tables.proofs.Walks.{flaw_named, flaw_none, flaw_passed, kept_all, kept_more}
use Rattle.version_tables.proofs.asked.read_asked.Goals as goal

pub loop-j-init : goal.loop-j-init
loop-j-init c =
    let said : c.from-said.result ≡ vn_cnt c.args.bytes.now c.args.at = c.from-said.ensures ∙ asked_said c.args.bytes.now c.args.at c.args.verneed.now c.requires.words in
    record {
      place = rw c.from.ensures (asked_first c.args.bytes.now c.args.at c.args.verneed.now c.requires.words);
      flaw = vernauxs_left c.args.bytes.now c.args.at c.from-said.result said;
      kept = asked_left c.args.bytes.now c.args.number c.args.at c.from-said.result c.args.asks.now.items said;
    }

pub loop-j-preserved : goal.loop-j-preserved
loop-j-preserved c =
    let said : c.from-said.result ≡ vn_cnt c.args.bytes.now c.args.at = c.from-said.ensures ∙ asked_said c.args.bytes.now c.args.at c.args.verneed.now c.requires.words in
    record {
      place = rw c.from-aux_at.ensures (vernaux_step c.args.bytes.now c.args.at c.loop-j.j c.loop-j.aux_at c.in-Ok.vernaux c.loop-j.invariant.place c.in-Ok.ensures.words);
      flaw =
          flaw_passed (vernaux_flaw c.args.bytes.now c.args.at) c.loop-j.j c.from-said.result (vernauxs_flaw c.args.bytes.now c.args.at) c.loop-j-test.true
          (sym (vernaux_here c.args.bytes.now c.args.at c.loop-j.j c.loop-j.aux_at c.from-said.result c.loop-j.invariant.place said) ∙ c.in-Ok.ensures.flaw) c.loop-j.invariant.flaw;
      kept =
          rw c.in-Ok-push.ensures.items
          (kept_more (asked_of c.args.bytes.now c.args.number c.args.at) c.loop-j.j c.from-said.result c.loop-j.asks.items (c.args.asks.now.items ++ asked_of_record c.args.bytes.now c.args.number c.args.at) c.what_is_asked.result c.loop-j-test.true
          (asked_here c.args.bytes.now c.args.number c.args.at c.loop-j.j c.loop-j.aux_at c.args.verneed.now c.in-Ok.vernaux c.what_is_asked.result c.loop-j.invariant.place c.requires.words c.in-Ok.ensures.words c.what_is_asked.ensures)
          c.loop-j.invariant.kept);
    }

pub returns-in-Err-clause-flaw : goal.returns-in-Err-clause-flaw
returns-in-Err-clause-flaw c =
    let said : c.from-said.result ≡ vn_cnt c.args.bytes.now c.args.at = c.from-said.ensures ∙ asked_said c.args.bytes.now c.args.at c.args.verneed.now c.requires.words in
    flaw_named (vernaux_flaw c.args.bytes.now c.args.at) c.loop-j.j c.from-said.result (vernauxs_flaw c.args.bytes.now c.args.at) (version_fault_flaw c.in-Err.fault) c.loop-j-test.true
    (vernaux_named c.args.bytes.now c.args.at c.loop-j.j c.loop-j.aux_at c.from-said.result (version_fault_flaw c.in-Err.fault) c.loop-j.invariant.place said c.in-Err.ensures.flaw) c.loop-j.invariant.flaw

pub returns-clause-flaw : goal.returns-clause-flaw
returns-clause-flaw c = flaw_none (vernaux_flaw c.args.bytes.now c.args.at) c.loop-j.j c.from-said.result (vernauxs_flaw c.args.bytes.now c.args.at) c.loop-j-test.false c.loop-j.invariant.flaw

pub returns-clause-kept : goal.returns-clause-kept
returns-clause-kept c = kept_all (asked_of c.args.bytes.now c.args.number c.args.at) c.loop-j.j c.from-said.result c.loop-j.asks.items (c.args.asks.now.items ++ asked_of_record c.args.bytes.now c.args.number c.args.at) c.loop-j-test.false c.loop-j.invariant.kept
