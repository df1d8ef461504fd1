-- each step of the walk leaves what is behind it
use Rattle.std.proofs.Common.{◌≡◌, ◌<◌, ◌≤◌, sym, ◌∙◌, arith}
use Rattle.byte_view.specs.Dynamic.{dynamic_entries}
use Rattle.load_model.specs.VersionFlaws.{verdef_flaw, verdefs_flaw}
use Rattle.load_model.specs.VersionTables.{verdef_count}
use Rattle.version_tables.specs.Faults.{version_fault_flaw}
use Rattle.version_tables.specs.Walks.{definition_of, from_on}
use Rattle.version_tables.proofs.Places.{first_verdef}
use Rattle.version_tables.proofs.DefinitionSteps.{definition_here, verdef_here, verdef_named, verdef_step, verdefs_left}
use Rattle.version_tables.proofs.Walks.{flaw_named, flaw_none, flaw_passed, kept_all, kept_more, kept_none}
use Rattle.version_tables.proofs.definitions.read_definitions.Goals as goal

pub loop-k-init : goal.loop-k-init
loop-k-init c =
    let same : c.entries-entries.result.now ≡ dynamic_entries c.args.bytes.now = c.entries-entries.ensures ∙ c.requires.table.entries in
    let said : c.definition_count-said.result ≡ verdef_count c.args.bytes.now = rw same at c.definition_count-said.ensures in
    let begins = rw same at c.first_definition-at.ensures in
    record {
      place = begins ∙ sym (first_verdef c.args.bytes.now);
      turn = λ h. omega arith;
      flaw = verdefs_left c.args.bytes.now c.definition_count-said.result said;
      kept = kept_none (definition_of c.args.bytes.now) c.definition_count-said.result (verdef_count c.args.bytes.now) c.new-definitions.result.items c.new-definitions.ensures.items said;
    }

pub loop-k-preserved : goal.loop-k-preserved
loop-k-preserved c = record {
  place = rw c.from-at.ensures (verdef_step c.args.bytes.now c.loop-k.k c.loop-k.at c.in-Ok.definition c.loop-k.invariant.place c.in-Ok.ensures.value);
  turn = λ h.
      let low : c.loop-k.k ≤ c.loop-k.at = c.loop-k.invariant.turn c.loop-k-test.true in
      let more : 0 < c.in-Ok.definition.next = c.in-Ok.ensures.step h in
      omega (arith, c.from-at.ensures);
  flaw =
      flaw_passed (verdef_flaw c.args.bytes.now) c.loop-k.k c.definition_count-said.result (verdefs_flaw c.args.bytes.now) c.loop-k-test.true
      (sym (verdef_here c.args.bytes.now c.loop-k.k c.loop-k.at c.loop-k.invariant.place) ∙ c.in-Ok.ensures.flaw) c.loop-k.invariant.flaw;
  kept =
      rw c.in-Ok-push.ensures.items
      (kept_more (definition_of c.args.bytes.now) c.loop-k.k c.definition_count-said.result c.loop-k.definitions.items (from_on (definition_of c.args.bytes.now) 0 (verdef_count c.args.bytes.now)) c.in-Ok.definition c.loop-k-test.true
      (c.in-Ok.ensures.value ∙ definition_here c.args.bytes.now c.loop-k.k c.loop-k.at c.loop-k.invariant.place) c.loop-k.invariant.kept);
}

pub returns-in-Err-clause-flaw : goal.returns-in-Err-clause-flaw
returns-in-Err-clause-flaw c =
    flaw_named (verdef_flaw c.args.bytes.now) c.loop-k.k c.definition_count-said.result (verdefs_flaw c.args.bytes.now) (version_fault_flaw c.in-Err.fault) c.loop-k-test.true
    (verdef_named c.args.bytes.now c.loop-k.k c.loop-k.at (version_fault_flaw c.in-Err.fault) c.loop-k.invariant.place c.in-Err.ensures.flaw) c.loop-k.invariant.flaw

pub returns-clause-flaw : goal.returns-clause-flaw
returns-clause-flaw c = flaw_none (verdef_flaw c.args.bytes.now) c.loop-k.k c.definition_count-said.result (verdefs_flaw c.args.bytes.now) c.loop-k-test.false c.loop-k.invariant.flaw

pub returns-clause-kept : goal.returns-clause-kept
returns-clause-kept c = kept_all (definition_of c.args.bytes.now) c.loop-k.k c.definition_count-said.result c.loop-k.definitions.items (from_on (definition_of c.args.bytes.now) 0 (verdef_count c.args.bytes.now)) c.loop-k-test.false c.loop-k.invariant.kept
