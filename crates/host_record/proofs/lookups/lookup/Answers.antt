-- Where a field is that of no value, the text is the fields of no look.
use Rattle.std.proofs.Common.{subst}
use Rattle.host_record.specs.Unescaping.{IsEscaped}
use Rattle.host_record.specs.Fields.{IsAnswerField, IsVersionField}
use Rattle.host_record.proofs.FieldLemmas.{parts_of_look}
use Rattle.host_record.proofs.lookups.lookup.Goals as goal

pub returns-in_default : goal.returns-in_default
returns-in_default c l p e =
    let h = parts_of_look c.args.text.now c.args.parts l c.requires p e in
    c.in_default.ensures l.call h.class

pub returns-in_default-2 : goal.returns-in_default-2
returns-in_default-2 c l p e =
    let h = parts_of_look c.args.text.now c.args.parts l c.requires p e in
    subst (IsEscaped c.args.parts.lib.now) c.in_default-2.is c.in_ok-lib.ensures l.lib p.lib h.lib

pub returns-in_default-3 : goal.returns-in_default-3
returns-in_default-3 c l p e =
    let h = parts_of_look c.args.text.now c.args.parts l c.requires p e in
    subst (IsEscaped c.args.parts.name.now) c.in_default-3.is c.in_ok-name.ensures l.name p.name h.name

pub returns-in_default-4 : goal.returns-in_default-4
returns-in_default-4 c l p e =
    let h = parts_of_look c.args.text.now c.args.parts l c.requires p e in
    subst (IsVersionField c.args.parts.version.now) c.in_default-4.is c.in_ok-version.ensures l.version p.version h.version

pub returns-in_default-5 : goal.returns-in_default-5
returns-in_default-5 c l p e =
    let h = parts_of_look c.args.text.now c.args.parts l c.requires p e in
    subst (IsAnswerField c.args.parts.answer.now) c.in_default-5.is c.in_ok-answer.ensures l.answer p.answer h.answer
