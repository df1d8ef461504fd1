use Rattle.std.proofs.Common.{sym, ◌∙◌, ◌≡◌, subst}
use Rattle.std.proofs.lemmas.Bool.{both_ways}
use Rattle.std.proofs.lemmas.Slice.Eq.{bytes_eq-Decides}
use Rattle.host_record.specs.Unescaping.{IsEscaped}
use Rattle.host_record.proofs.PathFieldLemmas.{IsThis, not_refused, read_this, same_bytes_read}
use Rattle.host_record.proofs.fields.path.Goals as goal

pub returns-in-Ok : goal.returns-in-Ok
returns-in-Ok c path p e =
    let u = subst (IsEscaped c.args.field.now) c.in-Some.is c.in_ok-bytes.ensures in
    let w = subst (IsThis path) c.in-Ok.is (read_this c.args.field.now c.in-Some.bytes c.as_bytes.result.now path c.read.result u c.as_bytes.ensures p e c.read.ensures.answer) in
    let b = same_bytes_read c.args.field.now c.in-Some.bytes path u p e in
    let left : c.as_bytes-in-Ok.result.now ≡ path = c.as_bytes-in-Ok.ensures.value ∙ (c.as_str.ensures.text ∙ w) in
    let right : c.as_bytes-in-Ok-2.result.now ≡ path = c.as_bytes-in-Ok-2.ensures ∙ b in
    both_ways c.eq.result c.if-eq.false (c.eq.ensures ∙ (bytes_eq-Decides c.as_bytes-in-Ok.result.now c.as_bytes-in-Ok-2.result.now).1 (left ∙ sym right))

pub returns : goal.returns
returns c path p e =
    let u = subst (IsEscaped c.args.field.now) c.in-Some.is c.in_ok-bytes.ensures in
    let w = subst (IsThis path) c.in-Err.is (read_this c.args.field.now c.in-Some.bytes c.as_bytes.result.now path c.read.result u c.as_bytes.ensures p e c.read.ensures.answer) in
    not_refused c.in-Err.fault w c.in-Empty.is
