-- A decimal form is read as its number.
use Rattle.std.proofs.Common.{sym, ◌∙◌, ◌≡◌, subst, arith, ap}
use Rattle.std.specs.Prelude.{IsUtf8}
use Rattle.std.specs.Fmt.{decimal}
use Rattle.std.proofs.lemmas.Fmt.{parse-decimal, IsAscii-decimal}
use Rattle.std.proofs.lemmas.Bool.{both_ways}
use Rattle.std.proofs.lemmas.Slice.Eq.{bytes_eq-Decides}
use Rattle.std.proofs.lemmas.Str.{IsUtf8-from_ascii}
use Rattle.command_words.proofs.values.read_number.Goals as goal

pub returns-in_default : goal.returns-in_default
returns-in_default c n small e = c.in_default.ensures.cases.0 (subst IsUtf8 (sym e) (IsUtf8-from_ascii (decimal n) (IsAscii-decimal n (omega arith))))

pub returns-in_default-parse : goal.returns-in_default-parse
returns-in_default-parse c n small e =
    let h = parse-decimal 32 n c.in-Ok.digits.now c.parse.result (omega arith) (omega arith) (c.in-Ok.ensures.cases.0 ∙ e) c.parse.ensures.value.0 in
    let f = c.in_default-parse.is in
    cc

pub returns : goal.returns
returns c n small e =
    let h = parse-decimal 32 n c.in-Ok.digits.now c.parse.result (omega arith) (omega arith) (c.in-Ok.ensures.cases.0 ∙ e) c.parse.ensures.value.0 in
    let f = c.in-Ok-parse.is in
    let same : c.in-Ok-parse.n ≡ n = cc in
    let written : c.as_bytes.result.now ≡ c.args.word.now = c.as_bytes.ensures.value ∙ (c.as_str.ensures.value ∙ (c.in_ok-again.ensures.ok ∙ (ap decimal same ∙ sym e))) in
    both_ways c.eq.result c.if-eq.false (c.eq.ensures ∙ (bytes_eq-Decides c.as_bytes.result.now c.args.word.now).1 written)
