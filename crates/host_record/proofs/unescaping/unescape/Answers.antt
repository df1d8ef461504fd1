-- An empty field and `-` are no escaped forms; plain bytes are their own.
use Rattle.std.proofs.Common.{sym, ◌∙◌, ◌≡◌, [], ◌∷◌, List, ℕ, rules, subst, true}
use Rattle.std.specs.List.{list_all}
use Rattle.load_model.specs.Escaping.{AreBytes, escaped, is_plain}
use Rattle.load_model.proofs.Escaped.{is_field}
use Rattle.host_record.proofs.UnescapingLemmas.{empty, plain_bytes, plain_escaped}
use Rattle.host_record.proofs.unescaping.unescape.Goals as goal
use Rattle.host_record.proofs.unescaping.unescape.Goals.{then-is_empty-via-then-is_empty, then-is_empty-via-else-is_empty+then-eq}

pub returns-then-is_empty : goal.returns-then-is_empty
returns-then-is_empty c bytes p e =
    elim c.then-is_empty.branch [
      | then-is_empty-via-then-is_empty w ↦ let h : c.args.field.now ≡ [] = empty c.args.field.now (search rules) in (is_field bytes p).some (sym e ∙ h)
      | then-is_empty-via-else-is_empty+then-eq w ↦ let h : c.args.field.now ≡ 45 ∷ [] = search rules in (is_field bytes p).named (sym e ∙ h)
    ]

pub returns-then-are_plain : goal.returns-then-are_plain
returns-then-are_plain c =
    let h : list_all is_plain c.args.field.now ≡ true = sym c.are_plain.ensures ∙ c.if-are_plain.true in
    let some : c.args.field.now ≡ [] → ⊥ = λ e. search rules in
    let dash : c.args.field.now ≡ 45 ∷ [] → ⊥ = λ e. search rules in
    let P : List ℕ → Type 0 = λ n. AreBytes n × (c.args.field.now ≡ escaped n) in
    subst P (sym c.in_ok-from_bytes-3.ensures) (plain_bytes c.args.field.now h, plain_escaped c.args.field.now h some dash)
