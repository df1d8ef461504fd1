-- With no part the path is the root; else no part is left at the end.
use Rattle.std.proofs.Common.{◌≡◌, ◌∙◌, [], ◌∷◌, ap, sym, length, map, arith, Bor, List, ℕ, string_bytes}
use Rattle.std.proofs.Math.ListN.{drop_of_length-le}
use Rattle.std.proofs.lemmas.Bool.{eqb-true, eqb-false}
use Rattle.std.proofs.lemmas.List.{length-map}
use Rattle.std.proofs.lemmas.Result.{IfOk-weaker}
use Rattle.path_text.specs.Path.{rooted}
use Rattle.path_text.proofs.PartLemmas.{written, written-none}
use Rattle.path_text.proofs.normal.rooted.Goals as goal

texts : List (Bor (List ℕ)) → List (List ℕ)
texts = map (λ p. p.now)

pub returns-then-is_empty : goal.returns-then-is_empty
unfolding texts
returns-then-is_empty c =
    let none : length c.args.parts.now ≡ 0 = eqb-true (length c.args.parts.now) 0 (sym c.if-is_empty.ensures) in
    IfOk-weaker c.from_str.result (λ t. string_bytes t ≡ 47 ∷ []) (λ t. string_bytes t ≡ rooted (texts c.args.parts.now))
    (λ t e. e ∙ written-none (texts c.args.parts.now) (length-map c.args.parts.now (λ p. p.now) ∙ none)) c.from_str.ensures.ok

pub returns : goal.returns
unfolding texts
returns c =
    let some : length c.args.parts.now ≡ 0 → ⊥ = eqb-false (length c.args.parts.now) 0 (sym c.if-is_empty.ensures) in
    let all : length (texts c.args.parts.now) ≡ length c.args.parts.now = length-map c.args.parts.now (λ p. p.now) in
    written _ _ (texts c.args.parts.now) c.loop-part.invariant (ap texts (drop_of_length-le c.args.parts.now c.loop-part-test.false)) (omega arith)
