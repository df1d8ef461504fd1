use Rattle.std.proofs.Common.{◌≡◌, ◌∙◌, ◌≤◌, ap, sym, subst, Some, Bor, List, ℕ, bytes_eq, length, map, slice_get, arith, fold}
use Rattle.std.specs.List.{list_any}
use Rattle.std.specs.Option.{option_map}
use Rattle.std.proofs.lemmas.List.{length-map}
use Rattle.std.proofs.lemmas.Option.{slice_get-map}
use Rattle.indexmap.specs.IndexSet.{insert_key}
use Rattle.host_meeting.proofs.FileLemmas.{read_at}
use Rattle.host_meeting.proofs.ReachingLemmas.{IsReaching, begun, ended, followed_next, not_more}
use Rattle.host_meeting.proofs.reaching.reached_from.Goals as goal

abbrev texts : List (Bor (List ℕ)) → List (List ℕ)
texts names = map (λ (name : Bor (List ℕ)). name.now) names

pub names-init : goal.names-init
names-init c = record {
  view = c.in_ok-reach.ensures.reached;
  reaching = subst (IsReaching c.args.libs.now.rec.now.libs c.args.from.now) (sym (c.in_ok-reach.ensures.names ∙ ap (λ l. insert_key bytes_eq (texts l) c.args.from.now) c.new-names.ensures.items)) (begun c.args.libs.now.rec.now.libs c.args.from.now c.requires.from);
  followed = λ k name need less. absurd (omega (arith, less));
}

pub names-smaller : goal.names-smaller
names-smaller c =
    let most : length (texts c.names.names.items) ≤ length c.args.libs.now.rec.now.libs = not_more c.args.libs.now.rec.now.libs c.args.from.now (texts c.names.names.items) c.names.invariant.reaching in
    let same : length (texts c.names.names.items) ≡ length c.names.names.items = length-map c.names.names.items (λ (name : Bor (List ℕ)). name.now) in
    let ok = c.names.names.ok.0 in
    let len = c.len.ensures in
    let test = c.names-test.true in
    omega (arith, most, same, ok, len, test)

pub names-preserved : goal.names-preserved
names-preserved c =
    let ok = c.names.names.ok.0 in
    let len = c.len.ensures in
    let test = c.names-test.true in
    let read : slice_get c.names.names.items c.names.next ≡ Some c.index.result.now = read_at c.names.names.items c.names.next c.index.result.now (omega (arith, ok, len, test)) c.index.ensures in
    let at : slice_get (texts c.names.names.items) c.names.next ≡ Some c.index.result.now.now = slice_get-map (λ (name : Bor (List ℕ)). name.now) c.names.names.items c.names.next ∙ ap (option_map (λ (name : Bor (List ℕ)). name.now)) read in
    let more = followed_next c.args.libs.now.rec.now.libs c.args.from.now c.index.result.now.now (texts c.names.names.items) (texts c.reach_all.new.names.items) c.names.next c.requires.declared c.names.invariant.reaching c.names.invariant.followed at (c.in_ok-reach_all.ensures.names ∙ ap (fold (insert_key bytes_eq) (texts c.names.names.items)) c.needs_of-needs.ensures) in
    record { view = c.in_ok-reach_all.ensures.reached; reaching = more.0; followed = more.1 }

pub returns : goal.returns
returns c name =
    let ok = c.names.names.ok.0 in
    let len = c.len.ensures in
    let test = c.names-test.false in
    let same : length (texts c.names.names.items) ≡ length c.names.names.items = length-map c.names.names.items (λ (name : Bor (List ℕ)). name.now) in
    ap (list_any (bytes_eq name)) c.names.invariant.view
    ∙ ended c.args.libs.now.rec.now.libs c.args.from.now (texts c.names.names.items) c.names.next c.names.invariant.reaching c.names.invariant.followed (omega (arith, same, ok, len, test)) name
