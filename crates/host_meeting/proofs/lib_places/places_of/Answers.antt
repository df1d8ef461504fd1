use Rattle.std.proofs.Common.{◌≡◌, ◌∙◌, ◌+◌, ◌-◌, sym, ap, subst, ℕ, List, Bor, bytes_eq, drop, length, arith}
use Rattle.std.specs.List.{position_from}
use Rattle.std.specs.Map.{lookup}
use Rattle.lib_closure.proofs.PlaceLemmas.{drop_all}
use Rattle.host_record.specs.declared.records.RecLib.{RecLib}
use Rattle.host_meeting.proofs.PlaceLemmas.{place_next}
use Rattle.host_meeting.proofs.lib_places.places_of.Goals as goal

pub libs-init : goal.libs-init
libs-init c = record {
  below = omega arith;
  kept = λ q. ap (lookup (λ (x : Bor (List ℕ)). bytes_eq q x.now)) c.new-places.ensures.empty ∙ sym (ap (position_from (λ (l : RecLib). bytes_eq l.name q) (length c.args.libs.now)) (drop_all c.args.libs.now (length c.args.libs.now) (omega arith)));
}

pub bounds-libs-place : goal.bounds-libs-place
bounds-libs-place c =
    let below = c.libs.invariant.below in
    let test = c.libs-test.true in
    omega (arith, below, test)

pub libs-preserved : goal.libs-preserved
libs-preserved c =
    let below = c.libs.invariant.below in
    let test = c.libs-test.true in
    let next : c.libs.place ≡ c.libs.place - 1 + 1 = omega (arith, test) in
    record {
      below = omega (arith, below, test);
      kept = place_next c.libs.places.entries c.insert.new.self.entries c.args.libs.now (c.libs.place - 1) c.as_bytes.result c.index-libs-place.result (c.as_bytes.ensures ∙ ap (λ (l : RecLib). l.name) (sym c.index-libs-place.is)) (omega (arith, below, test)) c.index-libs-place.is
          (subst (λ n. (q : List ℕ) → lookup (λ (x : Bor (List ℕ)). bytes_eq q x.now) c.libs.places.entries ≡ position_from (λ (l : RecLib). bytes_eq l.name q) n (drop n c.args.libs.now)) next c.libs.invariant.kept)
          c.in-Ok.ensures.entries;
    }

pub returns : goal.returns
returns c =
    let test = c.libs-test.false in
    let none : c.libs.place ≡ 0 = omega (arith, test) in
    subst (λ n. (q : List ℕ) → lookup (λ (x : Bor (List ℕ)). bytes_eq q x.now) c.libs.places.entries ≡ position_from (λ (l : RecLib). bytes_eq l.name q) n (drop n c.args.libs.now)) none c.libs.invariant.kept
