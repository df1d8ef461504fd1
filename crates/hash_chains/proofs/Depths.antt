-- Steps from one symbol of a chain to others, and the depths that are kept of them.
use Rattle.std.proofs.Common.{◌≡◌, ◌≢◌, ℕ, zero, suc, ◌+◌, ◌-◌, ◌<◌, ◌≤◌, ◌==◌, ◌&&◌, ◌||◌, Bool, true, false, cond, List, [], ◌∷◌, ◌++◌, length, set, refl, arith, sym, ap, ◌∙◌, subst, get_or-set_same, get_or-set_other, length-append, get_or, drop, add-one, drop-cons}
use Rattle.std.proofs.lemmas.List.{length-set}
use Rattle.std.specs.Prelude.{slice_index, nat_le}
use Rattle.std.specs.List.{list_all, list_any}
use Rattle.std.proofs.lemmas.Bool.Decides.{nat_tests}
use Rattle.load_model.specs.SysvTable.{chain, ends_in, is_in_chain, is_link}
use Rattle.hash_chains.specs.Depths.{AreDepths, IsKnown, IsNoted, IsWay, Leads, Reaches}

-- steps
leads_on : (j k n : ℕ) (chains : List ℕ) (v w u : ℕ) → n ≡ j + k → Leads chains j v w → Leads chains k w u → Leads chains n v u
unfolding Leads
leads_on zero k n chains v w u e a b =
    let same : n ≡ k = omega arith in
    subst (λ m. Leads chains m v u) (sym same) (subst (λ x. Leads chains k x u) (sym a) b)
leads_on (suc j) k zero chains v w u e a b = absurd (omega arith)
leads_on (suc j) k (suc n) chains v w u e a b = (a.0, leads_on j k n chains (slice_index chains v) w u (omega arith) a.1 b)

leads_same : (k : ℕ) (chains : List ℕ) (v w u : ℕ) → Leads chains k v w → Leads chains k v u → w ≡ u
unfolding Leads
leads_same zero chains v w u a b = sym a ∙ b
leads_same (suc k) chains v w u a b = leads_same k chains (slice_index chains v) w u a.1 b.1

leads_end : (j k : ℕ) (chains : List ℕ) (v : ℕ) → Leads chains j v 0 → Leads chains k v 0 → j ≡ k
unfolding Leads
leads_end zero zero chains v a b = refl
leads_end zero (suc k) chains v a b = absurd (b.0 a)
leads_end (suc j) zero chains v a b = absurd (a.0 b)
leads_end (suc j) (suc k) chains v a b = ap suc (leads_end j k chains (slice_index chains v) a.1 b.1)

leads_from_zero : (k : ℕ) (chains : List ℕ) (w : ℕ) → Leads chains k 0 w → w ≡ 0
unfolding Leads
leads_from_zero zero chains w a = sym a
leads_from_zero (suc k) chains w a = absurd (a.0 refl)

-- a chain that is at its end ends, in however few steps
ends_here : (n : ℕ) (chains : List ℕ) (at : ℕ) → at ≡ 0 → ends_in n chains at ≡ true
unfolding ends_in
ends_here zero chains at e = grind (arith, nat_tests)
ends_here (suc n) chains at e = grind (arith, nat_tests)

ends_next : (n : ℕ) (chains : List ℕ) (at : ℕ) → at ≢ 0 → ends_in (suc n) chains at ≡ ends_in n chains (slice_index chains at)
unfolding ends_in
ends_next n chains at h = let no : (at == 0) ≡ false = grind (arith, nat_tests) in rw no refl

no_step : (chains : List ℕ) (v : ℕ) → v ≢ 0 → ends_in zero chains v ≡ false
unfolding ends_in
no_step chains v h = grind (arith, nat_tests)

-- the depth says whether 0 is reached in so many steps
pub ends_by : (d n : ℕ) (chains : List ℕ) (v : ℕ) → Leads chains d v 0 → ends_in n chains v ≡ nat_le d n
unfolding Leads
ends_by zero n chains v a = ends_here n chains v a ∙ sym (let yes : nat_le 0 n ≡ true = grind (arith, nat_tests) in yes)
ends_by (suc d) zero chains v a = no_step chains v a.0 ∙ sym (let no : nat_le (suc d) 0 ≡ false = grind (arith, nat_tests) in no)
ends_by (suc d) (suc n) chains v a =
    ends_next n chains v a.0 ∙ (ends_by d n chains (slice_index chains v) a.1 ∙ (let same : nat_le d n ≡ nat_le (suc d) (suc n) = grind (arith, nat_tests) in same))

-- a symbol stands in the first steps of a chain where these lead to it
pub chain_has : (k n : ℕ) (chains : List ℕ) (v w : ℕ) → k < n → w ≢ 0 → Leads chains k v w → list_any (λ j. j == w) (chain n chains v) ≡ true
unfolding Leads chain
chain_has k zero chains v w l h a = absurd (omega arith)
chain_has zero (suc n) chains v w l h a =
    let no : (v == 0) ≡ false = grind (arith, nat_tests) in
    let yes : (v == w) ≡ true = grind (arith, nat_tests) in
    rw (no, yes) refl
chain_has (suc k) (suc n) chains v w l h a =
    let some : v ≢ 0 = a.0 in
    let no : (v == 0) ≡ false = grind (arith, nat_tests) in
    rw (no, chain_has k n chains (slice_index chains v) w (omega arith) h a.1) (either (v == w))
  where
    either : (b : Bool) → (b || true) ≡ true
    either true = refl
    either false = refl

pub record IsMet (chains : List ℕ) (v w : ℕ) : Type 0 where
  pub some : w ≢ 0
  pub reached : Reaches chains v w

reach_next : (chains : List ℕ) (v w : ℕ) → v ≢ 0 → Reaches chains (slice_index chains v) w → Reaches chains v w
unfolding Reaches Leads
reach_next chains v w h r = (suc r.0, (h, r.1))

pub reach_here : (chains : List ℕ) (v : ℕ) → Reaches chains v v
unfolding Reaches Leads
reach_here chains v = (0, refl)

pub reach_on : (chains : List ℕ) (v w u : ℕ) → Reaches chains v w → Reaches chains w u → Reaches chains v u
unfolding Reaches
reach_on chains v w u a b = (a.0 + b.0, leads_on a.0 b.0 (a.0 + b.0) chains v w u refl a.1 b.1)

chain_met : (n : ℕ) (chains : List ℕ) (v w : ℕ) → list_any (λ j. j == w) (chain n chains v) ≡ true → IsMet chains v w
unfolding chain
chain_met zero chains v w e = absurd (cc)
chain_met (suc n) chains v w e = go (v == 0) refl (v == w) refl e (λ f. chain_met n chains (slice_index chains v) w f)
  where
    go : (a : Bool) → (v == 0) ≡ a → (b : Bool) → (v == w) ≡ b → list_any (λ j. j == w) (cond a [] (v ∷ chain n chains (slice_index chains v))) ≡ true → (list_any (λ j. j == w) (chain n chains (slice_index chains v)) ≡ true → IsMet chains (slice_index chains v) w) → IsMet chains v w
    go true k b l e later = absurd (cc)
    go false k true l e later = let here : v ≡ w = grind (arith, nat_tests) in record { some = grind (arith, nat_tests); reached = subst (λ x. Reaches chains v x) here (reach_here chains v) }
    go false k false l e later =
        let rest : IsMet chains (slice_index chains v) w = later (rw l at e) in
        record { some = rest.some; reached = reach_next chains v w (grind (arith, nat_tests)) rest.reached }

-- what is known
pub known_zero : (chains depths jumps : List ℕ) (v : ℕ) → AreDepths chains depths jumps → v ≡ 0 → IsKnown chains depths v
unfolding IsKnown Leads
known_zero chains depths jumps v a e = rw e (go (slice_index depths 0) refl)
  where
    go : (d : ℕ) → slice_index depths 0 ≡ d → Leads chains (slice_index depths 0) 0 0
    go zero f = rw f refl
    go (suc d) f = let noted : IsNoted chains depths jumps 0 = a.each 0 (omega arith) in noted.depth

pub known_noted : (chains depths jumps : List ℕ) (v : ℕ) → AreDepths chains depths jumps → slice_index depths v ≢ 0 → IsKnown chains depths v
known_noted chains depths jumps v a h = let noted : IsNoted chains depths jumps v = a.each v h in noted.depth

depth_of_zero : (chains depths : List ℕ) (v : ℕ) → v ≡ 0 → IsKnown chains depths v → slice_index depths v ≡ 0
unfolding IsKnown Leads
depth_of_zero chains depths v e k = leads_end (slice_index depths v) 0 chains v k e

zero_depth : (chains depths : List ℕ) (v : ℕ) → slice_index depths v ≡ 0 → IsKnown chains depths v → v ≡ 0
unfolding IsKnown Leads
zero_depth chains depths v e k = let a : Leads chains 0 v 0 = subst (λ d. Leads chains d v 0) e k in a

-- what a known symbol leads to is less deep by the steps
depth_after : (k : ℕ) (chains depths : List ℕ) (v w : ℕ) → IsKnown chains depths v → Leads chains k v w → IsKnown chains depths w → slice_index depths v ≡ k + slice_index depths w
unfolding IsKnown
depth_after k chains depths v w a l b = leads_end (slice_index depths v) (k + slice_index depths w) chains v a (leads_on k (slice_index depths w) (k + slice_index depths w) chains v w 0 refl l b)

pub reach_depth : (chains depths : List ℕ) (v w : ℕ) → IsKnown chains depths v → IsKnown chains depths w → Reaches chains v w → slice_index depths w ≤ slice_index depths v
unfolding Reaches
reach_depth chains depths v w a b r = omega (arith, depth_after r.0 chains depths v w a r.1 b)

-- what a known symbol reaches is known
known_along : (k : ℕ) (chains depths jumps : List ℕ) (v w : ℕ) → AreDepths chains depths jumps → IsKnown chains depths v → Leads chains k v w → IsKnown chains depths w
unfolding Leads
known_along zero chains depths jumps v w a known l = subst (λ x. IsKnown chains depths x) l known
known_along (suc k) chains depths jumps v w a known l =
    let deep : slice_index depths v ≢ 0 = λ e. l.0 (zero_depth chains depths v e known) in
    let noted : IsNoted chains depths jumps v = a.each v deep in
    known_along k chains depths jumps (slice_index chains v) w a noted.next l.1

-- the symbols that are kept to jump to
pub jump_known : (chains depths jumps : List ℕ) (v : ℕ) → AreDepths chains depths jumps → IsKnown chains depths v → IsKnown chains depths (slice_index jumps v)
jump_known chains depths jumps v a known = go (slice_index depths v) refl
  where
    go : (d : ℕ) → slice_index depths v ≡ d → IsKnown chains depths (slice_index jumps v)
    go zero e = let none : v ≡ 0 = zero_depth chains depths v e known in let back : slice_index jumps v ≡ 0 = ap (λ x. slice_index jumps x) none ∙ a.start in known_zero chains depths jumps (slice_index jumps v) a back
    go (suc d) e = let noted : IsNoted chains depths jumps v = a.each v (omega arith) in noted.jump

pub jump_reached : (chains depths jumps : List ℕ) (v : ℕ) → AreDepths chains depths jumps → IsKnown chains depths v → Reaches chains v (slice_index jumps v)
jump_reached chains depths jumps v a known = go (slice_index depths v) refl
  where
    go : (d : ℕ) → slice_index depths v ≡ d → Reaches chains v (slice_index jumps v)
    go zero e =
        let none : v ≡ 0 = zero_depth chains depths v e known in
        let back : slice_index jumps v ≡ v = ap (λ x. slice_index jumps x) none ∙ (a.start ∙ sym none) in
        subst (λ x. Reaches chains v x) (sym back) (reach_here chains v)
    go (suc d) e =
        let noted : IsNoted chains depths jumps v = a.each v (omega arith) in
        reach_next chains v (slice_index jumps v) (λ z. let flat : slice_index depths v ≡ 0 = depth_of_zero chains depths v z known in absurd (omega arith)) noted.lands

pub jump_twice : (chains depths jumps : List ℕ) (v : ℕ) → AreDepths chains depths jumps → IsKnown chains depths v → Reaches chains v (slice_index jumps (slice_index jumps v))
jump_twice chains depths jumps v a known =
    reach_on chains v (slice_index jumps v) (slice_index jumps (slice_index jumps v)) (jump_reached chains depths jumps v a known) (jump_reached chains depths jumps (slice_index jumps v) a (jump_known chains depths jumps v a known))

pub jump_shallow : (chains depths jumps : List ℕ) (v : ℕ) → AreDepths chains depths jumps → IsKnown chains depths v → slice_index depths (slice_index jumps v) ≤ slice_index depths v
jump_shallow chains depths jumps v a known =
    reach_depth chains depths v (slice_index jumps v) known (jump_known chains depths jumps v a known) (jump_reached chains depths jumps v a known)

pub record IsJump (chains depths : List ℕ) (v w : ℕ) : Type 0 where
  pub known : IsKnown chains depths w
  pub reached : Reaches chains v w
  pub shallow : slice_index depths w ≤ slice_index depths v

pub jump_is : (chains depths jumps : List ℕ) (v w : ℕ) → AreDepths chains depths jumps → IsKnown chains depths v → w ≡ slice_index jumps v → IsJump chains depths v w
jump_is chains depths jumps v w a known e =
    subst (λ x. IsJump chains depths v x) (sym e) (record { known = jump_known chains depths jumps v a known; reached = jump_reached chains depths jumps v a known; shallow = jump_shallow chains depths jumps v a known })

-- links name symbols
pub link_within : (n v : ℕ) → is_link n v ≡ true → v ≢ 0 → v < n
link_within n v e h = grind (arith, nat_tests)

pub link_next : (n : ℕ) (words : List ℕ) (v : ℕ) → list_all (λ w. is_link n w) words ≡ true → is_link n (slice_index words v) ≡ true
link_next n [] v e = refl
link_next n (w ∷ rest) zero e = first (is_link n w) (list_all (λ w. is_link n w) rest) e
  where
    first : (a b : Bool) → (a && b) ≡ true → a ≡ true
    first true b e = refl
    first false b e = absurd (cc)
link_next n (w ∷ rest) (suc v) e = link_next n rest v (later (is_link n w) (list_all (λ w. is_link n w) rest) e)
  where
    later : (a b : Bool) → (a && b) ≡ true → b ≡ true
    later true b e = e
    later false b e = absurd (cc)

-- ways
pub way_none : (chains : List ℕ) (first : ℕ) → IsWay chains first [] first
unfolding IsWay
way_none chains first = refl

pub way_push : (chains : List ℕ) (first : ℕ) (symbols : List ℕ) (end : ℕ) → end ≢ 0 → end < length chains → IsWay chains first symbols end → IsWay chains first (symbols ++ end ∷ []) (slice_index chains end)
unfolding IsWay
way_push chains first [] end h l w = (w, h, l, refl)
way_push chains first (v ∷ rest) end h l w = (w.0, w.1, w.2, way_push chains (slice_index chains v) rest end h l w.3)

pub record IsWayLess (chains : List ℕ) (first : ℕ) (symbols : List ℕ) (last end : ℕ) : Type 0 where
  pub way : IsWay chains first symbols last
  pub some : last ≢ 0
  pub within : last < length chains
  pub next : slice_index chains last ≡ end

pub way_pop : (chains : List ℕ) (first : ℕ) (symbols : List ℕ) (last end : ℕ) → IsWay chains first (symbols ++ last ∷ []) end → IsWayLess chains first symbols last end
unfolding IsWay
way_pop chains first [] last end w = record { way = w.0; some = w.1; within = w.2; next = w.3 }
way_pop chains first (v ∷ rest) last end w =
    let less : IsWayLess chains (slice_index chains v) rest last end = way_pop chains (slice_index chains v) rest last end w.3 in
    record { way = (w.0, w.1, w.2, less.way); some = less.some; within = less.within; next = less.next }

pub way_leads : (chains : List ℕ) (first : ℕ) (symbols : List ℕ) (end : ℕ) → IsWay chains first symbols end → Leads chains (length symbols) first end
unfolding IsWay Leads
way_leads chains first [] end w = w
way_leads chains first (v ∷ rest) end w =
    (λ e. w.1 (sym w.0 ∙ e), subst (λ x. Leads chains (length rest) (slice_index chains x) end) (sym w.0) (way_leads chains (slice_index chains v) rest end w.3))

-- the first steps of a way do not end
after_way : (k n : ℕ) (chains : List ℕ) (v w : ℕ) → k ≡ n → Leads chains k v w → w ≢ 0 → ends_in n chains v ≡ false
unfolding Leads
after_way zero zero chains v w e a h = no_step chains v (λ z. h (sym a ∙ z))
after_way zero (suc n) chains v w e a h = absurd (omega arith)
after_way (suc k) zero chains v w e a h = absurd (omega arith)
after_way (suc k) (suc n) chains v w e a h = ends_next n chains v a.0 ∙ after_way k n chains (slice_index chains v) w (omega arith) a.1 h

pub way_endless : (chains : List ℕ) (first : ℕ) (symbols : List ℕ) (end : ℕ) → length symbols ≡ length chains → end ≢ 0 → IsWay chains first symbols end → ends_in (length chains) chains first ≡ false
way_endless chains first symbols end e h w = after_way (length symbols) (length chains) chains first end e (way_leads chains first symbols end w) h

pub way_ends : (chains depths : List ℕ) (first : ℕ) (symbols : List ℕ) (end : ℕ) → IsWay chains first symbols end → IsKnown chains depths end → ends_in (length chains) chains first ≡ nat_le (length symbols + slice_index depths end) (length chains)
unfolding IsKnown
way_ends chains depths first symbols end w known =
    ends_by (length symbols + slice_index depths end) (length chains) chains first (leads_on (length symbols) (slice_index depths end) (length symbols + slice_index depths end) chains first end 0 refl (way_leads chains first symbols end w) known)

pub all_links_at : (n : ℕ) (words : List ℕ) (i : ℕ) → list_all (λ w. is_link n w) words ≡ true → is_link n (slice_index words i) ≡ true
all_links_at n words i e = link_next n words i e

-- what holds of all from one place on, of one more
pub all_step : (P : ℕ → Bool) (xs : List ℕ) (i : ℕ) → i < length xs → P (slice_index xs i) ≡ true → list_all P (drop i xs) ≡ list_all P (drop (i + 1) xs)
all_step P xs i h e = let d : drop i xs ≡ get_or xs i 0 ∷ drop (i + 1) xs = rw (add-one, drop-cons xs i 0) refl in rw (d, e) refl

pub all_done : (P : ℕ → Bool) (xs : List ℕ) (i : ℕ) → length xs ≤ i → list_all P (drop i xs) ≡ true
all_done P [] zero h = refl
all_done P [] (suc i) h = refl
all_done P (x ∷ xs) zero h = absurd (omega arith)
all_done P (x ∷ xs) (suc i) h = all_done P xs i (omega arith)

-- where a symbol stands
few_of : (chains depths jumps : List ℕ) (v : ℕ) → AreDepths chains depths jumps → slice_index depths v ≤ length chains
few_of chains depths jumps v a = go (slice_index depths v) refl
  where
    go : (d : ℕ) → slice_index depths v ≡ d → slice_index depths v ≤ length chains
    go zero e = omega arith
    go (suc d) e = let noted : IsNoted chains depths jumps v = a.each v (omega arith) in noted.few

same_test : (a b : Bool) → (a ≡ true → b ≡ true) → (b ≡ true → a ≡ true) → a ≡ b
same_test true true f g = refl
same_test true false f g = sym (f refl)
same_test false true f g = g refl
same_test false false f g = refl

-- a symbol without a depth stands in no chain that is known
pub stands_not : (chains depths jumps : List ℕ) (first symbol : ℕ) → AreDepths chains depths jumps → IsKnown chains depths first → slice_index depths symbol ≡ 0 → is_in_chain chains first symbol ≡ false
unfolding is_in_chain Reaches
stands_not chains depths jumps first symbol a known e = go (list_any (λ j. j == symbol) (chain (length chains) chains first)) refl
  where
    go : (b : Bool) → list_any (λ j. j == symbol) (chain (length chains) chains first) ≡ b → list_any (λ j. j == symbol) (chain (length chains) chains first) ≡ false
    go false f = f
    go true f =
        let met : IsMet chains first symbol = chain_met (length chains) chains first symbol f in
        absurd (met.some (zero_depth chains depths symbol e (known_along met.reached.0 chains depths jumps first symbol a known met.reached.1)))

-- another stands where the symbol of its depth is this one
pub stands_where : (chains depths jumps : List ℕ) (first symbol at depth : ℕ) → AreDepths chains depths jumps → IsKnown chains depths first → depth ≡ slice_index depths symbol → depth ≢ 0 → IsKnown chains depths at → Reaches chains first at → slice_index depths at ≤ depth → (depth ≤ slice_index depths first → depth ≤ slice_index depths at) → (at == symbol) ≡ is_in_chain chains first symbol
unfolding is_in_chain Reaches
stands_where chains depths jumps first symbol at depth a known d some there reached low enough =
    same_test (at == symbol) (list_any (λ j. j == symbol) (chain (length chains) chains first)) forth back
  where
    of_symbol : IsKnown chains depths symbol
    of_symbol = known_noted chains depths jumps symbol a (λ e. some (d ∙ e))

    forth : (at == symbol) ≡ true → list_any (λ j. j == symbol) (chain (length chains) chains first) ≡ true
    forth e =
        let same : at ≡ symbol = grind (arith, nat_tests) in
        let way : Leads chains reached.0 first symbol = subst (λ x. Leads chains reached.0 first x) same reached.1 in
        let steps : slice_index depths first ≡ reached.0 + slice_index depths symbol = depth_after reached.0 chains depths first symbol known way of_symbol in
        let few : slice_index depths first ≤ length chains = few_of chains depths jumps first a in
        let none : symbol ≢ 0 = λ z. some (d ∙ depth_of_zero chains depths symbol z of_symbol) in
        chain_has reached.0 (length chains) chains first symbol (omega arith) none way

    back : list_any (λ j. j == symbol) (chain (length chains) chains first) ≡ true → (at == symbol) ≡ true
    back e =
        let met : IsMet chains first symbol = chain_met (length chains) chains first symbol e in
        let steps : slice_index depths first ≡ met.reached.0 + slice_index depths symbol = depth_after met.reached.0 chains depths first symbol known met.reached.1 of_symbol in
        let others : slice_index depths first ≡ reached.0 + slice_index depths at = depth_after reached.0 chains depths first at known reached.1 there in
        let deep : depth ≤ slice_index depths at = enough (omega arith) in
        let count : met.reached.0 ≡ reached.0 = omega arith in
        let same : at ≡ symbol = leads_same reached.0 chains first at symbol reached.1 (subst (λ k. Leads chains k first symbol) count met.reached.1) in
        grind (arith, nat_tests)

-- one symbol more
pub record IsNotedMore (chains depths more jumps : List ℕ) (at : ℕ) : Type 0 where
  pub measured : AreDepths chains more jumps
  pub known : IsKnown chains more at
  pub kept : (v : ℕ) → IsKnown chains depths v → IsKnown chains more v

set_known : (chains depths : List ℕ) (at depth : ℕ) → at ≢ 0 → at < length depths → depth ≡ suc (slice_index depths (slice_index chains at)) → IsKnown chains depths (slice_index chains at) → IsKnown chains (set depths at depth) at
unfolding IsKnown Leads
set_known chains depths at depth h l e next =
    let here : slice_index (set depths at depth) at ≡ suc (slice_index depths (slice_index chains at)) = get_or-set_same depths at depth 0 l ∙ e in
    let leads : Leads chains (suc (slice_index depths (slice_index chains at))) at 0 = (h, next) in
    subst (λ k. Leads chains k at 0) (sym here) leads

other_known : (chains depths : List ℕ) (at depth v : ℕ) → v ≢ at → IsKnown chains depths v → IsKnown chains (set depths at depth) v
unfolding IsKnown
other_known chains depths at depth v h known =
    let same : slice_index (set depths at depth) v ≡ slice_index depths v = get_or-set_other depths at v depth 0 h in
    subst (λ k. Leads chains k v 0) (sym same) known

pub note_more : (chains depths jumps : List ℕ) (at next jump depth : ℕ) → AreDepths chains depths jumps → at ≢ 0 → at < length chains → next ≡ slice_index chains at → depth ≡ slice_index depths next + 1 → slice_index depths next < length chains → IsKnown chains depths next → IsKnown chains depths jump → Reaches chains next jump → IsNotedMore chains depths (set depths at depth) (set jumps at jump) at
note_more chains depths jumps at next jump depth a some within e d few known there reached = record {
  measured = record {
    same = omega (arith, length-set {A = ℕ}, a.same);
    jumped = omega (arith, length-set {A = ℕ}, a.jumped);
    start = get_or-set_other jumps at 0 jump 0 (λ z. some (sym z)) ∙ a.start;
    each = λ v h. each v h (v == at) refl;
  };
  known = here;
  kept = λ v k. keep v k (v == at) refl;
}
  where
    here : IsKnown chains (set depths at depth) at
    here = set_known chains depths at depth some (omega (arith, a.same)) (omega (arith, ap (λ x. slice_index depths x) e)) (subst (λ x. IsKnown chains depths x) e known)

    keep : (v : ℕ) → IsKnown chains depths v → (b : Bool) → (v == at) ≡ b → IsKnown chains (set depths at depth) v
    keep v k true f = let same : v ≡ at = grind (arith, nat_tests) in subst (λ x. IsKnown chains (set depths at depth) x) (sym same) here
    keep v k false f = other_known chains depths at depth v (grind (arith, nat_tests)) k

    each : (v : ℕ) → slice_index (set depths at depth) v ≢ 0 → (b : Bool) → (v == at) ≡ b → IsNoted chains (set depths at depth) (set jumps at jump) v
    each v h true f =
        let same : v ≡ at = grind (arith, nat_tests) in
        let kept : slice_index (set jumps at jump) v ≡ jump = ap (λ x. slice_index (set jumps at jump) x) same ∙ get_or-set_same jumps at jump 0 (omega (arith, a.jumped)) in
        let deep : slice_index (set depths at depth) v ≡ depth = ap (λ x. slice_index (set depths at depth) x) same ∙ get_or-set_same depths at depth 0 (omega (arith, a.same)) in
        let after : next ≡ slice_index chains v = e ∙ ap (λ x. slice_index chains x) (sym same) in
        record {
          depth = subst (λ x. IsKnown chains (set depths at depth) x) (sym same) here;
          few = omega arith;
          next = keep (slice_index chains v) (subst (λ x. IsKnown chains depths x) after known) (slice_index chains v == at) refl;
          jump = subst (λ x. IsKnown chains (set depths at depth) x) (sym kept) (keep jump there (jump == at) refl);
          lands = subst (λ x. Reaches chains x (slice_index (set jumps at jump) v)) after (subst (λ x. Reaches chains next x) (sym kept) reached);
        }
    each v h false f =
        let other : v ≢ at = grind (arith, nat_tests) in
        let same : slice_index (set depths at depth) v ≡ slice_index depths v = get_or-set_other depths at v depth 0 other in
        let kept : slice_index (set jumps at jump) v ≡ slice_index jumps v = get_or-set_other jumps at v jump 0 other in
        let noted : IsNoted chains depths jumps v = a.each v (λ z. h (same ∙ z)) in
        record {
          depth = keep v noted.depth (v == at) refl;
          few = omega (arith, noted.few);
          next = keep (slice_index chains v) noted.next (slice_index chains v == at) refl;
          jump = subst (λ x. IsKnown chains (set depths at depth) x) (sym kept) (keep (slice_index jumps v) noted.jump (slice_index jumps v == at) refl);
          lands = subst (λ x. Reaches chains (slice_index chains v) x) (sym kept) noted.lands;
        }

-- of a way to a symbol these symbols are left, and lead to one that is known
pub record IsLeft (chains depths symbols : List ℕ) (end : ℕ) (left : List ℕ) : Type 0 where
  pub last : ℕ
  pub way : (first : ℕ) → IsWay chains first symbols end → IsWay chains first left last
  pub known : IsKnown chains depths last
  pub few : slice_index depths last + length left ≤ length chains

pub left_all : (chains depths symbols : List ℕ) (end : ℕ) → IsKnown chains depths end → slice_index depths end + length symbols ≤ length chains → IsLeft chains depths symbols end symbols
left_all chains depths symbols end known few = record { last = end; way = λ first w. w; known = known; few = few }

pub left_none : (chains depths symbols : List ℕ) (end first : ℕ) (left : List ℕ) → length left ≡ 0 → IsLeft chains depths symbols end left → IsWay chains first symbols end → IsKnown chains depths first
unfolding IsWay
left_none chains depths symbols end first [] e is w = let same : first ≡ is.last = is.way first w in subst (λ x. IsKnown chains depths x) (sym same) is.known
left_none chains depths symbols end first (v ∷ rest) e is w = absurd (omega arith)

pub way_too_long : (chains depths : List ℕ) (first : ℕ) (symbols : List ℕ) (end : ℕ) → IsWay chains first symbols end → IsKnown chains depths end → length symbols ≤ length chains → length chains - length symbols < slice_index depths end → ends_in (length chains) chains first ≡ false
way_too_long chains depths first symbols end w known few h =
    way_ends chains depths first symbols end w known ∙ (let no : nat_le (length symbols + slice_index depths end) (length chains) ≡ false = grind (arith, nat_tests) in no)

pub way_fits : (chains depths : List ℕ) (first : ℕ) (symbols : List ℕ) (end : ℕ) → IsWay chains first symbols end → IsKnown chains depths end → length symbols ≤ length chains → slice_index depths end ≤ length chains - length symbols → ends_in (length chains) chains first ≡ true
way_fits chains depths first symbols end w known few h =
    way_ends chains depths first symbols end w known ∙ (let yes : nat_le (length symbols + slice_index depths end) (length chains) ≡ true = grind (arith, nat_tests) in yes)

-- one step on
one_step : (chains : List ℕ) (v : ℕ) → v ≢ 0 → Leads chains 1 v (slice_index chains v)
unfolding Leads
one_step chains v h = (h, refl)

pub next_reached : (chains depths jumps : List ℕ) (v : ℕ) → AreDepths chains depths jumps → 0 < slice_index depths v → Reaches chains v (slice_index chains v)
next_reached chains depths jumps v a h =
    let noted : IsNoted chains depths jumps v = a.each v (omega arith) in
    reach_next chains v (slice_index chains v) (λ z. let flat : slice_index depths v ≡ 0 = depth_of_zero chains depths v z noted.depth in absurd (omega arith)) (reach_here chains (slice_index chains v))

pub next_less : (chains depths jumps : List ℕ) (v : ℕ) → AreDepths chains depths jumps → 0 < slice_index depths v → slice_index depths (slice_index chains v) + 1 ≡ slice_index depths v
next_less chains depths jumps v a h =
    let noted : IsNoted chains depths jumps v = a.each v (omega arith) in
    let some : v ≢ 0 = λ z. let flat : slice_index depths v ≡ 0 = depth_of_zero chains depths v z noted.depth in absurd (omega arith) in
    let after : slice_index depths v ≡ 1 + slice_index depths (slice_index chains v) = depth_after 1 chains depths v (slice_index chains v) noted.depth (one_step chains v some) noted.next in
    omega arith

pub jump_less : (chains depths jumps : List ℕ) (v : ℕ) → AreDepths chains depths jumps → 0 < slice_index depths v → slice_index depths (slice_index jumps v) < slice_index depths v
jump_less chains depths jumps v a h =
    let noted : IsNoted chains depths jumps v = a.each v (omega arith) in
    let low : slice_index depths (slice_index jumps v) ≤ slice_index depths (slice_index chains v) = reach_depth chains depths (slice_index chains v) (slice_index jumps v) noted.next noted.jump noted.lands in
    omega (arith, next_less chains depths jumps v a h)

-- the last symbol that is left
pub record IsPopped (chains depths symbols : List ℕ) (end : ℕ) (rest : List ℕ) (last : ℕ) : Type 0 where
  pub some : last ≢ 0
  pub within : last < length chains
  pub next : IsKnown chains depths (slice_index chains last)
  pub few : slice_index depths (slice_index chains last) + length rest + 1 ≤ length chains
  pub way : (first : ℕ) → IsWay chains first symbols end → IsWay chains first rest last

pub left_pop : (chains depths symbols : List ℕ) (end : ℕ) (left rest : List ℕ) (last : ℕ) → (first : ℕ) × IsWay chains first symbols end → IsLeft chains depths symbols end left → left ≡ rest ++ last ∷ [] → IsPopped chains depths symbols end rest last
left_pop chains depths symbols end left rest last start is e =
    let less : (first : ℕ) → IsWay chains first symbols end → IsWayLess chains first rest last is.last = λ first w. way_pop chains first rest last is.last (subst (λ xs. IsWay chains first xs is.last) e (is.way first w)) in
    let here : IsWayLess chains start.0 rest last is.last = less start.0 start.1 in
    let count : length left ≡ length rest + 1 = ap length e ∙ length-append rest (last ∷ []) in
    let depth : slice_index depths (slice_index chains last) ≡ slice_index depths is.last = ap (λ x. slice_index depths x) here.next in
    record {
      some = here.some;
      within = here.within;
      next = subst (λ x. IsKnown chains depths x) (sym here.next) is.known;
      few = omega (arith, is.few, count, depth);
      way = λ first w. (less first w).way;
    }
