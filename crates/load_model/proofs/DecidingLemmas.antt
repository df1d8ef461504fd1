-- The first candidate that decides, and the paths that are opened up to it.
use Rattle.std.proofs.Common.{◌≡◌, ◌≢◌, ◌∙◌, sym, ap, refl, ℕ, zero, suc, List, [], ◌∷◌, Option, Some, None, Result, map, take, slice_get, arith, subst, ◌⊎◌, inl, inr}
use Rattle.answers.specs.First.{first_some}
use Rattle.byte_view.specs.declared.flaws.Flaw.{Flaw}
use Rattle.load_model.specs.Candidates.{Candidate, At, Refused, IsOpenedIn, candidates, decided_by, decision, first_decision, loader_in, opened_among, opened_by, opened_by_name, opened_for, refused_text}
use Rattle.load_model.specs.Deciding.{ArePassedOver, IsFirstDeciding, IsPassedOver, IsSearched, IsSearchedIn, IsUpToDeciding}
use Rattle.load_model.specs.LoadList.{Object, Request, Asked, Loaded, count_after, first_place, is_known}
use Rattle.load_model.specs.World.{World, Kind, Absent, Other, Object as IsObject, Damaged as IsDamaged, IsPassed, kind_of}
use Rattle.load_model.specs.declared.faces.Face.{Face}
use Rattle.load_model.specs.declared.refusals.LoadRefusal.{LoadRefusal}
use Rattle.load_model.specs.declared.setting.Setting.{Setting}

first_cases : {A : Type 0} (o : Option A) (more : List (Option A)) (d : A) → first_some (o ∷ more) ≡ Some d → (o ≡ Some d) ⊎ ((o ≡ None) × (first_some more ≡ Some d))
first_cases None more d h = inr (refl, h)
first_cases (Some x) more d h = inl h

first_none : {A : Type 0} (o : Option A) (more : List (Option A)) → first_some (o ∷ more) ≡ None → (o ≡ None) × (first_some more ≡ None)
first_none None more h = (refl, h)
first_none (Some x) more h = cc

-- the paths that one candidate opens, before those of the later ones
opened_first : (q : List ℕ) (kind : Kind Face Flaw) (read : List ℕ → Result Face Flaw) (setting : Setting) (world : World) (more : List (List ℕ)) → kind ≢ Absent → slice_get (opened_by read setting world q kind more) 0 ≡ Some q
opened_first q Absent read setting world more some = absurd (some refl)
opened_first q Other read setting world more some = refl
opened_first q (IsObject file face) read setting world more some = refl
opened_first q (IsDamaged file flaw) read setting world more some = refl

module _ (read : List ℕ → Result Face Flaw) (setting : Setting) (world : World) where
  kind_passed : (path : List ℕ) (kind : Kind Face Flaw) → decided_by read setting world path kind ≡ None → IsPassed kind
  kind_passed path Absent h = tt
  kind_passed path Other h = tt
  kind_passed path (IsObject file face) h = cc
  kind_passed path (IsDamaged file flaw) h = cc

  passed_kind : (path : List ℕ) (kind : Kind Face Flaw) → IsPassed kind → decided_by read setting world path kind ≡ None
  passed_kind path Absent h = refl
  passed_kind path Other h = refl
  passed_kind path (IsObject file face) h = absurd h
  passed_kind path (IsDamaged file flaw) h = absurd h

  passed_over : (c : Candidate) → decision read setting world c ≡ None → IsPassedOver read setting world c
  unfolding decision
  passed_over (At path) h = kind_passed path (kind_of read setting.machine world path) h
  passed_over (Refused refusal) h = cc

  over_passed : (c : Candidate) → IsPassedOver read setting world c → decision read setting world c ≡ None
  unfolding decision
  over_passed (At path) h = passed_kind path (kind_of read setting.machine world path) h
  over_passed (Refused refusal) h = absurd h

  one_more : (c : Candidate) (cs : List Candidate) (k : ℕ) → IsPassedOver read setting world c → ArePassedOver read setting world cs k → ArePassedOver read setting world (c ∷ cs) (suc k)
  one_more c cs k first more zero x less g = let e : c ≡ x = cc in subst (IsPassedOver read setting world) e first
  one_more c cs k first more (suc i) x less g = more i x (omega arith) g

  pub first_decides : (cs : List Candidate) (d : Result Object LoadRefusal) → first_decision read setting world cs ≡ Some d → IsFirstDeciding read setting world cs d
  unfolding first_decision
  first_decides [] d h = cc
  first_decides (c ∷ cs) d h =
      elim (first_cases (decision read setting world c) (map (decision read setting world) cs) d h) [
        | inl w ↦ record { number = 0; candidate = c; stands = refl; decides = w; before = λ i x less g. absurd (omega arith) }
        | inr w ↦
            let rest = first_decides cs d w.1 in
            record { number = suc rest.number; candidate = rest.candidate; stands = rest.stands; decides = rest.decides; before = one_more c cs rest.number (passed_over c w.0) rest.before }
      ]

  decided_at : (cs : List Candidate) (k : ℕ) (c : Candidate) (d : Result Object LoadRefusal) → slice_get cs k ≡ Some c → decision read setting world c ≡ Some d → ArePassedOver read setting world cs k → first_decision read setting world cs ≡ Some d
  unfolding first_decision
  decided_at [] k c d g h before = cc
  decided_at (x ∷ cs) zero c d g h before =
      let e : x ≡ c = cc in
      ap (λ o. first_some (o ∷ map (decision read setting world) cs)) (ap (decision read setting world) e ∙ h)
  decided_at (x ∷ cs) (suc k) c d g h before =
      ap (λ o. first_some (o ∷ map (decision read setting world) cs)) (over_passed x (before 0 x (omega arith) refl))
      ∙ decided_at cs k c d g h (λ i y less at. before (suc i) y (omega arith) at)

  pub first_decided : (cs : List Candidate) (d : Result Object LoadRefusal) → IsFirstDeciding read setting world cs d → first_decision read setting world cs ≡ Some d
  first_decided cs d w = decided_at cs w.number w.candidate d w.stands w.decides w.before

  pub none_decides : (cs : List Candidate) → first_decision read setting world cs ≡ None → (i : ℕ) (c : Candidate) → slice_get cs i ≡ Some c → IsPassedOver read setting world c
  unfolding first_decision
  none_decides [] h i c g = cc
  none_decides (x ∷ cs) h zero c g =
      let w = first_none (decision read setting world x) (map (decision read setting world) cs) h in
      let e : x ≡ c = cc in
      subst (IsPassedOver read setting world) e (passed_over x w.0)
  none_decides (x ∷ cs) h (suc i) c g =
      let w = first_none (decision read setting world x) (map (decision read setting world) cs) h in
      none_decides cs w.1 i c g

  pub none_decided : (cs : List Candidate) → ((i : ℕ) (c : Candidate) → slice_get cs i ≡ Some c → IsPassedOver read setting world c) → first_decision read setting world cs ≡ None
  unfolding first_decision
  none_decided [] h = refl
  none_decided (x ∷ cs) h =
      ap (λ o. first_some (o ∷ map (decision read setting world) cs)) (over_passed x (h 0 x refl))
      ∙ none_decided cs (λ i y g. h (suc i) y g)

  opened_cases : (q : List ℕ) (kind : Kind Face Flaw) (more : List (List ℕ)) (k : ℕ) (path : List ℕ) → slice_get (opened_by read setting world q kind more) k ≡ Some path → ((q ≡ path) × (kind ≢ Absent)) ⊎ (IsPassed kind × ((j : ℕ) × (slice_get more j ≡ Some path)))
  opened_cases q Absent more k path h = inr (tt, (k, h))
  opened_cases q Other more zero path h = inl (cc, λ e. cc)
  opened_cases q Other more (suc k) path h = inr (tt, (k, h))
  opened_cases q (IsObject file face) more zero path h = inl (cc, λ e. cc)
  opened_cases q (IsObject file face) more (suc k) path h = cc
  opened_cases q (IsDamaged file flaw) more zero path h = inl (cc, λ e. cc)
  opened_cases q (IsDamaged file flaw) more (suc k) path h = cc

  opened_later : (q : List ℕ) (kind : Kind Face Flaw) (more : List (List ℕ)) (j : ℕ) (path : List ℕ) → IsPassed kind → slice_get more j ≡ Some path → (k : ℕ) × (slice_get (opened_by read setting world q kind more) k ≡ Some path)
  opened_later q Absent more j path h g = (j, g)
  opened_later q Other more j path h g = (suc j, g)
  opened_later q (IsObject file face) more j path h g = absurd h
  opened_later q (IsDamaged file flaw) more j path h g = absurd h

  pub opened_up : (cs : List Candidate) (k : ℕ) (path : List ℕ) → slice_get (opened_among read setting world cs) k ≡ Some path → IsUpToDeciding read setting world cs path
  unfolding opened_among
  opened_up [] k path h = cc
  opened_up (Refused refusal ∷ cs) k path h = cc
  opened_up (At q ∷ cs) k path h =
      elim (opened_cases q (kind_of read setting.machine world q) (opened_among read setting world cs) k path h) [
        | inl w ↦ record { number = 0; stands = ap (λ p. Some (At p)) w.0; present = λ e. w.1 (ap (kind_of read setting.machine world) w.0 ∙ e); before = λ i x less g. absurd (omega arith) }
        | inr w ↦
            let rest = opened_up cs w.1.0 path w.1.1 in
            record { number = suc rest.number; stands = rest.stands; present = rest.present; before = one_more (At q) cs rest.number w.0 rest.before }
      ]

  opened_from : (cs : List Candidate) (n : ℕ) (path : List ℕ) → slice_get cs n ≡ Some (At path) → kind_of read setting.machine world path ≢ Absent → ArePassedOver read setting world cs n → (k : ℕ) × (slice_get (opened_among read setting world cs) k ≡ Some path)
  unfolding opened_among
  opened_from [] n path g some before = cc
  opened_from (Refused refusal ∷ cs) zero path g some before = cc
  opened_from (Refused refusal ∷ cs) (suc n) path g some before = absurd (before 0 (Refused refusal) (omega arith) refl)
  opened_from (At q ∷ cs) zero path g some before =
      let e : q ≡ path = cc in
      (0, opened_first q (kind_of read setting.machine world q) read setting world (opened_among read setting world cs) (λ n. some (ap (kind_of read setting.machine world) (sym e) ∙ n)) ∙ ap Some e)
  opened_from (At q ∷ cs) (suc n) path g some before =
      let rest = opened_from cs n path g some (λ i x less at. before (suc i) x (omega arith) at) in
      opened_later q (kind_of read setting.machine world q) (opened_among read setting world cs) rest.0 path (before 0 (At q) (omega arith) refl) rest.1

  pub up_opened : (cs : List Candidate) (path : List ℕ) → IsUpToDeciding read setting world cs path → (k : ℕ) × (slice_get (opened_among read setting world cs) k ≡ Some path)
  up_opened cs path w = opened_from cs w.number path w.stands w.present w.before

  name_cases : (objs : List Object) (log : List Asked) (r : Request) (text : Option LoadRefusal) (known : Option ℕ) (k : ℕ) (path : List ℕ) → slice_get (opened_by_name read setting world objs log r text known) k ≡ Some path → (text ≡ None) × (known ≡ None) × (slice_get (opened_among read setting world (candidates setting objs (loader_in log) r)) k ≡ Some path)
  name_cases objs log r (Some refusal) known k path h = cc
  name_cases objs log r None (Some j) k path h = cc
  name_cases objs log r None None k path h = (refl, refl, h)

  opened_searched : (objs : List Object) (log : List Asked) (r : Request) (k : ℕ) (path : List ℕ) → slice_get (opened_for read setting world objs log r) k ≡ Some path → IsSearched read setting world objs log r path
  unfolding opened_for
  opened_searched objs log r k path h =
      let w = name_cases objs log r (refused_text objs r) (first_place (is_known log r.name) 0 objs) k path h in
      record { not_refused = w.0; unknown = w.1; reached = opened_up (candidates setting objs (loader_in log) r) k path w.2 }

  searched_opened : (objs : List Object) (log : List Asked) (r : Request) (path : List ℕ) → IsSearched read setting world objs log r path → (k : ℕ) × (slice_get (opened_for read setting world objs log r) k ≡ Some path)
  unfolding opened_for
  searched_opened objs log r path w =
      let at = up_opened (candidates setting objs (loader_in log) r) path w.reached in (
        at.0,
        ap (λ t. slice_get (opened_by_name read setting world objs log r t (first_place (is_known log r.name) 0 objs)) at.0) w.not_refused
            ∙ ap (λ p. slice_get (opened_by_name read setting world objs log r None p) at.0) w.unknown ∙ at.1,
      )

  pub run_searched : (program : List ℕ) (run : Loaded) (path : List ℕ) → IsOpenedIn read setting world program run path → (path ≡ program) ⊎ IsSearchedIn read setting world run path
  run_searched program run path (inl w) = inl w
  run_searched program run path (inr w) =
      inr (record { number = w.number; asked = w.asked; stands = w.stands; searched = opened_searched (take (count_after (take w.number run.log)) run.objs) (take w.number run.log) w.asked.request w.place path w.opened })

  pub searched_run : (program : List ℕ) (run : Loaded) (path : List ℕ) → (path ≡ program) ⊎ IsSearchedIn read setting world run path → IsOpenedIn read setting world program run path
  searched_run program run path (inl w) = inl w
  searched_run program run path (inr w) =
      let at = searched_opened (take (count_after (take w.number run.log)) run.objs) (take w.number run.log) w.asked.request path w.searched in
      inr (record { number = w.number; asked = w.asked; stands = w.stands; place = at.0; opened = at.1 })
