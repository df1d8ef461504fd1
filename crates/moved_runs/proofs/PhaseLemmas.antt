-- In which phase an object comes, and which needs and opened names were asked for by then.
use Rattle.std.proofs.Common.{◌≡◌, ◌∙◌, sym, ap, refl, ℕ, zero, suc, ◌+◌, ◌≤◌, ◌<◌, List, [], ◌∷◌, ◌++◌, Bool, true, false, cond, Some, Result, length, take, drop, map, slice_get, arith, subst, ◌⊎◌, inl, inr, nat_lt}
use Rattle.std.specs.List.{position_from}
use Rattle.std.specs.Option.{unwrap_or}
use Rattle.std.proofs.lemmas.Bool.{cases_lt, ltb-true, lt-ltb, both_ways}
use Rattle.std.proofs.lemmas.List.{append-nil, take-map}
use Rattle.std.proofs.lemmas.Option.{slice_get_within}
use Rattle.load_model.specs.LoadList.{Object, Request, Asked, Found, Loaded, count_after, needs_from, requests_of, IsPhase, IsRunFrom, IsEndedFrom, IsEndedRun}
use Rattle.load_model.specs.Runs.{phase_of}
use Rattle.load_model.proofs.AskedNeeds.{AreAsked, all_asked, get_map, map_get}
use Rattle.load_model.proofs.Counts.{count_front, slice_get-append}
use Rattle.load_model.proofs.Ended.{run_of_ends}
use Rattle.load_model.proofs.History.{IsGrown, in_front, phase_size, run_grown, slice_get_split}
use Rattle.load_model.proofs.Machine.{slice_get-drop}
use Rattle.load_model.proofs.OneRun.{there}
use Rattle.load_model.proofs.Places.{slice_get-take}
use Rattle.moved_runs.proofs.OfferLemmas.{first_passes}

-- ---- the first place that passes

least_by : {A : Type 0} (test : A → Bool) (k : ℕ) (x : A) (xs : List A) (b : Bool) → test x ≡ b → (j : ℕ) (y : A) → slice_get (x ∷ xs) j ≡ Some y → test y ≡ true → ((i : ℕ) → slice_get xs i ≡ Some y → (w : ℕ) × (position_from test (k + 1) xs ≡ Some (k + 1 + w)) × (w ≤ i)) → (w : ℕ) × (cond b (Some k) (position_from test (k + 1) xs) ≡ Some (k + w)) × (w ≤ j)
least_by test k x xs true e j y g t rest = let z : k ≡ k + 0 = omega arith in (0, ap Some z, omega arith)
least_by test k x xs false e zero y g t rest = let same : x ≡ y = cc in absurd (both_ways (test x) e (ap test same ∙ t))
least_by test k x xs false e (suc j) y g t rest =
    let w = rest j g in
    let z : k + 1 + w.0 ≡ k + suc w.0 = omega arith in
    (suc w.0, w.1 ∙ ap Some z, let le = w.2 in omega arith)

-- what passes stands at the first place that does, or behind it
pub first_least : {A : Type 0} (test : A → Bool) (k : ℕ) (xs : List A) (j : ℕ) (y : A) → slice_get xs j ≡ Some y → test y ≡ true → (w : ℕ) × (position_from test k xs ≡ Some (k + w)) × (w ≤ j)
first_least test k [] j y g t = cc
first_least test k (x ∷ xs) j y g t = least_by test k x xs (test x) refl j y g t (λ i h. first_least test (k + 1) xs i y h t)

lt_true : (a b : ℕ) → a < b → nat_lt a b ≡ true
lt_true a b h = lt-ltb a b h

-- ---- phases of a run

abbrev pub has_object : ℕ → Loaded → Bool
has_object j end = nat_lt j (length end.objs)

-- an object that is loaded at the end of a phase comes in it, or before it
pub phase_le : (ends : List Loaded) (t i : ℕ) (s : Loaded) → slice_get ends i ≡ Some s → t < length s.objs → phase_of ends t ≤ i
unfolding phase_of
phase_le ends t i s g below =
    let w = first_least (has_object t) 0 ends i s g (lt_true t (length s.objs) below) in
    let e : phase_of ends t ≡ 0 + w.0 = ap (λ o. unwrap_or o 0) w.1 in
    let le = w.2 in
    omega arith

-- and it is loaded at the end of its phase
pub phase_at_end : (ends : List Loaded) (t i : ℕ) (s : Loaded) → slice_get ends i ≡ Some s → t < length s.objs → (u : Loaded) × (slice_get ends (phase_of ends t) ≡ Some u) × (t < length u.objs)
unfolding phase_of
phase_at_end ends t i s g below =
    let w = first_least (has_object t) 0 ends i s g (lt_true t (length s.objs) below) in
    let v = first_passes (has_object t) 0 (0 + w.0) ends w.1 in
    let at : 0 + w.0 ≡ 0 + v.0 = v.2 in
    let e : phase_of ends t ≡ v.0 = ap (λ o. unwrap_or o 0) w.1 ∙ (let z : 0 + w.0 ≡ v.0 = omega arith in z) in
    (v.1, ap (slice_get ends) e ∙ v.3, ltb-true t (length v.1.objs) v.4)

module _ {X : Type 0} (answer : List Object → List Asked → Request → Result Found X) where
  -- later ends have more
  ends_more : (os : List (List (List ℕ))) (before after : Loaded) (ends : List Loaded) → count_after before.log ≡ length before.objs → IsEndedFrom answer before os after ends → (e : ℕ) (u : Loaded) → slice_get ends e ≡ Some u → length before.objs ≤ length u.objs
  ends_more [] before after [] even p e u g = cc
  ends_more [] before after (end ∷ ends) even p e u g = absurd p
  ends_more (o ∷ os) before after [] even p e u g = cc
  ends_more (o ∷ os) before after (end ∷ ends) even p zero u g =
      let same : end ≡ u = cc in
      let size = phase_size answer before end o even p.0 in
      let eq : length end.objs ≡ length u.objs = ap (λ (s : Loaded). length s.objs) same in
      omega arith
  ends_more (o ∷ os) before after (end ∷ ends) even p (suc e) u g =
      let size = phase_size answer before end o even p.0 in
      let rest = ends_more os end after ends p.0.whole p.1 e u g in
      omega arith

  pub ends_grow : (os : List (List (List ℕ))) (before after : Loaded) (ends : List Loaded) → IsEndedFrom answer before os after ends → (i e : ℕ) (s u : Loaded) → slice_get ends i ≡ Some s → slice_get ends e ≡ Some u → i ≤ e → length s.objs ≤ length u.objs
  ends_grow [] before after [] p i e s u g h le = cc
  ends_grow [] before after (end ∷ ends) p i e s u g h le = absurd p
  ends_grow (o ∷ os) before after [] p i e s u g h le = cc
  ends_grow (o ∷ os) before after (end ∷ ends) p zero zero s u g h le =
      let one : Some s ≡ Some u = sym g ∙ h in
      let same : s ≡ u = cc in
      let eq : length s.objs ≡ length u.objs = ap (λ (x : Loaded). length x.objs) same in
      omega arith
  ends_grow (o ∷ os) before after (end ∷ ends) p zero (suc e) s u g h le =
      let same : end ≡ s = cc in
      let more = ends_more os end after ends p.0.whole p.1 e u h in
      let eq : length end.objs ≡ length s.objs = ap (λ (x : Loaded). length x.objs) same in
      omega arith
  ends_grow (o ∷ os) before after (end ∷ ends) p (suc i) zero s u g h le = absurd (omega arith)
  ends_grow (o ∷ os) before after (end ∷ ends) p (suc i) (suc e) s u g h le = ends_grow os end after ends p.1 i e s u g h (omega arith)

  pub end_whole : (os : List (List (List ℕ))) (before after : Loaded) (ends : List Loaded) → IsEndedFrom answer before os after ends → (i : ℕ) (s : Loaded) → slice_get ends i ≡ Some s → count_after s.log ≡ length s.objs
  end_whole [] before after [] p i s g = cc
  end_whole [] before after (end ∷ ends) p i s g = absurd p
  end_whole (o ∷ os) before after [] p i s g = cc
  end_whole (o ∷ os) before after (end ∷ ends) p zero s g = let same : end ≡ s = cc in subst (λ (u : Loaded). count_after u.log ≡ length u.objs) same p.0.whole
  end_whole (o ∷ os) before after (end ∷ ends) p (suc i) s g = end_whole os end after ends p.1 i s g

  -- the last end is the whole
  pub last_end : (o : List (List ℕ)) (os : List (List (List ℕ))) (before after : Loaded) (ends : List Loaded) → IsEndedFrom answer before (o ∷ os) after ends → (i : ℕ) × (slice_get ends i ≡ Some after)
  last_end o os before after [] p = absurd p
  last_end o [] before after (end ∷ []) p = (0, ap Some (sym p.1))
  last_end o [] before after (end ∷ other ∷ ends) p = absurd p.1
  last_end o (n ∷ os) before after (end ∷ ends) p = let w = last_end n os end after ends p.1 in (suc w.0, w.1)

  -- up to the end of a phase it is a run
  front_run : (os : List (List (List ℕ))) (before after : Loaded) (ends : List Loaded) → IsEndedFrom answer before os after ends → (i : ℕ) (s : Loaded) → slice_get ends i ≡ Some s → IsRunFrom answer before (take (suc i) os) s
  front_run [] before after [] p i s g = cc
  front_run [] before after (end ∷ ends) p i s g = absurd p
  front_run (o ∷ os) before after [] p i s g = cc
  front_run (o ∷ os) before after (end ∷ ends) p zero s g =
      let same : s ≡ end = cc in
      (end, p.0, same)
  front_run (o ∷ os) before after (end ∷ ends) p (suc i) s g = (end, p.0, front_run os end after ends p.1 i s g)

  -- so all needs of what is loaded then were asked
  pub end_asked : (program : Object) (opens : List (List ℕ)) (after : Loaded) (ends : List Loaded) → IsEndedRun answer program opens after ends → (i : ℕ) (s : Loaded) → slice_get ends i ≡ Some s → AreAsked s.objs s.log
  end_asked program opens after ends p i s g =
      let front = front_run (program.face.needs ∷ map (λ n. n ∷ []) opens) (record { objs = program ∷ []; log = [] }) after ends p i s g in
      all_asked answer program (take i opens) s
      (subst (λ (os : List (List (List ℕ))). IsRunFrom answer (record { objs = program ∷ []; log = [] }) (program.face.needs ∷ os) s) (take-map (λ n. n ∷ []) i opens) front)

  -- ---- where a request comes from

  -- it is a need of the object that asks
  abbrev pub IsNeed : List Object → Request → Type 0
  IsNeed objs r = (o : Object) × (e : ℕ) × (slice_get objs r.by ≡ Some o) × (slice_get o.face.needs e ≡ Some r.name)

  need_from : (i : ℕ) (os : List Object) (j : ℕ) (r : Request) → slice_get (needs_from i os) j ≡ Some r → (k : ℕ) × (o : Object) × (e : ℕ) × (r.by ≡ i + k) × (slice_get os k ≡ Some o) × (slice_get o.face.needs e ≡ Some r.name)
  need_from i [] j r h = cc
  need_from i (o ∷ os) j r h =
      elim (slice_get-append (map (λ n. record { by = i; name = n }) o.face.needs) (needs_from (suc i) os) j r h) [
        | inl e ↦
            let w = get_map (λ (n : List ℕ). record { by = i; name = n }) o.face.needs j r e in
            let by : r.by ≡ i = ap (λ (q : Request). q.by) w.2 in
            (0, o, j, (let z : r.by ≡ i + 0 = omega arith in z), refl, w.1 ∙ ap (λ (q : Request). Some q.name) (sym w.2))
        | inr e ↦
            let w = need_from (suc i) os e.0 r e.1 in
            let by = w.3 in
            (suc w.0, w.1, w.2, (let z : r.by ≡ i + suc w.0 = omega arith in z), w.4, w.5)
      ]

  in_needs : (k : ℕ) (objs : List Object) (j : ℕ) (r : Request) → slice_get (needs_from k (drop k objs)) j ≡ Some r → IsNeed objs r
  in_needs k objs j r h =
      let w = need_from k (drop k objs) j r h in
      (w.1, w.2, ap (slice_get objs) w.3 ∙ sym (slice_get-drop k objs w.0) ∙ w.4, w.5)

  -- a request of a phase is of an opened name, or a need
  of_phase : (before end : Loaded) (o : List (List ℕ)) → IsPhase answer before o end → (m : ℕ) (a : Asked) → length before.log ≤ m → slice_get end.log m ≡ Some a → (((e : ℕ) × (slice_get o e ≡ Some a.request.name) × (a.request.by ≡ 0)) ⊎ IsNeed end.objs a.request) × (count_after before.log ≤ count_after (take m end.log))
  of_phase before end o p m a le g =
      elim (slice_get_split before.log p.more m a (ap (λ xs. slice_get xs m) (sym p.log) ∙ g)) [
        | inl e ↦ let within = slice_get_within before.log m a e.0 in absurd (omega arith)
        | inr e ↦
            let all : map (λ (x : Asked). x.request) p.more ≡ requests_of o (length before.objs) end.objs = sym (append-nil (map (λ (x : Asked). x.request) p.more)) ∙ p.asked in
            let asked : slice_get (requests_of o (length before.objs) end.objs) e.0 ≡ Some a.request = ap (λ rs. slice_get rs e.0) (sym all) ∙ map_get (λ (x : Asked). x.request) p.more e.0 a e.1 in
            let taken : take m end.log ≡ before.log ++ take e.0 p.more = ap (take m) p.log ∙ e.2 in
            let more = count_front before.log (take e.0 p.more) in
            let count : count_after (take m end.log) ≡ count_after (before.log ++ take e.0 p.more) = ap count_after taken in (
              elim (slice_get-append (map (λ n. record { by = 0; name = n }) o) (needs_from (length before.objs) (drop (length before.objs) end.objs)) e.0 a.request asked) [
                | inl w ↦ let v = get_map (λ (n : List ℕ). record { by = 0; name = n }) o e.0 a.request w in inl (e.0, v.1 ∙ ap (λ (q : Request). Some q.name) (sym v.2), ap (λ (q : Request). q.by) v.2)
                | inr w ↦ inr (in_needs (length before.objs) end.objs w.0 a.request w.1)
              ],
              omega arith,
            )
      ]

  one_at : (n r : List ℕ) (e : ℕ) → slice_get (n ∷ []) e ≡ Some r → Some n ≡ Some r
  one_at n r zero h = h
  one_at n r (suc e) h = cc

  more_needs : (end after : Loaded) (r : Request) → IsGrown end after → IsNeed end.objs r → IsNeed after.objs r
  more_needs end after r grown w = (w.0, w.1, (slice_get-take (length end.objs) after.objs r.by w.0 (ap (λ os. slice_get os r.by) grown.objs ∙ w.2)).1, w.3)

  -- a request of a run is a need, or of an opened name, whose phase began with what was there
  pub record IsOpened (opens : List (List ℕ)) (starts : List Loaded) (after : Loaded) (m : ℕ) (r : Request) : Type 0 where
    pub nth : ℕ
    pub name_is : slice_get opens nth ≡ Some r.name
    pub by_program : r.by ≡ 0
    pub start : Loaded
    pub start_is : slice_get starts nth ≡ Some start
    pub before : length start.objs ≤ count_after (take m after.log)

  later_opened : (n : List ℕ) (opens : List (List ℕ)) (before : Loaded) (starts : List Loaded) (after : Loaded) (m : ℕ) (r : Request) → IsOpened opens starts after m r → IsOpened (n ∷ opens) (before ∷ starts) after m r
  later_opened n opens before starts after m r w = record { nth = suc w.nth; name_is = w.name_is; by_program = w.by_program; start = w.start; start_is = w.start_is; before = w.before }

  pub request_from : (opens : List (List ℕ)) (before after : Loaded) (ends : List Loaded) → count_after before.log ≡ length before.objs → IsEndedFrom answer before (map (λ n. n ∷ []) opens) after ends → (m : ℕ) (a : Asked) → length before.log ≤ m → slice_get after.log m ≡ Some a → IsNeed after.objs a.request ⊎ IsOpened opens (before ∷ ends) after m a.request
  request_from [] before after [] even p m a le g =
      let within = slice_get_within after.log m a g in
      let eq : length after.log ≡ length before.log = ap (λ (s : Loaded). length s.log) p in
      absurd (omega arith)
  request_from [] before after (end ∷ ends) even p m a le g = absurd p
  request_from (n ∷ opens) before after [] even p m a le g = absurd p
  request_from (n ∷ opens) before after (end ∷ ends) even p m a le g =
      let grown = run_grown answer (map (λ n. n ∷ []) opens) end after p.0.whole (run_of_ends answer (map (λ n. n ∷ []) opens) end after ends p.1) in
      elim (cases_lt m (length end.log)) [
        | inl b ↦
            let x = there end.log m b in
            let f = in_front end.log grown.more m x.0 x.1 in
            let one : Some x.0 ≡ Some a = sym f.0 ∙ ap (λ xs. slice_get xs m) (sym grown.log) ∙ g in
            let here : slice_get end.log m ≡ Some a = x.1 ∙ one in
            let w = of_phase before end (n ∷ []) p.0 m a le here in
            let count : count_after (take m after.log) ≡ count_after (take m end.log) = ap (λ xs. count_after (take m xs)) grown.log ∙ ap count_after f.1 in
            let low = w.1 in
            elim w.0 [
              | inl v ↦ inr (record { nth = 0; name_is = one_at n a.request.name v.0 v.1; by_program = v.2; start = before; start_is = refl; before = omega arith })
              | inr v ↦ inl (more_needs end after a.request grown v)
            ]
        | inr b ↦
            elim (request_from opens end after ends p.0.whole p.1 m a b g) [
              | inl v ↦ inl v
              | inr v ↦ inr (later_opened n opens before (end ∷ ends) after m a.request v)
            ]
      ]

  -- the same of the whole run: an opened name's phase begins at the end of the one before it
  pub request_of : (program : Object) (opens : List (List ℕ)) (after : Loaded) (ends : List Loaded) → IsEndedRun answer program opens after ends → (m : ℕ) (a : Asked) → slice_get after.log m ≡ Some a → IsNeed after.objs a.request ⊎ IsOpened opens ends after m a.request
  request_of program opens after [] p m a g = absurd p
  request_of program opens after (end ∷ ends) p m a g =
      let grown = run_grown answer (map (λ n. n ∷ []) opens) end after p.0.whole (run_of_ends answer (map (λ n. n ∷ []) opens) end after ends p.1) in
      elim (cases_lt m (length end.log)) [
        | inl b ↦
            let x = there end.log m b in
            let f = in_front end.log grown.more m x.0 x.1 in
            let one : Some x.0 ≡ Some a = sym f.0 ∙ ap (λ xs. slice_get xs m) (sym grown.log) ∙ g in
            let here : slice_get end.log m ≡ Some a = x.1 ∙ one in
            let w = of_phase (record { objs = program ∷ []; log = [] }) end program.face.needs p.0 m a (omega arith) here in
            elim w.0 [
              | inl v ↦
                  let first : slice_get end.objs 0 ≡ Some program = (slice_get-take 1 end.objs 0 program (ap (λ os. slice_get os 0) p.0.objs)).1 in
                  inl (more_needs end after a.request grown (program, v.0, ap (slice_get end.objs) v.2 ∙ first, v.1))
              | inr v ↦ inl (more_needs end after a.request grown v)
            ]
        | inr b ↦ request_from opens end after ends p.0.whole p.1 m a b g
      ]
