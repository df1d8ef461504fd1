-- The steps of a request: its text, and the object that is added.
use Rattle.std.proofs.Common.{◌≡◌, ◌∙◌, sym, ap, refl, subst, ℕ, ◌+◌, ◌<◌, ◌≤◌, List, [], ◌∷◌, ◌++◌, true, false, cond, ◌||◌, Option, Some, None, option_map, Result, Ok, Err, OnOk, All, length, take, position, slice_get, arith, inl, inr, length-append, take_all, min}
use Rattle.std.specs.Option.{option_map_or}
use Rattle.std.specs.Str.{bytes_eq}
use Rattle.std.proofs.lemmas.Bool.{le-ltb, lt-ltb}
use Rattle.std.proofs.lemmas.Option.{slice_get_within}
use Rattle.load_model.specs.Candidates.{asker_path, has_dollar, is_relative, path_by, refused_text}
use Rattle.load_model.specs.LoadList.{Brought, Known, Loaded, Object, Request, by_id, first_place, is_named}
use Rattle.load_model.specs.Runs.{AreBelow, AreObjects}
use Rattle.load_model.specs.declared.faces.Face.{Face}
use Rattle.load_model.specs.declared.limits.TheConstants.{MOST_OBJECTS}
use Rattle.load_model.specs.declared.refusals.LoadRefusal.TheVariants.{RelativeNeed, TokenInNeed, TooManyObjects}
use Rattle.load_model.specs.declared.runs.Obj.{Obj}
use Rattle.load_requests.specs.Asking.{IsAdded, IsTaken, IsTextAnswer}
use Rattle.load_requests.specs.Known.{AreIds, IsLearnt, first_known}
use Rattle.load_requests.specs.Standing.{IsAsking, IsSafe, Stands, start_path}
use Rattle.load_requests.specs.declared.loading.Loading.{Loading}
use Rattle.load_requests.specs.declared.stops.LoadStop.TheVariants.{RelativeNeed as NeedsRelative, TokenInNeed as NeedsToken, TooManyObjects as Overflows}
use Rattle.load_requests.proofs.AskingFound.{stands_brought, stands_known}
use Rattle.load_requests.proofs.AskingPlaces.{all_more, all_push, pushed_front, pushed_get, same_place, within_get}
use Rattle.load_requests.proofs.FirstLemmas.{position_last}
use Rattle.load_requests.proofs.KnownLemmas.{learnt_within}

pub on_ok : {T E : Type 0} {A B : Type 0} (r : Result T E) → (A → B) → OnOk r A → OnOk r B
on_ok (Ok v) f h = f h
on_ok (Err e) f h = tt

pub is_none : {A : Type 0} (p : Option A) → ((x : A) → p ≡ Some x → ⊥) → p ≡ None
is_none None h = refl
is_none (Some x) h = absurd (h x refl)

pub same_some : {A : Type 0} (a b : A) → Some a ≡ Some b → a ≡ b
same_some a b e = cc

-- ---- the text

-- the path of an object is that of its copy
pub path_is : (faces : List Face) (objs : List Obj) (objects : List Object) (r : Request) (path : List ℕ) → r.by < length objs → AreObjects faces objs objects → option_map (λ x. x.path) (slice_get objs r.by) ≡ Some path → asker_path objects r ≡ path
path_is faces objs objects r path below are h =
    let x = within_get objs r.by below in
    let o = within_get objects r.by (omega (arith, below, are.count)) in
    let e = are.each r.by x.0 o.0 x.1 o.1 in
    let q : Some x.0.path ≡ Some path = sym (ap (option_map (λ (y : Obj). y.path)) x.1) ∙ h in
    ap path_by o.1 ∙ e.0 ∙ same_some x.0.path path q

module _ (objects : List Object) (r : Request) (path : List ℕ) (is : asker_path objects r ≡ path) where
  pub token_refused : has_dollar r.name ≡ true → IsTextAnswer objects r (Err (NeedsToken r.name path))
  unfolding refused_text
  token_refused t = (ap (λ b. cond b (Some (TokenInNeed r.name (asker_path objects r))) (cond (is_relative r.name) (Some (RelativeNeed r.name (asker_path objects r))) None)) t ∙ ap (λ p. Some (TokenInNeed r.name p)) is, λ e. cc)

  pub relative_refused : has_dollar r.name ≡ false → is_relative r.name ≡ true → IsTextAnswer objects r (Err (NeedsRelative r.name path))
  unfolding refused_text
  relative_refused f t = (ap (λ b. cond b (Some (TokenInNeed r.name (asker_path objects r))) (cond (is_relative r.name) (Some (RelativeNeed r.name (asker_path objects r))) None)) f ∙ ap (λ b. cond b (Some (RelativeNeed r.name (asker_path objects r))) None) t ∙ ap (λ p. Some (RelativeNeed r.name p)) is, λ e. cc)

pub text_passes : (objects : List Object) (r : Request) → has_dollar r.name ≡ false → is_relative r.name ≡ false → refused_text objects r ≡ None
unfolding refused_text
text_passes objects r f g = ap (λ b. cond b (Some (TokenInNeed r.name (asker_path objects r))) (cond (is_relative r.name) (Some (RelativeNeed r.name (asker_path objects r))) None)) f ∙ ap (λ b. cond b (Some (RelativeNeed r.name (asker_path objects r))) None) g

-- ---- numbers stay in range

pub safe_same : (faces : List Face) (s new : Loading) → IsSafe faces s → new.objs ≡ s.objs → ((n : List ℕ) (j : ℕ) → first_known n new.known ≡ Some j → j < length s.objs) → new.ids ≡ s.ids → new.targets ≡ s.targets → new.phase ≡ s.phase → IsSafe faces new
safe_same faces s new safe objs known ids targets phase = record {
  program = subst (λ l. 0 < length l) (sym objs) safe.program;
  few = subst (λ l. length l ≤ MOST_OBJECTS) (sym objs) safe.few;
  known = subst (λ l. (n : List ℕ) (j : ℕ) → first_known n new.known ≡ Some j → j < length l) (sym objs) known;
  ids = subst (λ l. AreIds new.ids l) (sym objs) (subst (λ i. AreIds i s.objs) (sym ids) safe.ids);
  faces_within = subst (λ l. All (λ x. x.face < length faces) l) (sym objs) safe.faces_within;
  own = λ x g. safe.own x (ap (λ l. slice_get l 0) (sym objs) ∙ g);
  smaller = λ j x pos g. safe.smaller j x pos (ap (λ l. slice_get l j) (sym objs) ∙ g);
  phases = subst (λ l. All (λ x. x.phase ≤ new.phase) l) (sym objs) (subst (λ p. All (λ x. x.phase ≤ p) s.objs) (sym phase) safe.phases);
  walked = subst (λ l. length new.targets ≤ length l) (sym objs) (subst (λ l. length l ≤ length s.objs) (sym targets) safe.walked);
  targets = subst (λ l. All (AreBelow (length l)) new.targets) (sym objs) (subst (λ l. All (AreBelow (length s.objs)) l) (sym targets) safe.targets);
  counts = λ k x face ts gx gf gt. safe.counts k x face ts (ap (λ l. slice_get l k) (sym objs) ∙ gx) gf (ap (λ l. slice_get l k) (sym targets) ∙ gt);
}

pub asking_same : (s new : Loading) → new.objs ≡ s.objs → new.targets ≡ s.targets → new.phase ≡ s.phase → IsAsking s new
asking_same s new objs targets phase = record {
  objs = ap (take (length s.objs)) objs ∙ take_all (length s.objs) s.objs (omega arith);
  longer = (let e : length new.objs ≡ length s.objs = ap (λ l. length l) objs in omega (arith, e));
  targets = targets;
  phase = phase;
  new_phase = λ j x from g. absurd (let inside = slice_get_within s.objs j x (ap (λ l. slice_get l j) (sym objs) ∙ g) in omega (arith, from, inside));
}

-- the identities, with the one of the object that was added
pub ids_added : (objs after : List Obj) (x : Obj) (ids new : List (List ℕ × ℕ)) → after ≡ objs ++ x ∷ [] → IsLearnt (bytes_eq x.id) (length objs) ids new → AreIds ids objs → AreIds new after
ids_added objs after x ids new is learnt are id =
    learnt id
    ∙ ap (λ p. cond (bytes_eq x.id id) (Some (option_map_or (min (length objs)) p (length objs))) p) (are id)
    ∙ sym (position_last (λ (y : Obj). bytes_eq y.id id) objs x)
    ∙ ap (position (λ (y : Obj). bytes_eq y.id id)) (sym is)

module _ (faces : List Face) (name : List ℕ) (x : Obj) (s new : Loading) (added : IsAdded faces name x s new) where
  longer_by_one : length new.objs ≡ length s.objs + 1
  longer_by_one = ap (λ l. length l) added.objs ∙ length-append s.objs (x ∷ [])

  below_more : (ts : List ℕ) → AreBelow (length s.objs) ts → AreBelow (length new.objs) ts
  below_more ts h = all_more (λ t. t < length s.objs) (λ t. t < length new.objs) ts (λ t b. omega (arith, b, longer_by_one)) h

  pub safe_added : IsSafe faces s → length s.objs < MOST_OBJECTS → x.face < length faces → x.loader < length s.objs → x.phase ≡ s.phase → IsSafe faces new
  safe_added safe room face loader phase = record {
    program = omega (arith, longer_by_one);
    few = omega (arith, longer_by_one, room);
    known = learnt_within (λ n. is_named added.face.soname n || bytes_eq name n) (length s.objs) (length new.objs) s.known new.known added.known (omega (arith, longer_by_one)) (λ n j e. let b = safe.known n j e in omega (arith, b, longer_by_one));
    ids = ids_added s.objs new.objs x s.ids new.ids added.objs added.ids safe.ids;
    faces_within = subst (λ l. All (λ y. y.face < length faces) l) (sym added.objs) (all_push (λ y. y.face < length faces) s.objs x safe.faces_within face);
    own = λ y g. elim (pushed_get s.objs x 0 y (ap (λ l. slice_get l 0) (sym added.objs) ∙ g)) [
      | inl h ↦ safe.own y h
      | inr h ↦ absurd (let some = safe.program in omega (arith, some, h.0))
    ];
    smaller = λ j y pos g. elim (pushed_get s.objs x j y (ap (λ l. slice_get l j) (sym added.objs) ∙ g)) [
      | inl h ↦ safe.smaller j y pos h
      | inr h ↦ subst (λ k. y.loader < k) (sym h.0) (subst (λ (z : Obj). z.loader < length s.objs) h.1 loader)
    ];
    phases = subst (λ l. All (λ y. y.phase ≤ new.phase) l) (sym added.objs) (subst (λ p. All (λ y. y.phase ≤ p) (s.objs ++ x ∷ [])) (sym added.phase) (all_push (λ y. y.phase ≤ s.phase) s.objs x safe.phases (omega (arith, phase))));
    walked = subst (λ l. length l ≤ length new.objs) (sym added.targets) (let w = safe.walked in omega (arith, w, longer_by_one));
    targets = subst (λ l. All (AreBelow (length new.objs)) l) (sym added.targets) (all_more (AreBelow (length s.objs)) (AreBelow (length new.objs)) s.targets below_more safe.targets);
    counts = λ k y f ts gx gf gt.
        let there : slice_get s.targets k ≡ Some ts = ap (λ l. slice_get l k) (sym added.targets) ∙ gt in
        let inside = slice_get_within s.targets k ts there in
        elim (pushed_get s.objs x k y (ap (λ l. slice_get l k) (sym added.objs) ∙ gx)) [
          | inl h ↦ safe.counts k y f ts h gf there
          | inr h ↦ absurd (let w = safe.walked in omega (arith, w, inside, h.0))
        ];
  }

  pub asking_added : x.phase ≡ s.phase → IsAsking s new
  asking_added phase = record {
    objs = ap (take (length s.objs)) added.objs ∙ pushed_front s.objs (x ∷ []);
    longer = omega (arith, longer_by_one);
    targets = added.targets;
    phase = added.phase;
    new_phase = λ j y from g. elim (pushed_get s.objs x j y (ap (λ l. slice_get l j) (sym added.objs) ∙ g)) [
      | inl h ↦ absurd (let inside = slice_get_within s.objs j y h in omega (arith, from, inside))
      | inr h ↦ ap (λ (z : Obj). z.phase) (sym h.1) ∙ phase
    ];
  }

  pub within_added : length s.objs < length new.objs
  within_added = omega (arith, longer_by_one)

-- ---- the object that a request goes to

module _ (faces : List Face) (s new : Loading) (loaded : Loaded) (st : Stands faces s loaded) (r : Request) (o : Object) where
  same_id : (id : List ℕ) → o.id ≡ id → position (λ x. bytes_eq x.id id) s.objs ≡ first_place (λ j x. bytes_eq x.id o.id) 0 loaded.objs
  same_id id e = same_place (λ (x : Obj). bytes_eq x.id id) (λ j x. bytes_eq x.id o.id) s.objs loaded.objs st.objects.count (λ j x p g h. sym (ap (λ i. bytes_eq i o.id) (st.objects.each j x p g h).1 ∙ ap (bytes_eq x.id) e))

  pub taken_known : (id : List ℕ) (i : ℕ) → o.id ≡ id → position (λ x. bytes_eq x.id id) s.objs ≡ Some i → i < length s.objs → new.objs ≡ s.objs → IsLearnt (bytes_eq r.name) i s.known new.known → IsTaken faces new loaded r o (Ok i)
  taken_known id i e at below objs learnt = (
    Known i,
    refl,
    stands_known faces s new loaded st r i (let c = st.objects.count in omega (arith, below, c)) objs learnt,
    λ search. ap (by_id (TooManyObjects (start_path loaded)) MOST_OBJECTS search loaded.objs o) (sym (same_id id e) ∙ at),
  )

  pub taken_added : (x : Obj) → IsSafe faces s → o.path ≡ x.path → o.id ≡ x.id → slice_get faces x.face ≡ Some o.face → x.loader ≡ r.by → position (λ y. bytes_eq y.id x.id) s.objs ≡ None → length s.objs < MOST_OBJECTS → IsAdded faces r.name x s new → IsTaken faces new loaded r o (Ok (length s.objs))
  taken_added x safe path id face by none room added =
      let one : added.face ≡ o.face = same_some added.face o.face (sym added.stands ∙ face) in (
        Brought o,
        sym st.objects.count,
        stands_brought faces s new loaded st r x o safe.program path id face by added.objs (subst (λ (f : Face). IsLearnt (λ n. is_named f.soname n || bytes_eq r.name n) (length s.objs) s.known new.known) one added.known),
        λ search. ap (by_id (TooManyObjects (start_path loaded)) MOST_OBJECTS search loaded.objs o) (sym (same_id x.id id) ∙ none)
            ∙ ap (λ b. cond b (Ok (Brought o)) (Err (TooManyObjects (start_path loaded)))) (lt-ltb (length loaded.objs) MOST_OBJECTS (let c = st.objects.count in omega (arith, room, c))),
      )

  pub taken_not : (x : Obj) (path : List ℕ) → IsSafe faces s → o.id ≡ x.id → position (λ y. bytes_eq y.id x.id) s.objs ≡ None → MOST_OBJECTS ≤ length s.objs → option_map (λ y. y.path) (slice_get s.objs 0) ≡ Some path → IsTaken faces new loaded r o (Err (Overflows path))
  taken_not x path safe id none full first = (
    λ search. ap (by_id (TooManyObjects (start_path loaded)) MOST_OBJECTS search loaded.objs o) (sym (same_id x.id id) ∙ none)
        ∙ ap (λ b. cond b (Ok (Brought o)) (Err (TooManyObjects (start_path loaded)))) (le-ltb (length loaded.objs) MOST_OBJECTS (let c = st.objects.count in omega (arith, full, c)))
        ∙ ap (λ p. Err (TooManyObjects p)) (path_is faces s.objs loaded.objs (record { by = 0; name = r.name }) path safe.program st.objects first),
    λ e. cc,
  )
