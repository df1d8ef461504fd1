-- One request more: what is loaded after it.
use Rattle.std.proofs.Common.{◌≡◌, ◌∙◌, sym, ap, refl, subst, ℕ, zero, suc, ◌+◌, ◌<◌, ◌≤◌, ◌⊎◌, List, [], ◌∷◌, ◌++◌, Bool, true, false, cond, ltb, ◌==◌, ◌&&◌, ◌||◌, Some, length, slice_get, arith, inl, inr, length-append, min}
use Rattle.std.specs.List.{list_any}
use Rattle.std.specs.Option.{option_map_or}
use Rattle.std.specs.Str.{bytes_eq}
use Rattle.std.proofs.lemmas.Bool.{cases_Bool, eq-eqb, ne_eqb, ltb-false, ltb-true, or_left, or_right}
use Rattle.std.proofs.lemmas.List.Folds.{list_any-append}
use Rattle.std.proofs.lemmas.Option.{slice_get_within}
use Rattle.load_model.specs.Candidates.{loader_in}
use Rattle.load_model.specs.LoadList.{Asked, Brought, Known, Loaded, Object, Request, first_place, is_known, is_named, with_found}
use Rattle.load_model.specs.Runs.{AreObjects, loader_of}
use Rattle.load_model.specs.declared.faces.Face.{Face}
use Rattle.load_model.specs.declared.runs.Obj.{Obj}
use Rattle.load_requests.specs.Known.{IsLearnt, first_known}
use Rattle.load_requests.specs.Standing.{Stands}
use Rattle.load_requests.specs.declared.loading.Loading.{Loading}
use Rattle.load_requests.proofs.AskingPlaces.{all_at, all_more, all_push, pushed_get}
use Rattle.load_requests.proofs.FirstLemmas.{place_last, place_more}

-- ---- loaders

loader_stays : (log more : List Asked) (j : ℕ) → list_any (λ a. a.target == j) log ≡ true → loader_in (log ++ more) j ≡ loader_in log j
unfolding loader_in
loader_stays [] more j h = cc
loader_stays (a ∷ log) more j h = elim (cases_Bool (a.target == j)) [
  | inl t ↦ ap (λ b. cond b a.request.by (loader_in (log ++ more) j)) t ∙ sym (ap (λ b. cond b a.request.by (loader_in log j)) t)
  | inr f ↦ ap (λ b. cond b a.request.by (loader_in (log ++ more) j)) f ∙ loader_stays log more j (sym (ap (λ b. b || list_any (λ a. a.target == j) log) f) ∙ h) ∙ sym (ap (λ b. cond b a.request.by (loader_in log j)) f)
]

loader_last : (log : List Asked) (a : Asked) → ((i : ℕ) (b : Asked) → slice_get log i ≡ Some b → b.target < a.target) → loader_in (log ++ a ∷ []) a.target ≡ a.request.by
unfolding loader_in
loader_last [] a h = ap (λ b. cond b a.request.by 0) (eq-eqb a.target a.target refl)
loader_last (x ∷ log) a h =
    let less = h 0 x refl in
    ap (λ b. cond b x.request.by (loader_in (log ++ a ∷ []) a.target)) (ne_eqb x.target a.target (λ e. omega (arith, e, less)))
    ∙ loader_last log a (λ i b g. h (suc i) b g)

of_log_stays : (log more : List Asked) (j : ℕ) → (0 < j → list_any (λ a. a.target == j) log ≡ true) → loader_of (log ++ more) j ≡ loader_of log j
of_log_stays log more zero h = refl
of_log_stays log more (suc j) h = loader_stays log more (suc j) (h (omega arith))

of_log_last : (log : List Asked) (a : Asked) (j : ℕ) → 0 < j → a.target ≡ j → ((i : ℕ) (b : Asked) → slice_get log i ≡ Some b → b.target < j) → loader_of (log ++ a ∷ []) j ≡ a.request.by
of_log_last log a zero pos e h = absurd (omega (arith, pos))
of_log_last log a (suc j) pos e h = ap (loader_in (log ++ a ∷ [])) (sym e) ∙ loader_last log a (λ i b g. subst (λ k. b.target < k) (sym e) (h i b g))

-- ---- names

or_swap : (x y z : Bool) → ((x || (z || false)) || y) ≡ ((x || y) || z)
or_swap true true true = refl
or_swap true true false = refl
or_swap true false true = refl
or_swap true false false = refl
or_swap false true true = refl
or_swap false true false = refl
or_swap false false true = refl
or_swap false false false = refl

known_more : (log : List Asked) (a : Asked) (n : List ℕ) (j : ℕ) (o : Object) → is_known (log ++ a ∷ []) n j o ≡ (is_known log n j o || (bytes_eq a.request.name n && (a.target == j)))
known_more log a n j o =
    ap (λ b. b || is_named o.face.soname n) (list_any-append (λ b. bytes_eq b.request.name n && (b.target == j)) log (a ∷ []))
    ∙ or_swap (list_any (λ b. bytes_eq b.request.name n && (b.target == j)) log) (is_named o.face.soname n) (bytes_eq a.request.name n && (a.target == j))

or_none : (x y : Bool) → y ≡ false → (x || y) ≡ x
or_none true y h = refl
or_none false y h = h

and_no : (x y : Bool) → y ≡ false → (x && y) ≡ false
and_no true y h = h
and_no false y h = refl

and_yes : (x y : Bool) → y ≡ true → (x && y) ≡ x
and_yes true y h = h
and_yes false y h = refl

none_goes : (log : List Asked) (n : List ℕ) (k : ℕ) → ((i : ℕ) (b : Asked) → slice_get log i ≡ Some b → b.target < k) → list_any (λ a. bytes_eq a.request.name n && (a.target == k)) log ≡ false
none_goes [] n k h = refl
none_goes (a ∷ log) n k h =
    let less = h 0 a refl in
    ap (λ b. b || list_any (λ a. bytes_eq a.request.name n && (a.target == k)) log) (and_no (bytes_eq a.request.name n) (a.target == k) (ne_eqb a.target k (λ e. omega (arith, e, less))))
    ∙ none_goes log n k (λ i b g. h (suc i) b g)

-- ---- a request that went to an object that is loaded

module _ (faces : List Face) (s new : Loading) (loaded : Loaded) (st : Stands faces s loaded) (r : Request) where
  pub stands_known : (i : ℕ) → i < length loaded.objs → new.objs ≡ s.objs → IsLearnt (bytes_eq r.name) i s.known new.known → Stands faces new (with_found loaded r (Known i))
  stands_known i below objs learnt = record {
    objects = subst (λ os. AreObjects faces os loaded.objs) (sym objs) st.objects;
    names = λ n.
        learnt n
        ∙ ap (λ p. cond (bytes_eq r.name n) (Some (option_map_or (min i) p i)) p) (st.names n)
        ∙ sym (place_more (bytes_eq r.name n) (is_known loaded.log n) (is_known (loaded.log ++ record { request = r; target = i } ∷ []) n) i loaded.objs below (λ j o g. known_more loaded.log (record { request = r; target = i }) n j o));
    loaders = λ j x g.
        let there : slice_get s.objs j ≡ Some x = ap (λ os. slice_get os j) (sym objs) ∙ g in
        let inside = slice_get_within s.objs j x there in
        st.loaders j x there ∙ sym (of_log_stays loaded.log (record { request = r; target = i } ∷ []) j (λ pos. st.brought j pos (omega (arith, inside, st.objects.count))));
    within = all_push (λ a. a.target < length loaded.objs) loaded.log (record { request = r; target = i }) st.within below;
    brought = λ j pos b. list_any-append (λ a. a.target == j) loaded.log (record { request = r; target = i } ∷ []) ∙ or_left (list_any {X = Asked} (λ a. a.target == j) loaded.log) (list_any {X = Asked} (λ a. a.target == j) (record { request = r; target = i } ∷ [])) (st.brought j pos b);
  }

-- ---- a request that brought an object

cases_below : (j n : ℕ) → (j < n) ⊎ (n ≤ j)
cases_below j n = elim (cases_Bool (ltb j n)) [
  | inl t ↦ inl (ltb-true j n t)
  | inr f ↦ inr (ltb-false j n f)
]

module _ (faces : List Face) (s new : Loading) (loaded : Loaded) (st : Stands faces s loaded) (r : Request) (x : Obj) (o : Object) where
  abbrev last : Asked
  last = record { request = r; target = length loaded.objs }

  count_is : length loaded.objs ≡ length s.objs
  count_is = st.objects.count

  below_last : (i : ℕ) (b : Asked) → slice_get loaded.log i ≡ Some b → b.target < length loaded.objs
  below_last i b g = all_at (λ a. a.target < length loaded.objs) loaded.log i b st.within g

  old_or_new : {A B : Type 0} (xs : List A) (ys : List B) (y : A) (z : B) (j : ℕ) (u : A) (v : B) → length ys ≡ length xs → slice_get (xs ++ y ∷ []) j ≡ Some u → slice_get (ys ++ z ∷ []) j ≡ Some v → ((slice_get xs j ≡ Some u) × (slice_get ys j ≡ Some v)) ⊎ ((j ≡ length xs) × (y ≡ u) × (z ≡ v))
  old_or_new xs ys y z j u v e g h = elim (pushed_get xs y j u g) [
    | inl p ↦ elim (pushed_get ys z j v h) [
      | inl q ↦ inl (p, q)
      | inr q ↦ absurd (let inside = slice_get_within xs j u p in omega (arith, inside, q.0, e))
    ]
    | inr p ↦ elim (pushed_get ys z j v h) [
      | inl q ↦ absurd (let inside = slice_get_within ys j v q in omega (arith, inside, p.0, e))
      | inr q ↦ inr (p.0, p.1, q.1)
    ]
  ]

  objects_brought : (o.path ≡ x.path) → (o.id ≡ x.id) → (slice_get faces x.face ≡ Some o.face) → AreObjects faces (s.objs ++ x ∷ []) (loaded.objs ++ o ∷ [])
  objects_brought path id face = record {
    count = length-append loaded.objs (o ∷ []) ∙ ap (λ n. n + 1) count_is ∙ sym (length-append s.objs (x ∷ []));
    each = λ j y p g h. elim (old_or_new s.objs loaded.objs x o j y p count_is g h) [
      | inl w ↦ st.objects.each j y p w.0 w.1
      | inr w ↦ (sym (ap (λ (q : Object). q.path) w.2) ∙ path ∙ ap (λ (q : Obj). q.path) w.1, sym (ap (λ (q : Object). q.id) w.2) ∙ id ∙ ap (λ (q : Obj). q.id) w.1, ap (λ (q : Obj). slice_get faces q.face) (sym w.1) ∙ face ∙ ap (λ (q : Object). Some q.face) w.2)
    ];
  }

  -- the name is known now where it is the soname or the one that was asked for
  known_last : (n : List ℕ) → is_known (loaded.log ++ last ∷ []) n (length loaded.objs) o ≡ (is_named o.face.soname n || bytes_eq r.name n)
  known_last n =
      known_more loaded.log last n (length loaded.objs) o
      ∙ ap (λ b. (b || is_named o.face.soname n) || (bytes_eq r.name n && (length loaded.objs == length loaded.objs))) (none_goes loaded.log n (length loaded.objs) below_last)
      ∙ ap (λ b. is_named o.face.soname n || b) (and_yes (bytes_eq r.name n) (length loaded.objs == length loaded.objs) (eq-eqb (length loaded.objs) (length loaded.objs) refl))

  known_still : (n : List ℕ) (j : ℕ) (p : Object) → slice_get loaded.objs j ≡ Some p → is_known (loaded.log ++ last ∷ []) n j p ≡ is_known loaded.log n j p
  known_still n j p g =
      let inside = slice_get_within loaded.objs j p g in
      known_more loaded.log last n j p
      ∙ or_none (is_known loaded.log n j p) (bytes_eq r.name n && (length loaded.objs == j)) (and_no (bytes_eq r.name n) (length loaded.objs == j) (ne_eqb (length loaded.objs) j (λ e. omega (arith, e, inside))))

  names_brought : IsLearnt (λ n. is_named o.face.soname n || bytes_eq r.name n) (length s.objs) s.known new.known → (n : List ℕ) → first_known n new.known ≡ first_place (is_known (loaded.log ++ last ∷ []) n) 0 (loaded.objs ++ o ∷ [])
  names_brought learnt n =
      learnt n
      ∙ ap (λ k. cond (is_named o.face.soname n || bytes_eq r.name n) (Some (option_map_or (min k) (first_known n s.known) k)) (first_known n s.known)) (sym count_is)
      ∙ ap (λ p. cond (is_named o.face.soname n || bytes_eq r.name n) (Some (option_map_or (min (length loaded.objs)) p (length loaded.objs))) p) (st.names n)
      ∙ ap (λ b. cond b (Some (option_map_or (min (length loaded.objs)) (first_place (is_known loaded.log n) 0 loaded.objs) (length loaded.objs))) (first_place (is_known loaded.log n) 0 loaded.objs)) (sym (known_last n))
      ∙ sym (place_last (is_known loaded.log n) (is_known (loaded.log ++ last ∷ []) n) loaded.objs o (known_still n))

  loaders_brought : 0 < length s.objs → x.loader ≡ r.by → (j : ℕ) (y : Obj) → slice_get (s.objs ++ x ∷ []) j ≡ Some y → y.loader ≡ loader_of (loaded.log ++ last ∷ []) j
  loaders_brought program by j y g = elim (pushed_get s.objs x j y g) [
    | inl w ↦ let inside = slice_get_within s.objs j y w in
        st.loaders j y w ∙ sym (of_log_stays loaded.log (last ∷ []) j (λ pos. st.brought j pos (omega (arith, inside, count_is))))
    | inr w ↦
        let at : length loaded.objs ≡ j = count_is ∙ sym w.0 in
        sym (ap (λ (q : Obj). q.loader) w.1) ∙ by ∙ sym (of_log_last loaded.log last j (omega (arith, program, w.0)) at (λ i b e. subst (λ k. b.target < k) at (below_last i b e)))
  ]

  brought_too : (j : ℕ) → 0 < j → j < length (loaded.objs ++ o ∷ []) → list_any (λ a. a.target == j) (loaded.log ++ last ∷ []) ≡ true
  brought_too j pos below =
      let size : length (loaded.objs ++ o ∷ []) ≡ length loaded.objs + 1 = length-append loaded.objs (o ∷ []) in
      list_any-append (λ a. a.target == j) loaded.log (last ∷ []) ∙ elim (cases_Bool (length loaded.objs == j)) [
        | inl t ↦ or_right (list_any (λ a. a.target == j) loaded.log) (list_any (λ a. a.target == j) (last ∷ [])) (or_left (length loaded.objs == j) false t)
        | inr f ↦ or_left (list_any (λ a. a.target == j) loaded.log) (list_any (λ a. a.target == j) (last ∷ [])) (st.brought j pos (elim (cases_below j (length loaded.objs)) [
          | inl b ↦ b
          | inr e ↦ absurd (let t = eq-eqb (length loaded.objs) j (let le : length loaded.objs ≡ j = omega (arith, e, below, size) in le) in cc)
        ]))
      ]

  pub stands_brought : 0 < length s.objs → (o.path ≡ x.path) → (o.id ≡ x.id) → (slice_get faces x.face ≡ Some o.face) → x.loader ≡ r.by → new.objs ≡ s.objs ++ x ∷ [] → IsLearnt (λ n. is_named o.face.soname n || bytes_eq r.name n) (length s.objs) s.known new.known → Stands faces new (with_found loaded r (Brought o))
  stands_brought program path id face by objs learnt =
      let size : length (loaded.objs ++ o ∷ []) ≡ length loaded.objs + 1 = length-append loaded.objs (o ∷ []) in
      record {
        objects = subst (λ os. AreObjects faces os (loaded.objs ++ o ∷ [])) (sym objs) (objects_brought path id face);
        names = names_brought learnt;
        loaders = λ j y g. loaders_brought program by j y (ap (λ l. slice_get l j) (sym objs) ∙ g);
        within = all_push (λ a. a.target < length (loaded.objs ++ o ∷ [])) loaded.log last (all_more (λ a. a.target < length loaded.objs) (λ a. a.target < length (loaded.objs ++ o ∷ [])) loaded.log (λ a b. omega (arith, b, size)) st.within) (omega (arith, size));
        brought = brought_too;
      }
