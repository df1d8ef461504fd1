-- What all references of a run bind to, symbol after symbol; that the numbers of bindings are in
-- range.
use Rattle.std.proofs.Common.{◌≡◌, ◌∙◌, sym, ap, refl, subst, ℕ, zero, suc, ◌+◌, ◌<◌, ◌≤◌, List, [], ◌∷◌, ◌++◌, Bool, true, false, cond, Option, Some, None, is_some, IfSome, All, map, slice_get, drop, length, arith, append_assoc}
use Rattle.std.specs.List.{enumerate_from, flat_map, position_from}
use Rattle.std.specs.Option.{option_and_then, option_map}
use Rattle.std.proofs.lemmas.List.{append-nil}
use Rattle.std.proofs.lemmas.List.Concat.{flat_map-append}
use Rattle.std.proofs.lemmas.List.Elements.{All-append, All-cons, All-nil}
use Rattle.answers.specs.First.{first_some}
use Rattle.load_model.specs.Bindings.{IsBindOver, all_binds, bind_of, binds_itself, binds_of_object, binds_of_symbol, bound_by, bound_to, classes_of, first_offer, looked_in, may_copy, offer_at, offered_by, symbol_at, syms_in, wanted_version}
use Rattle.load_model.specs.LoadList.{up_to}
use Rattle.load_model.specs.Offers.{Offered, is_accepted, offer_of, real_syms}
use Rattle.load_model.specs.Runs.{face_at}
use Rattle.load_model.specs.Scopes.{scope_of}
use Rattle.load_model.specs.SymbolWords.{is_shared}
use Rattle.load_model.specs.declared.faces.Face.{Face}
use Rattle.load_model.specs.declared.runs.Bind.{Bind}
use Rattle.load_model.specs.declared.runs.Def.{Def}
use Rattle.load_model.specs.declared.runs.Run.{Run}
use Rattle.load_model.specs.declared.symbols.Class.{Class}
use Rattle.load_model.specs.declared.symbols.Class.TheVariants.{Plain, Call, Copy}
use Rattle.load_model.specs.declared.symbols.Sym.{Sym}
use Rattle.loader_replay.specs.Binding.{binds_at, binds_by, object_symbol_count}

-- elements of lists that are numbered or put together
pub there : {X : Type 0} (xs : List X) (k : ℕ) → k < length xs → (x : X) × (slice_get xs k ≡ Some x)
there [] k h = absurd (omega arith)
there (x ∷ xs) zero h = (x, refl)
there (x ∷ xs) (suc k) h = there xs k (omega arith)

pub all_flat : {X A : Type 0} (P : A → Type 0) (f : X → List A) (xs : List X) → ((i : ℕ) (x : X) → slice_get xs i ≡ Some x → All P (f x)) → All P (flat_map f xs)
all_flat P f [] h = All-nil P
all_flat P f (x ∷ xs) h = All-append P (f x) (flat_map f xs) (h 0 x refl) (all_flat P f xs (λ i y g. h (suc i) y g))

pub all_map : {X A : Type 0} (P : A → Type 0) (f : X → A) (xs : List X) → ((i : ℕ) (x : X) → slice_get xs i ≡ Some x → P (f x)) → All P (map f xs)
all_map P f [] h = All-nil P
all_map P f (x ∷ xs) h = All-cons P (f x) (map f xs) (h 0 x refl) (all_map P f xs (λ i y g. h (suc i) y g))

pub numbered : {X : Type 0} (xs : List X) (k i : ℕ) (p : ℕ × X) → slice_get (enumerate_from k xs) i ≡ Some p → (p.0 ≡ k + i) × (slice_get xs i ≡ Some p.1)
numbered [] k i p h = absurd (cc)
numbered {X} (x ∷ xs) k zero p h =
    let pair : ℕ × X = (k, x) in
    let e : pair ≡ p = cc in
    let same : k ≡ k + 0 = omega arith in
    (ap (λ (q : ℕ × X). q.0) (sym e) ∙ same, ap (λ (q : ℕ × X). Some q.1) e)
numbered (x ∷ xs) k (suc i) p h =
    let rest = numbered xs (k + 1) i p h in
    let same : k + 1 + i ≡ k + suc i = omega arith in
    (rest.0 ∙ same, rest.1)

real_numbered : (syms : List Sym) (i : ℕ) (p : ℕ × Sym) → slice_get (drop 1 (enumerate_from 0 syms)) i ≡ Some p → slice_get syms p.0 ≡ Some p.1
real_numbered [] i p h = absurd (cc)
real_numbered (x ∷ xs) i p h =
    let n = numbered xs (0 + 1) i p h in
    let same : 0 + 1 + i ≡ suc i = omega arith in
    ap (λ k. slice_get (x ∷ xs) k) (n.0 ∙ same) ∙ n.1

left_here : (syms : List Sym) (k i : ℕ) (s : Sym) → slice_get syms i ≡ Some s → drop i (enumerate_from k syms) ≡ (k + i, s) ∷ drop (suc i) (enumerate_from k syms)
left_here [] k i s h = absurd (cc)
left_here (x ∷ xs) k zero s h =
    let e : x ≡ s = cc in
    let same : k ≡ k + 0 = omega arith in
    ap (λ n. (n, x) ∷ enumerate_from (k + 1) xs) same ∙ ap (λ y. (k + 0, y) ∷ enumerate_from (k + 1) xs) e
left_here (x ∷ xs) k (suc i) s h =
    let same : k + 1 + i ≡ k + suc i = omega arith in
    left_here xs (k + 1) i s h ∙ ap (λ n. (n, s) ∷ drop (suc i) (enumerate_from (k + 1) xs)) same

left_none : (syms : List Sym) (k i : ℕ) → length syms ≤ i → drop i (enumerate_from k syms) ≡ []
left_none [] k zero h = refl
left_none [] k (suc i) h = refl
left_none (x ∷ xs) k zero h = absurd (omega arith)
left_none (x ∷ xs) k (suc i) h = left_none xs (k + 1) i (omega arith)

-- the first that is there is one of them
first_here : {A : Type 0} (g : ℕ → Option A) (k : ℕ) (ks : List ℕ) (d : A) (o : Option A) → g k ≡ o → first_some (o ∷ map g ks) ≡ Some d → (first_some (map g ks) ≡ Some d → (j : ℕ) × (g j ≡ Some d)) → (j : ℕ) × (g j ≡ Some d)
first_here g k ks d None is h more = more h
first_here g k ks d (Some x) is h more = (k, is ∙ h)

first_there : {A : Type 0} (g : ℕ → Option A) (ks : List ℕ) (d : A) → first_some (map g ks) ≡ Some d → (j : ℕ) × (g j ≡ Some d)
first_there g [] d h = absurd (cc)
first_there g (k ∷ ks) d h = first_here g k ks d (g k) refl h (first_there g ks d)

-- an offer is the index of a symbol
placed : {X : Type 0} (test : X → Bool) (k i : ℕ) (xs : List X) → position_from test k xs ≡ Some i → i < k + length xs
placed test k i [] h = absurd (cc)
placed test k i (x ∷ xs) h = go (test x) h (placed test (k + 1) i xs)
  where
    go : (b : Bool) → cond b (Some k) (position_from test (k + 1) xs) ≡ Some i → (position_from test (k + 1) xs ≡ Some i → i < k + 1 + length xs) → i < k + suc (length xs)
    go true e more = let same : k ≡ i = cc in omega arith
    go false e more = let less : i < k + 1 + length xs = more e in omega arith

real_placed : (test : Sym → Bool) (i : ℕ) (syms : List Sym) → position_from test 1 (drop 1 syms) ≡ Some i → i < length syms
real_placed test i [] h = absurd (cc)
real_placed test i (x ∷ xs) h = let less : i < 1 + length xs = placed test 1 i xs h in omega arith

offered_there : (o : Offered) (name : List ℕ) (version : Option (List ℕ)) (class : Class) (i : ℕ) → offer_of o name version class ≡ Some i → i < length o.syms
unfolding offer_of
offered_there o name version class i h = real_placed (is_accepted (real_syms o.syms) name class o.versioned version) i o.syms h

in_syms : (o : Option Face) (i : ℕ) → option_and_then (λ (face : Face). slice_get face.syms i) o ≡ slice_get (syms_in o) i
in_syms None i = refl
in_syms (Some face) i = refl

each_if : {A : Type 0} (P : A → Type 0) (o : Option A) → ((d : A) → o ≡ Some d → P d) → IfSome o P
each_if P None h = tt
each_if P (Some d) h = h d refl

module _ (faces : List Face) (run : Run) where
  -- object after object
  pub binds_yet : (binds : List Bind) → binds ≡ [] → binds ≡ flat_map (binds_of_object faces run) (up_to 0)
  unfolding up_to
  binds_yet binds e = e

  pub binds_more : (n : ℕ) (old binds : List Bind) → old ≡ flat_map (binds_of_object faces run) (up_to n) → binds ≡ old ++ binds_of_object faces run n → binds ≡ flat_map (binds_of_object faces run) (up_to (n + 1))
  unfolding up_to
  binds_more n old binds h e =
      let f : ℕ → List Bind = binds_of_object faces run in
      let up : suc n ≡ n + 1 = omega arith in
      e ∙ ap (λ xs. xs ++ f n) h ∙ ap (λ xs. flat_map f (up_to n) ++ xs) (sym (append-nil (f n)))
      ∙ sym (flat_map-append f (up_to n) (n ∷ [])) ∙ ap (λ k. flat_map f (up_to k)) up

  pub binds_all : (n : ℕ) (binds : List Bind) → n ≡ length run.objs → binds ≡ flat_map (binds_of_object faces run) (up_to n) → binds ≡ all_binds faces run
  unfolding all_binds
  binds_all n binds same h = h ∙ ap (λ k. flat_map (binds_of_object faces run) (up_to k)) same

  -- symbol after symbol: what is left of an object from an index on
  abbrev pub left_from : ℕ → ℕ → List Bind
  left_from j i = flat_map (λ numbered. binds_of_symbol faces run j numbered.0 numbered.1) (drop i (enumerate_from 0 (syms_in (face_at faces run j))))

  pub object_begun : (j : ℕ) (old : List Bind) → old ++ left_from j 1 ≡ old ++ binds_of_object faces run j
  unfolding binds_of_object
  object_begun j old = refl

  pub object_more : (j i : ℕ) (old binds start : List Bind) → i < object_symbol_count faces run j → binds ≡ old ++ binds_at faces run j i → old ++ left_from j i ≡ start → binds ++ left_from j (i + 1) ≡ start
  unfolding binds_at
  object_more j i old binds start less e h =
      let syms : List Sym = syms_in (face_at faces run j) in
      let s = there syms i less in
      let at : symbol_at faces run j i ≡ Some s.0 = in_syms (face_at faces run j) i ∙ s.1 in
      let mine : List Bind = binds_of_symbol faces run j i s.0 in
      let f : (ℕ × Sym) → List Bind = λ numbered. binds_of_symbol faces run j numbered.0 numbered.1 in
      let same : 0 + i ≡ i = omega arith in
      let up : i + 1 ≡ suc i = omega arith in
      let row : left_from j i ≡ mine ++ left_from j (suc i) =
      ap (flat_map f) (left_here syms 0 i s.0 s.1) ∙ ap (λ k. binds_of_symbol faces run j k s.0 ++ left_from j (suc i)) same in
      ap (λ xs. xs ++ left_from j (i + 1)) (e ∙ ap (λ o. old ++ binds_by faces run j i o) at) ∙ append_assoc old mine (left_from j (i + 1))
      ∙ ap (λ k. old ++ (mine ++ left_from j k)) up ∙ ap (λ xs. old ++ xs) (sym row) ∙ h

  pub object_done : (j i : ℕ) (binds start : List Bind) → object_symbol_count faces run j ≤ i → binds ++ left_from j i ≡ start → binds ≡ start
  object_done j i binds start past h =
      sym (append-nil binds)
      ∙ ap (λ xs. binds ++ flat_map (λ (numbered : ℕ × Sym). binds_of_symbol faces run j numbered.0 numbered.1) xs) (sym (left_none (syms_in (face_at faces run j)) 0 i past))
      ∙ h

  pub symbol_in : (j i : ℕ) → i < object_symbol_count faces run j → is_some (symbol_at faces run j i) ≡ true
  symbol_in j i less = ap is_some (in_syms (face_at faces run j) i ∙ (there (syms_in (face_at faces run j)) i less).1)

  -- class after class
  shared_binds : (j i : ℕ) (s : Sym) (copies : Bool) → symbol_at faces run j i ≡ Some s → is_shared s.binding ≡ true → may_copy j s ≡ copies → binds_at faces run j i ≡ map (bind_of faces run j i) (cond copies (Call ∷ Copy ∷ Plain ∷ []) (Call ∷ Plain ∷ []))
  unfolding binds_at
  shared_binds j i s copies at shared may =
      ap (binds_by faces run j i) at ∙ ap (λ b. cond b (map (bind_of faces run j i) (classes_of j s)) []) shared
      ∙ ap (λ b. map (bind_of faces run j i) (cond b (Call ∷ Copy ∷ Plain ∷ []) (Call ∷ Plain ∷ []))) may

  pub copies_added : (j i : ℕ) (s : Sym) (old one two all : List Bind) → symbol_at faces run j i ≡ Some s → is_shared s.binding ≡ true → may_copy j s ≡ true → one ≡ old ++ bind_of faces run j i Call ∷ [] → two ≡ one ++ bind_of faces run j i Copy ∷ [] → all ≡ two ++ bind_of faces run j i Plain ∷ [] → all ≡ old ++ binds_at faces run j i
  copies_added j i s old one two all at shared may e f g =
      let b : Class → Bind = bind_of faces run j i in
      g ∙ ap (λ xs. xs ++ b Plain ∷ []) (f ∙ ap (λ xs. xs ++ b Copy ∷ []) e)
      ∙ append_assoc (old ++ b Call ∷ []) (b Copy ∷ []) (b Plain ∷ []) ∙ append_assoc old (b Call ∷ []) (b Copy ∷ b Plain ∷ [])
      ∙ ap (λ xs. old ++ xs) (sym (shared_binds j i s true at shared may))

  pub plain_added : (j i : ℕ) (s : Sym) (old one all : List Bind) → symbol_at faces run j i ≡ Some s → is_shared s.binding ≡ true → may_copy j s ≡ false → one ≡ old ++ bind_of faces run j i Call ∷ [] → all ≡ one ++ bind_of faces run j i Plain ∷ [] → all ≡ old ++ binds_at faces run j i
  plain_added j i s old one all at shared may e g =
      let b : Class → Bind = bind_of faces run j i in
      g ∙ ap (λ xs. xs ++ b Plain ∷ []) e ∙ append_assoc old (b Call ∷ []) (b Plain ∷ [])
      ∙ ap (λ xs. old ++ xs) (sym (shared_binds j i s false at shared may))

  pub none_added : (j i : ℕ) (s : Sym) (old : List Bind) → symbol_at faces run j i ≡ Some s → is_shared s.binding ≡ false → old ≡ old ++ binds_at faces run j i
  unfolding binds_at
  none_added j i s old at shared =
      sym (append-nil old)
      ∙ ap (λ xs. old ++ xs) (sym (ap (binds_by faces run j i) at ∙ ap (λ b. cond b (map (bind_of faces run j i) (classes_of j s)) []) shared))

  -- what a reference binds to is a symbol of an object of the run
  offer_over : (face : Face) (k i : ℕ) (r : Option ℕ) (d : Def) (name : List ℕ) (version : Option (List ℕ)) (class : Class) → face_at faces run k ≡ Some face → offer_of (offered_by face) name version class ≡ r → option_map (λ n. record { obj = k; sym = n }) r ≡ Some d → is_some (symbol_at faces run d.obj d.sym) ≡ true
  offer_over face k i None d name version class at is h = absurd (cc)
  offer_over face k i (Some n) d name version class at is h =
      let s = there face.syms n (offered_there (offered_by face) name version class n is) in
      let here : is_some (symbol_at faces run k n) ≡ true = ap is_some (ap (option_and_then (λ (f : Face). slice_get f.syms n)) at ∙ s.1) in
      let def : Def = record { obj = k; sym = n } in
      let same : def ≡ d = cc in
      subst (λ (x : Def). is_some (symbol_at faces run x.obj x.sym) ≡ true) same here

  found_over : (o : Option Face) (k : ℕ) (d : Def) (name : List ℕ) (version : Option (List ℕ)) (class : Class) → face_at faces run k ≡ o → option_map (λ n. record { obj = k; sym = n }) (option_and_then (λ (face : Face). offer_of (offered_by face) name version class) o) ≡ Some d → is_some (symbol_at faces run d.obj d.sym) ≡ true
  found_over None k d name version class at h = absurd (cc)
  found_over (Some face) k d name version class at h = offer_over face k 0 (offer_of (offered_by face) name version class) d name version class at refl h

  bound_over : (j i : ℕ) (class : Class) (s : Sym) (b : Bool) (d : Def) → symbol_at faces run j i ≡ Some s → cond b (Some (record { obj = j; sym = i })) (first_offer faces run (looked_in class (scope_of faces run j)) s.name (wanted_version s.version) class) ≡ Some d → is_some (symbol_at faces run d.obj d.sym) ≡ true
  unfolding first_offer
  bound_over j i class s true d at h =
      let def : Def = record { obj = j; sym = i } in
      let same : def ≡ d = cc in
      subst (λ (x : Def). is_some (symbol_at faces run x.obj x.sym) ≡ true) same (ap is_some at)
  bound_over j i class s false d at h =
      let k = first_there (offer_at faces run s.name (wanted_version s.version) class) (looked_in class (scope_of faces run j)) d h in
      found_over (face_at faces run k.0) k.0 d s.name (wanted_version s.version) class refl k.1

  bind_over : (j i : ℕ) (class : Class) (s : Sym) → symbol_at faces run j i ≡ Some s → IsBindOver faces run (bind_of faces run j i class)
  unfolding bound_to
  bind_over j i class s at =
      record {
        reference = ap is_some at;
        target = each_if (λ (d : Def). is_some (symbol_at faces run d.obj d.sym) ≡ true) (bound_to faces run j i class)
            (λ d h. bound_over j i class s (binds_itself class s) d at (sym (ap (bound_by faces run j i class) at) ∙ h));
      }

  classes_over : (j i : ℕ) (s : Sym) (b : Bool) → symbol_at faces run j i ≡ Some s → All (IsBindOver faces run) (cond b (map (bind_of faces run j i) (classes_of j s)) [])
  classes_over j i s true at = all_map (IsBindOver faces run) (bind_of faces run j i) (classes_of j s) (λ k class h. bind_over j i class s at)
  classes_over j i s false at = All-nil (IsBindOver faces run)

  object_over : (j : ℕ) → All (IsBindOver faces run) (binds_of_object faces run j)
  unfolding binds_of_object
  object_over j =
      let syms : List Sym = syms_in (face_at faces run j) in
      all_flat (IsBindOver faces run) (λ (p : ℕ × Sym). binds_of_symbol faces run j p.0 p.1) (drop 1 (enumerate_from 0 syms))
      (λ k p h. classes_over j p.0 p.1 (is_shared p.1.binding) (in_syms (face_at faces run j) p.0 ∙ real_numbered syms k p h))

  all_over : All (IsBindOver faces run) (all_binds faces run)
  unfolding all_binds
  all_over = all_flat (IsBindOver faces run) (binds_of_object faces run) (up_to (length run.objs)) (λ k j h. object_over j)

  pub binds_over : (binds : List Bind) → binds ≡ all_binds faces run → All (IsBindOver faces run) binds
  binds_over binds e = subst (All (IsBindOver faces run)) (sym e) all_over
