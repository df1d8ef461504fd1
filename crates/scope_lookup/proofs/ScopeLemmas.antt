-- The first offer of a scope, where each object counts at its first place.
use Rattle.std.proofs.Common.{◌≡◌, ◌∙◌, sym, ap, refl, subst, ℕ, zero, suc, ◌+◌, ◌<◌, ◌≤◌, ◌^◌, List, [], ◌∷◌, ◌++◌, Bool, true, false, cond, not, ◌==◌, ◌&&◌, nat_eq, Option, Some, None, is_some, IfSome, All, filter, map, slice_get, get_or, take, drop, length, arith, inl, inr, append_assoc, drop-cons}
use Rattle.std.specs.List.{list_any}
use Rattle.std.specs.Option.{option_and_then, option_copied, option_eq, option_map, option_or, option_to_list}
use Rattle.std.proofs.Math.Seq.{take-suc}
use Rattle.std.proofs.lemmas.Bool.{and_from, cases_lt, eq-eqb, eqb-true, not-false, or_cases}
use Rattle.std.proofs.lemmas.List.{append-nil, length-map, map-append, take-append-drop, take_all}
use Rattle.std.proofs.lemmas.Option.{slice_get-map, slice_get_read}
use Rattle.answers.specs.First.{first_some}
use Rattle.load_model.specs.Bindings.{binds_itself, bound_by, bound_to, first_offer, is_copy, looked_in, offer_at, offered_by, symbol_at, wanted_version}
use Rattle.load_model.specs.LoadList.{up_to, with_numbers}
use Rattle.load_model.specs.Opening.{AreFew, IsFew}
use Rattle.load_model.specs.Offers.{Offered, offer_of}
use Rattle.load_model.specs.Runs.{IsRunOver, face_at}
use Rattle.load_model.specs.Scopes.{is_symbolic_face, itself, local_of, scope_of}
use Rattle.load_model.specs.declared.faces.Face.{Face}
use Rattle.load_model.specs.declared.runs.Def.{Def}
use Rattle.load_model.specs.declared.runs.Obj.{Obj}
use Rattle.load_model.specs.declared.runs.Run.{Run}
use Rattle.load_model.specs.declared.symbols.Class.{Class}
use Rattle.load_model.specs.declared.symbols.Sym.{Sym}
use Rattle.scope_lookup.specs.declared.wanting.Wanted.{Wanted}
use Rattle.scope_lookup.specs.Finding.{IsSearchable, first_found_in, found_in_object, offer_in, offered_at}

some-append : {A : Type 0} (xs ys : List (Option A)) → first_some (xs ++ ys) ≡ option_or (first_some xs) (first_some ys)
some-append [] ys = refl
some-append (None ∷ xs) ys = some-append xs ys
some-append (Some x ∷ xs) ys = refl

one_of : {A : Type 0} (o : Option A) → first_some (o ∷ []) ≡ o
one_of None = refl
one_of (Some x) = refl

or_none : {A : Type 0} (o r : Option A) → option_or o r ≡ None → (o ≡ None) × (r ≡ None)
or_none None r h = (refl, h)
or_none (Some x) r h = cc

module _ {A : Type 0} (g : ℕ → Option A) where
  first_of-append : (xs ys : List ℕ) → first_some (map g (xs ++ ys)) ≡ option_or (first_some (map g xs)) (first_some (map g ys))
  first_of-append xs ys = ap first_some (map-append g xs ys) ∙ some-append (map g xs) (map g ys)

  first_of-cons : (x : ℕ) (ys : List ℕ) → first_some (map g (x ∷ ys)) ≡ option_or (g x) (first_some (map g ys))
  first_of-cons x ys = some-append (g x ∷ []) (map g ys) ∙ ap (λ o. option_or o (first_some (map g ys))) (one_of (g x))

  -- what is among numbers of which none has an offer has none
  none_among : (ks : List ℕ) (k : ℕ) → first_some (map g ks) ≡ None → list_any (λ j. j == k) ks ≡ true → g k ≡ None
  none_among [] k h any = cc
  none_among (x ∷ ks) k h any =
      let parts = or_none (g x) (first_some (map g ks)) (sym (first_of-cons x ks) ∙ h) in
      elim (or_cases (x == k) (list_any (λ j. j == k) ks) any) [
        | inl e ↦ ap g (sym (eqb-true x k e)) ∙ parts.0
        | inr e ↦ none_among ks k parts.1 e
      ]

  pub none_below : (n k : ℕ) → first_some (map g (up_to n)) ≡ None → k < n → g k ≡ None
  unfolding up_to
  none_below zero k h less = absurd (omega arith)
  none_below (suc n) k h less =
      let parts = or_none (first_some (map g (up_to n))) (first_some (map g (n ∷ []))) (sym (first_of-append (up_to n) (n ∷ [])) ∙ h) in
      elim (cases_lt k n) [
        | inl a ↦ none_below n k parts.0 a
        | inr a ↦ let same : k ≡ n = omega arith in ap g same ∙ sym (one_of (g n)) ∙ parts.1
      ]

  pub none_more : (n : ℕ) → first_some (map g (up_to n)) ≡ None → g n ≡ None → first_some (map g (up_to (n + 1))) ≡ None
  unfolding up_to
  none_more n h e =
      let up : n + 1 ≡ suc n = omega arith in
      ap (λ j. first_some (map g (up_to j))) up ∙ first_of-append (up_to n) (n ∷ []) ∙ ap (λ o. option_or o (first_some (map g (n ∷ [])))) h ∙ one_of (g n) ∙ e

  pub some_there : (n m : ℕ) (d : A) → n < m → first_some (map g (up_to n)) ≡ None → g n ≡ Some d → first_some (map g (up_to m)) ≡ Some d
  unfolding up_to
  some_there n zero d less h e = absurd (omega arith)
  some_there n (suc m) d less h e =
      first_of-append (up_to m) (m ∷ []) ∙ elim (cases_lt n m) [
        | inl a ↦ ap (λ o. option_or o (first_some (map g (m ∷ [])))) (some_there n m d a h e)
        | inr a ↦
            let same : n ≡ m = omega arith in
            ap (λ j. option_or (first_some (map g (up_to j))) (first_some (map g (m ∷ [])))) (sym same)
            ∙ ap (λ o. option_or o (first_some (map g (m ∷ [])))) h ∙ one_of (g m) ∙ ap g (sym same) ∙ e
      ]

  -- what stood before is passed over
  skip_by : (o : Option A) (k : ℕ) (ks ns : List ℕ) → first_some (map g ks) ≡ o → list_any (λ j. j == k) ks ≡ true → option_or o (first_some (map g (k ∷ ns))) ≡ option_or o (first_some (map g ns))
  skip_by (Some x) k ks ns h any = refl
  skip_by None k ks ns h any = first_of-cons k ns ∙ ap (λ o. option_or o (first_some (map g ns))) (none_among ks k h any)

  once_by : (b : Bool) (n : ℕ) (ks ns : List ℕ) → list_any (λ j. j == n) ks ≡ b → first_some (map g (cond b ks (ks ++ n ∷ []) ++ ns)) ≡ first_some (map g (ks ++ n ∷ ns))
  once_by true n ks ns any =
      first_of-append ks ns ∙ sym (skip_by (first_some (map g ks)) n ks ns refl any) ∙ sym (first_of-append ks (n ∷ ns))
  once_by false n ks ns any = ap (λ xs. first_some (map g xs)) (append_assoc ks (n ∷ []) ns)

  once_each : (ks ns : List ℕ) → first_some (map g (with_numbers ks ns)) ≡ first_some (map g (ks ++ ns))
  unfolding with_numbers
  once_each ks [] = ap (λ xs. first_some (map g xs)) (sym (append-nil ks))
  once_each ks (n ∷ ns) =
      once_each (cond (list_any (λ k. k == n) ks) ks (ks ++ n ∷ [])) ns ∙ once_by (list_any (λ k. k == n) ks) n ks ns refl

  pub scope_parts : (xs ys zs : List ℕ) → first_some (map g (xs ++ (ys ++ zs))) ≡ option_or (first_some (map g xs)) (option_or (first_some (map g ys)) (first_some (map g zs)))
  scope_parts xs ys zs = first_of-append xs (ys ++ zs) ∙ ap (option_or (first_some (map g xs))) (first_of-append ys zs)

-- the objects that a copy is not looked for in
kept_by : {A : Type 0} (a b : Bool) (f : ℕ → Option A) (k : ℕ) (ks : List ℕ) → first_some (map f (cond (not (a && b)) (k ∷ ks) ks)) ≡ option_or (cond (b && a) None (f k)) (first_some (map f ks))
kept_by true true f k ks = refl
kept_by true false f k ks = first_of-cons f k ks
kept_by false true f k ks = first_of-cons f k ks
kept_by false false f k ks = first_of-cons f k ks

filtered : {A : Type 0} (a : Bool) (f : ℕ → Option A) (ks : List ℕ) → first_some (map f (filter (λ k. not (a && (k == 0))) ks)) ≡ first_some (map (λ k. cond ((k == 0) && a) None (f k)) ks)
filtered a f [] = refl
filtered a f (k ∷ ks) =
    kept_by a (k == 0) f k (filter (λ j. not (a && (j == 0))) ks) ∙ ap (option_or (cond ((k == 0) && a) None (f k))) (filtered a f ks)
    ∙ sym (first_of-cons (λ j. cond ((j == 0) && a) None (f j)) k ks)

-- what the index tells of a face is what its offers depend on
abbrev pub def_at : ℕ → ℕ → Def
def_at k i = record { obj = k; sym = i }

same_face : (class : Class) (name : List ℕ) (version : Option (List ℕ)) (k : ℕ) (o : Option Face) → option_map (def_at k) (option_and_then (λ face. offer_of (offered_by face) name version class) o) ≡ option_map (def_at k) (option_and_then (λ x. offer_of x name version class) (option_map offered_by o))
same_face class name version k None = refl
same_face class name version k (Some face) = refl

same_by : (faces : List Face) (class : Class) (name : List ℕ) (version : Option (List ℕ)) (k : ℕ) (o : Option Obj) → option_map (def_at k) (option_and_then (λ face. offer_of (offered_by face) name version class) (option_and_then (λ (x : Obj). slice_get faces x.face) o)) ≡ option_map (def_at k) (option_and_then (λ x. offer_of x name version class) (option_and_then (λ (x : Obj). slice_get (map offered_by faces) x.face) o))
same_by faces class name version k None = refl
same_by faces class name version k (Some x) =
    same_face class name version k (slice_get faces x.face)
    ∙ ap (λ o. option_map (def_at k) (option_and_then (λ (f : Offered). offer_of f name version class) o)) (sym (slice_get-map offered_by faces x.face))

map_same : {A : Type 0} (f g : ℕ → Option A) → ((k : ℕ) → f k ≡ g k) → (ks : List ℕ) → first_some (map f ks) ≡ first_some (map g ks)
map_same f g h [] = refl
map_same f g h (k ∷ ks) = first_of-cons f k ks ∙ ap (λ o. option_or o (first_some (map f ks))) (h k) ∙ ap (option_or (g k)) (map_same f g h ks) ∙ sym (first_of-cons g k ks)

-- the first offer of the scope, by the index
pub bound_found : (faces : List Face) (run : Run) (j i : ℕ) (class : Class) (s : Sym) (w : Wanted) → symbol_at faces run j i ≡ Some s → binds_itself class s ≡ false → w.name.now ≡ s.name → option_copied w.version ≡ wanted_version s.version → w.class ≡ class → bound_to faces run j i class ≡ first_found_in (map offered_by faces) run w (itself faces run j ++ (up_to run.global ++ local_of run (slice_get run.objs j)))
unfolding bound_to first_offer scope_of first_found_in found_in_object
bound_found faces run j i class s w h own name_is version_is class_is =
    let version = wanted_version s.version in
    let all : List ℕ = itself faces run j ++ (up_to run.global ++ local_of run (slice_get run.objs j)) in
    let f : ℕ → Option Def = offer_at faces run s.name version class in
    let g : Class → List ℕ → Option (List ℕ) → ℕ → Option Def =
    λ c n v k. cond ((k == 0) && is_copy c) None (option_map (def_at k) (option_and_then (λ (o : Offered). offer_of o n v c) (offered_at (map offered_by faces) run k))) in
    let kept : (ℕ → Option Def) → ℕ → Option Def = λ e k. cond ((k == 0) && is_copy class) None (e k) in
    ap (bound_by faces run j i class) h
    ∙ ap (λ b. cond b (Some (record { obj = j; sym = i })) (first_offer faces run (looked_in class (scope_of faces run j)) s.name version class)) own
    ∙ filtered (is_copy class) f (with_numbers [] all)
    ∙ once_each (kept f) [] all
    ∙ map_same (kept f) (g class s.name version) (λ k. ap (λ o. cond ((k == 0) && is_copy class) None o) (same_by faces class s.name version k (slice_get run.objs k))) all
    ∙ ap (λ n. first_some (map (g class n version) all)) (sym name_is)
    ∙ ap (λ v. first_some (map (g class w.name.now v) all)) (sym version_is)
    ∙ ap (λ c. first_some (map (g c w.name.now (option_copied w.version)) all)) (sym class_is)

pub bound_itself : (faces : List Face) (run : Run) (j i : ℕ) (class : Class) (s : Sym) → symbol_at faces run j i ≡ Some s → binds_itself class s ≡ true → Some (record { obj = j; sym = i }) ≡ bound_to faces run j i class
unfolding bound_to
bound_itself faces run j i class s h own =
    sym (ap (bound_by faces run j i class) h
    ∙ ap (λ b. cond b (Some (record { obj = j; sym = i })) (first_offer faces run (looked_in class (scope_of faces run j)) s.name (wanted_version s.version) class)) own)

symbol_within : (syms : List Sym) (i : ℕ) (s : Sym) → is_some (slice_get syms i) ≡ true → s ≡ get_or syms i s → slice_get syms i ≡ Some s
symbol_within [] i s some is = cc
symbol_within (x ∷ syms) zero s some is = ap Some (sym is)
symbol_within (x ∷ syms) (suc i) s some is = symbol_within syms i s some is

pub symbol_there : (faces : List Face) (run : Run) (j i : ℕ) (face : Face) (syms : List Sym) (s : Sym) → face_at faces run j ≡ Some face → syms ≡ face.syms → is_some (symbol_at faces run j i) ≡ true → s ≡ get_or syms i s → symbol_at faces run j i ≡ Some s
symbol_there faces run j i face syms s at same some is =
    let here : symbol_at faces run j i ≡ slice_get face.syms i = ap (option_and_then (λ (f : Face). slice_get f.syms i)) at in
    here ∙ symbol_within face.syms i s (sym (ap is_some here) ∙ some) (is ∙ ap (λ xs. get_or xs i s) same)

pub itself_listed : (faces : List Face) (run : Run) (j : ℕ) (face : Face) (b : Bool) (o : Option ℕ) → face_at faces run j ≡ Some face → face.symbolic ≡ b → o ≡ cond b (Some j) None → option_to_list o ≡ itself faces run j
itself_listed faces run j face true o at is h = ap option_to_list h ∙ sym (ap (λ f. cond (is_symbolic_face f) (j ∷ []) []) at ∙ ap (λ b. cond b (j ∷ []) []) is)
itself_listed faces run j face false o at is h = ap option_to_list h ∙ sym (ap (λ f. cond (is_symbolic_face f) (j ∷ []) []) at ∙ ap (λ b. cond b (j ∷ []) []) is)

-- an index of the faces of a run
few_at : (faces : List Face) → All IsFew faces → (k : ℕ) (d : Offered) → k < length (map offered_by faces) → length (get_or (map offered_by faces) k d).syms < 2 ^ 32
few_at [] h k d b = absurd (omega arith)
few_at (f ∷ faces) h zero d b = (h 0 f (omega arith)).syms
few_at (f ∷ faces) h (suc k) d b = few_at faces (λ i e l. h (suc i) e (omega arith)) k d (omega arith)

pub searchable : (faces : List Face) (index : List Offered) (run : Run) → index ≡ map offered_by faces → IsRunOver faces run → AreFew faces → IsSearchable index run
searchable faces index run is over few =
    let size : length index ≡ length faces = ap length is ∙ length-map faces offered_by in
    let locals : length run.locals ≡ length run.opens = over.local_count in
    record {
      places = λ k d b. let less = (over.objs k d b).face in omega arith;
      few = subst (λ xs. All (λ (o : Offered). length o.syms < 2 ^ 32) xs) (sym is) (few_at faces few.each);
      global = over.global;
      phases = λ k d b. let le = (over.objs k d b).phase in omega arith;
      locals = over.locals;
    }

-- one object of the index
mapped_at : {X Y : Type 0} (f : X → Y) (xs : List X) (i : ℕ) (x : X) → i < length xs → get_or (map f xs) i (f x) ≡ f (get_or xs i x)
mapped_at f [] i x less = absurd (omega arith)
mapped_at f (y ∷ xs) zero x less = refl
mapped_at f (y ∷ xs) (suc i) x less = mapped_at f xs i x (omega arith)

module _ {X : Type 0} (f : X → Offered) (xs : List X) (run : Run) (objs : List Obj) (same : objs ≡ run.objs) (ready : IsSearchable (map f xs) run) (k : ℕ) (within : k < length run.objs) (o : Obj) (is : o ≡ get_or objs k o) (x : X) (x_is : x ≡ get_or xs (get_or objs k o).face x) where
  place_below : o.face < length xs
  place_below =
      let size : length (map f xs) ≡ length xs = length-map xs f in
      let at : get_or run.objs k o ≡ o = sym (is ∙ ap (λ ys. get_or ys k o) same) in
      let less : o.face < length (map f xs) = subst (λ (y : Obj). y.face < length (map f xs)) at (ready.places k o within) in
      omega arith

  x_at : x ≡ get_or xs o.face x
  x_at = x_is ∙ ap (λ (y : Obj). get_or xs y.face x) (sym is)

  pub few_there : length (f x).syms < 2 ^ 32
  few_there =
      let size : length (map f xs) ≡ length xs = length-map xs f in
      let less = place_below in
      subst (λ (y : Offered). length y.syms < 2 ^ 32) (mapped_at f xs o.face x less ∙ ap f (sym x_at)) (ready.few o.face (f x) (omega arith))

  pub offered_there : offered_at (map f xs) run k ≡ Some (f x)
  offered_there =
      ap (option_and_then (λ (y : Obj). slice_get (map f xs) y.face)) (slice_get_read run.objs (length run.objs) k o refl within (is ∙ ap (λ ys. get_or ys k o) same))
      ∙ slice_get-map f xs o.face ∙ ap (option_map f) (slice_get_read xs (length xs) o.face x refl place_below x_at)

module _ (index : List Offered) (run : Run) (w : Wanted) where
  pub copy_skips : (k : ℕ) → k ≡ 0 → is_copy w.class ≡ true → None ≡ found_in_object index run w k
  unfolding found_in_object
  copy_skips k e h = sym (ap (λ b. cond b None (offer_in index run w k)) (and_from (k == 0) (is_copy w.class) (eq-eqb k 0 e) h))

  pub offer_found : (k : ℕ) (o : Offered) (r : Option ℕ) → ((k == 0) && is_copy w.class) ≡ false → offered_at index run k ≡ Some o → r ≡ offer_of o w.name.now (option_copied w.version) w.class → option_map (def_at k) r ≡ found_in_object index run w k
  unfolding found_in_object
  offer_found k o r skip at is =
      ap (option_map (def_at k)) is
      ∙ sym (ap (λ b. cond b None (offer_in index run w k)) skip
      ∙ ap (λ p. option_map (def_at k) (option_and_then (λ (y : Offered). offer_of y w.name.now (option_copied w.version) w.class) p)) at)

  pub nothing_yet : first_found_in index run w (up_to 0) ≡ None
  unfolding first_found_in up_to
  nothing_yet = refl

  pub nothing_more : (n : ℕ) → first_found_in index run w (up_to n) ≡ None → found_in_object index run w n ≡ None → first_found_in index run w (up_to (n + 1)) ≡ None
  unfolding first_found_in
  nothing_more n h e = none_more (found_in_object index run w) n h e

  pub found_there : (n m : ℕ) (d : Def) → n < m → first_found_in index run w (up_to n) ≡ None → found_in_object index run w n ≡ Some d → Some d ≡ first_found_in index run w (up_to m)
  unfolding first_found_in
  found_there n m d less h e = sym (some_there (found_in_object index run w) n m d less h e)

  pub itself_again : (itself : Option ℕ) (n : ℕ) → not (option_eq nat_eq (Some n) itself) ≡ false → IfSome itself (λ k. found_in_object index run w k ≡ None) → found_in_object index run w n ≡ None
  itself_again None n h looked = cc
  itself_again (Some k) n h looked = ap (found_in_object index run w) (eqb-true n k (not-false (nat_eq n k) h)) ∙ looked

  pub global_again : (n k : ℕ) → first_found_in index run w (up_to n) ≡ None → k < n → found_in_object index run w k ≡ None
  unfolding first_found_in
  global_again n k h less = none_below (found_in_object index run w) n k h less

  pub list_yet : (ks : List ℕ) → first_found_in index run w (take 0 ks) ≡ None
  unfolding first_found_in
  list_yet ks = refl

  pub list_more : (ks : List ℕ) (i : ℕ) → i < length ks → first_found_in index run w (take i ks) ≡ None → found_in_object index run w (get_or ks i 0) ≡ None → first_found_in index run w (take (i + 1) ks) ≡ None
  unfolding first_found_in
  list_more ks i less h e =
      let g : ℕ → Option Def = found_in_object index run w in
      let up : i + 1 ≡ suc i = omega arith in
      ap (λ xs. first_some (map g xs)) (ap (λ m. take m ks) up ∙ take-suc ks i 0 less)
      ∙ first_of-append g (take i ks) (get_or ks i 0 ∷ []) ∙ ap (λ o. option_or o (first_some (map g (get_or ks i 0 ∷ [])))) h
      ∙ one_of (g (get_or ks i 0)) ∙ e

  pub list_there : (ks : List ℕ) (i : ℕ) (d : Def) → i < length ks → first_found_in index run w (take i ks) ≡ None → found_in_object index run w (get_or ks i 0) ≡ Some d → Some d ≡ first_found_in index run w ks
  unfolding first_found_in
  list_there ks i d less h e =
      let g : ℕ → Option Def = found_in_object index run w in
      sym (ap (λ xs. first_some (map g xs)) (sym (take-append-drop i ks) ∙ ap (λ xs. take i ks ++ xs) (drop-cons ks i 0 less))
      ∙ first_of-append g (take i ks) (get_or ks i 0 ∷ drop (suc i) ks)
      ∙ ap (λ o. option_or o (first_some (map g (get_or ks i 0 ∷ drop (suc i) ks)))) h
      ∙ first_of-cons g (get_or ks i 0) (drop (suc i) ks) ∙ ap (λ o. option_or o (first_some (map g (drop (suc i) ks)))) e)

  pub list_end : (ks : List ℕ) (i : ℕ) → length ks ≤ i → first_found_in index run w (take i ks) ≡ None → None ≡ first_found_in index run w ks
  list_end ks i past h = sym h ∙ ap (first_found_in index run w) (take_all i ks past)

  pub looked_at : (itself : Option ℕ) (k : ℕ) → itself ≡ Some k → found_in_object index run w k ≡ None → IfSome itself (λ n. found_in_object index run w n ≡ None)
  looked_at itself k is h = subst (λ o. IfSome o (λ n. found_in_object index run w n ≡ None)) (sym is) h

  pub none_itself : (itself : Option ℕ) → itself ≡ None → IfSome itself (λ n. found_in_object index run w n ≡ None)
  none_itself itself is = subst (λ o. IfSome o (λ n. found_in_object index run w n ≡ None)) (sym is) tt

  none_listed : (itself : Option ℕ) → IfSome itself (λ k. found_in_object index run w k ≡ None) → first_some (map (found_in_object index run w) (option_to_list itself)) ≡ None
  none_listed None h = refl
  none_listed (Some k) h = one_of (found_in_object index run w k) ∙ h

  pub scope_itself : (itself : Option ℕ) (k : ℕ) (d : Def) (rest : List ℕ) → itself ≡ Some k → found_in_object index run w k ≡ Some d → Some d ≡ first_found_in index run w (option_to_list itself ++ rest)
  unfolding first_found_in
  scope_itself itself k d rest is e =
      let g : ℕ → Option Def = found_in_object index run w in
      sym (ap (λ o. first_some (map g (option_to_list o ++ rest))) is ∙ first_of-cons g k rest ∙ ap (λ o. option_or o (first_some (map g rest))) e)

  pub scope_rest : (itself : Option ℕ) (ys zs : List ℕ) (r : Option Def) → IfSome itself (λ k. found_in_object index run w k ≡ None) → option_or (first_found_in index run w ys) (first_found_in index run w zs) ≡ r → r ≡ first_found_in index run w (option_to_list itself ++ (ys ++ zs))
  unfolding first_found_in
  scope_rest itself ys zs r h e =
      let g : ℕ → Option Def = found_in_object index run w in
      sym (scope_parts g (option_to_list itself) ys zs ∙ ap (λ o. option_or o (option_or (first_some (map g ys)) (first_some (map g zs)))) (none_listed itself h) ∙ e)
