-- A host library there answers each reference as here, which is recorded.
use Rattle.std.proofs.Common.{◌≡◌, ◌≢◌, ◌∙◌, sym, ap, refl, subst, ℕ, zero, suc, ◌<◌, ◌==◌, List, [], ◌∷◌, All, Bool, true, false, cond, Option, Some, None, Ok, arith, drop, length, map, option_map, slice_get, inl, inr}
use Rattle.std.specs.Prelude.{is_none, not, option_to_list}
use Rattle.std.specs.List.{Contains, enumerate_from, flat_map}
use Rattle.std.specs.Option.{option_and_then}
use Rattle.std.proofs.lemmas.Bool.{cases_Bool, eq-eqb, eqb-true, ne_eqb}
use Rattle.std.proofs.lemmas.List.Elements.{Contains-append_left, Contains-append_right}
use Rattle.std.proofs.lemmas.List.Sums.{take_while-cons}
use Rattle.answers.specs.First.{first_some}
use Rattle.build_plan.specs.Building.{Building}
use Rattle.build_texts.specs.Texts.{record_in, replay_in}
use Rattle.host_list.specs.Answers.{answer_in_face, answer_of, answer_of_version, class_of, is_call}
use Rattle.host_list.specs.Meeting.{HostMeets, is_answer}
use Rattle.host_list.specs.Recording.{host_at, host_numbers, is_at, look_found, look_in_object, look_of, looked_past, looks_by, looks_by_symbol, looks_in_scope, looks_of_run, looks_past}
use Rattle.host_record.specs.Orders.{full_look_cmp, version_found as said_of}
use Rattle.host_record.specs.declared.records.Answer.{Answer}
use Rattle.host_record.specs.declared.records.Answer.TheVariants.{Nothing, Plain as WithoutVersion, Version}
use Rattle.host_record.specs.declared.records.Look.{Look}
use Rattle.lib_closure.specs.Splits.{split_of}
use Rattle.lib_closure.specs.declared.splits.HostLib.{HostLib}
use Rattle.lib_closure.proofs.ContainedLemmas.{at_place, here, in_filter_map, in_flat_map, later, none_gives, of_flat_map, of_map}
use Rattle.load_model.specs.Bindings.{all_binds, bind_of, binds_itself, binds_of_object, binds_of_symbol, bound_by, bound_to, classes_of, first_offer, looked_in, offer_at, offered_by, symbol_at, syms_in, wanted_version}
use Rattle.load_model.specs.Faces.{face_or_flaw}
use Rattle.load_model.specs.LoadList.{Loaded, Object, up_to}
use Rattle.load_model.specs.Offers.{Offered, offer_of}
use Rattle.load_model.specs.Runs.{IsRunOf, IsRunOver, face_at}
use Rattle.load_model.specs.Scopes.{scope_of}
use Rattle.load_model.specs.SymbolWords.{is_shared}
use Rattle.load_model.specs.World.{World}
use Rattle.load_model.specs.declared.faces.Face.{Face}
use Rattle.load_model.specs.declared.runs.Bind.{Bind}
use Rattle.load_model.specs.declared.runs.Def.{Def}
use Rattle.load_model.specs.declared.runs.Obj.{Obj}
use Rattle.load_model.specs.declared.runs.Run.{Run}
use Rattle.load_model.specs.declared.setting.Setting.{Setting}
use Rattle.load_model.specs.declared.symbols.Class.{Class}
use Rattle.load_model.specs.declared.symbols.Class.TheVariants.{Plain, Call, Copy}
use Rattle.load_model.specs.declared.symbols.Sym.{Sym}
use Rattle.load_model.proofs.TwoWorlds.{same_bytes}
use Rattle.moved_runs.specs.Alike.{IsLookedIn, IsLookedUp, found_in_face, is_written, version_found}
use Rattle.build_laws.specs.Renaming.{is_bundled_in, name_in}
use Rattle.build_laws.proofs.BesideLemmas.{IsHostThere}
use Rattle.met_hosts.proofs.HostNumberLemmas.{IsNumbered, is_numbered, stands_here, unwritten, written_none}
use Rattle.met_hosts.proofs.RecordedLemmas.{kept, look_exact, look_there}
use Rattle.met_hosts.proofs.RecordedVersionLemmas.{in_chosen}

-- ---- what an answer says

answers_same : (a c : Answer) → is_answer a c ≡ true → a ≡ c
answers_same Nothing Nothing h = refl
answers_same Nothing WithoutVersion h = cc
answers_same Nothing (Version v) h = cc
answers_same WithoutVersion Nothing h = cc
answers_same WithoutVersion WithoutVersion h = refl
answers_same WithoutVersion (Version v) h = cc
answers_same (Version v) Nothing h = cc
answers_same (Version v) WithoutVersion h = cc
answers_same (Version v) (Version w) h = ap Version (same_bytes v w h)

version_said : (v : Option (List ℕ)) → said_of (answer_of_version v) ≡ Some v
version_said None = refl
version_said (Some v) = refl

answer_said : (found : Option Sym) → said_of (answer_of found) ≡ option_map (λ (s : Sym). wanted_version s.version) found
answer_said None = refl
answer_said (Some s) = version_said (wanted_version s.version)

-- A copy is looked up as a plain reference.
same_class : (o : Offered) (name : List ℕ) (version : Option (List ℕ)) (class : Class) → offer_of o name version (class_of (is_call class)) ≡ offer_of o name version class
unfolding offer_of
same_class o name version Plain = refl
same_class o name version Call = refl
same_class o name version Copy = refl

answered : (face : Face) (name : List ℕ) (version : Option (List ℕ)) (class : Class) (answer : Answer) → is_answer answer (answer_in_face face name version (is_call class)) ≡ true → version_found face name version class ≡ said_of answer
unfolding answer_in_face
answered face name version class answer h =
    let same = answers_same answer (answer_in_face face name version (is_call class)) h in
    sym (answer_said (found_in_face face name version class))
    ∙ ap (λ x. said_of (answer_of (option_and_then (λ i. slice_get face.syms i) x))) (sym (same_class (offered_by face) name version class))
    ∙ ap said_of (sym same)

-- ---- what is offered

module _ (f : ℕ → Option Def) (own : (k : ℕ) (e : Def) → f k ≡ Some e → e.obj ≡ k) where
  none_by : (x : ℕ) (xs : List ℕ) (d : Def) (offer : Option Def) (m k : ℕ) → f x ≡ offer → (first_some (map f xs) ≡ Some d → (m : ℕ) → slice_get xs m ≡ Some k → ((i h : ℕ) → i < m → slice_get xs i ≡ Some h → h ≢ d.obj) → f k ≡ None) → first_some (offer ∷ map f xs) ≡ Some d → slice_get (x ∷ xs) m ≡ Some k → ((i h : ℕ) → i < m → slice_get (x ∷ xs) i ≡ Some h → h ≢ d.obj) → k ≢ d.obj → f k ≡ None
  none_by x xs d None zero k e rest h g before other = let same : x ≡ k = cc in ap f (sym same) ∙ e
  none_by x xs d None (suc m) k e rest h g before other = rest h m g (λ i j less at. before (suc i) j (omega (arith, less)) at)
  none_by x xs d (Some y) zero k e rest h g before other =
      let same : x ≡ k = cc in
      let one : y ≡ d = cc in
      absurd (other (sym same ∙ sym (own x y e) ∙ ap (λ (z : Def). z.obj) one))
  none_by x xs d (Some y) (suc m) k e rest h g before other =
      let one : y ≡ d = cc in
      absurd (before 0 x (omega arith) refl (sym (own x y e) ∙ ap (λ (z : Def). z.obj) one))

  -- Before the first offer there is none.
  none_before : (ks : List ℕ) (d : Def) (m k : ℕ) → first_some (map f ks) ≡ Some d → slice_get ks m ≡ Some k → ((i h : ℕ) → i < m → slice_get ks i ≡ Some h → h ≢ d.obj) → k ≢ d.obj → f k ≡ None
  none_before [] d m k h g before other = cc
  none_before (x ∷ xs) d m k h g before other = none_by x xs d (f x) m k refl (λ g2 n at b2. none_before xs d n k g2 at b2 other) h g before other

  offered_by_first : (x : ℕ) (xs : List ℕ) (d : Def) (offer : Option Def) → f x ≡ offer → (first_some (map f xs) ≡ Some d → f d.obj ≡ Some d) → first_some (offer ∷ map f xs) ≡ Some d → f d.obj ≡ Some d
  offered_by_first x xs d None e rest h = rest h
  offered_by_first x xs d (Some y) e rest h =
      let one : y ≡ d = cc in
      let at : d.obj ≡ x = ap (λ (z : Def). z.obj) (sym one) ∙ own x y e in
      ap f at ∙ e ∙ ap Some one

  -- The first offer is that of its object.
  offered : (ks : List ℕ) (d : Def) → first_some (map f ks) ≡ Some d → f d.obj ≡ Some d
  offered [] d h = cc
  offered (x ∷ xs) d h = offered_by_first x xs d (f x) refl (offered xs d) h

offer_own : (faces : List Face) (run : Run) (name : List ℕ) (version : Option (List ℕ)) (class : Class) (k : ℕ) (e : Def) → offer_at faces run name version class k ≡ Some e → e.obj ≡ k
offer_own faces run name version class k e h = go (option_and_then (λ (face : Face). offer_of (offered_by face) name version class) (face_at faces run k)) h
  where
    go : (o : Option ℕ) → option_map (λ (i : ℕ). record { obj = k; sym = i }) o ≡ Some e → e.obj ≡ k
    go None h = cc
    go (Some i) h = let made : Def = record { obj = k; sym = i } in let one : made ≡ e = cc in ap (λ (d : Def). d.obj) (sym one)

-- ---- bindings

of_chosen : {X : Type 0} (c : Bool) (xs : List X) (y : X) → Contains (cond c xs []) y → Contains xs y
of_chosen true xs y h = h
of_chosen false xs y h = let less = h.1 in absurd (omega (arith, less))

bound_as : (faces : List Face) (run : Run) (bind : Bind) → Contains (all_binds faces run) bind → bind.to ≡ bound_to faces run bind.obj bind.sym bind.class
unfolding all_binds binds_of_object
bound_as faces run bind c =
    let w = of_flat_map (binds_of_object faces run) (up_to (length run.objs)) bind c in
    let j : ℕ = w.from in
    let v = of_flat_map (λ (numbered : ℕ × Sym). binds_of_symbol faces run j numbered.0 numbered.1) (drop 1 (enumerate_from 0 (syms_in (face_at faces run j)))) bind w.is in
    let u = of_map (bind_of faces run j v.from.0) (classes_of j v.from.1) bind (of_chosen (is_shared v.from.1.binding) (map (bind_of faces run j v.from.0) (classes_of j v.from.1)) bind v.is) in
    subst (λ (x : Bind). x.to ≡ bound_to faces run x.obj x.sym x.class) u.is refl

bound_first : (faces : List Face) (run : Run) (bind : Bind) (s : Sym) → Contains (all_binds faces run) bind → symbol_at faces run bind.obj bind.sym ≡ Some s → binds_itself bind.class s ≡ false → bind.to ≡ first_some (map (offer_at faces run s.name (wanted_version s.version) bind.class) (looked_in bind.class (scope_of faces run bind.obj)))
unfolding bound_to first_offer
bound_first faces run bind s c symbol not_own =
    bound_as faces run bind c
    ∙ ap (bound_by faces run bind.obj bind.sym bind.class) symbol
    ∙ ap (λ own. cond own (Some (record { obj = bind.obj; sym = bind.sym })) (first_offer faces run (looked_in bind.class (scope_of faces run bind.obj)) s.name (wanted_version s.version) bind.class)) not_own

-- ---- what is recorded

past_by : (to : Option Def) (x k : ℕ) (xs : List ℕ) (m : ℕ) (at : Bool) → is_at to x ≡ at → slice_get (x ∷ xs) m ≡ Some k → ((i h : ℕ) → i < m → slice_get (x ∷ xs) i ≡ Some h → is_at to h ≡ false) → is_at to k ≡ false → ((n : ℕ) → slice_get xs n ≡ Some k → ((i h : ℕ) → i < n → slice_get xs i ≡ Some h → is_at to h ≡ false) → Contains (looked_past to xs) k) → Contains (cond (not at) (x ∷ looked_past to xs) []) k
past_by to x k xs zero true e g before off rest = let same : x ≡ k = cc in let clash : true ≡ false = sym e ∙ ap (is_at to) same ∙ off in cc
past_by to x k xs zero false e g before off rest = let same : x ≡ k = cc in subst (λ y. Contains (x ∷ looked_past to xs) y) same (here x (looked_past to xs))
past_by to x k xs (suc m) true e g before off rest = let clash : true ≡ false = sym e ∙ before 0 x (omega arith) refl in cc
past_by to x k xs (suc m) false e g before off rest = later x k (looked_past to xs) (rest m g (λ i h less at. before (suc i) h (omega (arith, less)) at))

past_in : (to : Option Def) (xs : List ℕ) (m k : ℕ) → slice_get xs m ≡ Some k → ((i h : ℕ) → i < m → slice_get xs i ≡ Some h → is_at to h ≡ false) → is_at to k ≡ false → Contains (looked_past to xs) k
past_in to [] m k g before off = cc
past_in to (x ∷ xs) m k g before off =
    subst (λ ys. Contains ys k) (sym (take_while-cons (λ j. not (is_at to j)) x xs))
    (past_by to x k xs m (is_at to x) refl g before off (λ n at b2. past_in to xs n k at b2 off))

in_past : (numbers : List (Option ℕ)) (s : Sym) (class : Class) (ks : List ℕ) (k n : ℕ) → Contains ks k → host_at numbers k ≡ Some n → Contains (looks_past numbers s class ks) (look_of s class Nothing n)
unfolding looks_past
in_past numbers s class ks k n c at = in_filter_map (look_in_object numbers s class Nothing) ks k (look_of s class Nothing n) c (ap (option_map (look_of s class Nothing)) at)

in_found : (faces : List Face) (hosts : List HostLib) (run : Run) (s : Sym) (class : Class) (d : Def) (n : ℕ) → host_at (host_numbers hosts run) d.obj ≡ Some n → Contains (look_found faces hosts run s class (Some d)) (look_of s class (answer_of (symbol_at faces run d.obj d.sym)) n)
in_found faces hosts run s class d n at =
    let answer = answer_of (symbol_at faces run d.obj d.sym) in
    subst (λ o. Contains (option_to_list (option_map (look_of s class answer) o)) (look_of s class answer n)) (sym at) (here (look_of s class answer n) [])

in_bind : (faces : List Face) (hosts : List HostLib) (run : Run) (bind : Bind) (s : Sym) (l : Look) → host_at (host_numbers hosts run) bind.obj ≡ None → symbol_at faces run bind.obj bind.sym ≡ Some s → binds_itself bind.class s ≡ false → Contains (looks_in_scope faces hosts run s bind.class bind.to (looked_in bind.class (scope_of faces run bind.obj))) l → Contains (looks_by faces hosts run bind) l
unfolding looks_by
in_bind faces hosts run bind s l none symbol not_own c =
    let all = looks_in_scope faces hosts run s bind.class bind.to (looked_in bind.class (scope_of faces run bind.obj)) in
    in_chosen (is_none (host_at (host_numbers hosts run) bind.obj)) (looks_by_symbol faces hosts run bind (symbol_at faces run bind.obj bind.sym)) l (ap is_none none)
    (subst (λ o. Contains (looks_by_symbol faces hosts run bind o) l) (sym symbol) (subst (λ own. Contains (cond own [] all) l) (sym not_own) c))

in_record : (b : Building) (run : Run) (bind : Bind) (l : Look) → Contains b.runs run → Contains (all_binds b.faces run) bind → Contains (looks_by b.faces b.split.hosts run bind) l → Contains (record_in b).looks l
unfolding record_in
in_record b run bind l among c at =
    kept full_look_cmp look_exact (flat_map (looks_of_run b.faces b.split.hosts) b.runs) l
    (in_flat_map (looks_of_run b.faces b.split.hosts) b.runs run l among (in_flat_map (looks_by b.faces b.split.hosts run) (all_binds b.faces run) bind l c at))

obj_of_symbol : (faces : List Face) (run : Run) (j i : ℕ) (s : Sym) (found : Option Obj) → slice_get run.objs j ≡ found → option_and_then (λ (face : Face). slice_get face.syms i) (option_and_then (λ (o : Obj). slice_get faces o.face) found) ≡ Some s → (x : Obj) × (slice_get run.objs j ≡ Some x)
obj_of_symbol faces run j i s None h e = cc
obj_of_symbol faces run j i s (Some x) h e = (x, h)

-- ---- the law

module _ (b : Building) (names : List (List ℕ)) (split_is : split_of b.faces b.runs names ≡ Ok b.split) (over : All (IsRunOver b.faces) b.runs) (run : Run) (among : Contains b.runs run) (opens : List (List ℕ)) (loaded : Loaded) (ends : List Loaded) (run_is : IsRunOf b.faces opens loaded ends run) (setting : Setting) (there : World) (meets : HostMeets face_or_flaw setting there (record_in b)) (objs_there : List Object) (hosts_there : (j : ℕ) (o q : Object) → 0 < j → is_bundled_in b run j ≡ false → slice_get loaded.objs j ≡ Some o → slice_get objs_there j ≡ Some q → IsHostThere b run setting there j o q) where
  abbrev numbers : List (Option ℕ)
  numbers = host_numbers b.split.hosts run

  module _ (bind : Bind) (s : Sym) (up : IsLookedUp b.faces (replay_in b.faces run) loaded (name_in b run) (is_bundled_in b run) objs_there bind s) where
    abbrev scope : List ℕ
    scope = looked_in bind.class (scope_of b.faces run bind.obj)

    abbrev offer : ℕ → Option Def
    offer = offer_at b.faces run s.name (wanted_version s.version) bind.class

    stands : Contains (all_binds b.faces run) bind
    stands = at_place (all_binds b.faces run) up.number bind up.stands

    asker_none : host_at numbers bind.obj ≡ None
    asker_none =
        let x = obj_of_symbol b.faces run bind.obj bind.sym s (slice_get run.objs bind.obj) refl up.symbol in
        written_none b names split_is over run among bind.obj x.0 up.written x.1

    to_is : bind.to ≡ first_some (map offer scope)
    to_is = bound_first b.faces run bind s stands up.symbol up.not_own

    recorded : (l : Look) → Contains (looks_in_scope b.faces b.split.hosts run s bind.class bind.to scope) l → Contains (record_in b).looks l
    recorded l c = in_record b run bind l among stands (in_bind b.faces b.split.hosts run bind s l asker_none up.symbol up.not_own c)

    -- The answer that is recorded of a look is the answer there.
    answers : (answer : Answer) (k : ℕ) (q : Object) (n : IsNumbered b run setting there k q) → Contains (looks_in_scope b.faces b.split.hosts run s bind.class bind.to scope) (look_of s bind.class answer n.number) → version_found q.face s.name (wanted_version s.version) bind.class ≡ said_of answer
    answers answer k q n c =
        answered q.face s.name (wanted_version s.version) bind.class answer
        (look_there setting there (record_in b) meets (look_of s bind.class answer n.number) q (recorded (look_of s bind.class answer n.number) c) n.object)

    nothing_here : (k : ℕ) (o : Object) → face_at b.faces run k ≡ Some o.face → offer k ≡ None → version_found o.face s.name (wanted_version s.version) bind.class ≡ None
    nothing_here k o face none = go (offer_of (offered_by o.face) s.name (wanted_version s.version) bind.class) refl
      where
        go : (i : Option ℕ) → offer_of (offered_by o.face) s.name (wanted_version s.version) bind.class ≡ i → version_found o.face s.name (wanted_version s.version) bind.class ≡ None
        go None e = ap (λ x. option_map (λ (y : Sym). wanted_version y.version) (option_and_then (λ i. slice_get o.face.syms i) x)) e
        go (Some i) e =
            let made : Def = record { obj = k; sym = i } in
            let some : offer k ≡ Some made =
            ap (λ f. option_map (λ (z : ℕ). record { obj = k; sym = z }) (option_and_then (λ (face : Face). offer_of (offered_by face) s.name (wanted_version s.version) bind.class) f)) face
            ∙ ap (option_map (λ (z : ℕ). record { obj = k; sym = z })) e in
            let clash : None ≡ Some made = sym none ∙ some in
            cc

    past : (k : ℕ) (o q : Object) (n : IsNumbered b run setting there k q) → face_at b.faces run k ≡ Some o.face → Contains (looked_past bind.to scope) k → offer k ≡ None → version_found q.face s.name (wanted_version s.version) bind.class ≡ version_found o.face s.name (wanted_version s.version) bind.class
    past k o q n face c none =
        answers Nothing k q n
        (Contains-append_left (looks_past numbers s bind.class (looked_past bind.to scope)) (look_found b.faces b.split.hosts run s bind.class bind.to) (look_of s bind.class Nothing n.number) (in_past numbers s bind.class (looked_past bind.to scope) k n.number c n.at))
        ∙ sym (nothing_here k o face none)

    found : (d : Def) (o q : Object) (n : IsNumbered b run setting there d.obj q) → bind.to ≡ Some d → face_at b.faces run d.obj ≡ Some o.face → offer d.obj ≡ Some d → version_found q.face s.name (wanted_version s.version) bind.class ≡ version_found o.face s.name (wanted_version s.version) bind.class
    found d o q n to face some =
        let answer = answer_of (symbol_at b.faces run d.obj d.sym) in
        let l : Look = look_of s bind.class answer n.number in
        let c : Contains (look_found b.faces b.split.hosts run s bind.class bind.to) l = subst (λ t. Contains (look_found b.faces b.split.hosts run s bind.class t) l) (sym to) (in_found b.faces b.split.hosts run s bind.class d n.number n.at) in
        answers answer d.obj q n (Contains-append_right (looks_past numbers s bind.class (looked_past bind.to scope)) (look_found b.faces b.split.hosts run s bind.class bind.to) l c)
        ∙ (answer_said (symbol_at b.faces run d.obj d.sym)
        ∙ (ap (λ f. option_map (λ (y : Sym). wanted_version y.version) (option_and_then (λ (z : Face). slice_get z.syms d.sym) f)) face
        ∙ go (offer_of (offered_by o.face) s.name (wanted_version s.version) bind.class) refl))
      where
        go : (i : Option ℕ) → offer_of (offered_by o.face) s.name (wanted_version s.version) bind.class ≡ i → option_map (λ (y : Sym). wanted_version y.version) (slice_get o.face.syms d.sym) ≡ version_found o.face s.name (wanted_version s.version) bind.class
        go i e =
            let at : option_map (λ (z : ℕ). record { obj = d.obj; sym = z }) i ≡ Some d =
            sym (ap (λ f. option_map (λ (z : ℕ). record { obj = d.obj; sym = z }) (option_and_then (λ (z : Face). offer_of (offered_by z) s.name (wanted_version s.version) bind.class) f)) face
            ∙ ap (option_map (λ (z : ℕ). record { obj = d.obj; sym = z })) e) ∙ some in
            ap (λ x. option_map (λ (y : Sym). wanted_version y.version) (option_and_then (λ z. slice_get o.face.syms z) x)) (sym (same_sym i at) ∙ sym e)
          where
            same_sym : (i : Option ℕ) → option_map (λ (z : ℕ). record { obj = d.obj; sym = z }) i ≡ Some d → i ≡ Some d.sym
            same_sym None h = cc
            same_sym (Some z) h = let made : Def = record { obj = d.obj; sym = z } in let one : made ≡ d = cc in ap (λ (x : Def). Some x.sym) one

    look_by : (k : ℕ) (o q : Object) (to : Option Def) (n : IsNumbered b run setting there k q) → bind.to ≡ to → face_at b.faces run k ≡ Some o.face → IsLookedIn bind.to scope k → version_found q.face s.name (wanted_version s.version) bind.class ≡ version_found o.face s.name (wanted_version s.version) bind.class
    look_by k o q None n e face looked =
        past k o q n face
        (past_in bind.to scope looked.number k looked.stands (λ i h less at. ap (λ t. is_at t h) e) (ap (λ t. is_at t k) e))
        (none_gives offer scope k (sym to_is ∙ e) (at_place scope looked.number k looked.stands))
    look_by k o q (Some d) n e face looked =
        elim (cases_Bool (k == d.obj)) [
          | inl on ↦
              let same : k ≡ d.obj = eqb-true k d.obj on in
              found d o q (subst (λ (j : ℕ). IsNumbered b run setting there j q) same n) e (ap (λ j. face_at b.faces run j) (sym same) ∙ face)
              (offered offer (offer_own b.faces run s.name (wanted_version s.version) bind.class) scope d (sym to_is ∙ e))
          | inr off ↦
              let other : k ≢ d.obj = λ same. let clash : true ≡ false = sym (eq-eqb k d.obj same) ∙ off in cc in
              past k o q n face
              (past_in bind.to scope looked.number k looked.stands (λ i h less at. ap (λ t. is_at t h) e ∙ ne_eqb h d.obj (looked.before i h d less at e)) (ap (λ t. is_at t k) e ∙ off))
              (none_before offer (offer_own b.faces run s.name (wanted_version s.version) bind.class) scope d looked.number k (sym to_is ∙ e) looked.stands (λ i h less at. looked.before i h d less at e) other)
        ]

  pub looks_there : (bind : Bind) (s : Sym) (k : ℕ) (o q : Object) → IsLookedUp b.faces (replay_in b.faces run) loaded (name_in b run) (is_bundled_in b run) objs_there bind s → IsLookedIn bind.to (looked_in bind.class (scope_of b.faces run bind.obj)) k → is_written (is_bundled_in b run) k ≡ false → slice_get loaded.objs k ≡ Some o → slice_get objs_there k ≡ Some q → version_found q.face s.name (wanted_version s.version) bind.class ≡ version_found o.face s.name (wanted_version s.version) bind.class
  looks_there bind s k o q up looked host h g =
      let w = unwritten (is_bundled_in b run) k host in
      let n = is_numbered b names split_is over run among opens loaded ends run_is setting there k o q h (hosts_there k o q w.0 w.1 h g) in
      let x = stands_here b.faces opens loaded ends run run_is k o h in
      look_by bind s up k o q bind.to n refl x.face looked
