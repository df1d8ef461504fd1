-- References of files that are written bind to the same there.
use Rattle.std.proofs.Common.{◌≡◌, ◌∙◌, sym, ap, refl, ℕ, ◌+◌, List, [], ◌∷◌, ◌++◌, Bool, true, false, cond, Option, Some, None, drop, length, map, slice_get, arith, subst, inl, inr}
use Rattle.std.specs.List.{enumerate_from}
use Rattle.std.specs.Option.{option_and_then, option_map}
use Rattle.std.proofs.lemmas.Bool.{cases_Bool}
use Rattle.load_model.specs.Bindings.{all_binds, bind_of, binds_itself, binds_of_object, binds_of_symbol, bound_by, bound_to, classes_of, first_offer, looked_in, offered_by, symbol_at, syms_in, wanted_version}
use Rattle.load_model.specs.LoadList.{Loaded, Object, up_to, with_numbers}
use Rattle.load_model.specs.Offers.{Offered, offer_of}
use Rattle.load_model.specs.Runs.{IsRunOf, face_at}
use Rattle.load_model.specs.Scopes.{is_symbolic_face, itself, local_of, scope_of}
use Rattle.load_model.specs.SymbolWords.{is_shared}
use Rattle.load_model.specs.declared.faces.Face.{Face}
use Rattle.load_model.specs.declared.runs.Bind.{Bind}
use Rattle.load_model.specs.declared.runs.Def.{Def}
use Rattle.load_model.specs.declared.runs.Replay.{Replay}
use Rattle.load_model.specs.declared.runs.Run.{Run}
use Rattle.load_model.specs.declared.symbols.Class.{Class}
use Rattle.load_model.specs.declared.symbols.Sym.{Sym}
use Rattle.load_model.proofs.AskedNeeds.{get_map, map_get}
use Rattle.load_model.proofs.Machine.{slice_get-drop}
use Rattle.load_model.proofs.SameListLemmas.{none_too, there_too}
use Rattle.moved_runs.specs.Alike.{IsAlike, IsLookedIn, IsLookedUp, KeepsSymbols, is_written}
use Rattle.moved_runs.specs.SameRuns.{IsSameBound, IsSameReference, IsSameSymbol}
use Rattle.moved_runs.proofs.ListLemmas.{flat_in, flat_out, numbered_out}
use Rattle.moved_runs.proofs.OfferLemmas.{IsSameFirst, IsSameOffer, def_at, first_def, offer_named, same_first}
use Rattle.moved_runs.proofs.RunLemmas.{face_is, face_none}

-- what a run over its load list says of faces
pub record IsOver (faces : List Face) (run : Run) (objs : List Object) : Type 0 where
  pub count : length run.objs ≡ length objs
  pub face : (j : ℕ) (o : Object) → slice_get objs j ≡ Some o → face_at faces run j ≡ Some o.face
  pub none : (j : ℕ) → slice_get objs j ≡ None → face_at faces run j ≡ None

pub is_over : (faces : List Face) (opens : List (List ℕ)) (loaded : Loaded) (ends : List Loaded) (run : Run) → IsRunOf faces opens loaded ends run → IsOver faces run loaded.objs
is_over faces opens loaded ends run is = record { count = is.count; face = face_is faces opens loaded ends run is; none = face_none faces opens loaded ends run is }

-- the two runs agree in the numbers that scopes are made of
pub record HaveSameScopes (here there : Run) : Type 0 where
  pub global : there.global ≡ here.global
  pub locals : (j : ℕ) → local_of there (slice_get there.objs j) ≡ local_of here (slice_get here.objs j)

module _ (faces faces' : List Face) (replay : Replay) (run' : Run) (loaded : Loaded) (name_of : ℕ → List ℕ) (is_bundled : ℕ → Bool) (objs_there : List Object) (alike : IsAlike faces replay loaded name_of is_bundled objs_there) (over : IsOver faces replay.run loaded.objs) (over' : IsOver faces' run' objs_there) (scopes : HaveSameScopes replay.run run') (count : length objs_there ≡ length loaded.objs) where
  abbrev run : Run
  run = replay.run

  -- ---- faces of files that are written

  pub record AreBoth (j : ℕ) : Type 0 where
    pub here : Object
    pub here_is : slice_get loaded.objs j ≡ Some here
    pub there : Object
    pub there_is : slice_get objs_there j ≡ Some there
    pub face_here : face_at faces run j ≡ Some here.face
    pub face_there : face_at faces' run' j ≡ Some there.face

  both_at : (j : ℕ) (o : Object) → slice_get loaded.objs j ≡ Some o → AreBoth j
  both_at j o h =
      let q = there_too loaded.objs objs_there j o count h in
      record { here = o; here_is = h; there = q.0; there_is = q.1; face_here = over.face j o h; face_there = over'.face j q.0 q.1 }

  pub none_at : (j : ℕ) → slice_get loaded.objs j ≡ None → (face_at faces run j ≡ None) × (face_at faces' run' j ≡ None)
  none_at j h = (over.none j h, over'.none j (none_too loaded.objs objs_there j count h))

  some_face : (j : ℕ) (found : Option Object) (f : Face) → slice_get loaded.objs j ≡ found → face_at faces run j ≡ Some f → AreBoth j
  some_face j None f h e = let no : None ≡ Some f = sym (over.none j h) ∙ e in cc
  some_face j (Some o) f h e = both_at j o h

  symbols_of : (j : ℕ) → is_written is_bundled j ≡ true → (b : AreBoth j) → KeepsSymbols b.here.face b.there.face
  symbols_of j w b = alike.symbols j b.here b.there w b.here_is b.there_is

  syms_by : (j : ℕ) → is_written is_bundled j ≡ true → (found : Option Object) → slice_get loaded.objs j ≡ found → syms_in (face_at faces' run' j) ≡ syms_in (face_at faces run j)
  syms_by j w None h = let n = none_at j h in ap syms_in n.1 ∙ sym (ap syms_in n.0)
  syms_by j w (Some o) h = let b = both_at j o h in ap syms_in b.face_there ∙ (symbols_of j w b).syms ∙ sym (ap syms_in b.face_here)

  pub same_syms : (j : ℕ) → is_written is_bundled j ≡ true → syms_in (face_at faces' run' j) ≡ syms_in (face_at faces run j)
  same_syms j w = syms_by j w (slice_get loaded.objs j) refl

  symbol_by : (j i : ℕ) → is_written is_bundled j ≡ true → (found : Option Object) → slice_get loaded.objs j ≡ found → symbol_at faces' run' j i ≡ symbol_at faces run j i
  symbol_by j i w None h =
      let n = none_at j h in
      ap (option_and_then (λ (f : Face). slice_get f.syms i)) n.1 ∙ sym (ap (option_and_then (λ (f : Face). slice_get f.syms i)) n.0)
  symbol_by j i w (Some o) h =
      let b = both_at j o h in
      ap (option_and_then (λ (f : Face). slice_get f.syms i)) b.face_there
      ∙ ap (λ (ss : List Sym). slice_get ss i) (symbols_of j w b).syms
      ∙ sym (ap (option_and_then (λ (f : Face). slice_get f.syms i)) b.face_here)

  pub same_symbol : (j i : ℕ) → is_written is_bundled j ≡ true → symbol_at faces' run' j i ≡ symbol_at faces run j i
  same_symbol j i w = symbol_by j i w (slice_get loaded.objs j) refl

  -- ---- scopes

  symbolic_by : (j : ℕ) → is_written is_bundled j ≡ true → (found : Option Object) → slice_get loaded.objs j ≡ found → is_symbolic_face (face_at faces' run' j) ≡ is_symbolic_face (face_at faces run j)
  symbolic_by j w None h = let n = none_at j h in ap is_symbolic_face n.1 ∙ sym (ap is_symbolic_face n.0)
  symbolic_by j w (Some o) h = let b = both_at j o h in ap is_symbolic_face b.face_there ∙ (symbols_of j w b).symbolic ∙ sym (ap is_symbolic_face b.face_here)

  pub same_scope : (j : ℕ) → is_written is_bundled j ≡ true → scope_of faces' run' j ≡ scope_of faces run j
  unfolding scope_of
  same_scope j w =
      ap (λ b. with_numbers [] (cond b (j ∷ []) [] ++ (up_to run'.global ++ local_of run' (slice_get run'.objs j)))) (symbolic_by j w (slice_get loaded.objs j) refl)
      ∙ ap (λ n. with_numbers [] (itself faces run j ++ (up_to n ++ local_of run' (slice_get run'.objs j)))) scopes.global
      ∙ ap (λ ks. with_numbers [] (itself faces run j ++ (up_to run.global ++ ks))) (scopes.locals j)

  -- ---- offers

  abbrev offers : List Face → Run → List ℕ → Option (List ℕ) → Class → ℕ → Option ℕ
  offers fs r name version class k = option_and_then (λ face. offer_of (offered_by face) name version class) (face_at fs r k)

  abbrev IsSameDefBy : ℕ → ℕ → ℕ → Type 0
  IsSameDefBy k i i' =
      (is_written is_bundled k ≡ true → i' ≡ i)
      × (is_written is_bundled k ≡ false → (s : Sym) × (t : Sym) × (symbol_at faces run k i ≡ Some s) × (symbol_at faces' run' k i' ≡ Some t) × IsSameSymbol s t)

  written_offer : (k : ℕ) (x y : Option ℕ) → is_written is_bundled k ≡ true → y ≡ x → IsSameOffer (λ n. x) (λ n. y) IsSameDefBy k x y
  written_offer k None None w e = tt
  written_offer k None (Some j) w e = cc
  written_offer k (Some i) None w e = cc
  written_offer k (Some i) (Some j) w e = (λ t. let s : j ≡ i = cc in s, λ no. let c : true ≡ false = sym w ∙ no in cc)

  abbrev found_of : Face → Option ℕ → Option (Option (List ℕ))
  found_of face offer = option_map (λ (s : Sym). wanted_version s.version) (option_and_then (λ i. slice_get face.syms i) offer)

  host_offer : (k : ℕ) (name : List ℕ) (version : Option (List ℕ)) (class : Class) (b : AreBoth k) (x y : Option ℕ) → is_written is_bundled k ≡ false → offer_of (offered_by b.here.face) name version class ≡ x → offer_of (offered_by b.there.face) name version class ≡ y → found_of b.there.face y ≡ found_of b.here.face x → IsSameOffer (λ n. x) (λ n. y) IsSameDefBy k x y
  host_offer k name version class b None None w e f h = tt
  host_offer k name version class b None (Some j) w e f h =
      let t = offer_named (offered_by b.there.face) name version class j f in
      let no : Some (wanted_version t.0.version) ≡ None = sym (ap (option_map (λ (s : Sym). wanted_version s.version)) t.1) ∙ h in
      cc
  host_offer k name version class b (Some i) None w e f h =
      let s = offer_named (offered_by b.here.face) name version class i e in
      let no : None ≡ Some (wanted_version s.0.version) = h ∙ ap (option_map (λ (z : Sym). wanted_version z.version)) s.1 in
      cc
  host_offer k name version class b (Some i) (Some j) w e f h =
      let s = offer_named (offered_by b.here.face) name version class i e in
      let t = offer_named (offered_by b.there.face) name version class j f in
      let both : Some (wanted_version t.0.version) ≡ Some (wanted_version s.0.version) = sym (ap (option_map (λ (z : Sym). wanted_version z.version)) t.1) ∙ h ∙ ap (option_map (λ (z : Sym). wanted_version z.version)) s.1 in (
        λ no. let c : false ≡ true = sym w ∙ no in cc,
        λ yes. (
          s.0,
          t.0,
          ap (option_and_then (λ (z : Face). slice_get z.syms i)) b.face_here ∙ s.1,
          ap (option_and_then (λ (z : Face). slice_get z.syms j)) b.face_there ∙ t.1,
          record { name = t.2 ∙ sym s.2; version = let v : wanted_version t.0.version ≡ wanted_version s.0.version = cc in v },
        ),
      )

  module _ (j i : ℕ) (class : Class) (s : Sym) (written : is_written is_bundled j ≡ true) (symbol : symbol_at faces run j i ≡ Some s) (number : ℕ) (stands : slice_get replay.binds number ≡ Some (bind_of faces run j i class)) where
    abbrev scope : List ℕ
    scope = looked_in class (scope_of faces run j)

    abbrev name : List ℕ
    name = s.name

    abbrev version : Option (List ℕ)
    version = wanted_version s.version

    abbrev f : ℕ → Option ℕ
    f = offers faces run s.name (wanted_version s.version) class

    abbrev f' : ℕ → Option ℕ
    f' = offers faces' run' s.name (wanted_version s.version) class

    module _ (not_own : binds_itself class s ≡ false) where
      to_is : bound_to faces run j i class ≡ first_def f scope
      unfolding bound_to first_offer
      to_is =
          ap (bound_by faces run j i class) symbol
          ∙ ap (λ b. cond b (Some (def_at j i)) (first_offer faces run scope s.name (wanted_version s.version) class)) not_own

      to_is' : bound_to faces' run' j i class ≡ first_def f' scope
      unfolding bound_to first_offer
      to_is' =
          ap (bound_by faces' run' j i class) (same_symbol j i written ∙ symbol)
          ∙ ap (λ b. cond b (Some (def_at j i)) (first_offer faces' run' (looked_in class (scope_of faces' run' j)) s.name (wanted_version s.version) class)) not_own
          ∙ ap (λ ks. first_offer faces' run' (looked_in class ks) s.name (wanted_version s.version) class) (same_scope j written)

      look_at : (k : ℕ) → IsLookedIn (first_def f scope) scope k → (found : Option Object) → slice_get loaded.objs k ≡ found → IsSameOffer f f' IsSameDefBy k (f k) (f' k)
      unfolding both_at
      look_at k looked None h =
          let n = none_at k h in
          subst (λ (y : Option ℕ). IsSameOffer f f' IsSameDefBy k (f k) y) (sym (ap (option_and_then (λ (z : Face). offer_of (offered_by z) s.name (wanted_version s.version) class)) n.1))
          (subst (λ (x : Option ℕ). IsSameOffer f f' IsSameDefBy k x None) (sym (ap (option_and_then (λ (z : Face). offer_of (offered_by z) s.name (wanted_version s.version) class)) n.0)) tt)
      look_at k looked (Some o) h =
          let b = both_at k o h in
          let x : f k ≡ offer_of (offered_by o.face) s.name (wanted_version s.version) class = ap (option_and_then (λ (z : Face). offer_of (offered_by z) s.name (wanted_version s.version) class)) b.face_here in
          let y : f' k ≡ offer_of (offered_by b.there.face) s.name (wanted_version s.version) class = ap (option_and_then (λ (z : Face). offer_of (offered_by z) s.name (wanted_version s.version) class)) b.face_there in
          subst (λ (z : Option ℕ). IsSameOffer f f' IsSameDefBy k (f k) z) (sym y)
          (subst (λ (z : Option ℕ). IsSameOffer f f' IsSameDefBy k z (offer_of (offered_by b.there.face) s.name (wanted_version s.version) class)) (sym x)
          (elim (cases_Bool (is_written is_bundled k)) [
            | inl w ↦
                let keeps = symbols_of k w b in
                let same : offered_by b.there.face ≡ offered_by o.face =
                ap (λ (ss : List Sym). record { syms = ss; versioned = b.there.face.versioned }) keeps.syms ∙ ap (λ (v : Bool). record { syms = o.face.syms; versioned = v }) keeps.versioned in
                written_offer k (offer_of (offered_by o.face) s.name (wanted_version s.version) class) (offer_of (offered_by b.there.face) s.name (wanted_version s.version) class) w
                (ap (λ (z : Offered). offer_of z s.name (wanted_version s.version) class) same)
            | inr w ↦
                let looked_up : IsLookedUp faces replay loaded name_of is_bundled objs_there (bind_of faces run j i class) s = record { number = number; stands = stands; written = written; symbol = symbol; not_own = not_own } in
                let looked_to = subst (λ (d : Option Def). IsLookedIn d scope k) (sym to_is) looked in
                host_offer k s.name (wanted_version s.version) class b (offer_of (offered_by o.face) s.name (wanted_version s.version) class) (offer_of (offered_by b.there.face) s.name (wanted_version s.version) class) w refl refl
                (alike.looks (bind_of faces run j i class) s k o b.there looked_up looked_to w h b.there_is)
          ]))

      bound : (x y : Option Def) → IsSameFirst f f' IsSameDefBy x y → IsSameBound faces faces' run run' is_bundled x y
      bound None None p = tt
      bound None (Some e) p = absurd p
      bound (Some d) None p = absurd p
      bound (Some d) (Some e) p =
          record {
            obj = p.0;
            sym = p.1.0;
            symbol = λ no. let w = p.1.1 no in (w.0, w.1, w.2, ap (λ k. symbol_at faces' run' k e.sym) p.0 ∙ w.3, w.4);
          }

      looked_bound : IsSameBound faces faces' run run' is_bundled (bound_to faces run j i class) (bound_to faces' run' j i class)
      looked_bound =
          subst (λ (y : Option Def). IsSameBound faces faces' run run' is_bundled (bound_to faces run j i class) y) (sym to_is')
          (subst (λ (x : Option Def). IsSameBound faces faces' run run' is_bundled x (first_def f' scope)) (sym to_is)
          (bound (first_def f scope) (first_def f' scope) (same_first f f' IsSameDefBy scope (λ k looked. look_at k looked (slice_get loaded.objs k) refl))))

    module _ (own : binds_itself class s ≡ true) where
      own_is : bound_to faces run j i class ≡ Some (def_at j i)
      unfolding bound_to
      own_is =
          ap (bound_by faces run j i class) symbol
          ∙ ap (λ b. cond b (Some (def_at j i)) (first_offer faces run scope s.name (wanted_version s.version) class)) own

      own_is' : bound_to faces' run' j i class ≡ Some (def_at j i)
      unfolding bound_to
      own_is' =
          ap (bound_by faces' run' j i class) (same_symbol j i written ∙ symbol)
          ∙ ap (λ b. cond b (Some (def_at j i)) (first_offer faces' run' (looked_in class (scope_of faces' run' j)) s.name (wanted_version s.version) class)) own

      own_bound : IsSameBound faces faces' run run' is_bundled (bound_to faces run j i class) (bound_to faces' run' j i class)
      own_bound =
          subst (λ (y : Option Def). IsSameBound faces faces' run run' is_bundled (bound_to faces run j i class) y) (sym own_is')
          (subst (λ (x : Option Def). IsSameBound faces faces' run run' is_bundled x (Some (def_at j i))) (sym own_is)
          (record { obj = refl; sym = λ w. refl; symbol = λ no. let c : true ≡ false = sym written ∙ no in cc }))

    pub same_bound : IsSameBound faces faces' run run' is_bundled (bound_to faces run j i class) (bound_to faces' run' j i class)
    same_bound = elim (cases_Bool (binds_itself class s)) [
      | inl own ↦ own_bound own
      | inr not_own ↦ looked_bound not_own
    ]

  -- ---- all references

  shared_out : (j k : ℕ) (p : ℕ × Sym) (b : Bind) (shared : Bool) → slice_get (cond shared (map (bind_of faces run j p.0) (classes_of j p.1)) []) k ≡ Some b → (class : Class) × (shared ≡ true) × (slice_get (classes_of j p.1) k ≡ Some class) × (b ≡ bind_of faces run j p.0 class)
  shared_out j k p b true h = let w = get_map (bind_of faces run j p.0) (classes_of j p.1) k b h in (w.0, refl, w.1, w.2)
  shared_out j k p b false h = cc

  pub record IsReference (b : Bind) : Type 0 where
    pub j : ℕ
    pub numbered : ℕ
    pub number_is : slice_get (up_to (length run.objs)) numbered ≡ Some j
    pub place : ℕ
    pub entry : ℕ × Sym
    pub stands : slice_get (drop 1 (enumerate_from 0 (syms_in (face_at faces run j)))) place ≡ Some entry
    pub nth : ℕ
    pub class : Class
    pub shared : is_shared entry.1.binding ≡ true
    pub class_is : slice_get (classes_of j entry.1) nth ≡ Some class
    pub bind_is : b ≡ bind_of faces run j entry.0 class

  pub reference_at : (m : ℕ) (b : Bind) → slice_get (all_binds faces run) m ≡ Some b → IsReference b
  unfolding all_binds binds_of_object
  reference_at m b h =
      let w = flat_out (binds_of_object faces run) (up_to (length run.objs)) m b h in
      let v = flat_out (λ (numbered : ℕ × Sym). binds_of_symbol faces run w.1 numbered.0 numbered.1) (drop 1 (enumerate_from 0 (syms_in (face_at faces run w.1)))) w.2 b w.4 in
      let u = shared_out w.1 v.2 v.1 b (is_shared v.1.1.binding) v.4 in
      record { j = w.1; numbered = w.0; number_is = w.3; place = v.0; entry = v.1; stands = v.3; nth = v.2; class = u.0; shared = u.1; class_is = u.2; bind_is = u.3 }

  nothing : (place : ℕ) → ◌≡◌ {A = Option (ℕ × Sym)} (slice_get [] place) None
  nothing place = refl

  entry_symbol : (j : ℕ) (found : Option Object) (place : ℕ) (entry : ℕ × Sym) → slice_get loaded.objs j ≡ found → slice_get (drop 1 (enumerate_from 0 (syms_in (face_at faces run j)))) place ≡ Some entry → symbol_at faces run j entry.0 ≡ Some entry.1
  unfolding both_at
  entry_symbol j None place entry h g =
      let empty : slice_get (drop 1 (enumerate_from 0 (syms_in (face_at faces run j)))) place ≡ None = ap (λ f. slice_get (drop 1 (enumerate_from 0 (syms_in f))) place) (none_at j h).0 ∙ nothing place in
      let no : None ≡ Some entry = sym empty ∙ g in
      cc
  entry_symbol j (Some o) place entry h g =
      let b = both_at j o h in
      let here : slice_get (drop 1 (enumerate_from 0 o.face.syms)) place ≡ Some entry = ap (λ f. slice_get (drop 1 (enumerate_from 0 (syms_in f))) place) (sym b.face_here) ∙ g in
      let at : slice_get (enumerate_from 0 o.face.syms) (1 + place) ≡ Some entry = sym (slice_get-drop 1 (enumerate_from 0 o.face.syms) place) ∙ here in
      let w = numbered_out 0 o.face.syms (1 + place) entry at in
      let z : 0 + (1 + place) ≡ 1 + place = omega arith in
      ap (option_and_then (λ (f : Face). slice_get f.syms entry.0)) b.face_here ∙ ap (slice_get o.face.syms) (w.0 ∙ z) ∙ w.1

  pub bind_there : (m : ℕ) (b : Bind) → replay.binds ≡ all_binds faces run → slice_get replay.binds m ≡ Some b → is_written is_bundled b.obj ≡ true → (n : ℕ) × (c : Bind) × (slice_get (all_binds faces' run') n ≡ Some c) × IsSameReference b c × IsSameBound faces faces' run run' is_bundled b.to c.to
  unfolding all_binds binds_of_object
  bind_there m b all h w =
      let r = reference_at m b (ap (λ bs. slice_get bs m) (sym all) ∙ h) in
      let written : is_written is_bundled r.j ≡ true = ap (λ (x : Bind). is_written is_bundled x.obj) (sym r.bind_is) ∙ w in
      let symbol = entry_symbol r.j (slice_get loaded.objs r.j) r.place r.entry refl r.stands in
      let stands_there : slice_get (drop 1 (enumerate_from 0 (syms_in (face_at faces' run' r.j)))) r.place ≡ Some r.entry = ap (λ ss. slice_get (drop 1 (enumerate_from 0 ss)) r.place) (same_syms r.j written) ∙ r.stands in
      let c : Bind = bind_of faces' run' r.j r.entry.0 r.class in
      let mapped : slice_get (binds_of_symbol faces' run' r.j r.entry.0 r.entry.1) r.nth ≡ Some c =
      ap (λ (s : Bool). slice_get (cond s (map (bind_of faces' run' r.j r.entry.0) (classes_of r.j r.entry.1)) []) r.nth) r.shared ∙ map_get (bind_of faces' run' r.j r.entry.0) (classes_of r.j r.entry.1) r.nth r.class r.class_is in
      let of_object = flat_in (λ (numbered : ℕ × Sym). binds_of_symbol faces' run' r.j numbered.0 numbered.1) (drop 1 (enumerate_from 0 (syms_in (face_at faces' run' r.j)))) r.place r.nth r.entry c stands_there mapped in
      let number_there : slice_get (up_to (length run'.objs)) r.numbered ≡ Some r.j = ap (λ n. slice_get (up_to n) r.numbered) (over'.count ∙ count ∙ sym over.count) ∙ r.number_is in
      let of_all = flat_in (binds_of_object faces' run') (up_to (length run'.objs)) r.numbered of_object.0 r.j c number_there of_object.1 in
      let stands_here : slice_get replay.binds m ≡ Some (bind_of faces run r.j r.entry.0 r.class) = h ∙ ap Some r.bind_is in
      let paired = same_bound r.j r.entry.0 r.class r.entry.1 written symbol m stands_here in (
        of_all.0,
        c,
        of_all.1,
        record { obj = ap (λ (x : Bind). x.obj) (sym r.bind_is); sym = ap (λ (x : Bind). x.sym) (sym r.bind_is); class = ap (λ (x : Bind). x.class) (sym r.bind_is) },
        subst (λ (d : Option Def). IsSameBound faces faces' run run' is_bundled d (bound_to faces' run' r.j r.entry.0 r.class)) (ap (λ (x : Bind). x.to) (sym r.bind_is)) paired,
      )
