-- The file of an ask, and the first ask that is not met.
use Rattle.std.proofs.Common.{◌≡◌, ◌∙◌, sym, ap, refl, subst, ℕ, zero, suc, ◌+◌, ◌<◌, ◌≤◌, List, [], ◌∷◌, ◌++◌, Bool, true, false, cond, ◌==◌, ◌&&◌, ◌||◌, Option, Some, None, IfSome, filter, map, slice_get, get_or, take, length, zip, nat_le, arith, inl, inr, min}
use Rattle.std.specs.List.{enumerate_from, find, flat_map, list_any}
use Rattle.std.specs.Option.{option_and_then, option_map, option_or, unwrap_or}
use Rattle.std.specs.Str.{bytes_eq}
use Rattle.std.proofs.lemmas.Bool.{and_parts, and_from, and_right, cases_Bool, cases_lt, eq-eqb, eqb-true, ne_eqb}
use Rattle.std.proofs.lemmas.List.{append-nil, length-map, take_all}
use Rattle.std.proofs.lemmas.List.Concat.{flat_map-append}
use Rattle.std.proofs.lemmas.List.Elements.{filter-append}
use Rattle.std.proofs.lemmas.List.Folds.{list_any-append, list_any_more}
use Rattle.std.proofs.lemmas.Option.{get_or_from_slice_get, slice_get-map, slice_get_past, slice_get_read, slice_get_within}
use Rattle.std.proofs.lemmas.Slice.Zip.{get_or-zip, length-zip}
use Rattle.answers.specs.Answers.{Names}
use Rattle.answers.specs.First.{first_some}
use Rattle.load_model.specs.LoadList.{is_named, up_to, lesser_of}
use Rattle.load_model.specs.Runs.{IsRunOver, face_at}
use Rattle.load_model.specs.VersionCheck.{FileUnloaded, Unmet, UnmetAsk, VersionLacking, asked_by, asks_in, defs_in, first_unmet, has_defined, is_known_by, loaded_by, needs_in, needs_to, phase_at, soname_in, VersionsMet, unmet, unmet_at, unmet_by, unmet_of, version_file_of}
use Rattle.load_model.specs.declared.asks.Ask.{Ask}
use Rattle.load_model.specs.declared.faces.Face.{Face}
use Rattle.load_model.specs.declared.runs.Obj.{Obj}
use Rattle.load_model.specs.declared.runs.Run.{Run}
use Rattle.scope_lookup.specs.Asking.{asked_names, names_opened_by, unmet_ask}
use Rattle.scope_lookup.specs.Firsts.{is_request_to, requests_in}
use Rattle.scope_lookup.specs.declared.stops.VersionStop.{VersionStop}
use Rattle.scope_lookup.specs.declared.stops.VersionStop.TheVariants.{VersionFileUnloaded, UnsatisfiedVersion}
use Rattle.load_model.proofs.NumberLemmas.{length-up_to, number_at}
use Rattle.load_model.proofs.LesserLemmas.{lesser_either, find-filter, find_below, find_first, find_none, find_same}

length_more : {X : Type 0} (xs : List X) (x : X) → length (xs ++ x ∷ []) ≡ suc (length xs)
length_more [] x = refl
length_more (y ∷ xs) x = ap suc (length_more xs x)

-- objects that are loaded at the end of a phase
distribute : (t p q : Bool) → ((t && p) || (t && q)) ≡ (t && (p || q))
distribute true p q = refl
distribute false p q = refl

pub loaded_either : (run : Run) (phase : ℕ) (p q : ℕ → Bool) → lesser_of (find p (loaded_by run phase)) (find q (loaded_by run phase)) ≡ find (λ j. p j || q j) (loaded_by run phase)
loaded_either run phase p q =
    let t : ℕ → Bool = λ j. nat_le (phase_at run j) phase in
    let n : ℕ = length run.objs in
    ap (λ o. lesser_of o (find q (loaded_by run phase))) (find-filter t p (up_to n))
    ∙ ap (lesser_of (find (λ j. t j && p j) (up_to n))) (find-filter t q (up_to n))
    ∙ lesser_either (λ j. t j && p j) (λ j. t j && q j) n
    ∙ find_same (λ j. (t j && p j) || (t j && q j)) (λ j. t j && (p j || q j)) (up_to n) (λ j. distribute (t j) (p j) (q j))
    ∙ sym (find-filter t (λ j. p j || q j) (up_to n))

pub loaded_below : (run : Run) (phase : ℕ) (p : ℕ → Bool) (k : ℕ) → find p (loaded_by run phase) ≡ Some k → k < length run.objs
loaded_below run phase p k h =
    let t : ℕ → Bool = λ j. nat_le (phase_at run j) phase in
    find_below (λ j. t j && p j) (length run.objs) k (sym (find-filter t p (up_to (length run.objs))) ∙ h)

-- one request is known to go to one object
swapped : (a b e : Bool) → (b && a) ≡ false → (a && (b && e)) ≡ false
swapped true true e h = cc
swapped true false e h = refl
swapped false b e h = refl

no_other : (t : ℕ → Bool) (b : Bool) (target j : ℕ) → (b && t target) ≡ false → (t j && (b && (target == j))) ≡ false
no_other t b target j h =
    elim (cases_Bool (target == j)) [
      | inl e ↦ ap (λ x. x && (b && (target == j))) (ap t (sym (eqb-true target j e))) ∙ swapped (t target) b (target == j) h
      | inr e ↦ and_right (t j) (b && (target == j)) (and_right b (target == j) e)
    ]

one_request : (t : ℕ → Bool) (b c : Bool) (target n : ℕ) → target < n → (b && t target) ≡ c → find (λ j. t j && (b && (target == j))) (up_to n) ≡ cond c (Some target) None
one_request t b true target n within h =
    let parts = and_parts b (t target) h in
    let here : (target == target) ≡ true = eq-eqb target target refl in
    find_first (λ j. t j && (b && (target == j))) n target within (and_from (t target) (b && (target == target)) parts.1 (and_from b (target == target) parts.0 here))
    (λ j less. and_right (t j) (b && (target == j)) (and_right b (target == j) (ne_eqb target j (λ e. absurd (omega arith)))))
one_request t b false target n within h =
    find_none (λ j. t j && (b && (target == j))) n (λ j less. no_other t b target j h)

lesser_none : (o : Option ℕ) → lesser_of o None ≡ o
lesser_none None = refl
lesser_none (Some i) = refl

-- one request more of some names with their targets
module _ (run : Run) (phase : ℕ) (file : List ℕ) (names : List (List ℕ)) (targets : List ℕ) where
  abbrev pub target_so_far : ℕ → Option ℕ
  target_so_far i = find (λ j. list_any (is_request_to file j) (take i (zip names targets))) (loaded_by run phase)

  target_more : (i target : ℕ) (name : List ℕ) (c : Bool) → i < length names → i < length targets → name ≡ get_or names i [] → target ≡ get_or targets i 0 → target < length run.objs → (bytes_eq name file && nat_le (phase_at run target) phase) ≡ c → target_so_far (i + 1) ≡ lesser_of (target_so_far i) (cond c (Some target) None)
  target_more i target name c in_names in_targets name_is target_is within h =
      let t : ℕ → Bool = λ j. nat_le (phase_at run j) phase in
      let pairs : List (List ℕ × ℕ) = zip names targets in
      let size : length pairs ≡ min (length names) (length targets) = length-zip names targets in
      let less : i < length pairs = omega arith in
      let pair : get_or pairs i ([], 0) ≡ (name, target) = get_or-zip names targets i ([], 0) in_names in_targets ∙ ap (λ x. (x, get_or targets i 0)) (sym name_is) ∙ ap (λ x. (name, x)) (sym target_is) in
      let one : find (λ j. bytes_eq name file && (target == j)) (loaded_by run phase) ≡ cond c (Some target) None =
      find-filter t (λ j. bytes_eq name file && (target == j)) (up_to (length run.objs)) ∙ one_request t (bytes_eq name file) c target (length run.objs) within h in
      find_same (λ j. list_any (is_request_to file j) (take (i + 1) pairs)) (λ j. list_any (is_request_to file j) (take i pairs) || (bytes_eq name file && (target == j))) (loaded_by run phase)
      (λ j. list_any_more (is_request_to file j) pairs i ([], 0) less ∙ ap (λ x. list_any (is_request_to file j) (take i pairs) || is_request_to file j x) pair)
      ∙ sym (loaded_either run phase (λ j. list_any (is_request_to file j) (take i pairs)) (λ j. bytes_eq name file && (target == j)))
      ∙ ap (lesser_of (target_so_far i)) one

  pub target_hit : (i target : ℕ) (name : List ℕ) → i < length names → i < length targets → name ≡ get_or names i [] → target ≡ get_or targets i 0 → target < length run.objs → bytes_eq name file ≡ true → nat_le (phase_at run target) phase ≡ true → (first : Option ℕ) → first ≡ target_so_far i → lesser_of first (Some target) ≡ target_so_far (i + 1)
  target_hit i target name a b c d e f g first h =
      ap (λ o. lesser_of o (Some target)) h ∙ sym (target_more i target name true a b c d e (and_from (bytes_eq name file) (nat_le (phase_at run target) phase) f g))

  pub target_miss : (i target : ℕ) (name : List ℕ) → i < length names → i < length targets → name ≡ get_or names i [] → target ≡ get_or targets i 0 → target < length run.objs → (bytes_eq name file && nat_le (phase_at run target) phase) ≡ false → (first : Option ℕ) → first ≡ target_so_far i → first ≡ target_so_far (i + 1)
  target_miss i target name a b c d e f first h =
      h ∙ sym (lesser_none (target_so_far i)) ∙ sym (target_more i target name false a b c d e f)

-- the requests of one object more
module _ (asked : List (List (List ℕ))) (run : Run) (phase : ℕ) (file : List ℕ) where
  abbrev pub needed_so_far : ℕ → Option ℕ
  needed_so_far n = find (λ j. list_any (is_request_to file j) (flat_map (requests_in asked run) (filter (λ k. nat_le (phase_at run k) phase) (up_to n)))) (loaded_by run phase)

  one_kept : (n : ℕ) (c : Bool) → flat_map (requests_in asked run) (cond c (n ∷ []) []) ≡ cond c (requests_in asked run n) []
  one_kept n true = append-nil (requests_in asked run n)
  one_kept n false = refl

  kept_requests : (n : ℕ) (b : Bool) → nat_le (phase_at run n) phase ≡ b → flat_map (requests_in asked run) (filter (λ k. nat_le (phase_at run k) phase) (up_to (n + 1))) ≡ flat_map (requests_in asked run) (filter (λ k. nat_le (phase_at run k) phase) (up_to n)) ++ cond b (requests_in asked run n) []
  unfolding up_to
  kept_requests n b h =
      let t : ℕ → Bool = λ k. nat_le (phase_at run k) phase in
      let up : n + 1 ≡ suc n = omega arith in
      ap (λ k. flat_map (requests_in asked run) (filter t (up_to k))) up
      ∙ ap (flat_map (requests_in asked run)) (filter-append t (up_to n) (n ∷ []))
      ∙ flat_map-append (requests_in asked run) (filter t (up_to n)) (filter t (n ∷ []))
      ∙ ap (λ xs. flat_map (requests_in asked run) (filter t (up_to n)) ++ flat_map (requests_in asked run) xs) (ap (λ c. cond c (n ∷ []) []) h)
      ∙ ap (λ xs. flat_map (requests_in asked run) (filter t (up_to n)) ++ xs) (one_kept n b)

  pub needed_more : (n : ℕ) (first : Option ℕ) → nat_le (phase_at run n) phase ≡ true → first ≡ needed_so_far n → lesser_of first (find (λ j. list_any (is_request_to file j) (requests_in asked run n)) (loaded_by run phase)) ≡ needed_so_far (n + 1)
  needed_more n first h g =
      let before : List (List ℕ × ℕ) = flat_map (requests_in asked run) (filter (λ k. nat_le (phase_at run k) phase) (up_to n)) in
      ap (λ o. lesser_of o (find (λ j. list_any (is_request_to file j) (requests_in asked run n)) (loaded_by run phase))) g
      ∙ loaded_either run phase (λ j. list_any (is_request_to file j) before) (λ j. list_any (is_request_to file j) (requests_in asked run n))
      ∙ find_same (λ j. list_any (is_request_to file j) before || list_any (is_request_to file j) (requests_in asked run n)) (λ j. list_any (is_request_to file j) (flat_map (requests_in asked run) (filter (λ k. nat_le (phase_at run k) phase) (up_to (n + 1))))) (loaded_by run phase)
      (λ j. sym (list_any-append (is_request_to file j) before (requests_in asked run n)) ∙ ap (list_any (is_request_to file j)) (sym (kept_requests n true h)))

  pub needed_same : (n : ℕ) (first : Option ℕ) → nat_le (phase_at run n) phase ≡ false → first ≡ needed_so_far n → first ≡ needed_so_far (n + 1)
  needed_same n first h g =
      let before : List (List ℕ × ℕ) = flat_map (requests_in asked run) (filter (λ k. nat_le (phase_at run k) phase) (up_to n)) in
      g ∙ find_same (λ j. list_any (is_request_to file j) before) (λ j. list_any (is_request_to file j) (flat_map (requests_in asked run) (filter (λ k. nat_le (phase_at run k) phase) (up_to (n + 1))))) (loaded_by run phase)
      (λ j. ap (list_any (is_request_to file j)) (sym (kept_requests n false h ∙ append-nil before)))

-- what is asked for with the needs of each object, where the names are those
zip_front : (xs ys : List (List ℕ)) (ts : List ℕ) → length ts ≡ length xs → zip (xs ++ ys) ts ≡ zip xs ts
zip_front [] [] [] h = refl
zip_front [] (y ∷ ys) [] h = refl
zip_front [] ys (t ∷ ts) h = absurd (omega arith)
zip_front (x ∷ xs) ys [] h = absurd (omega arith)
zip_front (x ∷ xs) ys (t ∷ ts) h = ap (λ r. (x, t) ∷ r) (zip_front xs ys ts (omega arith))

zip_take : (n : ℕ) (xs : List (List ℕ)) (ts : List ℕ) → take n (zip xs ts) ≡ zip (take n xs) (take n ts)
zip_take zero xs ts = refl
zip_take (suc n) [] ts = refl
zip_take (suc n) (x ∷ xs) [] = refl
zip_take (suc n) (x ∷ xs) (t ∷ ts) = ap (λ r. (x, t) ∷ r) (zip_take n xs ts)

flat_same : {A B : Type 0} (f g : A → List B) (xs : List A) → ((x : A) → f x ≡ g x) → flat_map f xs ≡ flat_map g xs
flat_same f g [] h = refl
flat_same f g (x ∷ xs) h = ap (λ ys. ys ++ flat_map f xs) (h x) ∙ ap (λ ys. g x ++ ys) (flat_same f g xs h)

there : {X : Type 0} (xs : List X) (k : ℕ) → k < length xs → (x : X) × (slice_get xs k ≡ Some x)
there [] k h = absurd (omega arith)
there (x ∷ xs) zero h = (x, refl)
there (x ∷ xs) (suc k) h = there xs k (omega arith)

module _ (faces : List Face) (run : Run) (over : IsRunOver faces run) where
  face_there : (j : ℕ) → j < length run.objs → (face : Face) × (face_at faces run j ≡ Some face)
  face_there j less =
      let o = there run.objs j less in
      let at : get_or run.objs j o.0 ≡ o.0 = get_or_from_slice_get run.objs j o.0 o.0 o.1 in
      let place : o.0.face < length faces = subst (λ (x : Obj). x.face < length faces) at ((over.objs j o.0 less).face) in
      let face = there faces o.0.face place in
      (face.0, ap (option_and_then (λ (x : Obj). slice_get faces x.face)) o.1 ∙ face.1)

  names_at : (asked : List (List (List ℕ))) → asked ≡ asked_names faces run → (j : ℕ) → j < length run.objs → slice_get asked j ≡ Some (needs_in (face_at faces run j) ++ names_opened_by run j)
  unfolding asked_names
  names_at asked is j less =
      ap (λ xs. slice_get xs j) is ∙ slice_get-map (λ k. needs_in (face_at faces run k) ++ names_opened_by run k) (up_to (length run.objs)) j
      ∙ ap (option_map (λ k. needs_in (face_at faces run k) ++ names_opened_by run k)) (number_at (length run.objs) j less)

  pub asked_count : (asked : List (List (List ℕ))) → asked ≡ asked_names faces run → length asked ≡ length run.objs
  unfolding asked_names
  asked_count asked is =
      ap length is ∙ length-map (up_to (length run.objs)) (λ k. needs_in (face_at faces run k) ++ names_opened_by run k) ∙ length-up_to (length run.objs)

  requests_same : (asked : List (List (List ℕ))) → asked ≡ asked_names faces run → (j : ℕ) → requests_in asked run j ≡ needs_to faces run j
  requests_same asked is j =
      elim (cases_lt j (length run.objs)) [
        | inl less ↦
            let lists : length run.targets ≡ length run.objs = over.lists in
            let ts = there run.targets j (omega arith) in
            let face = face_there j less in
            let size : length ts.0 ≡ length face.0.needs = over.counts j face.0 ts.0 face.1 ts.1 in
            ap (λ o. zip (unwrap_or o []) (unwrap_or (slice_get run.targets j) [])) (names_at asked is j less)
            ∙ ap (λ o. zip (needs_in (face_at faces run j) ++ names_opened_by run j) (unwrap_or o [])) ts.1
            ∙ ap (λ o. zip (needs_in o ++ names_opened_by run j) ts.0) face.1
            ∙ zip_front face.0.needs (names_opened_by run j) ts.0 size
            ∙ sym (ap (λ o. zip (needs_in o) (unwrap_or (slice_get run.targets j) [])) face.1 ∙ ap (λ o. zip face.0.needs (unwrap_or o [])) ts.1)
        | inr past ↦
            let size : length asked ≡ length run.objs = asked_count asked is in
            ap (λ o. zip (unwrap_or o []) (unwrap_or (slice_get run.targets j) [])) (slice_get_past asked j (omega arith))
            ∙ sym (ap (λ o. zip (needs_in (option_and_then (λ (x : Obj). slice_get faces x.face) o)) (unwrap_or (slice_get run.targets j) [])) (slice_get_past run.objs j past))
      ]

  -- the first of all for which the name is known
  pub file_is : (asked : List (List (List ℕ))) (j phase : ℕ) (file : List ℕ) (a b c : Option ℕ) → asked ≡ asked_names faces run → phase ≡ phase_at run j
      → a ≡ find (λ k. is_named (soname_in (face_at faces run k)) file) (loaded_by run phase)
      → b ≡ find (λ k. list_any (is_request_to file k) (flat_map (requests_in asked run) (loaded_by run phase))) (loaded_by run phase)
      → c ≡ find (λ k. list_any (is_request_to file k) (zip (take phase run.opens) (take phase run.roots))) (loaded_by run phase)
      → lesser_of a (lesser_of b c) ≡ version_file_of faces run j file
  unfolding version_file_of
  file_is asked j phase file a b c is at h g e =
      let named : ℕ → Bool = λ k. is_named (soname_in (face_at faces run k)) file in
      let needed : List (List ℕ × ℕ) = flat_map (requests_in asked run) (loaded_by run phase) in
      let opened : List (List ℕ × ℕ) = zip (take phase run.opens) (take phase run.roots) in
      let all : needed ++ opened ≡ asked_by faces run phase =
      ap (λ xs. xs ++ opened) (flat_same (requests_in asked run) (needs_to faces run) (loaded_by run phase) (requests_same asked is))
      ∙ ap (λ xs. flat_map (needs_to faces run) (loaded_by run phase) ++ xs) (sym (zip_take phase run.opens run.roots)) in
      ap (λ o. lesser_of o (lesser_of b c)) h ∙ ap (λ o. lesser_of (find named (loaded_by run phase)) (lesser_of o c)) g
      ∙ ap (λ o. lesser_of (find named (loaded_by run phase)) (lesser_of (find (λ k. list_any (is_request_to file k) needed) (loaded_by run phase)) o)) e
      ∙ ap (lesser_of (find named (loaded_by run phase))) (loaded_either run phase (λ k. list_any (is_request_to file k) needed) (λ k. list_any (is_request_to file k) opened))
      ∙ loaded_either run phase named (λ k. list_any (is_request_to file k) needed || list_any (is_request_to file k) opened)
      ∙ find_same (λ k. named k || (list_any (is_request_to file k) needed || list_any (is_request_to file k) opened)) (is_known_by faces run phase file) (loaded_by run phase)
      (λ k. ap (λ x. named k || x) (sym (list_any-append (is_request_to file k) needed opened) ∙ ap (list_any (is_request_to file k)) all))
      ∙ ap (λ p. find (is_known_by faces run p file) (loaded_by run p)) at

  -- the first with a soname
  pub soname_first : (phase : ℕ) (file : List ℕ) (k : ℕ) → k < length run.objs → nat_le (phase_at run k) phase ≡ true → is_named (soname_in (face_at faces run k)) file ≡ true → ((j : ℕ) → j < k → (nat_le (phase_at run j) phase && is_named (soname_in (face_at faces run j)) file) ≡ false) → Some k ≡ find (λ j. is_named (soname_in (face_at faces run j)) file) (loaded_by run phase)
  soname_first phase file k less h g before =
      let t : ℕ → Bool = λ j. nat_le (phase_at run j) phase in
      let p : ℕ → Bool = λ j. is_named (soname_in (face_at faces run j)) file in
      sym (find-filter t p (up_to (length run.objs)) ∙ find_first (λ j. t j && p j) (length run.objs) k less (and_from (t k) (p k) h g) before)

  pub soname_nowhere : (phase : ℕ) (file : List ℕ) → ((j : ℕ) → j < length run.objs → (nat_le (phase_at run j) phase && is_named (soname_in (face_at faces run j)) file) ≡ false) → None ≡ find (λ j. is_named (soname_in (face_at faces run j)) file) (loaded_by run phase)
  soname_nowhere phase file h =
      let t : ℕ → Bool = λ j. nat_le (phase_at run j) phase in
      let p : ℕ → Bool = λ j. is_named (soname_in (face_at faces run j)) file in
      sym (find-filter t p (up_to (length run.objs)) ∙ find_none (λ j. t j && p j) (length run.objs) h)

-- the first ask that is not met
some-append : {A : Type 0} (xs ys : List (Option A)) → first_some (xs ++ ys) ≡ option_or (first_some xs) (first_some ys)
some-append [] ys = refl
some-append (None ∷ xs) ys = some-append xs ys
some-append (Some x ∷ xs) ys = refl

module _ (faces : List Face) (run : Run) where
  abbrev unmet_from : ℕ → ℕ → List Ask → Option UnmetAsk
  unmet_from j i asks = first_some (map (λ numbered. unmet_at faces run j numbered.0 numbered.1) (enumerate_from i asks))

  all_met : (j i : ℕ) (asks : List Ask) → ((k : ℕ) (a : Ask) → slice_get asks k ≡ Some a → unmet faces run j a ≡ None) → unmet_from j i asks ≡ None
  all_met j i [] h = refl
  all_met j i (a ∷ asks) h =
      ap (λ o. first_some (option_map (λ why. record { obj = j; ask = i; why = why }) o ∷ map (λ numbered. unmet_at faces run j numbered.0 numbered.1) (enumerate_from (i + 1) asks))) (h 0 a refl)
      ∙ all_met j (i + 1) asks (λ k x g. h (suc k) x g)

  unmet_here : (j i k : ℕ) (asks : List Ask) (a : Ask) (why : Unmet) → slice_get asks k ≡ Some a → unmet faces run j a ≡ Some why → ((m : ℕ) (x : Ask) → m < k → slice_get asks m ≡ Some x → unmet faces run j x ≡ None) → unmet_from j i asks ≡ Some (record { obj = j; ask = i + k; why = why })
  unmet_here j i k [] a why g h before = cc
  unmet_here j i zero (x ∷ asks) a why g h before =
      let same : x ≡ a = cc in
      let at : i ≡ i + 0 = omega arith in
      ap (λ o. first_some (option_map (λ w. record { obj = j; ask = i; why = w }) o ∷ map (λ numbered. unmet_at faces run j numbered.0 numbered.1) (enumerate_from (i + 1) asks))) (ap (unmet faces run j) same ∙ h)
      ∙ ap (λ m. Some (record { obj = j; ask = m; why = why })) at
  unmet_here j i (suc k) (x ∷ asks) a why g h before =
      let at : i + 1 + k ≡ i + suc k = omega arith in
      ap (λ o. first_some (option_map (λ w. record { obj = j; ask = i; why = w }) o ∷ map (λ numbered. unmet_at faces run j numbered.0 numbered.1) (enumerate_from (i + 1) asks))) (before 0 x (omega arith) refl)
      ∙ unmet_here j (i + 1) k asks a why g h (λ m y less e. before (suc m) y (omega arith) e)
      ∙ ap (λ m. Some (record { obj = j; ask = m; why = why })) at

  pub object_met : (j : ℕ) (face : Face) → face_at faces run j ≡ Some face → ((k : ℕ) (a : Ask) → k < length face.asks → slice_get face.asks k ≡ Some a → unmet faces run j a ≡ None) → first_some (unmet_of faces run j) ≡ None
  object_met j face is h =
      ap (λ o. unmet_from j 0 (asks_in o)) is ∙ all_met j 0 face.asks (λ k a g. h k a (slice_get_within face.asks k a g) g)

  pub object_unmet : (j k : ℕ) (face : Face) (a : Ask) (why : Unmet) → face_at faces run j ≡ Some face → slice_get face.asks k ≡ Some a → unmet faces run j a ≡ Some why → ((m : ℕ) (x : Ask) → m < k → slice_get face.asks m ≡ Some x → unmet faces run j x ≡ None) → first_some (unmet_of faces run j) ≡ Some (record { obj = j; ask = k; why = why })
  object_unmet j k face a why is g h before =
      ap (λ o. unmet_from j 0 (asks_in o)) is ∙ unmet_here j 0 k face.asks a why g h before ∙ (let at : 0 + k ≡ k = omega arith in ap (λ m. Some (record { obj = j; ask = m; why = why })) at)

  abbrev pub unmet_up_to : ℕ → Option UnmetAsk
  unmet_up_to n = first_some (flat_map (unmet_of faces run) (up_to n))

  unmet_more : (n : ℕ) → unmet_up_to (suc n) ≡ option_or (unmet_up_to n) (first_some (unmet_of faces run n))
  unfolding up_to
  unmet_more n =
      ap first_some (flat_map-append (unmet_of faces run) (up_to n) (n ∷ [])) ∙ some-append (flat_map (unmet_of faces run) (up_to n)) (unmet_of faces run n ++ [])
      ∙ ap (λ xs. option_or (unmet_up_to n) (first_some xs)) (append-nil (unmet_of faces run n))

  pub met_more : (n : ℕ) → unmet_up_to n ≡ None → first_some (unmet_of faces run n) ≡ None → unmet_up_to (n + 1) ≡ None
  met_more n h g =
      let up : n + 1 ≡ suc n = omega arith in
      ap unmet_up_to up ∙ unmet_more n ∙ ap (λ o. option_or o (first_some (unmet_of faces run n))) h ∙ g

  stays : (n m : ℕ) (u : UnmetAsk) → n < m → unmet_up_to n ≡ None → first_some (unmet_of faces run n) ≡ Some u → unmet_up_to m ≡ Some u
  stays n zero u less h g = absurd (omega arith)
  stays n (suc m) u less h g =
      unmet_more m ∙ elim (cases_lt n m) [
        | inl a ↦ ap (λ o. option_or o (first_some (unmet_of faces run m))) (stays n m u a h g)
        | inr a ↦
            let same : n ≡ m = omega arith in
            ap (λ k. option_or (unmet_up_to k) (first_some (unmet_of faces run k))) (sym same) ∙ ap (λ o. option_or o (first_some (unmet_of faces run n))) h ∙ g
      ]

  pub met_yet : unmet_up_to 0 ≡ None
  unfolding up_to
  met_yet = refl

  pub all_checked : (n : ℕ) → n ≡ length run.objs → unmet_up_to n ≡ None → first_unmet faces run ≡ None
  unfolding first_unmet
  all_checked n same h = ap unmet_up_to (sym same) ∙ h

  pub stop_named : (stop : VersionStop) (n : ℕ) → n < length run.objs → unmet_up_to n ≡ None → Names (unmet_ask stop) (first_some (unmet_of faces run n)) → Names (unmet_ask stop) (first_unmet faces run)
  unfolding first_unmet
  stop_named (VersionFileUnloaded j k) n less h g = stays n (length run.objs) (record { obj = j; ask = k; why = FileUnloaded }) less h g
  stop_named (UnsatisfiedVersion j k) n less h g = stays n (length run.objs) (record { obj = j; ask = k; why = VersionLacking }) less h g

  -- what one ask comes to
  pub weak_met : (j : ℕ) (a : Ask) → a.weak ≡ true → unmet faces run j a ≡ None
  weak_met j a h = ap (λ b. cond b None (unmet_by faces run a.name (version_file_of faces run j a.file))) h

  asked_of : (j : ℕ) (a : Ask) (o : Option ℕ) → a.weak ≡ false → o ≡ version_file_of faces run j a.file → unmet faces run j a ≡ unmet_by faces run a.name o
  asked_of j a o h is =
      ap (λ b. cond b None (unmet_by faces run a.name (version_file_of faces run j a.file))) h ∙ ap (unmet_by faces run a.name) (sym is)

  pub unloaded : (j : ℕ) (a : Ask) → a.weak ≡ false → None ≡ version_file_of faces run j a.file → unmet faces run j a ≡ Some FileUnloaded
  unloaded j a h is = asked_of j a None h is

  pub looked_up : (j k : ℕ) (a : Ask) (face : Face) (defs : List (List ℕ)) (b : Bool) → a.weak ≡ false → Some k ≡ version_file_of faces run j a.file → face_at faces run k ≡ Some face → defs ≡ face.defs → has_defined a.name defs ≡ b → unmet faces run j a ≡ cond b None (Some VersionLacking)
  looked_up j k a face defs b h is at same has =
      asked_of j a (Some k) h is ∙ ap (λ o. cond (has_defined a.name (defs_in o)) None (Some VersionLacking)) at
      ∙ ap (λ c. cond c None (Some VersionLacking)) (ap (has_defined a.name) (sym same) ∙ has)

  pub asks_more : (j i : ℕ) (asks : List Ask) (a : Ask) → ((k : ℕ) (x : Ask) → k < i → slice_get asks k ≡ Some x → unmet faces run j x ≡ None) → slice_get asks i ≡ Some a → unmet faces run j a ≡ None → (k : ℕ) (x : Ask) → k < i + 1 → slice_get asks k ≡ Some x → unmet faces run j x ≡ None
  asks_more j i asks a before at here k x less h =
      elim (cases_lt k i) [
        | inl b ↦ before k x b h
        | inr b ↦
            let same : i ≡ k = omega arith in
            let both : Some a ≡ Some x = sym at ∙ ap (slice_get asks) same ∙ h in
            let one : a ≡ x = cc in
            ap (unmet faces run j) (sym one) ∙ here
      ]

-- none is unmet exactly where the versions are met
none_both : {A : Type 0} (o r : Option A) → option_or o r ≡ None → (o ≡ None) × (r ≡ None)
none_both None r h = (refl, h)
none_both (Some x) r h = cc

head_none : (j i : ℕ) (o : Option Unmet) (rest : List (Option UnmetAsk)) → first_some (option_map (λ why. record { obj = j; ask = i; why = why }) o ∷ rest) ≡ None → (o ≡ None) × (first_some rest ≡ None)
head_none j i None rest h = (refl, h)
head_none j i (Some why) rest h = cc

module _ (faces : List Face) (run : Run) where
  each_met : (j i k : ℕ) (asks : List Ask) (a : Ask) → unmet_from faces run j i asks ≡ None → slice_get asks k ≡ Some a → unmet faces run j a ≡ None
  each_met j i k [] a h g = cc
  each_met j i zero (x ∷ asks) a h g =
      let same : x ≡ a = cc in
      ap (unmet faces run j) (sym same)
      ∙ (head_none j i (unmet faces run j x) (map (λ numbered. unmet_at faces run j numbered.0 numbered.1) (enumerate_from (i + 1) asks)) h).0
  each_met j i (suc k) (x ∷ asks) a h g =
      each_met j (i + 1) k asks a (head_none j i (unmet faces run j x) (map (λ numbered. unmet_at faces run j numbered.0 numbered.1) (enumerate_from (i + 1) asks)) h).1 g

  none_of : (n j : ℕ) → j < n → unmet_up_to faces run n ≡ None → first_some (unmet_of faces run j) ≡ None
  none_of zero j less h = absurd (omega arith)
  none_of (suc n) j less h =
      let both = none_both (unmet_up_to faces run n) (first_some (unmet_of faces run n)) (sym (unmet_more faces run n) ∙ h) in
      elim (cases_lt j n) [
        | inl a ↦ none_of n j a both.0
        | inr a ↦ let same : j ≡ n = omega arith in ap (λ k. first_some (unmet_of faces run k)) same ∙ both.1
      ]

  none_past : (j : ℕ) (face : Face) → length run.objs ≤ j → face_at faces run j ≡ Some face → ⊥
  none_past j face past at =
      let none : face_at faces run j ≡ None = ap (option_and_then (λ (x : Obj). slice_get faces x.face)) (slice_get_past run.objs j past) in
      cc

  pub all_are_met : first_unmet faces run ≡ None → VersionsMet faces run
  unfolding first_unmet
  all_are_met h =
      record {
        met = λ j k face ask at g. elim (cases_lt j (length run.objs)) [
          | inl less ↦ each_met j 0 k face.asks ask (sym (ap (λ o. unmet_from faces run j 0 (asks_in o)) at) ∙ none_of (length run.objs) j less h) g
          | inr past ↦ absurd (none_past j face past at)
        ];
      }

  object_by : (j : ℕ) (o : Option Face) → face_at faces run j ≡ o → VersionsMet faces run → first_some (unmet_of faces run j) ≡ None
  object_by j None at v = ap (λ o. unmet_from faces run j 0 (asks_in o)) at
  object_by j (Some face) at v = object_met faces run j face at (λ k a less g. v.met j k face a at g)

  none_up_to : (n : ℕ) → VersionsMet faces run → unmet_up_to faces run n ≡ None
  unfolding up_to
  none_up_to zero v = refl
  none_up_to (suc n) v =
      unmet_more faces run n ∙ ap (λ o. option_or o (first_some (unmet_of faces run n))) (none_up_to n v) ∙ object_by n (face_at faces run n) refl v

  pub not_all_met : (stop : VersionStop) → Names (unmet_ask stop) (first_unmet faces run) → VersionsMet faces run → ⊥
  unfolding first_unmet
  not_all_met (VersionFileUnloaded j k) h v = let none = none_up_to (length run.objs) v in cc
  not_all_met (UnsatisfiedVersion j k) h v = let none = none_up_to (length run.objs) v in cc

-- where the loops of the file of an ask begin and end
pub nothing_asked : (file : List ℕ) (xs : List ℕ) → None ≡ find (λ j. list_any (is_request_to file j) []) xs
nothing_asked file [] = refl
nothing_asked file (x ∷ xs) = nothing_asked file xs

pub none_needed : (asked : List (List (List ℕ))) (run : Run) (phase : ℕ) (file : List ℕ) → None ≡ needed_so_far asked run phase file 0
unfolding up_to
none_needed asked run phase file = nothing_asked file (loaded_by run phase)

pub phase_here : (run : Run) (objs : List Obj) (j : ℕ) (o : Obj) → objs ≡ run.objs → j < length run.objs → o ≡ get_or objs j o → o.phase ≡ phase_at run j
phase_here run objs j o same less is =
    sym (ap (λ p. unwrap_or (option_map (λ (x : Obj). x.phase) p) 0) (slice_get_read run.objs (length run.objs) j o refl less (is ∙ ap (λ ys. get_or ys j o) same)))

pub version_below : (faces : List Face) (run : Run) (j : ℕ) (file : List ℕ) (r : Option ℕ) → r ≡ version_file_of faces run j file → IfSome r (λ k. k < length run.objs)
unfolding version_file_of
version_below faces run j file None h = tt
version_below faces run j file (Some k) h = loaded_below run (phase_at run j) (is_known_by faces run (phase_at run j) file) k (sym h)

pub phase_read : (run : Run) (objs : List Obj) (j : ℕ) (o : Obj) → objs ≡ run.objs → j < length run.objs → o ≡ get_or objs j o → (get_or objs j o).phase ≡ phase_at run j
phase_read run objs j o same less is = ap (λ (x : Obj). x.phase) (sym is) ∙ phase_here run objs j o same less is

pub requests_at : (asked : List (List (List ℕ))) (run : Run) (n : ℕ) (names : List (List ℕ)) (targets : List ℕ) → n < length asked → n < length run.targets → names ≡ get_or asked n names → targets ≡ get_or run.targets n targets → zip names targets ≡ requests_in asked run n
requests_at asked run n names targets in_asked in_targets names_is targets_is =
    sym (ap (λ o. zip (unwrap_or o []) (unwrap_or (slice_get run.targets n) [])) (slice_get_read asked (length asked) n names refl in_asked names_is)
    ∙ ap (λ o. zip names (unwrap_or o [])) (slice_get_read run.targets (length run.targets) n targets refl in_targets targets_is))

-- one turn of the loop over names and targets
pub target_end : (run : Run) (phase : ℕ) (file : List ℕ) (names : List (List ℕ)) (targets : List ℕ) (i : ℕ) (first : Option ℕ) → i ≡ min (length names) (length targets) → first ≡ target_so_far run phase file names targets i → first ≡ find (λ j. list_any (is_request_to file j) (zip names targets)) (loaded_by run phase)
target_end run phase file names targets i first all h =
    let size : length (zip names targets) ≡ min (length names) (length targets) = length-zip names targets in
    h ∙ find_same (λ j. list_any (is_request_to file j) (take i (zip names targets))) (λ j. list_any (is_request_to file j) (zip names targets)) (loaded_by run phase)
    (λ j. ap (list_any (is_request_to file j)) (take_all i (zip names targets) (omega arith)))

pub one_longer : {X : Type 0} (run : Run) (phase : ℕ) (file : List ℕ) (names : List (List ℕ)) (targets : List ℕ) (ys : List X) (y : X) (first : Option ℕ) → first ≡ target_so_far run phase file names targets (length ys + 1) → first ≡ target_so_far run phase file names targets (length (ys ++ y ∷ []))
one_longer run phase file names targets ys y first h =
    let size : length ys + 1 ≡ length (ys ++ y ∷ []) = let more = length_more ys y in omega arith in
    h ∙ ap (target_so_far run phase file names targets) size
