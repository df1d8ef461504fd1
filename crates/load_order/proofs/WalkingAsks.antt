-- One request after the other: what is asked so far, and one request more.
use Rattle.std.proofs.Common.{◌≡◌, ◌∙◌, sym, ap, refl, subst, ℕ, zero, suc, ◌+◌, ◌≤◌, ◌<◌, List, [], ◌∷◌, ◌++◌, Option, Some, None, Result, Ok, Err, length, take, drop, slice_get, get_or, arith, inl, inr, append_assoc}
use Rattle.std.specs.Prelude.{OnOk, false}
use Rattle.std.specs.Result.{is_err}
use Rattle.std.proofs.lemmas.List.{append-nil, map-append, take-append-drop, take_all, take_more, drop_more, length_push}
use Rattle.std.proofs.lemmas.List.Elements.{All-push, All-weaker}
use Rattle.answers.specs.Faults.{Rose}
use Rattle.load_model.proofs.Machine.{next_ok}
use Rattle.load_model.specs.Faces.{face_or_flaw}
use Rattle.load_model.specs.LoadList.{Asked, Brought, Found, Known, Loaded, Object, Request, ask, ask_all, next, with_found}
use Rattle.load_model.specs.Loads.{goes_to}
use Rattle.load_model.specs.Opening.{OnlyGrew, OpenerView}
use Rattle.load_model.specs.Runs.{AreBelow}
use Rattle.load_model.specs.declared.refusals.LoadRefusal.{LoadRefusal}
use Rattle.load_model.specs.declared.setting.Setting.{Setting}
use Rattle.load_requests.specs.Loading.{IsRefusedBy, refusal_of}
use Rattle.load_order.specs.Needing.{AreAsked, AreAskedTo, requests_by}
use Rattle.load_requests.specs.Standing.{IsAskedFor, IsAsking, IsSafe, Stands, asked_to, number_of, start_path}
use Rattle.load_requests.specs.declared.loading.Loading.{Loading}
use Rattle.load_requests.specs.declared.stops.LoadStop.{LoadStop}
use Rattle.load_requests.specs.declared.stops.LoadStop.TheVariants.{NoMemory}
use Rattle.load_order.proofs.WalkingLists.{asked_push, front_on, get_cases, start_kept}

pub grew_on : (b0 b1 b2 : OpenerView) → OnlyGrew b0 b1 → OnlyGrew b1 b2 → OnlyGrew b0 b2
grew_on b0 b1 b2 g h = record {
  world = h.world ∙ g.world;
  machine = h.machine ∙ g.machine;
  loan = h.loan ∙ g.loan;
  faces = front_on (length b0.faces) (length b1.faces) b0.faces b1.faces b2.faces g.longer h.faces g.faces;
  longer = omega (arith, g.longer, h.longer);
  faults = omega (arith, g.faults, h.faults);
}

pub grew_not : (b : OpenerView) → OnlyGrew b b
grew_not b = record { world = refl; machine = refl; loan = refl; faces = take_all (length b.faces) b.faces (omega arith); longer = omega arith; faults = omega arith }

pub rose_on : (a b c : ℕ) → a ≤ b → Rose b c → Rose a c
rose_on a b c le h = omega (arith, h, le)

pub within : {X : Type 0} (xs : List X) (i : ℕ) (x : X) → slice_get xs i ≡ Some x → i < length xs
within [] i x h = cc
within (y ∷ xs) zero x h = omega arith
within (y ∷ xs) (suc i) x h = let w = within xs i x h in omega (arith, w)

more_long : (ts : List ℕ) (t : ℕ) (names : List (List ℕ)) (name : List ℕ) → length ts ≡ length names → length (ts ++ t ∷ []) ≡ length (names ++ name ∷ [])
more_long ts t names name e = length_push ts t ∙ ap (λ n. n + 1) e ∙ sym (length_push names name)

pub asking_not : (s : Loading) → IsAsking s s
asking_not s = record {
  objs = take_all (length s.objs) s.objs (omega arith);
  longer = omega arith;
  targets = refl;
  phase = refl;
  new_phase = λ j x le h. absurd (let w = within s.objs j x h in omega (arith, le, w));
}

pub asking_on : (s0 s1 s2 : Loading) → IsAsking s0 s1 → IsAsking s1 s2 → IsAsking s0 s2
asking_on s0 s1 s2 a b = record {
  objs = front_on (length s0.objs) (length s1.objs) s0.objs s1.objs s2.objs a.longer b.objs a.objs;
  longer = omega (arith, a.longer, b.longer);
  targets = b.targets ∙ a.targets;
  phase = b.phase ∙ a.phase;
  new_phase = λ j x le h. elim (get_cases (length s1.objs) s1.objs s2.objs j x b.objs h) [
    | inl w ↦ b.new_phase j x w h ∙ a.phase
    | inr w ↦ a.new_phase j x le w
  ];
}

-- what is said of a call that was not refused
pub if_done : {A E : Type 0} (r : Result A E) (P : Type 0) → OnOk r P → is_err r ≡ false → P
if_done (Ok done) P h e = h
if_done (Err fault) P h e = cc

-- a refusal that is one of another list
pub refused_by : (P Q : LoadRefusal → Type 0) (o : Option LoadRefusal) → ((refusal : LoadRefusal) → P refusal → Q refusal) → IsRefusedBy P o → IsRefusedBy Q o
refused_by P Q None f h = tt
refused_by P Q (Some refusal) f h = f refusal h

-- ---- the recursion

module _ {X : Type 0} (answer : List Object → List Asked → Request → Result Found X) where
  pub ask_all_on : (rs qs : List Request) (s m : Loaded) → ask_all answer s rs ≡ Ok m → ask_all answer s (rs ++ qs) ≡ ask_all answer m qs
  ask_all_on [] qs s m h = let same : s ≡ m = cc in ap (λ t. ask_all answer t qs) same
  ask_all_on (r ∷ rs) qs s m h =
      let two = next_ok (ask answer s r) (λ t. ask_all answer t rs) m h in
      ap (λ q. next q (λ t. ask_all answer t (rs ++ qs))) two.1 ∙ ask_all_on rs qs two.0 m two.2

  pub ask_one : (m : Loaded) (r : Request) (found : Found) → answer m.objs m.log r ≡ Ok found → ask_all answer m (r ∷ []) ≡ Ok (with_found m r found)
  ask_one m r found h = ap (λ q. next (next q (λ f. Ok (with_found m r f))) (λ t. ask_all answer t [])) h

  pub ask_stop : (m : Loaded) (r : Request) (rs : List Request) (x : X) → answer m.objs m.log r ≡ Err x → ask_all answer m (r ∷ rs) ≡ Err x
  ask_stop m r rs x h = ap (λ q. next (next q (λ f. Ok (with_found m r f))) (λ t. ask_all answer t rs)) h

found_objs : (m : Loaded) (r : Request) (found : Found) → (brought : List Object) × ((with_found m r found).objs ≡ m.objs ++ brought)
found_objs m r (Known i) = ([], sym (append-nil m.objs))
found_objs m r (Brought o) = (o ∷ [], refl)

found_log : (m : Loaded) (r : Request) (found : Found) → (with_found m r found).log ≡ m.log ++ record { request = r; target = number_of m found } ∷ []
found_log m r (Known i) = refl
found_log m r (Brought o) = refl

-- ---- what is asked so far

pub record AsksAll (setting : Setting) (before now : OpenerView) (old new : Loading) (k : ℕ) (names : List (List ℕ)) (ts : List ℕ) : Type 0 where
  pub safe : IsSafe now.faces new
  pub asking : IsAsking old new
  pub count : length ts ≡ length names
  pub below : AreBelow (length new.objs) ts
  pub answer : (loaded : Loaded) → Stands before.faces old loaded → AreAskedTo setting before now new loaded k names ts
  pub grew : OnlyGrew before now

pub asks_none : (setting : Setting) (b : OpenerView) (s : Loading) (k : ℕ) → IsSafe b.faces s → AsksAll setting b b s s k [] []
asks_none setting b s k safe = record {
  safe = safe;
  asking = asking_not s;
  count = refl;
  below = λ i d h. absurd (omega (arith, h));
  answer = λ loaded stands. record { end = loaded; stands = stands; brought = []; objs = sym (append-nil loaded.objs); log = sym (append-nil loaded.log); recursion = λ world told. refl };
  grew = grew_not b;
}

module _ (setting : Setting) (b0 b1 b2 : OpenerView) (s0 s1 s2 : Loading) (k : ℕ) (names : List (List ℕ)) (name : List ℕ) (ts : List ℕ) (program : 0 < length s0.objs) (so_far : AsksAll setting b0 b1 s0 s1 k names ts) where
  start_is : (loaded : Loaded) (stands : Stands b0.faces s0 loaded) → start_path (so_far.answer loaded stands).end ≡ start_path loaded
  start_is loaded stands =
      let a = so_far.answer loaded stands in
      start_kept loaded.objs a.brought a.end.objs (omega (arith, program, stands.objects.count)) a.objs

  more_to : (t : ℕ) → ((loaded : Loaded) → Stands b1.faces s1 loaded → IsAskedFor setting b1 b2 s2 loaded (record { by = k; name = name }) (Ok t))
      → (loaded : Loaded) → Stands b0.faces s0 loaded → AreAskedTo setting b0 b2 s2 loaded k (names ++ name ∷ []) (ts ++ t ∷ [])
  more_to t answer loaded stands =
      let a : AreAskedTo setting b0 b1 s1 loaded k names ts = so_far.answer loaded stands in
      let r : Request = record { by = k; name = name } in
      let one : IsAskedFor setting b1 b2 s2 a.end r (Ok t) = answer a.end a.stands in
      let found : Found = one.0 in
      let new = found_objs a.end r found in
      record {
        end = with_found a.end r found;
        stands = one.2;
        brought = a.brought ++ new.0;
        objs = new.1 ∙ ap (λ os. os ++ new.0) a.objs ∙ append_assoc loaded.objs a.brought new.0;
        log = found_log a.end r found
            ∙ ap (λ log. log ++ record { request = r; target = number_of a.end found } ∷ []) a.log
            ∙ append_assoc loaded.log (asked_to k names ts) (record { request = r; target = number_of a.end found } ∷ [])
            ∙ ap (λ n. loaded.log ++ (asked_to k names ts ++ record { request = r; target = n } ∷ [])) (sym one.1)
            ∙ ap (λ log. loaded.log ++ log) (sym (asked_push k names name ts t so_far.count));
        recursion = λ world told.
            ap (λ rs. ask_all (goes_to face_or_flaw setting world (start_path loaded)) loaded rs) (map-append (λ n. record { by = k; name = n }) names (name ∷ []))
            ∙ ask_all_on (goes_to face_or_flaw setting world (start_path loaded)) (requests_by k names) (r ∷ []) loaded a.end (a.recursion world told)
            ∙ ask_one (goes_to face_or_flaw setting world (start_path loaded)) a.end r found
            (ap (λ p. goes_to face_or_flaw setting world p a.end.objs a.end.log r) (sym (start_is loaded stands)) ∙ one.3 world (so_far.grew.world ∙ told));
      }

  pub asks_more : (t : ℕ) → IsSafe b2.faces s2 → IsAsking s1 s2 → t < length s2.objs
      → ((loaded : Loaded) → Stands b1.faces s1 loaded → IsAskedFor setting b1 b2 s2 loaded (record { by = k; name = name }) (Ok t))
      → OnlyGrew b1 b2 → AsksAll setting b0 b2 s0 s2 k (names ++ name ∷ []) (ts ++ t ∷ [])
  asks_more t safe asking within answer grew = record {
    safe = safe;
    asking = asking_on s0 s1 s2 so_far.asking asking;
    count = more_long ts t names name so_far.count;
    below = All-push (λ n. n < length s2.objs) ts t (All-weaker (λ n. n < length s1.objs) (λ n. n < length s2.objs) (λ n h. omega (arith, h, asking.longer)) ts so_far.below) within;
    answer = more_to t answer;
    grew = grew_on b0 b1 b2 so_far.grew grew;
  }

  -- the next request has no target
  pub asks_stop : (rest : List (List ℕ)) (stop : LoadStop)
      → ((loaded : Loaded) → Stands b1.faces s1 loaded → IsAskedFor setting b1 b2 s2 loaded (record { by = k; name = name }) (Err stop))
      → (loaded : Loaded) → Stands b0.faces s0 loaded → AreAsked setting b0 b2 s2 loaded k (names ++ name ∷ rest) (Err stop)
  asks_stop rest stop answer loaded stands =
      let a : AreAskedTo setting b0 b1 s1 loaded k names ts = so_far.answer loaded stands in
      let r : Request = record { by = k; name = name } in
      let one : IsAskedFor setting b1 b2 s2 a.end r (Err stop) = answer a.end a.stands in (
        λ world told. refused_by
            (λ refusal. goes_to face_or_flaw setting world (start_path a.end) a.end.objs a.end.log r ≡ Err refusal)
            (λ refusal. ask_all (goes_to face_or_flaw setting world (start_path loaded)) loaded (requests_by k (names ++ name ∷ rest)) ≡ Err refusal)
            (refusal_of stop)
            (λ refusal is.
            ap (λ rs. ask_all (goes_to face_or_flaw setting world (start_path loaded)) loaded rs) (map-append (λ n. record { by = k; name = n }) names (name ∷ rest))
            ∙ ask_all_on (goes_to face_or_flaw setting world (start_path loaded)) (requests_by k names) (r ∷ requests_by k rest) loaded a.end (a.recursion world told)
            ∙ ask_stop (goes_to face_or_flaw setting world (start_path loaded)) a.end r (requests_by k rest) refusal
            (ap (λ p. goes_to face_or_flaw setting world p a.end.objs a.end.log r) (sym (start_is loaded stands)) ∙ is))
            (one.0 world (so_far.grew.world ∙ told)),
        λ read. rose_on b0.faults b1.faults b2.faults so_far.grew.faults (one.1 read),
      )

-- want of memory says nothing of the list
pub no_memory : (setting : Setting) (b0 b2 : OpenerView) (s2 : Loading) (loaded : Loaded) (k : ℕ) (names : List (List ℕ)) → AreAsked setting b0 b2 s2 loaded k names (Err NoMemory)
no_memory setting b0 b2 s2 loaded k names = (λ world told. tt, λ read. cc)

-- ---- by the place of the name in a list

pub asks_start : (setting : Setting) (b : OpenerView) (s : Loading) (k : ℕ) (names : List (List ℕ)) (ts : List ℕ) → names ≡ [] → ts ≡ [] → IsSafe b.faces s → AsksAll setting b b s s k names ts
asks_start setting b s k names ts no_names no_targets safe =
    subst (λ ns. AsksAll setting b b s s k ns ts) (sym no_names) (subst (λ us. AsksAll setting b b s s k [] us) (sym no_targets) (asks_none setting b s k safe))

module _ (setting : Setting) (b0 b1 b2 : OpenerView) (s0 s1 s2 : Loading) (k : ℕ) (xs : List (List ℕ)) (i : ℕ) (x : List ℕ) (ts : List ℕ) (program : 0 < length s0.objs) (here : i < length xs) (is : x ≡ get_or xs i x) (so_far : AsksAll setting b0 b1 s0 s1 k (take i xs) ts) where
  pub asks_more_at : (t : ℕ) (us : List ℕ) → us ≡ ts ++ t ∷ [] → IsSafe b2.faces s2 → IsAsking s1 s2 → t < length s2.objs
      → ((loaded : Loaded) → Stands b1.faces s1 loaded → IsAskedFor setting b1 b2 s2 loaded (record { by = k; name = x }) (Ok t))
      → OnlyGrew b1 b2 → AsksAll setting b0 b2 s0 s2 k (take (i + 1) xs) us
  asks_more_at t us pushed safe asking below answer grew =
      let names : take (i + 1) xs ≡ take i xs ++ x ∷ [] = take_more xs i x here ∙ ap (λ y. take i xs ++ y ∷ []) (sym is) in
      subst (λ ns. AsksAll setting b0 b2 s0 s2 k ns us) (sym names)
      (subst (λ vs. AsksAll setting b0 b2 s0 s2 k (take i xs ++ x ∷ []) vs) (sym pushed)
      (asks_more setting b0 b1 b2 s0 s1 s2 k (take i xs) x ts program so_far t safe asking below answer grew))

  pub asks_stop_at : (by : ℕ) (stop : LoadStop) → k ≡ by
      → ((loaded : Loaded) → Stands b1.faces s1 loaded → IsAskedFor setting b1 b2 s2 loaded (record { by = k; name = x }) (Err stop))
      → (loaded : Loaded) → Stands b0.faces s0 loaded → AreAsked setting b0 b2 s2 loaded by xs (Err stop)
  asks_stop_at by stop same answer loaded stands =
      let split : take i xs ++ x ∷ drop (i + 1) xs ≡ xs = ap (λ y. take i xs ++ y ∷ drop (i + 1) xs) is ∙ ap (λ ys. take i xs ++ ys) (sym (drop_more xs i x here)) ∙ take-append-drop i xs in
      subst (λ n. AreAsked setting b0 b2 s2 loaded n xs (Err stop)) same
      (subst (λ ns. AreAsked setting b0 b2 s2 loaded k ns (Err stop)) split
      (asks_stop setting b0 b1 b2 s0 s1 s2 k (take i xs) x ts program so_far (drop (i + 1) xs) stop answer loaded stands))
