-- The names that objects ask for, object after object; that the first ask that is not met stands in
-- the run.
use Rattle.std.proofs.Common.{◌≡◌, ◌∙◌, sym, ap, refl, subst, ℕ, zero, suc, ◌+◌, ◌<◌, ◌⊎◌, inl, inr, List, [], ◌∷◌, ◌++◌, Option, Some, None, IfSome, All, map, slice_get, get_or, length, arith}
use Rattle.std.specs.List.{enumerate_from, flat_map}
use Rattle.std.specs.Option.{option_map}
use Rattle.std.proofs.lemmas.List.{map-append}
use Rattle.std.proofs.lemmas.Option.{slice_get_read, slice_get_within}
use Rattle.answers.specs.First.{first_some}
use Rattle.load_model.specs.LoadList.{up_to}
use Rattle.load_model.specs.Replays.{refusal_by}
use Rattle.load_model.specs.Runs.{face_at}
use Rattle.load_model.specs.VersionCheck.{Unmet, UnmetAsk, asks_in, first_unmet, needs_in, unmet, unmet_at, unmet_of}
use Rattle.load_model.specs.declared.asks.Ask.{Ask}
use Rattle.load_model.specs.declared.faces.Face.{Face}
use Rattle.load_model.specs.declared.refusals.LoadRefusal.{LoadRefusal}
use Rattle.load_model.specs.declared.runs.Obj.{Obj}
use Rattle.load_model.specs.declared.runs.Run.{Run}
use Rattle.load_requests.specs.Loading.{IsRefusedBy}
use Rattle.loader_replay.specs.Answering.{replay_refusal_of}
use Rattle.loader_replay.specs.Checking.{IsStopOf, NamesAsk, RefusesFirst}
use Rattle.loader_replay.specs.declared.stops.ReplayStop.{ReplayStop}
use Rattle.loader_replay.proofs.BindingLemmas.{all_flat, all_map, numbered}
use Rattle.scope_lookup.specs.Asking.{asked_names, names_opened_by}

-- numbers up to a bound
split_last : {X : Type 0} (xs : List X) (y : X) (i : ℕ) (x : X) → slice_get (xs ++ y ∷ []) i ≡ Some x → (slice_get xs i ≡ Some x) ⊎ (x ≡ y)
split_last [] y zero x h = inr (let e : x ≡ y = cc in e)
split_last [] y (suc i) x h = absurd (cc)
split_last (z ∷ xs) y zero x h = inl h
split_last (z ∷ xs) y (suc i) x h = split_last xs y i x h

in_up_to : (n i j : ℕ) → slice_get (up_to n) i ≡ Some j → j < n
unfolding up_to
in_up_to zero i j h = absurd (cc)
in_up_to (suc n) i j h =
    elim (split_last (up_to n) n i j h) [
      | inl a ↦ let less = in_up_to n i j a in omega arith
      | inr e ↦ omega arith
    ]

first_of_all : {A : Type 0} (P : A → Type 0) (os : List (Option A)) (a : A) → All (λ o. IfSome o P) os → first_some os ≡ Some a → P a
first_of_all P [] a all h = absurd (cc)
first_of_all P (None ∷ os) a all h = first_of_all P os a (λ k d less. all (suc k) d (omega arith)) h
first_of_all P (Some x ∷ os) a all h = let e : x ≡ a = cc in subst P e (all 0 None (omega arith))

module _ (faces : List Face) (run : Run) where
  -- the names that objects ask for
  abbrev pub names_by : ℕ → List (List ℕ)
  names_by j = needs_in (face_at faces run j) ++ names_opened_by run j

  abbrev pub names_up_to : ℕ → List (List (List ℕ))
  names_up_to n = map names_by (up_to n)

  pub names_yet : (asked : List (List (List ℕ))) → asked ≡ [] → asked ≡ names_up_to 0
  unfolding up_to
  names_yet asked e = e

  pub names_more : (n : ℕ) (old asked : List (List (List ℕ))) (names : List (List ℕ)) → old ≡ names_up_to n → names ≡ names_by n → asked ≡ old ++ names ∷ [] → asked ≡ names_up_to (n + 1)
  unfolding up_to
  names_more n old asked names h is e =
      let up : suc n ≡ n + 1 = omega arith in
      e ∙ ap (λ xs. xs ++ names ∷ []) h ∙ ap (λ x. names_up_to n ++ x ∷ []) is ∙ sym (map-append names_by (up_to n) (n ∷ []))
      ∙ ap (λ k. map names_by (up_to k)) up

  pub names_all : (n : ℕ) (asked : List (List (List ℕ))) → n ≡ length run.objs → asked ≡ names_up_to n → asked ≡ asked_names faces run
  unfolding asked_names
  names_all n asked same h = h ∙ ap names_up_to same

  -- an ask that stands in the run
  record AskStands (u : UnmetAsk) : Type 0 where
    obj : u.obj < length run.objs
    ask : u.ask < length (asks_in (face_at faces run u.obj))

  lifted : (j k : ℕ) (o : Option Unmet) → j < length run.objs → k < length (asks_in (face_at faces run j)) → IfSome (option_map (λ why. record { obj = j; ask = k; why = why }) o) AskStands
  lifted j k None in_objs in_asks = tt
  lifted j k (Some why) in_objs in_asks = record { obj = in_objs; ask = in_asks }

  object_asks : (j : ℕ) → j < length run.objs → All (λ o. IfSome o AskStands) (unmet_of faces run j)
  object_asks j less =
      let asks : List Ask = asks_in (face_at faces run j) in
      all_map (λ o. IfSome o AskStands) (λ (p : ℕ × Ask). unmet_at faces run j p.0 p.1) (enumerate_from 0 asks)
      (λ i p h. let n = numbered asks 0 i p h in
      let within : i < length asks = slice_get_within asks i p.1 n.1 in
      lifted j p.0 (unmet faces run j p.1) less (omega arith))

  stands : (u : UnmetAsk) → first_unmet faces run ≡ Some u → AskStands u
  unfolding first_unmet
  stands u h =
      first_of_all AskStands (flat_map (unmet_of faces run) (up_to (length run.objs))) u
      (all_flat (λ o. IfSome o AskStands) (unmet_of faces run) (up_to (length run.objs)) (λ i j g. object_asks j (in_up_to (length run.objs) i j g))) h

  pub asker_within : (u : UnmetAsk) (objs : List Obj) → first_unmet faces run ≡ Some u → objs ≡ run.objs → u.obj < length objs
  asker_within u objs h same = let s = stands u h in let size = ap length same in omega (arith, s.obj)

  pub ask_within : (u : UnmetAsk) (face : Face) (asks : List Ask) → first_unmet faces run ≡ Some u → face_at faces run u.obj ≡ Some face → asks ≡ face.asks → u.ask < length asks
  ask_within u face asks h at same =
      let s = stands u h in
      let size : length (asks_in (face_at faces run u.obj)) ≡ length asks = ap (λ o. length (asks_in o)) at ∙ ap length (sym same) in
      omega (arith, s.ask)

  refused_by : (o : Option LoadRefusal) (u : UnmetAsk) (asker : Obj) (ask : Ask) → first_unmet faces run ≡ Some u → slice_get run.objs u.obj ≡ Some asker → slice_get (asks_in (face_at faces run u.obj)) u.ask ≡ Some ask → IsRefusedBy (λ refusal. refusal ≡ refusal_by u.why asker.path ask) o → IsRefusedBy (RefusesFirst faces run) o
  refused_by None u asker ask h at asked is = tt
  refused_by (Some refusal) u asker ask h at asked is =
      record {
        first = u;
        unmet = h;
        refused = record {
          asker = asker;
          stands = at;
          ask = ask;
          asked = asked;
          refusal = is;
        };
      }

  pub stop_at : (u : UnmetAsk) (objs : List Obj) (face : Face) (asks : List Ask) (asker : Obj) (ask : Ask) (stop : ReplayStop) → first_unmet faces run ≡ Some u → objs ≡ run.objs → asker ≡ get_or objs u.obj asker → face_at faces run u.obj ≡ Some face → asks ≡ face.asks → ask ≡ get_or asks u.ask ask → NamesAsk u.why asker ask stop → IsStopOf faces run stop
  stop_at u objs face asks asker ask stop h same is at same_asks ask_is names =
      let here : slice_get run.objs u.obj ≡ Some asker =
      ap (λ xs. slice_get xs u.obj) (sym same) ∙ slice_get_read objs (length objs) u.obj asker refl (asker_within u objs h same) is in
      let asked : slice_get (asks_in (face_at faces run u.obj)) u.ask ≡ Some ask =
      ap (λ o. slice_get (asks_in o) u.ask) at ∙ ap (λ xs. slice_get xs u.ask) (sym same_asks)
      ∙ slice_get_read asks (length asks) u.ask ask refl (ask_within u face asks h at same_asks) ask_is in
      record { refused = refused_by (replay_refusal_of stop) u asker ask h here asked names.refused; unread = names.unread }
