-- The load list of a program in a world: at most one, and the recursion's answer.
use Rattle.std.proofs.Common.{◌≡◌, ◌∙◌, sym, ap, refl, ℕ, ◌<◌, List, [], ◌∷◌, Option, Some, None, Result, Ok, Err, length, map, slice_get, arith, subst, ◌⊎◌, inl, inr}
use Rattle.byte_view.specs.declared.flaws.Flaw.{Flaw}
use Rattle.load_model.specs.Candidates.{loader_in, path_search, refused_text}
use Rattle.load_model.specs.LoadList.{Object, Request, Asked, Found, Known, Brought, Loaded, count_from, IsSound, IsRun, IsStoppedRun, IsEndedRun, found_for, run, run_ends, with_numbers, up_to}
use Rattle.load_model.specs.Loads.{IsLoadList, IsStopped, answer_unless, goes_to, program_at}
use Rattle.load_model.specs.Runs.{target_in}
use Rattle.load_model.specs.World.{World}
use Rattle.load_model.specs.declared.faces.Face.{Face}
use Rattle.load_model.specs.declared.limits.TheConstants.{MOST_OBJECTS}
use Rattle.load_model.specs.declared.refusals.LoadRefusal.{LoadRefusal}
use Rattle.load_model.specs.declared.refusals.LoadRefusal.TheVariants.{TooManyObjects}
use Rattle.load_model.specs.declared.setting.Setting.{Setting}
use Rattle.load_model.proofs.AskedNeeds.{IsAsked, all_asked, opened_asked}
use Rattle.load_model.proofs.Ended.{ended_is, ends_run, ends_stop, one_end, run_of_ends}
use Rattle.load_model.proofs.History.{IsHistory, run_history, start_history, target_count}
use Rattle.load_model.proofs.Known.{target_sound}
use Rattle.load_model.proofs.Loaders.{small_loader}
use Rattle.load_model.proofs.Machine.{run_is, run_stops}
use Rattle.load_model.proofs.OneName.{one_name, first_in}
use Rattle.load_model.proofs.OneRun.{first_stop, one_run, run_or_stop}
use Rattle.load_model.proofs.Order.{run_order, start_order}

module _ (read : List ℕ → Result Face Flaw) (setting : Setting) (world : World) (path : List ℕ) where
  abbrev goes : List Object → List Asked → Request → Result Found LoadRefusal
  goes = goes_to read setting world path

  -- a request whose text passes goes where the names and the search say
  abbrev plain : List Object → List Asked → Request → Result Found LoadRefusal
  plain = found_for (TooManyObjects path) MOST_OBJECTS (path_search read setting world)

  passed_by : (objs : List Object) (log : List Asked) (r : Request) (f : Found) (refused : Option LoadRefusal) → answer_unless read setting world path objs log r refused ≡ Ok f → plain objs log r ≡ Ok f
  passed_by objs log r f None h = h
  passed_by objs log r f (Some refusal) h = cc

  passed : (objs : List Object) (log : List Asked) (r : Request) (f : Found) → goes objs log r ≡ Ok f → plain objs log r ≡ Ok f
  unfolding goes_to
  passed objs log r f h = passed_by objs log r f (refused_text objs r) h

  pub goes_sound : IsSound goes MOST_OBJECTS
  goes_sound =
      let sound = target_sound (TooManyObjects path) MOST_OBJECTS (path_search read setting world) in
      record {
        known = λ objs log r i h. sound.known objs log r i (passed objs log r (Known i) h);
        brought = λ objs log r o h. sound.brought objs log r o (passed objs log r (Brought o) h);
      }

  plain_history : (objs : List Object) (log : List Asked) → IsHistory goes objs log → IsHistory plain objs log
  plain_history objs log h =
      record {
        answered = λ m a g.
            let r = h.answered m a g in
            record { asker = r.asker; found = r.found; found_is = passed _ _ a.request r.found r.found_is; target = r.target };
        whole = h.whole;
      }

  -- all requests of a name go to one object
  pub one_target : (objs : List Object) (log : List Asked) → IsHistory goes objs log → (m : ℕ) (a : Asked) → slice_get log m ≡ Some a → target_in log a.request.name ≡ a.target
  one_target objs log h m a g =
      let hist = plain_history objs log h in
      first_in log a.request.name a.target (λ i b k e. one_name (TooManyObjects path) MOST_OBJECTS (path_search read setting world) objs log hist i m b a k g e) m a g refl

  module _ (program : Object) (opens : List (List ℕ)) where
    abbrev start : Loaded
    start = record { objs = program ∷ []; log = [] }

    abbrev openings : List (List (List ℕ))
    openings = program.face.needs ∷ map (λ n. n ∷ []) opens

    pub history : (loaded : Loaded) → IsRun goes program opens loaded → IsHistory goes loaded.objs loaded.log
    history loaded p = run_history goes openings start loaded (start_history goes program) p

    pub one_loaded : (a b : Loaded) → IsRun goes program opens a → IsRun goes program opens b → a ≡ b
    unfolding count_from
    one_loaded a b p q = one_run goes openings start a b refl p q

    pub one_ends : (a b : Loaded) (es fs : List Loaded) → IsEndedRun goes program opens a es → IsEndedRun goes program opens b fs → es ≡ fs
    unfolding count_from
    one_ends a b es fs p q = one_end goes openings start a b es fs refl p q

    pub is_run : (loaded : Loaded) → run goes MOST_OBJECTS program opens ≡ Ok loaded → IsRun goes program opens loaded
    unfolding count_from
    is_run loaded h = run_is goes MOST_OBJECTS goes_sound openings start loaded refl (omega arith) (omega arith) h

    pub is_stop : (stop : LoadRefusal) → run goes MOST_OBJECTS program opens ≡ Err stop → IsStoppedRun goes program opens stop
    unfolding count_from
    is_stop stop h = run_stops goes MOST_OBJECTS goes_sound openings start stop refl (omega arith) (omega arith) h

    pub is_ended : (loaded : Loaded) (ends : List Loaded) → run goes MOST_OBJECTS program opens ≡ Ok loaded → run_ends goes MOST_OBJECTS program opens ≡ Ok ends → IsEndedRun goes program opens loaded ends
    unfolding count_from
    is_ended loaded ends h e = ended_is goes MOST_OBJECTS goes_sound openings start loaded ends refl (omega arith) (omega arith) h e

    pub ends_stop_too : (stop : LoadRefusal) → run_ends goes MOST_OBJECTS program opens ≡ Err stop → run goes MOST_OBJECTS program opens ≡ Err stop
    ends_stop_too stop h = ends_stop goes MOST_OBJECTS openings start stop h

    pub run_exclusive : (loaded : Loaded) (stop : LoadRefusal) → IsRun goes program opens loaded → IsStoppedRun goes program opens stop → ⊥
    unfolding count_from
    run_exclusive loaded stop p q = run_or_stop goes openings start loaded stop refl p q

    pub one_stop : (s t : LoadRefusal) → IsStoppedRun goes program opens s → IsStoppedRun goes program opens t → s ≡ t
    unfolding count_from
    one_stop s t p q = first_stop goes openings start s t refl p q

    pub forget : (loaded : Loaded) (ends : List Loaded) → IsEndedRun goes program opens loaded ends → IsRun goes program opens loaded
    forget loaded ends p = run_of_ends goes openings start loaded ends p

    pub in_order : (loaded : Loaded) → IsRun goes program opens loaded → with_numbers (0 ∷ []) (map (λ (a : Asked). a.target) loaded.log) ≡ up_to (length loaded.objs)
    unfolding count_from with_numbers
    in_order loaded p = run_order goes openings start loaded refl p (start_order goes program)

    run_by : (r : Result Loaded LoadRefusal) (loaded : Loaded) → run goes MOST_OBJECTS program opens ≡ r → IsRun goes program opens loaded → run goes MOST_OBJECTS program opens ≡ Ok loaded
    run_by (Ok other) loaded h p = h ∙ ap Ok (one_loaded other loaded (is_run other h) p)
    run_by (Err stop) loaded h p = absurd (run_exclusive loaded stop p (is_stop stop h))

    pub run_found : (loaded : Loaded) → IsRun goes program opens loaded → run goes MOST_OBJECTS program opens ≡ Ok loaded
    run_found loaded p = run_by (run goes MOST_OBJECTS program opens) loaded refl p

    ends_by : (r : Result (List Loaded) LoadRefusal) (loaded : Loaded) (ends : List Loaded) → run_ends goes MOST_OBJECTS program opens ≡ r → IsEndedRun goes program opens loaded ends → run_ends goes MOST_OBJECTS program opens ≡ Ok ends
    ends_by (Ok others) loaded ends h p = h ∙ ap Ok (one_ends loaded loaded others ends (is_ended loaded others (run_found loaded (forget loaded ends p)) h) p)
    ends_by (Err stop) loaded ends h p = absurd (run_exclusive loaded stop (forget loaded ends p) (is_stop stop (ends_stop_too stop h)))

    pub ends_found : (loaded : Loaded) (ends : List Loaded) → IsEndedRun goes program opens loaded ends → run_ends goes MOST_OBJECTS program opens ≡ Ok ends
    ends_found loaded ends p = ends_by (run_ends goes MOST_OBJECTS program opens) loaded ends refl p

  module _ (opens : List (List ℕ)) where
    pub at_most_one : (xs ys : Loaded) (es fs : List Loaded) → IsLoadList read setting world path opens xs es → IsLoadList read setting world path opens ys fs → (xs ≡ ys) × (es ≡ fs)
    at_most_one xs ys es fs p q =
        let both : Ok p.program ≡ Ok q.program = sym p.starts ∙ q.starts in
        let same : p.program ≡ q.program = cc in
        let there : IsEndedRun goes p.program opens ys fs = subst (λ (o : Object). IsEndedRun goes o opens ys fs) (sym same) q.run in
        (one_loaded p.program opens xs ys (forget p.program opens xs es p.run) (forget p.program opens ys fs there), one_ends p.program opens xs ys es fs p.run there)

    pub list_or_stop : (xs : Loaded) (es : List Loaded) (stop : LoadRefusal) → IsLoadList read setting world path opens xs es → IsStopped read setting world path opens stop → ⊥
    list_or_stop xs es stop p (inl q) = let no : Ok p.program ≡ Err stop = sym p.starts ∙ q in cc
    list_or_stop xs es stop p (inr q) =
        let both : Ok q.0 ≡ Ok p.program = sym q.1 ∙ p.starts in
        let same : q.0 ≡ p.program = cc in
        run_exclusive p.program opens xs stop (forget p.program opens xs es p.run) (subst (λ (o : Object). IsStoppedRun goes o opens stop) same q.2)

    pub at_most_one_stop : (s t : LoadRefusal) → IsStopped read setting world path opens s → IsStopped read setting world path opens t → s ≡ t
    at_most_one_stop s t (inl p) (inl q) = let both : Err s ≡ Err t = sym p ∙ q in cc
    at_most_one_stop s t (inl p) (inr q) = let no : Err s ≡ Ok q.0 = sym p ∙ q.1 in cc
    at_most_one_stop s t (inr p) (inl q) = let no : Ok p.0 ≡ Err t = sym p.1 ∙ q in cc
    at_most_one_stop s t (inr p) (inr q) =
        let both : Ok q.0 ≡ Ok p.0 = sym q.1 ∙ p.1 in
        let same : q.0 ≡ p.0 = cc in
        one_stop p.0 opens s t p.2 (subst (λ (o : Object). IsStoppedRun goes o opens t) same q.2)

    abbrev IsOneOf : Type 0
    IsOneOf = ((loaded : Loaded) × (ends : List Loaded) × IsLoadList read setting world path opens loaded ends) ⊎ ((stop : LoadRefusal) × IsStopped read setting world path opens stop)

    with_ends : (program : Object) (r : Result (List Loaded) LoadRefusal) → program_at read setting world path ≡ Ok program → run_ends goes MOST_OBJECTS program opens ≡ r → IsOneOf
    with_ends program (Ok ends) e h =
        let w = ends_run goes MOST_OBJECTS (openings program opens) (start program opens) ends h in
        inl (w.0, ends, record { program = program; starts = e; run = is_ended program opens w.0 ends w.1 h })
    with_ends program (Err stop) e h = inr (stop, inr (program, e, is_stop program opens stop (ends_stop_too program opens stop h)))

    started : (r : Result Object LoadRefusal) → program_at read setting world path ≡ r → IsOneOf
    started (Ok program) e = with_ends program (run_ends goes MOST_OBJECTS program opens) e refl
    started (Err stop) e = inr (stop, inl e)

    pub one_of : IsOneOf
    one_of = started (program_at read setting world path) refl

    module _ (loaded : Loaded) (ends : List Loaded) (p : IsLoadList read setting world path opens loaded ends) where
      hist : IsHistory goes loaded.objs loaded.log
      hist = history p.program opens loaded (forget p.program opens loaded ends p.run)

      pub objects_in_order : with_numbers (0 ∷ []) (map (λ (a : Asked). a.target) loaded.log) ≡ up_to (length loaded.objs)
      objects_in_order = in_order p.program opens loaded (forget p.program opens loaded ends p.run)

      pub loader_is_small : (j : ℕ) → 0 < j → j < length loaded.objs → loader_in loaded.log j < j
      loader_is_small j some below = small_loader goes loaded.objs loaded.log hist j some below

      pub name_has_target : (m : ℕ) (a : Asked) → slice_get loaded.log m ≡ Some a → target_in loaded.log a.request.name ≡ a.target
      name_has_target m a g = one_target loaded.objs loaded.log hist m a g

      pub target_is_loaded : (m : ℕ) (a : Asked) → slice_get loaded.log m ≡ Some a → a.target < length loaded.objs
      target_is_loaded m a g = let below = target_count loaded.log m a g in let whole = hist.whole in omega arith

      pub need_is_asked : (j : ℕ) (o : Object) → slice_get loaded.objs j ≡ Some o → (e : ℕ) (n : List ℕ) → slice_get o.face.needs e ≡ Some n → IsAsked loaded.log j n
      need_is_asked j o g e n h = (all_asked goes p.program opens loaded (forget p.program opens loaded ends p.run)).asked j o g e n h

      pub opened_is_asked : (k : ℕ) (n : List ℕ) → slice_get opens k ≡ Some n → IsAsked loaded.log 0 n
      opened_is_asked k n g = opened_asked goes p.program opens loaded (forget p.program opens loaded ends p.run) k n g
