-- A moved program runs the same.
use Rattle.std.proofs.Common.{◌≡◌, ◌∙◌, sym, ap, refl, ℕ, zero, suc, ◌+◌, ◌≤◌, ◌<◌, List, [], ◌∷◌, Bool, true, false, cond, Option, Some, None, Result, length, map, find, slice_get, arith, subst, inl, inr, nat_le}
use Rattle.std.proofs.lemmas.Bool.{cases_Bool, leb-true}
use Rattle.std.proofs.lemmas.Option.{slice_get_within}
use Rattle.byte_view.specs.declared.flaws.Flaw.{Flaw}
use Rattle.load_model.specs.Bindings.{all_binds}
use Rattle.load_model.specs.Candidates.{path_search}
use Rattle.load_model.specs.Joined.{joined}
use Rattle.load_model.specs.LoadList.{Object, Loaded, Search, IsRun, IsEndedRun, found_for, up_to}
use Rattle.load_model.specs.Loads.{IsLoadList}
use Rattle.load_model.specs.Replays.{IsReplay}
use Rattle.load_model.specs.Runs.{IsRunOf, face_at, phase_of, target_in}
use Rattle.load_model.specs.Scopes.{local_by, local_of}
use Rattle.load_model.specs.VersionCheck.{Unmet, VersionLacking, defs_in, first_unmet, has_defined, is_known_by, loaded_by, phase_at, unmet, unmet_by, version_file_of}
use Rattle.load_model.specs.World.{World}
use Rattle.load_model.specs.declared.asks.Ask.{Ask}
use Rattle.load_model.specs.declared.faces.Face.{Face}
use Rattle.load_model.specs.declared.limits.TheConstants.{MOST_OBJECTS}
use Rattle.load_model.specs.declared.refusals.LoadRefusal.{LoadRefusal}
use Rattle.load_model.specs.declared.refusals.LoadRefusal.TheVariants.{TooManyObjects}
use Rattle.load_model.specs.declared.runs.Obj.{Obj}
use Rattle.load_model.specs.declared.runs.Replay.{Replay}
use Rattle.load_model.specs.declared.runs.Run.{Run}
use Rattle.load_model.specs.declared.setting.Setting.{Setting}
use Rattle.load_model.proofs.Ended.{run_of_ends}
use Rattle.load_model.proofs.OneRun.{there}
use Rattle.moved_runs.specs.Alike.{HasVersion, IsAlike, IsReached, is_written}
use Rattle.moved_runs.specs.Moved.{AreMoved, all_renamed, loaded_there, new_names}
use Rattle.moved_runs.specs.Placed.{Item}
use Rattle.moved_runs.specs.Places.{IsMoved}
use Rattle.moved_runs.specs.SameRuns.{RunsSame, SameRun}
use Rattle.moved_runs.proofs.BindLemmas.{HaveSameScopes, IsOver, bind_there, is_over}
use Rattle.moved_runs.proofs.MovedPartLemmas.{same_first, same_loaders, same_local, same_phase, same_roots, same_targets}
use Rattle.moved_runs.proofs.MovingLemmas.{different, moved_list, moved_search, plain_run}
use Rattle.moved_runs.proofs.RunLemmas.{faces_of, obj_at, obj_there, objs_from, phase_is, run_at, run_there}
use Rattle.moved_runs.proofs.VersionLemmas.{IsThere, each_met, filter_out, met_by, named_file, need_phase, none_unmet, number_below}

-- ---- local lists by number

local_at : (here there : Run) → ((n : ℕ) → local_by there n ≡ local_by here n) → (k : ℕ) (xs : List Obj) (qs : List Object) (j : ℕ) → length qs ≡ length xs → local_of there (slice_get (objs_from k xs qs) j) ≡ local_of here (slice_get xs j)
local_at here there same k [] qs j e = refl
local_at here there same k (x ∷ xs) [] j e = absurd (omega (arith, e))
local_at here there same k (x ∷ xs) (q ∷ qs) zero e = same x.phase
local_at here there same k (x ∷ xs) (q ∷ qs) (suc j) e = local_at here there same (suc k) xs qs j (omega (arith, e))

local_by_same : (here : Run) (opens : List (List ℕ)) (objs_there : List Object) (n : ℕ) → local_by (run_at here opens objs_there) n ≡ local_by here n
local_by_same here opens objs_there zero = refl
local_by_same here opens objs_there (suc n) = refl

-- ---- an ask that is met

find_by : (p : ℕ → Bool) (x : ℕ) (xs : List ℕ) (t : ℕ) (b : Bool) → cond b (Some x) (find p xs) ≡ Some t → (find p xs ≡ Some t → (i : ℕ) × (slice_get xs i ≡ Some t)) → (i : ℕ) × (slice_get (x ∷ xs) i ≡ Some t)
find_by p x xs t true h rest = (0, h)
find_by p x xs t false h rest = let w = rest h in (suc w.0, w.1)

find_out : (p : ℕ → Bool) (xs : List ℕ) (t : ℕ) → find p xs ≡ Some t → (i : ℕ) × (slice_get xs i ≡ Some t)
find_out p [] t h = cc
find_out p (x ∷ xs) t h = find_by p x xs t (p x) h (find_out p xs t)

file_loaded : (faces : List Face) (run : Run) (j t : ℕ) (file : List ℕ) → version_file_of faces run j file ≡ Some t → (t < length run.objs) × (phase_at run t ≤ phase_at run j)
unfolding version_file_of
file_loaded faces run j t file h =
    let w = find_out (is_known_by faces run (phase_at run j) file) (loaded_by run (phase_at run j)) t h in
    let v = filter_out (λ k. nat_le (phase_at run k) (phase_at run j)) (up_to (length run.objs)) w.0 t w.1 in
    (number_below (length run.objs) v.0 t v.1, leb-true (phase_at run t) (phase_at run j) v.2)

has_by : (b : Bool) → ◌≡◌ {A = Option Unmet} (cond b None (Some VersionLacking)) None → b ≡ true
has_by true h = refl
has_by false h = cc

file_by : (faces : List Face) (run : Run) (version : List ℕ) (found : Option ℕ) → unmet_by faces run version found ≡ None → (t : ℕ) × (found ≡ Some t) × (has_defined version (defs_in (face_at faces run t)) ≡ true)
file_by faces run version None h = cc
file_by faces run version (Some t) h = (t, refl, has_by (has_defined version (defs_in (face_at faces run t))) h)

met_file : (faces : List Face) (run : Run) (j : ℕ) (ask : Ask) → ask.weak ≡ false → unmet faces run j ask ≡ None → (t : ℕ) × (version_file_of faces run j ask.file ≡ Some t) × (has_defined ask.name (defs_in (face_at faces run t)) ≡ true)
met_file faces run j ask weak h =
    file_by faces run ask.name (version_file_of faces run j ask.file)
    (sym (ap (λ b. cond b None (unmet_by faces run ask.name (version_file_of faces run j ask.file))) weak) ∙ h)

-- ---- the run there

module _ (read : List ℕ → Result Face Flaw) (setting setting_there : Setting) (here there_world : World) (path : List ℕ) (opens : List (List ℕ)) (faces : List Face) (replay : Replay) (plays : IsReplay read setting here faces path opens replay) (place : List ℕ) (items : List Item) (name_of : ℕ → List ℕ) (is_bundled : ℕ → Bool) (program : List ℕ) (objs_there : List Object) (moved : IsMoved read setting_there there_world place items name_of is_bundled program plays.loads.loaded objs_there) (alike : IsAlike faces replay plays.loads.loaded name_of is_bundled objs_there) (keep : new_names name_of plays.loads.loaded.log opens ≡ opens) where
  abbrev loaded : Loaded
  loaded = plays.loads.loaded

  abbrev ends : List Loaded
  ends = plays.loads.ends

  abbrev first : Object
  first = plays.loads.list.program

  abbrev search : Search LoadRefusal
  search = path_search read setting here

  abbrev search' : Search LoadRefusal
  search' = path_search read setting_there there_world

  abbrev loaded' : Loaded
  loaded' = record { objs = objs_there; log = all_renamed name_of plays.loads.loaded.log }

  abbrev ends' : List Loaded
  ends' = map (loaded_there name_of objs_there) plays.loads.ends

  abbrev run' : Run
  run' = run_at replay.run opens objs_there

  abbrev faces' : List Face
  faces' = faces_of objs_there

  am : AreMoved name_of (path_search read setting_there there_world) plays.loads.loaded objs_there
  am = moved_search read setting setting_there here there_world path opens plays.loads.loaded plays.loads.ends plays.loads.list place items name_of is_bundled program objs_there moved

  ended : IsEndedRun (found_for (TooManyObjects path) MOST_OBJECTS (path_search read setting here)) plays.loads.list.program opens plays.loads.loaded plays.loads.ends
  ended = plain_run read setting here path plays.loads.list.program opens plays.loads.loaded plays.loads.ends plays.loads.list.run

  is_run : IsRun (found_for (TooManyObjects path) MOST_OBJECTS (path_search read setting here)) plays.loads.list.program opens plays.loads.loaded
  is_run = run_of_ends (found_for (TooManyObjects path) MOST_OBJECTS (path_search read setting here)) (plays.loads.list.program.face.needs ∷ map (λ n. n ∷ []) opens) (record { objs = plays.loads.list.program ∷ []; log = [] }) plays.loads.loaded plays.loads.ends ended

  phases_same : (j : ℕ) → phase_of ends' j ≡ phase_of ends j
  phases_same j = same_phase (TooManyObjects path) MOST_OBJECTS search search' name_of first opens loaded ends objs_there ended am j

  run_is' : IsRunOf faces' opens loaded' ends' run'
  run_is' =
      run_there faces opens loaded ends replay.run plays.loads.run_is opens loaded' ends' am.count (same_loaders name_of loaded.log) phases_same
      (same_first (TooManyObjects path) MOST_OBJECTS search search' name_of first opens loaded ends objs_there ended am)
      (same_targets (TooManyObjects path) MOST_OBJECTS search search' name_of first opens loaded objs_there is_run am)
      (ap (map (target_in (all_renamed name_of loaded.log))) (sym keep) ∙ same_roots (TooManyObjects path) MOST_OBJECTS search search' name_of first opens loaded objs_there is_run am)
      refl
      (same_local (TooManyObjects path) MOST_OBJECTS search search' name_of first opens loaded objs_there is_run am)

  over : IsOver faces replay.run plays.loads.loaded.objs
  over = is_over faces opens loaded ends replay.run plays.loads.run_is

  over' : IsOver faces' run' objs_there
  over' = is_over faces' opens loaded' ends' run' run_is'

  scopes : HaveSameScopes replay.run run'
  scopes = record {
    global = refl;
    locals = λ j. local_at replay.run run' (local_by_same replay.run opens objs_there) 0 replay.run.objs objs_there j (am.count ∙ sym over.count);
  }

  -- ---- versions

  is_there : IsThere (TooManyObjects path) MOST_OBJECTS search search' name_of first opens loaded ends objs_there ended am faces' run'
  is_there = record {
    size = over'.count ∙ am.count;
    phase = λ j b. let q = there objs_there j (let size = am.count in omega arith) in phase_is faces' opens loaded' ends' run' run_is' j q.0 q.1 ∙ phases_same j;
    face = over'.face;
    none = over'.none;
    needs_went = plays.loads.run_is.targets;
    opened = sym keep;
    went = plays.loads.run_is.roots;
  }

  phase_here : (j : ℕ) → j < length loaded.objs → phase_at replay.run j ≡ phase_of ends j
  phase_here j b = let o = there plays.loads.loaded.objs j b in phase_is faces opens loaded ends replay.run plays.loads.run_is j o.0 o.1

  named_there : (j t : ℕ) → j < length loaded.objs → 0 < t → t < length loaded.objs → phase_of ends t ≤ phase_of ends j → version_file_of faces' run' j (name_of t) ≡ Some t
  named_there j t bj some bt le = named_file (TooManyObjects path) MOST_OBJECTS search search' name_of first opens loaded ends objs_there ended am faces' run' is_there j t bj some bt le

  met_there : (j t : ℕ) (ask : Ask) → j < length loaded.objs → 0 < t → t < length loaded.objs → phase_of ends t ≤ phase_of ends j → ask.file ≡ name_of t → HasVersion objs_there t ask.name → unmet faces' run' j ask ≡ None
  met_there j t ask bj some bt le file has =
      let q = there objs_there t (let size = am.count in omega arith) in
      met_by (TooManyObjects path) MOST_OBJECTS search search' name_of first opens loaded ends objs_there ended am faces' run' is_there j t ask q.0 (ap (version_file_of faces' run' j) file ∙ named_there j t bj some bt le) q.1 (has q.0 q.1)

  reached_phase : (through : List ℕ) (j t : ℕ) → j < length loaded.objs → IsReached loaded j through t → (t < length loaded.objs) × (phase_of ends t ≤ phase_of ends j)
  reached_phase [] j t b r = (subst (λ (k : ℕ). k < length loaded.objs) r b, let e : phase_of ends j ≡ phase_of ends t = ap (phase_of ends) r in omega arith)
  reached_phase (k ∷ through) j t b r =
      let one = need_phase (TooManyObjects path) MOST_OBJECTS search search' name_of first opens loaded ends objs_there ended am j k r.0 b r.1 in
      let rest = reached_phase through k t one.0 r.2 in
      let a = one.2 in
      let c = rest.1 in
      (rest.0, omega arith)

  -- the versions that hold at the object of an ask here hold there
  written_has : (t : ℕ) (version : List ℕ) → is_written is_bundled t ≡ true → has_defined version (defs_in (face_at faces replay.run t)) ≡ true → t < length loaded.objs → HasVersion objs_there t version
  written_has t version written has bt q g =
      let o = there plays.loads.loaded.objs t bt in
      let keeps = alike.symbols t o.0 q written o.1 g in
      ap (has_defined version) keeps.defs ∙ ap (λ f. has_defined version (defs_in f)) (sym (over.face t o.0 o.1)) ∙ has

  ask_has : (j k t : ℕ) (o : Object) (ask : Ask) → is_written is_bundled j ≡ true → slice_get loaded.objs j ≡ Some o → slice_get o.face.asks k ≡ Some ask → ask.weak ≡ false → version_file_of faces replay.run j ask.file ≡ Some t → has_defined ask.name (defs_in (face_at faces replay.run t)) ≡ true → t < length loaded.objs → HasVersion objs_there t ask.name
  ask_has j k t o ask written ho hk weak file has bt =
      elim (cases_Bool (is_written is_bundled t)) [
        | inl w ↦ written_has t ask.name w has bt
        | inr w ↦ alike.versions j k t o ask written ho hk weak file w
      ]

  written_met : (j k : ℕ) (o q : Object) (ask : Ask) → is_written is_bundled j ≡ true → slice_get loaded.objs j ≡ Some o → slice_get objs_there j ≡ Some q → slice_get q.face.asks k ≡ Some ask → ask.weak ≡ false → unmet faces' run' j ask ≡ None
  written_met j k o q ask written ho gq gk weak =
      let w = alike.asks j k o q ask written ho gq gk weak in
      let weak_here : w.0.weak ≡ false = sym w.2.weak ∙ weak in
      let bj : j < length loaded.objs = slice_get_within plays.loads.loaded.objs j o ho in
      let met_here = each_met faces replay.run plays.met j k o.face w.0 (let size = over.count in omega arith) (over.face j o ho) w.1 in
      let file = met_file faces replay.run j w.0 weak_here met_here in
      let inside = file_loaded faces replay.run j file.0 w.0.file file.1 in
      let bt : file.0 < length loaded.objs = (let size = over.count in let a = inside.0 in omega arith) in
      let pt = phase_here file.0 bt in
      let pj = phase_here j bj in
      let low = inside.1 in
      let named = w.2.file file.0 file.1 in
      let has = ask_has j k file.0 o w.0 written ho w.1 weak_here file.1 file.2 bt in
      met_there j file.0 ask bj named.0 bt (omega arith) named.1 (subst (λ (v : List ℕ). HasVersion objs_there file.0 v) (sym w.2.name) has)

  host_met : (j k : ℕ) (q : Object) (ask : Ask) → is_written is_bundled j ≡ false → slice_get objs_there j ≡ Some q → slice_get q.face.asks k ≡ Some ask → ask.weak ≡ false → unmet faces' run' j ask ≡ None
  host_met j k q ask written gq gk weak =
      let own = alike.own_asks j k q ask written gq gk weak in
      let within : j < length objs_there = slice_get_within objs_there j q gq in
      let bj : j < length loaded.objs = (let size = am.count in omega arith) in
      let at = reached_phase own.through j own.target bj own.reached in
      met_there j own.target ask bj own.some at.0 at.1 (sym own.named) own.met

  ask_met : (j k : ℕ) (q : Object) (ask : Ask) → slice_get objs_there j ≡ Some q → slice_get q.face.asks k ≡ Some ask → unmet faces' run' j ask ≡ None
  ask_met j k q ask gq gk =
      elim (cases_Bool ask.weak) [
        | inl weak ↦ ap (λ b. cond b None (unmet_by faces' run' ask.name (version_file_of faces' run' j ask.file))) weak
        | inr strong ↦
            elim (cases_Bool (is_written is_bundled j)) [
              | inl w ↦
                  let within : j < length objs_there = slice_get_within objs_there j q gq in
                  let o = there plays.loads.loaded.objs j (let size = am.count in omega arith) in
                  written_met j k o.0 q ask w o.1 gq gk strong
              | inr w ↦ host_met j k q ask w gq gk strong
            ]
      ]

  all_met : first_unmet faces' run' ≡ None
  all_met =
      none_unmet faces' run' (λ j k face ask below f g.
      let q = there objs_there j (let size = over'.count in omega arith) in
      let both : Some face ≡ Some q.0.face = sym f ∙ over'.face j q.0 q.1 in
      let same : face ≡ q.0.face = cc in
      ask_met j k q.0 ask q.1 (ap (λ (x : Face). slice_get x.asks k) (sym same) ∙ g))

  -- ---- the same run

  abbrev replay' : Replay
  replay' = record { run = run_at replay.run opens objs_there; binds = all_binds (faces_of objs_there) (run_at replay.run opens objs_there) }

  list' : IsLoadList read setting_there there_world (joined place program) opens loaded' ends'
  list' =
      subst (λ (ns : List (List ℕ)). IsLoadList read setting_there there_world (joined place program) ns loaded' ends') keep
      (moved_list read setting setting_there here there_world path opens loaded ends plays.loads.list place items name_of is_bundled program objs_there moved)

  -- what stands at a number there
  object_at : (j : ℕ) (y : Obj) → slice_get (objs_from 0 replay.run.objs objs_there) j ≡ Some y → (x : Obj) × (q : Object) × (slice_get replay.run.objs j ≡ Some x) × (slice_get objs_there j ≡ Some q) × (y ≡ obj_there j x q)
  object_at j y h =
      let w = obj_at 0 replay.run.objs objs_there j y h in
      let z : 0 + j ≡ j = omega arith in
      (w.0, w.1, w.2, w.3, w.4 ∙ ap (λ n. obj_there n w.0 w.1) z)

  from_here : (j : ℕ) (q : Object) → slice_get objs_there j ≡ Some q → (o : Object) × (slice_get loaded.objs j ≡ Some o)
  from_here j q g =
      let within : j < length objs_there = slice_get_within objs_there j q g in
      there plays.loads.loaded.objs j (let size = am.count in omega arith)

  same_obj : (j : ℕ) (x y : Obj) → slice_get replay.run.objs j ≡ Some x → slice_get (objs_from 0 replay.run.objs objs_there) j ≡ Some y → (y.loader ≡ x.loader) × (y.phase ≡ x.phase)
  same_obj j x y g h =
      let w = object_at j y h in
      let both : Some w.0 ≡ Some x = sym w.2 ∙ g in
      let same : w.0 ≡ x = cc in
      (ap (λ (z : Obj). z.loader) w.4 ∙ ap (λ (z : Obj). z.loader) same, ap (λ (z : Obj). z.phase) w.4 ∙ ap (λ (z : Obj). z.phase) same)

  pub same_run : SameRun read setting_there there_world place name_of is_bundled program faces faces' replay replay'
  same_run = record {
    count = over'.count ∙ am.count ∙ sym over.count;
    program_is = λ x h.
        let w = object_at 0 x h in
        let o = from_here 0 w.1 w.3 in
        ap (λ (z : Obj). z.path) w.4 ∙ (moved.program_is o.0 w.1 o.1 w.3).0.item.lies;
    bundled = λ j x some b h.
        let w = object_at j x h in
        let o = from_here j w.1 w.3 in
        ap (λ (z : Obj). z.path) w.4 ∙ (moved.bundled j o.0 w.1 some b o.1 w.3).item.lies;
    hosts = λ j x some b h.
        let w = object_at j x h in
        let o = from_here j w.1 w.3 in
        (w.1, (moved.hosts j o.0 w.1 some b o.1 w.3).found, ap (λ (z : Obj). z.path) w.4, ap (λ (z : Obj). z.id) w.4);
    different = λ i j x y g h e.
        let w = object_at i x g in
        let v = object_at j y h in
        different read setting_there there_world place items name_of is_bundled program loaded objs_there moved i j w.1 v.1 w.3 v.3 (sym (ap (λ (z : Obj). z.id) w.4) ∙ e ∙ ap (λ (z : Obj). z.id) v.4);
    targets = refl;
    loaders = λ j x y g h. (same_obj j x y g h).0;
    phases = λ j x y g h. (same_obj j x y g h).1;
    global = refl;
    roots = refl;
    locals = refl;
    binds = λ m b h w. bind_there faces faces' replay run' loaded name_of is_bundled objs_there alike over over' scopes am.count m b plays.binds h w;
  }

  pub runs_same : RunsSame read setting_there there_world place name_of is_bundled program opens faces replay
  runs_same = record {
    faces_there = faces';
    there = replay';
    plays = record { loads = record { loaded = loaded'; ends = ends'; list = list'; run_is = run_is' }; met = all_met; binds = refl };
    same = same_run;
  }
