-- What is recorded is canonical.
use Rattle.std.proofs.Common.{◌≡◌, ◌∙◌, ap, sym, refl, ℕ, ◌<◌, List, [], ◌∷◌, ◌++◌, Bool, true, false, cond, fold, length, arith, subst}
use Rattle.std.specs.Prelude.{All, AllPairs, IsSome, Option, Some, None, option_to_list, slice_get}
use Rattle.std.specs.Cmp.{IsTotalOrder, nat_cmp_total, on_total, then_total}
use Rattle.std.specs.Cmp.Lexicographic.{lists_total}
use Rattle.std.specs.List.{AllByRecursion, cons_option, filter_map, flat_map, list_any}
use Rattle.std.specs.Option.{option_and_then, option_map, unwrap_or}
use Rattle.std.specs.Str.{bytes_eq}
use Rattle.std.specs.declared.cmp.Ordering.{Ordering}
use Rattle.std.specs.declared.cmp.Ordering.TheVariants.{Less, Equal, Greater}
use Rattle.std.proofs.lemmas.Cmp.{tied_itself}
use Rattle.std.proofs.lemmas.List.{length-map}
use Rattle.std.proofs.lemmas.List.Elements.{All-head}
use Rattle.std.proofs.lemmas.List.Quantifiers.{position-Some}
use Rattle.std.proofs.lemmas.Option.{slice_get-map}
use Rattle.load_model.specs.Bindings.{all_binds, binds_itself, looked_in, symbol_at}
use Rattle.load_model.specs.LoadList.{up_to}
use Rattle.load_model.specs.Scopes.{scope_of}
use Rattle.load_model.specs.VersionCheck.{asks_in, version_file_of}
use Rattle.load_model.specs.Runs.{face_at}
use Rattle.load_model.specs.declared.faces.Face.{Face}
use Rattle.load_model.specs.declared.runs.Bind.{Bind}
use Rattle.load_model.specs.declared.runs.Def.{Def}
use Rattle.load_model.specs.declared.runs.Obj.{Obj}
use Rattle.load_model.specs.declared.runs.Run.{Run}
use Rattle.load_model.specs.declared.symbols.Class.{Class}
use Rattle.load_model.specs.declared.symbols.Sym.{Sym}
use Rattle.lib_closure.specs.declared.splits.HostLib.{HostLib}
use Rattle.lib_closure.specs.declared.splits.Split.{Split}
use Rattle.host_record.specs.Canonical.{AreDistinct, IsCanonical, IsLookOver, IsVersionOver, LooksInOrder, VersionsInOrder}
use Rattle.host_record.specs.OrderLaws.{full_look_total}
use Rattle.host_record.specs.Orders.{full_look_cmp, look_cmp, version_cmp}
use Rattle.host_record.specs.Said.{lib_names, needs_declared}
use Rattle.host_record.specs.declared.records.Answer.{Answer}
use Rattle.host_record.specs.declared.records.Look.{Look}
use Rattle.host_record.specs.declared.records.RecLib.{RecLib}
use Rattle.host_record.specs.declared.records.RecVersion.{RecVersion}
use Rattle.host_record.specs.declared.records.Record.{Record}
use Rattle.host_list.specs.Recording.{IsRecordOf, AreClosed, asked_version, each_path, host_at, host_number, host_numbers, look_in_object, look_found, look_of, looked_past, looks_by, looks_by_symbol, looks_of_run, looks_past, program_interp, recorded_lib, versions_by, versions_of_run, with_new_path}
use Rattle.host_list.proofs.OrderLemmas.{all_chosen, all_distinct, all_flat, all_joined, all_mapped, pairs_distinct, then_less}

-- ---- orders

version_total : IsTotalOrder version_cmp
version_total = then_total (on_total (λ (v : RecVersion). v.lib) nat_cmp_total) (on_total (λ (v : RecVersion). v.version) (lists_total nat_cmp_total))

not_itself : {X : Type 0} {R : X → X → Ordering} → IsTotalOrder R → (a b : X) → R a b ≡ Less → a ≡ b → ⊥
not_itself {X} {R} total a b h e =
    let same = tied_itself total a in
    let other : R a b ≡ Equal = ap (R a) (sym e) ∙ same in
    cc

versions_apart : (a b : RecVersion) → version_cmp a b ≡ Less → VersionsInOrder a b
versions_apart a b h = (not_itself version_total a b h, λ e. let clash : Less ≡ Greater = sym h ∙ e in cc)

looks_apart : (a b : Look) → full_look_cmp a b ≡ Less → LooksInOrder a b
looks_apart a b h = (not_itself full_look_total a b h, then_less (look_cmp a b) _ h)

-- ---- interpreters

added_some : (b : Bool) (q p : List ℕ) (qs : List (List ℕ)) → cond b (q ∷ qs) ((q ∷ qs) ++ p ∷ []) ≡ [] → ⊥
added_some true q p qs h = cc
added_some false q p qs h = cc

kept_by : (paths more : List (List ℕ)) → (paths ≡ [] → ⊥) → fold with_new_path paths more ≡ [] → ⊥
kept_by paths [] n h = n h
kept_by [] (p ∷ more) n h = n refl
kept_by (q ∷ qs) (p ∷ more) n h = kept_by (with_new_path (q ∷ qs) p) more (added_some (list_any (λ r. bytes_eq r p) (q ∷ qs)) q p qs) h

first_kept : (o : Option (List ℕ)) (more : List (List ℕ)) → IsSome o → fold with_new_path [] (cons_option o more) ≡ [] → ⊥
first_kept None more s h = cc
first_kept (Some p) more s h = kept_by (p ∷ []) more (λ e. cc) h

pub some_interp : (faces : List Face) (runs : List Run) → 0 < length runs → All (λ (run : Run). IsSome (program_interp faces run)) runs → each_path (filter_map (program_interp faces) runs) ≡ [] → ⊥
unfolding each_path
some_interp faces [] l a h = absurd (omega arith)
some_interp faces (run ∷ runs) l a h = first_kept (program_interp faces run) (filter_map (program_interp faces) runs) (All-head (λ (r : Run). IsSome (program_interp faces r)) run runs a) h

-- ---- numbers of libraries

in_hosts : (hosts : List HostLib) (id : List ℕ) (n : ℕ) → host_number hosts id ≡ Some n → n < length hosts
in_hosts [] id n h = cc
in_hosts (host ∷ hosts) id n h = (position-Some (λ (x : HostLib). bytes_eq id x.id) (host ∷ hosts) n host h).0

at_object : (hosts : List HostLib) (o : Option Obj) (n : ℕ) → unwrap_or (option_map (λ (x : Obj). host_number hosts x.id) o) None ≡ Some n → n < length hosts
at_object hosts None n h = cc
at_object hosts (Some x) n h = in_hosts hosts x.id n h

in_range : (hosts : List HostLib) (run : Run) (k n : ℕ) → host_at (host_numbers hosts run) k ≡ Some n → n < length hosts
unfolding host_numbers
in_range hosts run k n h = at_object hosts (slice_get run.objs k) n (sym (ap (λ o. unwrap_or o None) (slice_get-map (λ (x : Obj). host_number hosts x.id) run.objs k)) ∙ h)

module _ (faces : List Face) (hosts : List HostLib) (libs : List RecLib) (many : length libs ≡ length hosts) (run : Run) where
  within : (k n : ℕ) → host_at (host_numbers hosts run) k ≡ Some n → n < length libs
  within k n h = let inside = in_range hosts run k n h in omega (arith, inside, many)

  version_at : (o : Option ℕ) (k : ℕ) (name : List ℕ) (v : RecVersion) → host_at (host_numbers hosts run) k ≡ o → option_map (λ lib. record { lib = lib; version = name }) o ≡ Some v → IsVersionOver libs v
  version_at None k name v e h = cc
  version_at (Some n) k name v e h = let same : n ≡ v.lib = cc in subst (λ (m : ℕ). m < length libs) same (within k n e)

  version_of : (weak : Bool) (name : List ℕ) (file : Option ℕ) (v : RecVersion) → cond weak None (option_map (λ lib. record { lib = lib; version = name }) (option_and_then (host_at (host_numbers hosts run)) file)) ≡ Some v → IsVersionOver libs v
  version_of true name file v h = cc
  version_of false name None v h = cc
  version_of false name (Some k) v h = version_at (host_at (host_numbers hosts run) k) k name v refl h

  pub versions_over : AllByRecursion (IsVersionOver libs) (versions_of_run faces hosts run)
  unfolding versions_by
  versions_over = all_flat (IsVersionOver libs) (versions_by faces (host_numbers hosts run) run) (λ j.
      all_chosen (IsVersionOver libs) _ _ (all_mapped (IsVersionOver libs) (asked_version faces (host_numbers hosts run) run j) (λ ask v h. version_of ask.weak ask.name (version_file_of faces run j ask.file) v h) (asks_in (face_at faces run j)))) (up_to (length run.objs))

  look_of_lib : (o : Option ℕ) (k : ℕ) (s : Sym) (class : Class) (answer : Answer) (l : Look) → host_at (host_numbers hosts run) k ≡ o → option_map (look_of s class answer) o ≡ Some l → IsLookOver libs l
  look_of_lib None k s class answer l e h = cc
  look_of_lib (Some n) k s class answer l e h = let same : n ≡ l.lib = cc in subst (λ (m : ℕ). m < length libs) same (within k n e)

  look_there : (s : Sym) (class : Class) (answer : Answer) (k : ℕ) (l : Look) → look_in_object (host_numbers hosts run) s class answer k ≡ Some l → IsLookOver libs l
  look_there s class answer k l h = look_of_lib (host_at (host_numbers hosts run) k) k s class answer l refl h

  one_look : (o : Option Look) → ((l : Look) → o ≡ Some l → IsLookOver libs l) → AllByRecursion (IsLookOver libs) (option_to_list o)
  one_look None h = tt
  one_look (Some l) h = (h l refl, tt)

  found_over : (s : Sym) (class : Class) (to : Option Def) → AllByRecursion (IsLookOver libs) (look_found faces hosts run s class to)
  found_over s class None = tt
  found_over s class (Some d) = one_look _ (λ l h. look_there s class _ d.obj l h)

  past_over : (s : Sym) (class : Class) (ks : List ℕ) → AllByRecursion (IsLookOver libs) (looks_past (host_numbers hosts run) s class ks)
  unfolding looks_past
  past_over s class ks = all_mapped (IsLookOver libs) (look_in_object (host_numbers hosts run) s class _) (λ k l h. look_there s class _ k l h) ks

  not_chosen : (b : Bool) (xs : List Look) → AllByRecursion (IsLookOver libs) xs → AllByRecursion (IsLookOver libs) (cond b [] xs)
  not_chosen true xs p = tt
  not_chosen false xs p = p

  symbol_over : (bind : Bind) (o : Option Sym) → AllByRecursion (IsLookOver libs) (looks_by_symbol faces hosts run bind o)
  symbol_over bind None = tt
  symbol_over bind (Some s) = not_chosen (binds_itself bind.class s) _ (all_joined (IsLookOver libs) _ _ (past_over s bind.class (looked_past bind.to (looked_in bind.class (scope_of faces run bind.obj)))) (found_over s bind.class bind.to))

  pub looks_over : AllByRecursion (IsLookOver libs) (looks_of_run faces hosts run)
  unfolding looks_by
  looks_over = all_flat (IsLookOver libs) (looks_by faces hosts run) (λ bind. all_chosen (IsLookOver libs) _ _ (symbol_over bind (symbol_at faces run bind.obj bind.sym))) (all_binds faces run)

-- ---- all of it

pub canonical : (faces : List Face) (runs : List Run) (split : Split) (r : Record) → 0 < length runs → All (λ (run : Run). IsSome (program_interp faces run)) runs → AreClosed faces split.hosts → IsRecordOf faces runs split r → IsCanonical r
canonical faces runs split r l a c i =
    let many : length r.libs ≡ length split.hosts = ap length i.libs ∙ length-map split.hosts (recorded_lib faces) in
    record {
      interps = λ e. some_interp faces runs l a (sym i.interps ∙ e);
      distinct = subst (λ (libs : List RecLib). AreDistinct [] (lib_names libs)) (sym i.libs) c.distinct;
      declared = ap needs_declared i.libs ∙ c.declared;
      versions = subst (AllByRecursion (IsVersionOver r.libs)) (sym i.versions) (all_distinct (IsVersionOver r.libs) version_cmp _ (all_flat (IsVersionOver r.libs) (versions_of_run faces split.hosts) (λ run. versions_over faces split.hosts r.libs many run) runs));
      version_order = subst (AllPairs VersionsInOrder) (sym i.versions) (pairs_distinct version_cmp version_total VersionsInOrder versions_apart (flat_map (versions_of_run faces split.hosts) runs));
      looks = subst (AllByRecursion (IsLookOver r.libs)) (sym i.looks) (all_distinct (IsLookOver r.libs) full_look_cmp _ (all_flat (IsLookOver r.libs) (looks_of_run faces split.hosts) (λ run. looks_over faces split.hosts r.libs many run) runs));
      look_order = subst (AllPairs LooksInOrder) (sym i.looks) (pairs_distinct full_look_cmp full_look_total LooksInOrder looks_apart (flat_map (looks_of_run faces split.hosts) runs));
    }
