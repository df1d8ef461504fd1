-- What is kept of the global list answers whoever wants the same.
use Rattle.std.proofs.Common.{◌≡◌, ◌∙◌, sym, ap, refl, subst, ℕ, suc, List, [], ◌∷◌, ◌++◌, Bool, true, false, cond, ◌==◌, ◌&&◌, Option, Some, None, Result, Ok, Err, IfOk, map, slice_get, arith, rules}
use Rattle.std.specs.Borrow.{Bor}
use Rattle.std.specs.Cmp.Lexicographic.{bytes_decides}
use Rattle.std.specs.Cmp.Rules.{comparing}
use Rattle.std.specs.Map.{lookup}
use Rattle.std.specs.Option.{option_and_then, option_copied, option_eq, option_map, option_to_list}
use Rattle.std.specs.Str.{bytes_eq}
use Rattle.std.proofs.lemmas.Bool.{and_parts}
use Rattle.std.proofs.lemmas.List.Elements.{All-push}
use Rattle.indexmap.specs.IndexMap.{IndexMap, get, insert_entry}
use Rattle.indexmap.proofs.CallerLemmas.{insert_entry-new}
use Rattle.answers.specs.First.{first_some}
use Rattle.load_model.specs.Bindings.{binds_itself, bound_to, is_copy, offered_by, symbol_at, wanted_version}
use Rattle.load_model.specs.LoadList.{up_to}
use Rattle.load_model.specs.Offers.{Offered, offer_of}
use Rattle.load_model.specs.Scopes.{itself, local_of}
use Rattle.load_model.specs.contracts.symbols.ClassPartialEq.TheImpl as classes
use Rattle.load_model.specs.declared.faces.Face.{Face}
use Rattle.load_model.specs.declared.runs.Def.{Def}
use Rattle.load_model.specs.declared.runs.Run.{Run}
use Rattle.load_model.specs.declared.symbols.Class.{Class}
use Rattle.load_model.specs.declared.symbols.Sym.{Sym}
use Rattle.scope_lookup.specs.Binders.{BinderView, KeepsFound}
use Rattle.scope_lookup.specs.Finding.{AreFoundGlobally, IsSearchable, first_found_in, found_in_object, offered_at}
use Rattle.scope_lookup.specs.contracts.wanting.WantedPartialEq.TheImpl as wanted
use Rattle.scope_lookup.specs.declared.wanting.Wanted.{Wanted}
use Rattle.scope_lookup.proofs.ScopeLemmas.{bound_found, searchable}

-- the same is wanted
record WantTheSame (v w : Wanted) : Type 0 where
  name : v.name.now ≡ w.name.now
  version : option_copied v.version ≡ option_copied w.version
  class : v.class ≡ w.class

same_version : (o p : Option (Bor (List ℕ))) → option_eq (λ x y. bytes_eq x.now y.now) o p ≡ true → option_copied o ≡ option_copied p
same_version None None h = refl
same_version None (Some y) h = cc
same_version (Some x) None h = cc
same_version (Some x) (Some y) h = ap Some ((bytes_decides x.now y.now).0 h)

same_class : (c d : Class) → (classes.ghosts).eq c d ≡ true → c ≡ d
same_class c d h = search (comparing, rules)

alike : (v w : Wanted) → (wanted.ghosts).eq v w ≡ true → WantTheSame v w
alike v w h =
    let parts = and_parts (bytes_eq v.name.now w.name.now) (option_eq (λ x y. bytes_eq x.now y.now) v.version w.version && (classes.ghosts).eq v.class w.class) h in
    let later = and_parts (option_eq (λ x y. bytes_eq x.now y.now) v.version w.version) ((classes.ghosts).eq v.class w.class) parts.1 in
    record { name = (bytes_decides v.name.now w.name.now).0 parts.0; version = same_version v.version w.version later.0; class = same_class v.class w.class later.1 }

module _ (index : List Offered) (run : Run) where
  first_alike : (v w : Wanted) (ks : List ℕ) → WantTheSame v w → first_found_in index run v ks ≡ first_found_in index run w ks
  unfolding first_found_in found_in_object
  first_alike v w ks a =
      let g : Class → List ℕ → Option (List ℕ) → ℕ → Option Def =
      λ c n x k. cond ((k == 0) && is_copy c) None (option_map (λ i. record { obj = k; sym = i }) (option_and_then (λ (o : Offered). offer_of o n x c) (offered_at index run k))) in
      ap (λ n. first_some (map (g v.class n (option_copied v.version)) ks)) a.name
      ∙ ap (λ x. first_some (map (g v.class w.name.now x) ks)) a.version
      ∙ ap (λ c. first_some (map (g c w.name.now (option_copied w.version)) ks)) a.class

  kept_by : (w : Wanted) (e : Wanted × Option Def) (later : Option (Option Def)) (first : Option Def) (b : Bool) → (wanted.ghosts).eq w e.0 ≡ b → e.1 ≡ first_found_in index run e.0 (up_to run.global) → (later ≡ Some first → first ≡ first_found_in index run w (up_to run.global)) → cond b (Some e.1) later ≡ Some first → first ≡ first_found_in index run w (up_to run.global)
  kept_by w e later first true same here rest h =
      let is : e.1 ≡ first = cc in
      sym is ∙ here ∙ sym (first_alike w e.0 (up_to run.global) (alike w e.0 same))
  kept_by w e later first false same here rest h = rest h

  -- what is kept for what is equal to this is what this finds
  pub kept_answers : (w : Wanted) (kept : List (Wanted × Option Def)) (first : Option Def) → AreFoundGlobally index run kept → lookup ((wanted.ghosts).eq w) kept ≡ Some first → first ≡ first_found_in index run w (up_to run.global)
  kept_answers w [] first all h = cc
  kept_answers w (e ∷ kept) first all h =
      kept_by w e (lookup ((wanted.ghosts).eq w) kept) first ((wanted.ghosts).eq w e.0) refl (all 0 e (omega arith))
      (λ g. kept_answers w kept first (λ k d less. all (suc k) d (omega arith)) g) h

  pub one_more_kept : {S : Type 0} (m : IndexMap Wanted (Option Def) S) (entries : List (Wanted × Option Def)) (w : Wanted) (first : Option Def) → AreFoundGlobally index run m.entries → get (wanted.ghosts).eq m w ≡ None → first ≡ first_found_in index run w (up_to run.global) → entries ≡ insert_entry (wanted.ghosts).eq m.entries w first → AreFoundGlobally index run entries
  one_more_kept m entries w first all none is more =
      subst (AreFoundGlobally index run) (sym (more ∙ insert_entry-new (wanted.ghosts).eq m w first none))
      (All-push (λ (e : Wanted × Option Def). e.1 ≡ first_found_in index run e.0 (up_to run.global)) m.entries (w, first) all is)

-- a binder and what it tells
module _ (index : List Offered) (faces : List Face) (run : Run) (seen : BinderView) (told : record { faces = faces; run = run } ≡ seen) where
  pub ready : (kept : List (Wanted × Option Def)) → KeepsFound faces index run kept → IsSearchable index run
  ready kept keeps = searchable faces index run keeps.tells keeps.over keeps.few

  module _ (tells : index ≡ map offered_by faces) (w : Wanted) where
    pub object_told : (k : ℕ) → found_in_object index run w k ≡ found_in_object (map offered_by seen.faces) seen.run w k
    object_told k = ap (λ os. found_in_object os run w k) tells ∙ ap (λ (v : BinderView). found_in_object (map offered_by v.faces) v.run w k) told

    pub list_told : (ks : List ℕ) → first_found_in index run w ks ≡ first_found_in (map offered_by seen.faces) seen.run w ks
    list_told ks = ap (λ os. first_found_in os run w ks) tells ∙ ap (λ (v : BinderView). first_found_in (map offered_by v.faces) v.run w ks) told

    pub global_told : first_found_in index run w (up_to run.global) ≡ first_found_in (map offered_by seen.faces) seen.run w (up_to seen.run.global)
    global_told = list_told (up_to run.global) ∙ ap (λ (v : BinderView). first_found_in (map offered_by seen.faces) seen.run w (up_to v.run.global)) told

    pub local_told : (j : ℕ) (numbers : List ℕ) → numbers ≡ local_of run (slice_get run.objs j) → first_found_in index run w numbers ≡ first_found_in (map offered_by seen.faces) seen.run w (local_of seen.run (slice_get seen.run.objs j))
    local_told j numbers is =
        list_told numbers ∙ ap (first_found_in (map offered_by seen.faces) seen.run w) (is ∙ ap (λ (v : BinderView). local_of v.run (slice_get v.run.objs j)) told)

-- what is found in the scope is what a reference binds to that does not bind to its own symbol
pub bound_by_scope : {E : Type 0} (faces : List Face) (run : Run) (j i : ℕ) (class : Class) (s : Sym) (w : Wanted) → symbol_at faces run j i ≡ Some s → binds_itself class s ≡ false → w.name.now ≡ s.name → option_copied w.version ≡ wanted_version s.version → w.class ≡ class → (o : Option ℕ) → option_to_list o ≡ itself faces run j → (r : Result (Option Def) E) → IfOk r (λ first. first ≡ first_found_in (map offered_by faces) run w (option_to_list o ++ (up_to run.global ++ local_of run (slice_get run.objs j)))) → IfOk r (λ to. to ≡ bound_to faces run j i class)
bound_by_scope faces run j i class s w at own name_is version_is class_is o listed (Err e) h = h
bound_by_scope faces run j i class s w at own name_is version_is class_is o listed (Ok first) h =
    h ∙ ap (λ xs. first_found_in (map offered_by faces) run w (xs ++ (up_to run.global ++ local_of run (slice_get run.objs j)))) listed
    ∙ sym (bound_found faces run j i class s w at own name_is version_is class_is)
