-- What a reference finds, step by step.
use Rattle.std.proofs.Common.{◌≡◌, ◌∙◌, ap, sym, refl, ℕ, List, [], ◌∷◌, ◌++◌, Bool, true, false, cond}
use Rattle.std.specs.Prelude.{◌&&◌, not, Option, Some, None, is_none, is_some, option_to_list}
use Rattle.std.specs.List.{cons_option, filter_map}
use Rattle.std.proofs.lemmas.List.Sums.{take_while-cons}
use Rattle.load_model.specs.Bindings.{binds_itself, looked_in, symbol_at}
use Rattle.load_model.specs.Scopes.{scope_of}
use Rattle.load_model.specs.declared.faces.Face.{Face}
use Rattle.load_model.specs.declared.runs.Bind.{Bind}
use Rattle.load_model.specs.declared.runs.Def.{Def}
use Rattle.load_model.specs.declared.runs.Run.{Run}
use Rattle.load_model.specs.declared.symbols.Class.{Class}
use Rattle.load_model.specs.declared.symbols.Sym.{Sym}
use Rattle.lib_closure.specs.declared.splits.HostLib.{HostLib}
use Rattle.host_record.specs.declared.records.Answer.TheVariants.{Nothing}
use Rattle.host_record.specs.declared.records.Look.{Look}
use Rattle.host_list.specs.Places.{is_skipped, look_missed}
use Rattle.host_list.specs.Recording.{host_at, host_numbers, is_at, look_found, look_in_object, looked_past, looks_by, looks_by_symbol, looks_in_scope, looks_past}

put_first : {X : Type 0} (o : Option X) (xs : List X) → cons_option o xs ≡ option_to_list o ++ xs
put_first None xs = refl
put_first (Some x) xs = refl

-- the objects that are looked past, one object on
past_skipped : (to : Option Def) (class : Class) (k : ℕ) (ks : List ℕ) → is_skipped class k ≡ true → looked_past to (looked_in class (k ∷ ks)) ≡ looked_past to (looked_in class ks)
past_skipped to class k ks h = ap (λ b. looked_past to (cond (not b) (k ∷ looked_in class ks) (looked_in class ks))) h

past_first : (to : Option Def) (class : Class) (k : ℕ) (ks : List ℕ) → is_skipped class k ≡ false → looked_past to (looked_in class (k ∷ ks)) ≡ cond (not (is_at to k)) (k ∷ looked_past to (looked_in class ks)) []
past_first to class k ks h =
    ap (λ b. looked_past to (cond (not b) (k ∷ looked_in class ks) (looked_in class ks))) h
    ∙ take_while-cons (λ j. not (is_at to j)) k (looked_in class ks)

abbrev past : List (Option ℕ) → Sym → Class → Option Def → List ℕ → List Look
past numbers s class to ks = looks_past numbers s class (looked_past to (looked_in class ks))

-- an object is skipped, or is not the one that is bound to
pub past_step : (numbers : List (Option ℕ)) (s : Sym) (class : Class) (to : Option Def) (k : ℕ) (ks : List ℕ) (skip at : Bool) → is_skipped class k ≡ skip → is_at to k ≡ at → (not skip && at) ≡ false → looks_past numbers s class (looked_past to (looked_in class (k ∷ ks))) ≡ look_missed numbers s class k ++ looks_past numbers s class (looked_past to (looked_in class ks))
unfolding looks_past
past_step numbers s class to k ks true at e f h =
    ap (filter_map (look_in_object numbers s class Nothing)) (past_skipped to class k ks e)
    ∙ ap (λ b. cond b [] (option_to_list (look_in_object numbers s class Nothing k)) ++ past numbers s class to ks) (sym e)
past_step numbers s class to k ks false true e f h = cc
past_step numbers s class to k ks false false e f h =
    ap (filter_map (look_in_object numbers s class Nothing)) (past_first to class k ks e ∙ ap (λ b. cond (not b) (k ∷ looked_past to (looked_in class ks)) []) f)
    ∙ (put_first (look_in_object numbers s class Nothing k) (past numbers s class to ks)
    ∙ ap (λ b. cond b [] (option_to_list (look_in_object numbers s class Nothing k)) ++ past numbers s class to ks) (sym e))

-- the one that is bound to ends it
pub past_ends : (numbers : List (Option ℕ)) (s : Sym) (class : Class) (to : Option Def) (k : ℕ) (ks : List ℕ) → is_skipped class k ≡ false → is_at to k ≡ true → looks_past numbers s class (looked_past to (looked_in class (k ∷ ks))) ≡ []
unfolding looks_past
past_ends numbers s class to k ks e f =
    ap (filter_map (look_in_object numbers s class Nothing)) (past_first to class k ks e ∙ ap (λ b. cond (not b) (k ∷ looked_past to (looked_in class ks)) []) f)

none_there : {X : Type 0} (o : Option X) → is_some o ≡ false → is_none o ≡ true
none_there None h = refl
none_there (Some x) h = cc

-- what a reference finds that is recorded
pub looks_made : (faces : List Face) (hosts : List HostLib) (run : Run) (bind : Bind) (s : Sym) (missed all : List Look) → is_some (host_at (host_numbers hosts run) bind.obj) ≡ false → symbol_at faces run bind.obj bind.sym ≡ Some s → binds_itself bind.class s ≡ false → missed ≡ looks_past (host_numbers hosts run) s bind.class (looked_past bind.to (looked_in bind.class (scope_of faces run bind.obj))) → all ≡ missed ++ look_found faces hosts run s bind.class bind.to → all ≡ looks_by faces hosts run bind
unfolding looks_by
looks_made faces hosts run bind s missed all n e o p a =
    let whole = looks_in_scope faces hosts run s bind.class bind.to (looked_in bind.class (scope_of faces run bind.obj)) in
    a ∙ (ap (λ t. t ++ look_found faces hosts run s bind.class bind.to) p
    ∙ (sym (ap (λ b. cond b [] whole) o)
    ∙ (sym (ap (looks_by_symbol faces hosts run bind) e)
    ∙ sym (ap (λ b. cond b (looks_by_symbol faces hosts run bind (symbol_at faces run bind.obj bind.sym)) []) (none_there (host_at (host_numbers hosts run) bind.obj) n)))))

pub either_false : (a b : Bool) → b ≡ false → (a && b) ≡ false
either_false true b h = h
either_false false b h = refl
