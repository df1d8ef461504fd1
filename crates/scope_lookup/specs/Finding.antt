-- What a reference finds, by an index that tells of each face what offers depend on.
use Rattle.std.specs.Prelude.{ℕ, List, ◌≡◌, ◌<◌, ◌≤◌, ◌^◌, ◌==◌, ◌&&◌, All, cond, Option, None, length, map, slice_get}
use Rattle.std.specs.Option.{option_and_then, option_copied, option_map}
use Rattle.answers.specs.First.{first_some}
use Rattle.load_model.specs.Bindings.{is_copy}
use Rattle.load_model.specs.LoadList.{up_to}
use Rattle.load_model.specs.Offers.{Offered, offer_of}
use Rattle.load_model.specs.Runs.{AreBelow}
use Rattle.load_model.specs.declared.runs.Def.{Def}
use Rattle.load_model.specs.declared.runs.Obj.{Obj}
use Rattle.load_model.specs.declared.runs.Run.{Run}
use Rattle.scope_lookup.specs.declared.wanting.Wanted.{Wanted}

-- Each object has a place in the index, the numbers of its symbols have 32 bits, and scopes are
-- made of numbers of objects.
pub record IsSearchable (index : List Offered) (run : Run) : Type 0 where
  pub places : All (λ (o : Obj). o.face < length index) run.objs
  pub few : All (λ (o : Offered). length o.syms < 2 ^ 32) index
  pub global : run.global ≤ length run.objs
  pub phases : All (λ (o : Obj). o.phase ≤ length run.locals) run.objs
  pub locals : All (AreBelow (length run.objs)) run.locals

-- What offers of the object of this number depend on.
abbrev pub offered_at : List Offered → Run → ℕ → Option Offered
offered_at index run k = option_and_then (λ o. slice_get index o.face) (slice_get run.objs k)

-- The offer of the object of this number.
abbrev pub offer_in : List Offered → Run → Wanted → ℕ → Option Def
offer_in index run w k =
    option_map (λ i. record { obj = k; sym = i })
    (option_and_then (λ o. offer_of o w.name.now (option_copied w.version) w.class)
    (offered_at index run k))

-- What is found there; a copy finds nothing in the program.
unfoldable pub found_in_object : List Offered → Run → Wanted → ℕ → Option Def
found_in_object index run w k = cond ((k == 0) && is_copy w.class) None (offer_in index run w k)

-- The first that is found in these objects.
unfoldable pub first_found_in : List Offered → Run → Wanted → List ℕ → Option Def
first_found_in index run w ks = first_some (map (found_in_object index run w) ks)

-- Beside each of these wants stands the first that is found in the global list.
abbrev pub AreFoundGlobally : List Offered → Run → List (Wanted × Option Def) → Type 0
AreFoundGlobally index run kept =
    All (λ e. e.1 ≡ first_found_in index run e.0 (up_to run.global)) kept
