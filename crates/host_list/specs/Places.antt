-- A load list that is gone through, with what is found once for each of its objects.
use Rattle.std.specs.Prelude.{ℕ, List, [], ◌≡◌, ◌==◌, ◌&&◌, Bool, cond, Option, length, map, option_to_list, vec_items}
use Rattle.load_model.specs.Bindings.{is_copy}
use Rattle.load_model.specs.LoadList.{up_to}
use Rattle.load_model.specs.Scopes.{scope_of}
use Rattle.load_model.specs.declared.faces.Face.{Face}
use Rattle.load_model.specs.declared.runs.Run.{Run}
use Rattle.load_model.specs.declared.symbols.Class.{Class}
use Rattle.load_model.specs.declared.symbols.Sym.{Sym}
use Rattle.lib_closure.specs.declared.splits.HostLib.{HostLib}
use Rattle.host_record.specs.declared.records.Answer.TheVariants.{Nothing}
use Rattle.host_record.specs.declared.records.Look.{Look}
use Rattle.host_list.specs.Recording.{host_numbers, look_in_object}
use Rattle.host_list.specs.declared.places.Place.{Place}

-- The numbers are those of the host libraries that the objects are, and the scopes are theirs.
pub record IsPlaceInRun (place : Place) : Type 0 where
  pub numbers_are : place.numbers.items ≡ host_numbers place.hosts.now place.run.now
  pub scopes_are : map vec_items place.scopes.items
      ≡ map (scope_of place.faces.now place.run.now) (up_to (length place.run.now.objs))

pub record IsPlaceOf (faces : List Face) (run : Run) (hosts : List HostLib) (place : Place) : Type 0
  where
    pub faces_are : place.faces.now ≡ faces
    pub run_is : place.run.now ≡ run
    pub hosts_are : place.hosts.now ≡ hosts
    pub place_is : IsPlaceInRun place

-- A copy does not look in the program.
abbrev pub is_skipped : Class → ℕ → Bool
is_skipped class k = is_copy class && (k == 0)

-- What a reference finds in an object that it looks past.
abbrev pub look_missed : List (Option ℕ) → Sym → Class → ℕ → List Look
look_missed numbers s class k =
    cond (is_skipped class k) [] (option_to_list (look_in_object numbers s class Nothing k))
