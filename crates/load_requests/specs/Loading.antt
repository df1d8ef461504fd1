-- What the stop of a load says of the load list, up to want of memory and reads that failed.
use Rattle.std.specs.Prelude.{◌≡◌, Option, Some, None}
use Rattle.load_model.specs.declared.opening.OpenFault.TheVariants.{Read, Damaged as OpensDamaged, NoMemory as OpensNoMemory}
use Rattle.load_model.specs.declared.refusals.LoadRefusal.{LoadRefusal}
use Rattle.load_model.specs.declared.refusals.LoadRefusal.TheVariants.{Damaged, MissingLibrary, NoProgram, RelativeItem, RelativeNeed, TokenInNeed, TokenUnset, TooManyObjects}
use Rattle.search_paths.specs.declared.hits.SearchStop.{SearchStop}
use Rattle.search_paths.specs.declared.hits.SearchStop.TheVariants.{RelativeItem as StopsRelative, TokenUnset as StopsUnset, Open, NoMemory as SearchNoMemory}
use Rattle.load_requests.specs.declared.stops.LoadStop.{LoadStop}
use Rattle.load_requests.specs.declared.stops.LoadStop.TheVariants.{NoProgram as StartsNothing, MissingLibrary as Misses, RelativeNeed as NeedsRelative, TokenInNeed as NeedsToken, TooManyObjects as Overflows, Search, NoMemory}

-- What a stop of a search says of the load list: nothing for want of memory and for a read that
-- failed.
abbrev pub searched_refusal : SearchStop → Option LoadRefusal
searched_refusal (StopsRelative item) = Some (RelativeItem item)
searched_refusal (StopsUnset item) = Some (TokenUnset item)
searched_refusal (Open (OpensDamaged path flaw)) = Some (Damaged path flaw)
searched_refusal (Open Read) = None
searched_refusal (Open OpensNoMemory) = None
searched_refusal SearchNoMemory = None

-- The same of a stop of the load list.
abbrev pub refusal_of : LoadStop → Option LoadRefusal
refusal_of (StartsNothing path) = Some (NoProgram path)
refusal_of (Misses name by) = Some (MissingLibrary name by)
refusal_of (NeedsRelative name by) = Some (RelativeNeed name by)
refusal_of (NeedsToken name by) = Some (TokenInNeed name by)
refusal_of (Overflows path) = Some (TooManyObjects path)
refusal_of (Search stop) = searched_refusal stop
refusal_of NoMemory = None

-- The stop is a read that failed.
abbrev pub IsRead : LoadStop → Type 0
IsRead stop = stop ≡ Search (Open Read)

-- What is refused is the first stop of the load list.
abbrev pub IsRefusedBy : (LoadRefusal → Type 0) → Option LoadRefusal → Type 0
IsRefusedBy stopped None = Unit {0}
IsRefusedBy stopped (Some refusal) = stopped refusal
