-- Why programs are not loaded, from the stop of a load list or of a check.
use Rattle.load_model.specs.declared.opening.OpenFault.{OpenFault}
use Rattle.load_model.specs.declared.opening.OpenFault.TheVariants.{Read as ReadFault, Damaged as DamagedFile, NoMemory as NoMemoryOpen}
use Rattle.load_model.specs.declared.refusals.LoadRefusal.TheVariants.{NoProgram, Damaged, RelativeNeed, TokenInNeed, RelativeItem, TokenUnset, MissingLibrary, TooManyObjects, VersionFileUnloaded, UnsatisfiedVersion}
use Rattle.load_requests.specs.declared.stops.LoadStop.{LoadStop}
use Rattle.load_requests.specs.declared.stops.LoadStop.TheVariants.{NoProgram as StopNoProgram, MissingLibrary as StopMissing, RelativeNeed as StopRelativeNeed, TokenInNeed as StopTokenInNeed, TooManyObjects as StopTooMany, Search as StopSearch, NoMemory as NoMemoryLoad}
use Rattle.loader_replay.specs.declared.stops.ReplayStop.{ReplayStop}
use Rattle.loader_replay.specs.declared.stops.ReplayStop.TheVariants.{Load as StopLoad, Unloaded, Unsatisfied, NoMemory as NoMemoryReplay}
use Rattle.search_paths.specs.declared.hits.SearchStop.{SearchStop}
use Rattle.search_paths.specs.declared.hits.SearchStop.TheVariants.{RelativeItem as StopRelativeItem, TokenUnset as StopTokenUnset, Open, NoMemory as NoMemorySearch}
use Rattle.build_runs.specs.declared.stops.LoadsStop.{LoadsStop}
use Rattle.build_runs.specs.declared.stops.LoadsStop.TheVariants.{Refused, Read, NoMemory}

abbrev pub stop_of_open : OpenFault → LoadsStop
stop_of_open ReadFault = Read
stop_of_open (DamagedFile path flaw) = Refused (Damaged path flaw)
stop_of_open NoMemoryOpen = NoMemory

abbrev pub stop_of_search : SearchStop → LoadsStop
stop_of_search (StopRelativeItem item) = Refused (RelativeItem item)
stop_of_search (StopTokenUnset item) = Refused (TokenUnset item)
stop_of_search (Open fault) = stop_of_open fault
stop_of_search NoMemorySearch = NoMemory

abbrev pub stop_of_load : LoadStop → LoadsStop
stop_of_load (StopNoProgram path) = Refused (NoProgram path)
stop_of_load (StopMissing name by) = Refused (MissingLibrary name by)
stop_of_load (StopRelativeNeed name by) = Refused (RelativeNeed name by)
stop_of_load (StopTokenInNeed name by) = Refused (TokenInNeed name by)
stop_of_load (StopTooMany path) = Refused (TooManyObjects path)
stop_of_load (StopSearch stop) = stop_of_search stop
stop_of_load NoMemoryLoad = NoMemory

-- The same where its versions may not be met.
abbrev pub stop_of_replay : ReplayStop → LoadsStop
stop_of_replay (StopLoad stop) = stop_of_load stop
stop_of_replay (Unloaded by file) = Refused (VersionFileUnloaded by file)
stop_of_replay (Unsatisfied by file version) = Refused (UnsatisfiedVersion by file version)
stop_of_replay NoMemoryReplay = NoMemory
