-- Why a build stops, by what stopped one of its steps.
use Rattle.build_runs.specs.declared.stops.LoadsStop.{LoadsStop}
use Rattle.build_runs.specs.declared.stops.LoadsStop.TheVariants.{Refused as LoadsRefused, Read as LoadsRead, NoMemory as NoMemoryLoads}
use Rattle.lib_closure.specs.declared.stops.ClosureStop.{ClosureStop}
use Rattle.lib_closure.specs.declared.stops.ClosureStop.TheVariants.{NoInterpreter as LacksInterpreter, InterpreterUnlisted as UnlistedInterpreter, ProgramNeeded as NeededProgram, HostNameClash as HostClash, HostRpath as HostPath, HostNeedsUnlisted as UnlistedNeed, HostAlias as AliasNeed, SplitNeed as NeedSplit, NoMemory as NoMemoryClosure}
use Rattle.name_layout.specs.declared.stops.NameStop.{NameStop}
use Rattle.name_layout.specs.declared.stops.NameStop.TheVariants.{OpenAlias as AliasOpened, OpenNameOnHostList as ListedOpened, TwoOpenNames as OpenedTwice, NameClash as ClashOfNames, BadFileName as BadName, NoMemory as NoMemoryNames}
use Rattle.refusals.specs.declared.name_refusal.NameRefusal.TheVariants.{OpenAlias, OpenNameOnHostList, TwoOpenNames, NameClash, BadFileName}
use Rattle.refusals.specs.declared.refusal.Refusal.TheVariants.{Load, Split, Names}
use Rattle.refusals.specs.declared.split_refusal.SplitRefusal.TheVariants.{NoInterpreter, InterpreterUnlisted, ProgramNeeded, HostNameClash, HostRpath, HostNeedsUnlisted, HostAlias, SplitNeed}
use Rattle.build_plan.specs.declared.stops.BuildStop.{BuildStop}
use Rattle.build_plan.specs.declared.stops.BuildStop.TheVariants.{Refused, Read, NoMemory}

abbrev pub stop_of_loads : LoadsStop → BuildStop
stop_of_loads (LoadsRefused refusal) = Refused (Load refusal)
stop_of_loads LoadsRead = Read
stop_of_loads NoMemoryLoads = NoMemory

abbrev pub stop_of_closure : ClosureStop → BuildStop
stop_of_closure (LacksInterpreter path) = Refused (Split (NoInterpreter path))
stop_of_closure (UnlistedInterpreter path) = Refused (Split (InterpreterUnlisted path))
stop_of_closure (NeededProgram path) = Refused (Split (ProgramNeeded path))
stop_of_closure (HostClash name a b) = Refused (Split (HostNameClash name a b))
stop_of_closure (HostPath path) = Refused (Split (HostRpath path))
stop_of_closure (UnlistedNeed path name) = Refused (Split (HostNeedsUnlisted path name))
stop_of_closure (AliasNeed path name) = Refused (Split (HostAlias path name))
stop_of_closure (NeedSplit path name a b) = Refused (Split (SplitNeed path name a b))
stop_of_closure NoMemoryClosure = NoMemory

abbrev pub stop_of_name : NameStop → BuildStop
stop_of_name (AliasOpened name key) = Refused (Names (OpenAlias name key))
stop_of_name (ListedOpened name) = Refused (Names (OpenNameOnHostList name))
stop_of_name (OpenedTwice path a b) = Refused (Names (TwoOpenNames path a b))
stop_of_name (ClashOfNames name a b) = Refused (Names (NameClash name a b))
stop_of_name (BadName name) = Refused (Names (BadFileName name))
stop_of_name NoMemoryNames = NoMemory
