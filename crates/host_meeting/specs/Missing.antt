-- What keeps the files of a host from being found, up to want of memory and reads that failed.
use Rattle.std.specs.Prelude.{ℕ, List, ◌≡◌, Option, Some}
use Rattle.answers.specs.Faults.{Rose}
use Rattle.load_model.specs.Opening.{OpenerView}
use Rattle.load_model.specs.World.{World}
use Rattle.load_model.specs.declared.opening.OpenFault.{OpenFault}
use Rattle.load_model.specs.declared.opening.OpenFault.TheVariants.{Read as Unread, Damaged, NoMemory as Exhausted}
use Rattle.load_model.specs.declared.setting.Setting.{Setting}
use Rattle.host_list.specs.declared.differences.Difference.{Difference}
use Rattle.host_list.specs.declared.differences.Difference.TheVariants.{DamagedLib}
use Rattle.host_meeting.specs.Hosts.{OnHost}
use Rattle.host_meeting.specs.declared.misses.Miss.{Miss}
use Rattle.host_meeting.specs.declared.misses.Miss.TheVariants.{Differs, Read, NoMemory}

-- What the definition says of the host, where its world is told.
abbrev pub TellsOf : OpenerView → List (List ℕ) → (Setting → World → Option Difference)
    → Option Difference → Type 0
TellsOf before dirs difference found =
    OnHost before.told before.machine dirs (λ setting world. found ≡ difference setting world)

-- A demand that is not met is the one of the definition.
abbrev pub IsMiss : OpenerView → OpenerView → List (List ℕ)
    → (Setting → World → Option Difference) → Miss → Type 0
IsMiss before after dirs difference (Differs d) = TellsOf before dirs difference (Some d)
IsMiss before after dirs difference Read = Rose before.faults after.faults
IsMiss before after dirs difference NoMemory = Unit {0}

-- What a file that was not opened comes to.
abbrev pub miss_by : OpenFault → Miss
miss_by Unread = Read
miss_by (Damaged path flaw) = Differs (DamagedLib path flaw)
miss_by Exhausted = NoMemory
