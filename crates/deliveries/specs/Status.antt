-- The exit numbers and names of the statuses.
use Rattle.std.specs.Prelude.{ℕ, List, codes}
use Rattle.deliveries.specs.declared.status.Status.{Status}
use Rattle.deliveries.specs.declared.status.Status.TheVariants.{Done, Refused, Usage, ReadFailed, WriteFailed, NoMemory, PrintFailed}

abbrev pub exit_number_of : Status → ℕ
exit_number_of Done = 0
exit_number_of Refused = 1
exit_number_of Usage = 2
exit_number_of ReadFailed = 3
exit_number_of WriteFailed = 4
exit_number_of NoMemory = 5
exit_number_of PrintFailed = 6

abbrev pub name_of : Status → List ℕ
name_of Done = codes "Done"
name_of Refused = codes "Refused"
name_of Usage = codes "Usage"
name_of ReadFailed = codes "ReadFailed"
name_of WriteFailed = codes "WriteFailed"
name_of NoMemory = codes "NoMemory"
name_of PrintFailed = codes "PrintFailed"
