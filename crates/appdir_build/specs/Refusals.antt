-- Why files are not written, by what stopped one of the last steps.
use Rattle.std.specs.Prelude.{ℕ, List}
use Rattle.appdir_files.specs.declared.stops.ListStop.{ListStop}
use Rattle.appdir_files.specs.declared.stops.ListStop.TheVariants.{TargetInLib as InLib, TargetClash as Clash, NoMemory as NoMemoryList}
use Rattle.elf_rewrite.specs.declared.change.RewriteStop.{RewriteStop}
use Rattle.elf_rewrite.specs.declared.change.RewriteStop.TheVariants.{NoMemory as NoMemoryRewrite, TableOverlap as Overlap, NoRoom as WithoutRoom, TooManyHeaders as ManyHeaders, StringsTooLong as LongStrings, TooLarge as Large}
use Rattle.refusals.specs.declared.file_refusal.FileRefusal.TheVariants.{TargetClash, TargetInLib}
use Rattle.refusals.specs.declared.refusal.Refusal.TheVariants.{Rewrite, Files}
use Rattle.refusals.specs.declared.rewrite_refusal.RewriteRefusal.TheVariants.{NoRoom, TableOverlap, TooManyHeaders, TooLarge, StringsTooLong}
use Rattle.build_plan.specs.declared.stops.BuildStop.{BuildStop}
use Rattle.build_plan.specs.declared.stops.BuildStop.TheVariants.{Refused, NoMemory}

-- With the path of the file that is not rewritten.
abbrev pub stop_of_rewrite : List ℕ → RewriteStop → BuildStop
stop_of_rewrite path WithoutRoom = Refused (Rewrite (NoRoom path))
stop_of_rewrite path (Overlap a b) = Refused (Rewrite (TableOverlap a b path))
stop_of_rewrite path ManyHeaders = Refused (Rewrite (TooManyHeaders path))
stop_of_rewrite path (Large len) = Refused (Rewrite (TooLarge path len))
stop_of_rewrite path LongStrings = Refused (Rewrite (StringsTooLong path))
stop_of_rewrite path NoMemoryRewrite = NoMemory

abbrev pub stop_of_listing : ListStop → BuildStop
stop_of_listing (InLib path) = Refused (Files (TargetInLib path))
stop_of_listing (Clash path) = Refused (Files (TargetClash path))
stop_of_listing NoMemoryList = NoMemory
