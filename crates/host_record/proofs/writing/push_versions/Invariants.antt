use Rattle.std.proofs.Common.{◌≡◌, ◌++◌, drop, map}
use Rattle.std.specs.List.{AllByRecursion}
use Rattle.host_record.specs.Canonical.{IsVersionOver}
use Rattle.host_record.specs.Lines.{text_of_lines}
use Rattle.host_record.specs.Said.{lib_names}
use Rattle.host_record.specs.Grammar.{version_line}
use Rattle.host_record.proofs.writing.push_versions.Given as goal

abbrev pub invariant-loop-version : goal.invariant-loop-version
invariant-loop-version l = record {
  over : AllByRecursion (IsVersionOver l.libs) (drop l.version-index l.versions);
  text : l.out.items ++ text_of_lines (map (version_line (lib_names l.libs)) (drop l.version-index l.versions)) ≡ l.fn.out.items ++ text_of_lines (map (version_line (lib_names l.libs)) l.versions);
}
