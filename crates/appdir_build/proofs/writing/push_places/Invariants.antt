use Rattle.std.proofs.Common.{◌≡◌, ◌++◌, drop, map}
use Rattle.build_texts.specs.Places.{lib_place}
use Rattle.appdir_build.proofs.writing.push_places.Given as goal

abbrev pub invariant-names : goal.invariant-names
invariant-names l = l.places ++ map lib_place (drop l.name-index l.names) ≡ l.fn.places ++ map lib_place l.names
