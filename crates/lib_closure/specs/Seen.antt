-- Objects as the code sees them.
use Rattle.lib_closure.specs.Objects.{Occurrence}
use Rattle.lib_closure.specs.declared.seen.Seen.{Seen}

-- The object where it stands.
abbrev pub standing : Seen → Occurrence
standing seen = record {
  faces = seen.list.now.faces.now;
  run = seen.list.now.run.now;
  number = seen.number;
  obj = seen.obj.now;
  face = seen.face.now;
}
