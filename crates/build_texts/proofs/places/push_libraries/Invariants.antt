use Rattle.std.proofs.Common.{◌≡◌, ◌++◌, drop, map}
use Rattle.load_model.specs.declared.runs.Obj.{Obj}
use Rattle.build_texts.specs.Places.{library_place}
use Rattle.build_texts.proofs.places.push_libraries.Given as goal

abbrev pub invariant-objs : goal.invariant-objs
invariant-objs l =
    l.places ++ map (λ (o : Obj). library_place l.libraries.libs.split.now l.libraries.layout.now o.id) (drop l.obj-index l.objs)
    ≡ l.fn.places ++ map (λ (o : Obj). library_place l.libraries.libs.split.now l.libraries.layout.now o.id) l.objs
