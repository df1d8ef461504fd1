use Rattle.std.proofs.Common.{◌≡◌, ◌++◌, drop}
use Rattle.bind_report.specs.Places.{no_places}
use Rattle.appdir_cli.proofs.showing.no_places.Given as goal

abbrev pub invariant-loop-obj : goal.invariant-loop-obj
invariant-loop-obj l = l.places ++ no_places (drop l._obj-index l.objs) ≡ no_places l.objs
