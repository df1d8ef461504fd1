-- the programs so far have their load lists over the faces so far
use Rattle.std.proofs.Common.{take}
use Rattle.std.specs.List.{AllZip}
use Rattle.answers.specs.Told.{WhereTold}
use Rattle.load_model.specs.Opening.{OnlyGrew}
use Rattle.build_runs.specs.Loading.{IsListFor, IsSafeList}
use Rattle.build_runs.proofs.listing.load_runs.Given as goal

abbrev pub invariant-loop-program : goal.invariant-loop-program
invariant-loop-program g l = record {
  safe : AllZip (IsSafeList (g.P.Opener.seen l.opener).faces) (take l.program-index l.programs) l.runs.items;
  lists : WhereTold (g.P.Opener.seen l.initial.opener).told (λ world. AllZip (IsListFor l.setting world (g.P.Opener.seen l.opener).faces) (take l.program-index l.programs) l.runs.items);
  grew : OnlyGrew (g.P.Opener.seen l.initial.opener) (g.P.Opener.seen l.opener);
}
