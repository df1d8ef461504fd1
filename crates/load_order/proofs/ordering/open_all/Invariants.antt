use Rattle.std.proofs.Common.{◌≡◌, List, [], ℕ, take}
use Rattle.load_model.specs.LoadList.{Loaded, Object}
use Rattle.load_model.specs.Opening.{OnlyGrew}
use Rattle.load_model.specs.Runs.{start_count}
use Rattle.load_order.specs.Ending.{IsLoadEnd, IsPhaseReady}
use Rattle.load_requests.specs.Standing.{IsSafe}
use Rattle.load_order.proofs.ordering.open_all.Given as goal

abbrev pub invariant-loop-name : goal.invariant-loop-name
invariant-loop-name g l = record {
  safe : IsSafe (g.P.Opener.seen l.opener).faces l.loading;
  ready : IsPhaseReady l.initial.loading l.loading l.name-index l.roots;
  ended : (path : List ℕ) (program : Object) (loaded : Loaded) (ends : List Loaded) → IsLoadEnd l.setting (g.P.Opener.seen l.initial.opener).told (g.P.Opener.seen l.initial.opener).faces path program [] l.initial.loading [] loaded ends → (end : Loaded) × (more : List Loaded) × IsLoadEnd l.setting (g.P.Opener.seen l.initial.opener).told (g.P.Opener.seen l.opener).faces path program (take l.name-index l.opens) l.loading l.roots end more × (start_count more ≡ start_count ends);
  grew : OnlyGrew (g.P.Opener.seen l.initial.opener) (g.P.Opener.seen l.opener);
}
