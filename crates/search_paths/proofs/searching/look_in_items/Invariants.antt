use Rattle.std.proofs.Common.{take, Ok}
use Rattle.std.specs.List.{flat_map}
use Rattle.load_model.specs.Candidates.{candidate_in}
use Rattle.load_model.specs.Opening.{OnlyGrew}
use Rattle.search_paths.specs.HeldItems.{item_held}
use Rattle.search_paths.specs.Searching.{Decides, IsAnswer}
use Rattle.search_paths.specs.declared.hits.Hit.TheVariants.{Missing}
use Rattle.search_paths.proofs.searching.look_in_items.Given as goal

-- none of the first decides
abbrev pub invariant-loop-item : goal.invariant-loop-item
invariant-loop-item g l = record {
  none : IsAnswer (Decides (g.P.Opener.seen l.initial.opener) (flat_map (λ x. candidate_in l.name (item_held l.setting x)) (take l.item-index l.items))) (g.P.Opener.seen l.initial.opener) (g.P.Opener.seen l.opener) (Ok Missing);
  grew : OnlyGrew (g.P.Opener.seen l.initial.opener) (g.P.Opener.seen l.opener);
}
