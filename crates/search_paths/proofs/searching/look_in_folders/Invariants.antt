use Rattle.std.proofs.Common.{take, Ok}
use Rattle.std.specs.List.{flat_map}
use Rattle.load_model.specs.Candidates.{candidate_in}
use Rattle.load_model.specs.Opening.{OnlyGrew}
use Rattle.load_model.specs.RunPaths.{Folder}
use Rattle.search_paths.specs.Searching.{Decides, IsAnswer}
use Rattle.search_paths.specs.declared.hits.Hit.TheVariants.{Missing}
use Rattle.search_paths.proofs.searching.look_in_folders.Given as goal

-- none of the first decides
abbrev pub invariant-loop-dir : goal.invariant-loop-dir
invariant-loop-dir g l = record {
  none : IsAnswer (Decides (g.P.Opener.seen l.initial.opener) (flat_map (λ x. candidate_in l.name (Folder x)) (take l.dir-index l.dirs))) (g.P.Opener.seen l.initial.opener) (g.P.Opener.seen l.opener) (Ok Missing);
  grew : OnlyGrew (g.P.Opener.seen l.initial.opener) (g.P.Opener.seen l.opener);
}
