use Rattle.search_paths.proofs.RunPathLemmas.{rpath_more}
use Rattle.search_paths.proofs.run_paths.push_rpath.Goals as goal

pub returns-in-None-Some : goal.returns-in-None-Some
returns-in-None-Some c = rpath_more c.push_items.result c.args.object.now.path c.in-None-Some.rpath c.args.face.now c.args.held.now c.push_items.new.held c.in-None-Some.is-0 c.in-None-Some.is-1 c.push_items.ensures
