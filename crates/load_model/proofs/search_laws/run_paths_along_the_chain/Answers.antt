use Rattle.std.proofs.Common.{refl}
use Rattle.path_text.specs.Path.{named_parts, rooted}
use Rattle.load_model.specs.Candidates.{loader_chain, loader_in, search_items}
use Rattle.load_model.specs.RunPaths.{items_of, parts_behind}
use Rattle.load_model.proofs.search_laws.run_paths_along_the_chain.Goals as goal

pub returns-clause-program : goal.returns-clause-program
unfolding search_items loader_chain loader_in items_of parts_behind named_parts rooted
returns-clause-program c = refl

pub returns-clause-own_first : goal.returns-clause-own_first
unfolding search_items loader_chain loader_in items_of parts_behind named_parts rooted
returns-clause-own_first c = refl

pub returns-clause-of_loaders : goal.returns-clause-of_loaders
unfolding search_items loader_chain loader_in items_of parts_behind named_parts rooted
returns-clause-of_loaders c = refl

pub returns-clause-runpath : goal.returns-clause-runpath
unfolding search_items loader_chain loader_in items_of parts_behind named_parts rooted
returns-clause-runpath c = refl

pub returns-clause-runpath_of_a_loader : goal.returns-clause-runpath_of_a_loader
unfolding search_items loader_chain loader_in items_of parts_behind named_parts rooted
returns-clause-runpath_of_a_loader c = refl
