use Rattle.std.proofs.Common.{refl}
use Rattle.load_model.specs.RunPaths.{items_of, parts_behind}
use Rattle.load_model.proofs.search_laws.items_are_expanded.Goals as goal

pub returns-clause-origin : goal.returns-clause-origin
unfolding items_of parts_behind
returns-clause-origin c = refl

pub returns-clause-braces : goal.returns-clause-braces
unfolding items_of parts_behind
returns-clause-braces c = refl

pub returns-clause-longer_word : goal.returns-clause-longer_word
unfolding items_of parts_behind
returns-clause-longer_word c = refl

pub returns-clause-lib : goal.returns-clause-lib
unfolding items_of parts_behind
returns-clause-lib c = refl

pub returns-clause-lib_relative : goal.returns-clause-lib_relative
unfolding items_of parts_behind
returns-clause-lib_relative c = refl

pub returns-clause-lib_unset : goal.returns-clause-lib_unset
unfolding items_of parts_behind
returns-clause-lib_unset c = refl

pub returns-clause-platform : goal.returns-clause-platform
unfolding items_of parts_behind
returns-clause-platform c = refl

pub returns-clause-platform_unset : goal.returns-clause-platform_unset
unfolding items_of parts_behind
returns-clause-platform_unset c = refl

pub returns-clause-inner : goal.returns-clause-inner
unfolding items_of parts_behind
returns-clause-inner c = refl

pub returns-clause-twice : goal.returns-clause-twice
unfolding items_of parts_behind
returns-clause-twice c = refl

pub returns-clause-twice_relative : goal.returns-clause-twice_relative
unfolding items_of parts_behind
returns-clause-twice_relative c = refl

pub returns-clause-last : goal.returns-clause-last
unfolding items_of parts_behind
returns-clause-last c = refl

pub returns-clause-last_relative : goal.returns-clause-last_relative
unfolding items_of parts_behind
returns-clause-last_relative c = refl

pub returns-clause-empty : goal.returns-clause-empty
unfolding items_of parts_behind
returns-clause-empty c = refl

pub returns-clause-colons : goal.returns-clause-colons
unfolding items_of parts_behind
returns-clause-colons c = refl
