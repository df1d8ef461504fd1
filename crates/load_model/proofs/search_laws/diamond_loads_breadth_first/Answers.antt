use Rattle.std.proofs.Common.{refl, ◌≡◌, true}
use Rattle.std.specs.Prelude.{codes}
use Rattle.std.specs.Str.{is_utf8}
use Rattle.path_text.specs.Path.{named_parts, path_fault, rooted}
use Rattle.load_model.specs.Candidates.{candidates, loader_chain, decision, first_decision, loader_in, path_search, refused_text, search_items}
use Rattle.load_model.specs.LoadList.{phase, found_for, walk}
use Rattle.load_model.specs.Loads.{goes_to, program_at}
use Rattle.load_model.specs.RunPaths.{items_of, parts_behind}
use Rattle.load_model.proofs.Texts.{text}
use Rattle.load_model.proofs.search_laws.diamond_loads_breadth_first.Goals as goal

-- whether a text is UTF-8 does not compute, so each path that is tried is told
own_a : is_utf8 (codes "/app/bin/../lib/a") ≡ true
own_a = text (codes "/app/bin/../lib/a") refl

own_b : is_utf8 (codes "/app/bin/../lib/b") ≡ true
own_b = text (codes "/app/bin/../lib/b") refl

own_c : is_utf8 (codes "/app/bin/../lib/c") ≡ true
own_c = text (codes "/app/bin/../lib/c") refl

own_d : is_utf8 (codes "/app/bin/../lib/d") ≡ true
own_d = text (codes "/app/bin/../lib/d") refl

listed_b : is_utf8 (codes "/lib/b") ≡ true
listed_b = text (codes "/lib/b") refl

listed_c : is_utf8 (codes "/lib/c") ≡ true
listed_c = text (codes "/lib/c") refl

listed_d : is_utf8 (codes "/lib/d") ≡ true
listed_d = text (codes "/lib/d") refl

pub returns-clause-program : goal.returns-clause-program
unfolding program_at
returns-clause-program c = refl

pub returns-clause-order : goal.returns-clause-order
unfolding walk phase found_for goes_to path_search candidates loader_chain decision first_decision loader_in refused_text search_items items_of parts_behind named_parts path_fault rooted
returns-clause-order c = rw (own_a, own_b, listed_b, own_c, own_d, listed_d) refl

pub returns-clause-missing : goal.returns-clause-missing
unfolding walk phase found_for goes_to path_search candidates loader_chain decision first_decision loader_in refused_text search_items items_of parts_behind named_parts path_fault rooted
returns-clause-missing c = rw (own_a, own_b, listed_b, own_c, listed_c) refl

pub returns-clause-limit : goal.returns-clause-limit
unfolding walk phase found_for goes_to path_search candidates loader_chain decision first_decision loader_in refused_text search_items items_of parts_behind named_parts path_fault rooted
returns-clause-limit c = rw (own_a, own_b, listed_b, own_c, own_d, listed_d) refl
