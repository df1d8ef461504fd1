use Rattle.tree_opener.proofs.LoanLemmas.{same_loans}
use Rattle.source_hosts.proofs.trying.tried_in_view.Goals as goal

pub returns-clause-same_opener : goal.returns-clause-same_opener
returns-clause-same_opener g c =
    (same_loans c.tried_by.new.opener.opener.ghost_name c.tried_by.new.opener.tree.ghost_name c.args.view.now.opener.ghost_name c.args.view.now.tree.ghost_name c.tried_by.ensures.grew.loan).0

pub returns-clause-same_tree : goal.returns-clause-same_tree
returns-clause-same_tree g c =
    (same_loans c.tried_by.new.opener.opener.ghost_name c.tried_by.new.opener.tree.ghost_name c.args.view.now.opener.ghost_name c.args.view.now.tree.ghost_name c.tried_by.ensures.grew.loan).1
