use Rattle.tree_opener.proofs.LoanLemmas.{same_loans}
use Rattle.host_checks.proofs.hosts.meets_in_view.Goals as goal

pub returns-clause-same_opener : goal.returns-clause-same_opener
returns-clause-same_opener g c =
    (same_loans c.host_meets.new.opener.opener.ghost_name c.host_meets.new.opener.tree.ghost_name c.args.view.now.opener.ghost_name c.args.view.now.tree.ghost_name c.host_meets.ensures.grew.loan).0

pub returns-clause-same_tree : goal.returns-clause-same_tree
returns-clause-same_tree g c =
    (same_loans c.host_meets.new.opener.opener.ghost_name c.host_meets.new.opener.tree.ghost_name c.args.view.now.opener.ghost_name c.args.view.now.tree.ghost_name c.host_meets.ensures.grew.loan).1
