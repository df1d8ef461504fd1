use Rattle.tree_opener.proofs.LoanLemmas.{same_loans}
use Rattle.build_runs.proofs.loading.load_in_view.Goals as goal

pub returns-clause-same_opener : goal.returns-clause-same_opener
returns-clause-same_opener g c =
    (same_loans c.load_checked.new.opener.opener.ghost_name c.load_checked.new.opener.tree.ghost_name c.args.view.now.opener.ghost_name c.args.view.now.tree.ghost_name c.load_checked.ensures.grew.loan).0

pub returns-clause-same_tree : goal.returns-clause-same_tree
returns-clause-same_tree g c =
    (same_loans c.load_checked.new.opener.opener.ghost_name c.load_checked.new.opener.tree.ghost_name c.args.view.now.opener.ghost_name c.args.view.now.tree.ghost_name c.load_checked.ensures.grew.loan).1
