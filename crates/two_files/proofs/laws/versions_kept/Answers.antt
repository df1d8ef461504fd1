use Rattle.two_files.proofs.Indexes.{versions_kept}
use Rattle.two_files.proofs.laws.versions_kept.Goals as goal

pub returns-clause-unflawed : goal.returns-clause-unflawed
returns-clause-unflawed c = λ n b d k e. (versions_kept n b d k e).unflawed

pub returns-clause-versions : goal.returns-clause-versions
returns-clause-versions c = λ n b d i k e h. (versions_kept n b d k e).versions i h

pub returns-clause-hidden : goal.returns-clause-hidden
returns-clause-hidden c = λ n b d i k e h. (versions_kept n b d k e).hidden i h

pub returns-clause-versioned : goal.returns-clause-versioned
returns-clause-versioned c = λ n b d k e. (versions_kept n b d k e).versioned
