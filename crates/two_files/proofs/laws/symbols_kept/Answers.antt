use Rattle.two_files.proofs.Symbols.{symbols_kept}
use Rattle.two_files.proofs.laws.symbols_kept.Goals as goal

pub returns-clause-unflawed : goal.returns-clause-unflawed
returns-clause-unflawed c = λ b d bs cs be ce k e. (symbols_kept b d bs cs be ce k e).unflawed

pub returns-clause-count : goal.returns-clause-count
returns-clause-count c = λ b d bs cs be ce k e. (symbols_kept b d bs cs be ce k e).count

pub returns-clause-symbols : goal.returns-clause-symbols
returns-clause-symbols c = λ b d bs cs be ce k e. (symbols_kept b d bs cs be ce k e).symbols
