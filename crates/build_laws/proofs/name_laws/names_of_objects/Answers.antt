use Rattle.build_laws.proofs.NamesLemmas.{distinct, name_below, never as never_program}
use Rattle.build_laws.proofs.name_laws.names_of_objects.Goals as goal

pub returns-clause-never : goal.returns-clause-never
returns-clause-never c = never_program

pub returns-clause-files : goal.returns-clause-files
returns-clause-files c = name_below

pub returns-clause-distinct : goal.returns-clause-distinct
returns-clause-distinct c = distinct
