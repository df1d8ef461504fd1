use Rattle.search_paths.proofs.OpeningLemmas.{absent, other, object, fault}
use Rattle.search_paths.proofs.looking.open.Goals as goal

pub returns-in-Ok-Absent-clause-answer : goal.returns-in-Ok-Absent-clause-answer
returns-in-Ok-Absent-clause-answer g c = absent (g.P.Opener.seen c.args.opener.now) (g.P.Opener.seen c.open.new.self) c.args.path (rw c.in-Ok-Absent.field-0-is at c.in-Ok-Absent.ensures.opened)

pub returns-in-Ok-Other-clause-answer : goal.returns-in-Ok-Other-clause-answer
returns-in-Ok-Other-clause-answer g c = other (g.P.Opener.seen c.args.opener.now) (g.P.Opener.seen c.open.new.self) c.args.path (rw c.in-Ok-Other.field-0-is at c.in-Ok-Other.ensures.opened)

pub returns-in-Ok-Object-clause-answer : goal.returns-in-Ok-Object-clause-answer
returns-in-Ok-Object-clause-answer g c = object (g.P.Opener.seen c.args.opener.now) (g.P.Opener.seen c.open.new.self) c.args.path c.in-Ok-Object.id c.in-Ok-Object.face c.in-Ok-Object.ensures.grew (rw c.in-Ok-Object.field-0-is at c.in-Ok-Object.ensures.opened)

pub returns-in-Err-clause-answer : goal.returns-in-Err-clause-answer
returns-in-Err-clause-answer g c = fault (g.P.Opener.seen c.args.opener.now) (g.P.Opener.seen c.open.new.self) c.args.path c.in-Err.fault c.in-Err.ensures.opened
