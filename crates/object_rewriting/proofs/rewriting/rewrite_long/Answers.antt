use Rattle.ports.specs.Reading.{bytes_at}
use Rattle.object_rewriting.proofs.AnswerLemmas.{too_long}
use Rattle.object_rewriting.proofs.rewriting.rewrite_long.Goals as goal

pub returns-then-len-gt-LONGEST_FILE-clause-answer : goal.returns-then-len-gt-LONGEST_FILE-clause-answer
returns-then-len-gt-LONGEST_FILE-clause-answer g c world told has =
    too_long (bytes_at world c.args.path.now) c.args.len c.args.face.now (c.requires.len world told) c.if-len-gt-LONGEST_FILE.true has
