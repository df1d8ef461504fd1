use Rattle.std.proofs.Common.{map, sym}
use Rattle.version_files.specs.Telling.{known_as, told}
use Rattle.version_files.proofs.KnownLemmas.{settled}
use Rattle.version_files.proofs.known.KnownNames.add.Goals as goal

pub returns-then-first-known-2-clause-told : goal.returns-then-first-known-2-clause-told
unfolding told
returns-then-first-known-2-clause-told c = λ phase name.
    settled (map known_as c.args.self.now.firsts.items) (map known_as c.args.self.now.others.items) (known_as c.in-Some.first) (known_as c.args.known) (sym c.in-Some.ensures) c.if-first-known.true c.if-first-known-2.true phase name
