use Rattle.std.proofs.Common.{◌∙◌, [], ◌∷◌, ap, map}
use Rattle.std.proofs.lemmas.List.{map-append}
use Rattle.version_files.specs.Telling.{known_as, told}
use Rattle.version_files.proofs.KnownLemmas.{other_added}
use Rattle.version_files.proofs.known.KnownNames.add_other.Goals as goal

pub returns-in-Ok-clause-told : goal.returns-in-Ok-clause-told
unfolding told
returns-in-Ok-clause-told c = λ phase name.
    other_added (map known_as c.args.self.now.firsts.items) (map known_as c.args.self.now.others.items) (map known_as c.push.new.self.items) (known_as c.args.known)
    (ap (map known_as) c.in-Ok.ensures.items ∙ map-append known_as c.args.self.now.others.items (c.args.known ∷ [])) phase name
