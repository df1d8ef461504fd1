use Rattle.std.proofs.Common.{◌∙◌, [], ◌∷◌, ap, map, bytes_eq}
use Rattle.std.proofs.lemmas.List.{map-append}
use Rattle.indexmap.specs.IndexSet.{insert_key}
use Rattle.version_files.specs.Telling.{known_as, told}
use Rattle.version_files.proofs.KnownLemmas.{first_added, named_more}
use Rattle.version_files.proofs.known.KnownNames.add_first.Goals as goal

pub returns-in-Ok-clause-named : goal.returns-in-Ok-clause-named
returns-in-Ok-clause-named c =
    named_more c.args.self.now.firsts.items c.push.new.self.items c.args.self.now.names c.add.new.self c.args.known c.requires.named c.requires.none
    (c.in_ok-add.ensures ∙ ap (insert_key bytes_eq c.args.self.now.names) c.as_bytes.ensures) c.in-Ok.ensures.items

pub returns-in-Ok-clause-told : goal.returns-in-Ok-clause-told
unfolding told
returns-in-Ok-clause-told c = λ phase name.
    first_added (map known_as c.args.self.now.firsts.items) (map known_as c.args.self.now.others.items) (map known_as c.push.new.self.items) (known_as c.args.known) c.requires.none
    (ap (map known_as) c.in-Ok.ensures.items ∙ map-append known_as c.args.self.now.firsts.items (c.args.known ∷ [])) phase name
