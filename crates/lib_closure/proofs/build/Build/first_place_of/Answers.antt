use Rattle.std.proofs.Common.{Some, None, ◌∙◌, ap, map}
use Rattle.std.specs.List.{find}
use Rattle.lib_closure.specs.Objects.{has_id}
use Rattle.lib_closure.specs.Seen.{standing}
use Rattle.lib_closure.proofs.BuildLemmas.{first_found}
use Rattle.lib_closure.proofs.build.Build.first_place_of.Goals as goal

pub returns-in-Some : goal.returns-in-Some
returns-in-Some c =
    first_found c.args.self.now.faces.now c.args.self.now.runs.now c.args.self.now.firsts (standing c.args.seen.now) (Some c.in-Some.first) c.args.self.now.firsts_are
    (c.in-Some.ensures ∙ ap (λ id. find (has_id id) (map standing c.args.self.now.firsts.seen.items)) c.as_bytes.ensures)

pub returns-in-None : goal.returns-in-None
returns-in-None c =
    first_found c.args.self.now.faces.now c.args.self.now.runs.now c.args.self.now.firsts (standing c.args.seen.now) None c.args.self.now.firsts_are
    (c.in-None.ensures ∙ ap (λ id. find (has_id id) (map standing c.args.self.now.firsts.seen.items)) c.as_bytes.ensures)
