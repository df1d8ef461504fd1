use Rattle.std.proofs.Common.{◌∙◌, ap, map}
use Rattle.std.specs.List.{find}
use Rattle.lib_closure.specs.Clashes.{program_like}
use Rattle.lib_closure.specs.Objects.{has_id}
use Rattle.lib_closure.specs.Seen.{standing}
use Rattle.lib_closure.proofs.build.Build.program_like.Goals as goal

pub returns : goal.returns
unfolding program_like
returns c =
    c.find.ensures ∙ ap (λ id. find (has_id id) (map standing c.args.self.now.files.seen.items)) c.as_bytes.ensures
    ∙ ap (find (has_id c.args.seen.now.obj.now.id)) c.args.self.now.files_are.seen
