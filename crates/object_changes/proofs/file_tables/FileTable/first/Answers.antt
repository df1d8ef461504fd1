use Rattle.std.proofs.Common.{◌∙◌, List, ap, ℕ}
use Rattle.std.specs.Borrow.{Bor}
use Rattle.std.specs.Option.{option_map}
use Rattle.object_changes.specs.NamedFiles.{NamedFile, told_name}
use Rattle.object_changes.proofs.FileLemmas.{looked_up}
use Rattle.object_changes.proofs.file_tables.FileTable.first.Goals as goal

pub returns : goal.returns
returns c =
    ap (option_map (λ (n : Bor (List ℕ)). n.now)) (c.copied.ensures ∙ c.get.ensures.value) ∙ looked_up c.args.asked c.self.inside.names.entries
    ∙ ap (λ (t : List NamedFile). told_name t c.args.asked.asker.now c.args.asked.file.now) c.self.view_is
