use Rattle.std.proofs.Common.{◌∙◌, ◌==◌, ap, sym, length, bytes_eq}
use Rattle.std.specs.List.{list_any}
use Rattle.host_meeting.proofs.FileLemmas.{defined_by}
use Rattle.host_meeting.proofs.files.LibFile.has_version.Goals as goal

pub returns-else-is_empty : goal.returns-else-is_empty
returns-else-is_empty c =
    c.contains.ensures ∙ ap (λ n. list_any (bytes_eq n) c.args.self.now.versions.now) c.as_bytes.ensures
    ∙ c.args.self.now.defines c.args.version.now
    ∙ defined_by c.args.version.now c.args.self.now.face.now.defs (ap (λ l. length l == 0) (sym c.as_slice-defs.ensures) ∙ sym c.is_empty.ensures ∙ c.if-is_empty.false)
