use Rattle.std.proofs.Common.{◌∙◌, List, ap, sym, ℕ}
use Rattle.std.specs.Borrow.{Bor}
use Rattle.std.specs.Option.{option_map}
use Rattle.lib_closure.specs.Seen.{standing}
use Rattle.object_changes.proofs.FileLemmas.{file_added, no_file_added}
use Rattle.object_changes.proofs.files.add_file.Goals as goal

pub returns-in-Some : goal.returns-in-Some
returns-in-Some c =
    file_added c.add.result c.args.table.now c.add.new.self (standing c.args.seen.now) c.args.asked.0.now c.as_bytes-asker.result.now c.as_bytes-file.result.now c.in-Some.name.now _ c.as_bytes-asker.ensures c.as_bytes-file.ensures
    (sym (ap (option_map (λ (n : Bor (List ℕ)). n.now)) c.in-Some.is) ∙ c.asked_name.ensures c.args.asked.0.now) c.add.ensures

pub returns-in-None : goal.returns-in-None
returns-in-None c =
    no_file_added c.args.table.now (standing c.args.seen.now) c.args.asked.0.now _ (sym (ap (option_map (λ (n : Bor (List ℕ)). n.now)) c.in-None.is) ∙ c.asked_name.ensures c.args.asked.0.now)
