-- the texts so far, and those that are left to change, are all
use Rattle.std.proofs.Common.{◌≡◌, ◌++◌, drop, map}
use Rattle.load_model.specs.VersionTables.{text_of}
use Rattle.elf_rewrite.specs.NewTexts.{changed}
use Rattle.elf_rewrite.proofs.texts.push_needs.Given as goal

abbrev pub invariant-loop-i : goal.invariant-loop-i
invariant-loop-i l =
    l.texts ++ changed (map (text_of l.bytes) (drop l.i l.places)) (drop l.i l.news)
    ≡ l.fn.texts ++ changed (map (text_of l.bytes) l.places) l.news
