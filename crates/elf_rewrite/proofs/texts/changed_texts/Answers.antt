use Rattle.elf_rewrite.proofs.TextSteps.{all_changed}
use Rattle.std.proofs.Common.{◌∙◌, refl}
use Rattle.std.specs.Option.{option_copied}
use Rattle.elf_rewrite.proofs.texts.changed_texts.Goals as goal

pub returns : goal.returns
returns c =
    all_changed c.args.bytes.now c.args.change.now c.args.needs.now c.asks.result.now (option_copied c.named_text-soname.result) (option_copied c.named_text-runpath.result)
    c.push_needs.new.texts c.push_name.new.texts c.push_name-2.new.texts c.push_files.new.texts c.requires.needs (c.asks.ensures ∙ c.requires.versions.asks) c.named_text-soname.ensures c.named_text-runpath.ensures
    (rw (c.in_ok-push_needs.ensures, c.new-texts.ensures, c.as_slice.ensures) refl) c.in_ok-push_name.ensures c.in_ok-push_name-2.ensures (rw (c.in_ok-push_files.ensures, c.as_slice-2.ensures) refl)
