use Rattle.std.proofs.Common.{ap, Some}
use Rattle.elf_make.specs.Generator.{made_tree}
use Rattle.ports.specs.MemTree.{world_of}
use Rattle.appdir_cli.proofs.GeneratingLemmas.{refused_in}
use Rattle.appdir_cli.proofs.generating.generate.Goals as goal

pub returns-in-Err-Refused-clause-answer : goal.returns-in-Err-Refused-clause-answer
returns-in-Err-Refused-clause-answer c =
    refused_in (record { told = Some (world_of c.in-Ok.tree.files); faults = c.in-Ok.tree.calls.faults }) (record { told = Some (world_of c.generate_in.new.tree.files); faults = c.generate_in.new.tree.calls.faults }) (made_tree c.args.command.now.count) c.args.command.now.count c.in-Err-Refused.field-0 c.in-Err-Refused.refusal c.in-Err-Refused.field-0-is (ap Some c.in-Ok.ensures.files) c.in-Err-Refused.ensures.answer
