use Rattle.std.proofs.Common.{◌∙◌, ap}
use Rattle.std.specs.Prelude.{Some, None}
use Rattle.std.proofs.lemmas.Result.{IfOk-weaker}
use Rattle.clap.specs.Words.{found_of}
use Rattle.command_words.specs.Words.{count_told}
use Rattle.command_words.proofs.ToldLemmas.{first_told}
use Rattle.command_words.proofs.values.count_in.Goals as goal

pub returns-in-Some : goal.returns-in-Some
returns-in-Some c =
    IfOk-weaker c.read_count.result _ _ (λ count h. h ∙ (ap count_told c.as_bytes.ensures.value
    ∙ first_told count_told (found_of c.args.found.now) c.args.id.now (Some c.in-Some.word.now) c.in-Some.ensures)) c.read_count.ensures

pub returns-in-None : goal.returns-in-None
returns-in-None c = first_told count_told (found_of c.args.found.now) c.args.id.now None c.in-None.ensures
