use Rattle.std.proofs.Common.{◌∙◌}
use Rattle.std.specs.Prelude.{Some, None, map}
use Rattle.std.proofs.lemmas.Result.{IfOk-weaker}
use Rattle.clap.specs.Words.{found_of}
use Rattle.command_words.proofs.ToldLemmas.{words_told}
use Rattle.command_words.proofs.values.names_in.Goals as goal

pub returns-in-Some : goal.returns-in-Some
returns-in-Some c =
    IfOk-weaker c.read_names.result _ _ (λ names h. h
    ∙ words_told (found_of c.args.found.now) c.args.id.now (Some (map (λ w. w.now) c.in-Some.words.now)) c.in-Some.ensures) c.read_names.ensures

pub returns-in-None : goal.returns-in-None
returns-in-None c = c.no_names.ensures ∙ words_told (found_of c.args.found.now) c.args.id.now None c.in-None.ensures
