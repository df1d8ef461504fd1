use Rattle.std.proofs.Common.{◌∙◌, ap}
use Rattle.std.specs.Prelude.{Some, None, map}
use Rattle.std.proofs.lemmas.Result.{IfOk-weaker}
use Rattle.clap.specs.Words.{found_of}
use Rattle.command_words.specs.Words.{paths_told}
use Rattle.command_words.proofs.ToldLemmas.{words_told}
use Rattle.command_words.proofs.values.paths_in.Goals as goal

pub returns-in-Some : goal.returns-in-Some
returns-in-Some c =
    IfOk-weaker c.read_paths.result _ _ (λ paths h. h
    ∙ ap paths_told (words_told (found_of c.args.found.now) c.args.id.now (Some (map (λ w. w.now) c.in-Some.words.now)) c.in-Some.ensures)) c.read_paths.ensures

pub returns-in-None : goal.returns-in-None
unfolding paths_told
returns-in-None c = ap Some c.new.ensures ∙ ap paths_told (words_told (found_of c.args.found.now) c.args.id.now None c.in-None.ensures)
