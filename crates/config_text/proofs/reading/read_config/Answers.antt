use Rattle.std.proofs.Common.{◌∙◌, sym}
use Rattle.std.proofs.lemmas.Bool.{false≢true}
use Rattle.toml.specs.View.{table_view}
use Rattle.config_text.proofs.AnswerLemmas.{same}
use Rattle.config_text.proofs.ReadingLemmas.{document_is, no_document}
use Rattle.config_text.proofs.reading.read_config.Goals as goal

pub returns-in-Ok : goal.returns-in-Ok
returns-in-Ok c = same c.config_of.result _ _ (document_is c.args.bytes.now (table_view c.in-Ok.top) c.in-Ok.ensures.ok.0 c.in-Ok.ensures.ok.1) c.config_of.ensures

pub returns-else-is_memory : goal.returns-else-is_memory
returns-else-is_memory c =
    no_document c.args.bytes.now (λ u. c.in-Err.ensures.refused (λ m. false≢true (sym c.if-is_memory.false ∙ c.is_memory.ensures.1 m)) u)
