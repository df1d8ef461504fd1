use Rattle.config_text.proofs.ReadyConfigLemmas.{read_is_ready}
use Rattle.config_text.proofs.laws.read_is_ready.Goals as goal

pub returns : goal.returns
returns c bytes config h = read_is_ready bytes config h
