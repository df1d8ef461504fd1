use Rattle.std.proofs.Common.{[], ◌∙◌, subst}
use Rattle.std.specs.Prelude.{option_map}
use Rattle.answers.specs.Answers.{TellsBy}
use Rattle.config_text.specs.Faults.{said_of_config}
use Rattle.config_text.specs.Reading.{repeated, two_targets}
use Rattle.config_text.specs.declared.faults.ConfigFault.TheVariants.{TwoTargets}
use Rattle.config_text.proofs.targets.check_targets.Goals as goal

pub returns-in-Ok : goal.returns-in-Ok
unfolding two_targets
returns-in-Ok c =
    subst (λ t. TellsBy said_of_config c.check_distinct.result (option_map TwoTargets (repeated [] t))) (c.as_slice.ensures ∙ c.in-Ok.ensures) c.check_distinct.ensures
