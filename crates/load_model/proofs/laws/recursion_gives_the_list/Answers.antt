use Rattle.load_model.proofs.LoadLists.{is_ended}
use Rattle.load_model.proofs.laws.recursion_gives_the_list.Goals as goal

pub returns : goal.returns
returns c read setting world path opens program loaded ends starts h e =
    record { program = program; starts = starts; run = is_ended read setting world path program opens loaded ends h e }
