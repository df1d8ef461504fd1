use Rattle.byte_view.proofs.Loads.{sound_file}
use Rattle.elf_headers.proofs.laws.at_most_one_load_holds.Goals as goal

pub returns : goal.returns
returns c = λ file unflawed addr. (sound_file file unflawed).one.one addr
