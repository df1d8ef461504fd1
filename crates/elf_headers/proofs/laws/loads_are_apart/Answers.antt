use Rattle.byte_view.proofs.Loads.{sound_file}
use Rattle.elf_headers.proofs.laws.loads_are_apart.Goals as goal

pub returns : goal.returns
returns c = λ file unflawed. (sound_file file unflawed).apart
