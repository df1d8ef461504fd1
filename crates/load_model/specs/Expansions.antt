-- Two settings, each with one token set, and the folder of an object, for worked items of run
-- paths.
use Rattle.std.specs.Prelude.{ℕ, List, [], Some, None, codes}
use Rattle.byte_view.specs.declared.constants.TheConstants.{EM_X86_64}
use Rattle.load_model.specs.declared.setting.Setting.{Setting}

abbrev pub with_lib : Setting
with_lib = record { machine = EM_X86_64; dirs = []; lib = Some (codes "lib64"); platform = None }

abbrev pub with_platform : Setting
with_platform =
    record { machine = EM_X86_64; dirs = []; lib = None; platform = Some (codes "haswell") }

abbrev pub app_folder : List ℕ
app_folder = codes "/opt/app/bin"
