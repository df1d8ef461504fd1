-- What the loader is set to.
use Rattle.std.specs.Prelude.{ℕ, List, [], ◌∷◌, None, codes}
use Rattle.byte_view.specs.declared.constants.TheConstants.{EM_X86_64}
use Rattle.load_model.specs.declared.setting.Setting.{Setting}

-- Where a loader looks for libraries, unless it is told otherwise.
abbrev pub default_dirs : List (List ℕ)
default_dirs =
    codes "/usr/local/lib" ∷
    codes "/lib/x86_64-linux-gnu" ∷
    codes "/usr/lib/x86_64-linux-gnu" ∷
    codes "/lib64" ∷
    codes "/usr/lib64" ∷
    codes "/lib" ∷
    codes "/usr/lib" ∷ []

-- Programs of x86-64, these directories, no text for the tokens LIB and PLATFORM.
abbrev pub setting_of : List (List ℕ) → Setting
setting_of dirs = record { machine = EM_X86_64; dirs = dirs; lib = None; platform = None }

abbrev pub default_setting : Setting
default_setting = setting_of default_dirs
