-- Objects with run paths, and their loaders: the program loads 1, 1 loads 2 and 3, and 3 loads 4.
use Rattle.std.specs.Prelude.{ℕ, List, [], ◌∷◌, Option, Some, None, codes}
use Rattle.byte_view.specs.declared.constants.TheConstants.{EM_X86_64}
use Rattle.load_model.specs.Diamond.{asked_for, plain_face}
use Rattle.load_model.specs.LoadList.{Object, Asked}
use Rattle.load_model.specs.declared.setting.Setting.{Setting}

abbrev pub object_with : List ℕ → Option (List ℕ) → Option (List ℕ) → Object
object_with path rpath runpath =
    record { path = path; id = path; face = record (plain_face rpath []) { runpath = runpath } }

-- 1 has an RPATH, 2 no run path, 3 an RPATH that does not count beside its RUNPATH, and 4 an RPATH.
abbrev pub chained : List Object
chained =
    object_with (codes "/app/bin/app") (Some (codes "$ORIGIN/../lib")) None
    ∷ object_with (codes "/one/a") (Some (codes "$ORIGIN:/first")) None
    ∷ object_with (codes "/two/b") None None
    ∷ object_with (codes "/three/c") (Some (codes "/hidden")) (Some (codes "$ORIGIN"))
    ∷ object_with (codes "/four/d") (Some (codes "fourth:$LIB")) None ∷ []

abbrev pub chain_log : List Asked
chain_log =
    asked_for 0 (codes "a") 1
    ∷ asked_for 1 (codes "b") 2
    ∷ asked_for 1 (codes "c") 3
    ∷ asked_for 3 (codes "d") 4
    ∷ asked_for 4 (codes "b") 2 ∷ []

abbrev pub chain_setting : Setting
chain_setting =
    record { machine = EM_X86_64; dirs = codes "/lib" ∷ []; lib = None; platform = None }
