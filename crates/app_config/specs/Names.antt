-- The libraries that every host is expected to have.
use Rattle.std.specs.Prelude.{ℕ, List, [], ◌∷◌, codes}

abbrev pub default_names : List (List ℕ)
default_names =
    codes "ld-linux-x86-64.so.2" ∷
    codes "libc.so.6" ∷
    codes "libm.so.6" ∷
    codes "libdl.so.2" ∷
    codes "libpthread.so.0" ∷
    codes "librt.so.1" ∷
    codes "libresolv.so.2" ∷
    codes "libutil.so.1" ∷ []

-- These names, or the default ones where there are none.
abbrev pub names_or_default : List (List ℕ) → List (List ℕ)
names_or_default [] = default_names
names_or_default (name ∷ names) = name ∷ names
