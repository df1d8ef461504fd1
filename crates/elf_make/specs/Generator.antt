-- A generated tree: a host, a program, and numbered libraries that need and call one another. All
-- its files are made objects.
use Rattle.std.specs.Prelude.{ℕ, ◌+◌, ◌*◌, ◌%◌, ◌≤◌, ◌==◌, List, [], ◌∷◌, ◌++◌, cond, codes, map, nat_le, Option, Some, None, true, false}
use Rattle.std.specs.Fmt.{decimal}
use Rattle.std.specs.List.{range_with_len}
use Rattle.byte_view.specs.declared.constants.TheConstants.{EM_X86_64, STT_FUNC}
use Rattle.elf_shape.specs.declared.shape.Export.{Export}
use Rattle.elf_shape.specs.declared.shape.Import.{Import}
use Rattle.elf_shape.specs.declared.shape.Shape.{Shape}
use Rattle.load_model.specs.World.{World}
use Rattle.load_model.specs.declared.world.WorldFile.{WorldFile}
use Rattle.elf_make.specs.Object.{made_object}

-- ---- paths and names

abbrev pub loader_path : List ℕ
loader_path = codes "/lib64/ld-linux-x86-64.so.2"

abbrev pub c_library_path : List ℕ
c_library_path = codes "/lib64/libc.so.6"

abbrev pub program_path : List ℕ
program_path = codes "/gen/bin/app"

abbrev pub c_library_name : List ℕ
c_library_name = codes "libc.so.6"

-- The name of a numbered library, and of the function that it has.
abbrev pub library_name : ℕ → List ℕ
library_name i = codes "libg" ++ (decimal i ++ codes ".so")

abbrev pub function_name : ℕ → List ℕ
function_name i = codes "g" ++ decimal i

abbrev pub library_path : ℕ → List ℕ
library_path i = codes "/gen/lib/libg" ++ (decimal i ++ codes ".so")

-- ---- shapes

-- An object of x86-64 with a System V hash table, and nothing else.
abbrev pub bare : Shape
bare = record {
  machine = EM_X86_64;
  interp = None;
  soname = None;
  needs = [];
  rpath = None;
  runpath = None;
  symbolic = false;
  imports = [];
  exports = [];
  asks = [];
  sysv = true;
  gnu = false;
  spare = 0;
  zero = 0;
  sections = false;
}

-- A function that is asked for by its name alone, or in a version of a file.
abbrev pub called : List ℕ → Import
called name = record { name = name; kind = STT_FUNC; value = 0; file = None; version = None }

abbrev pub called_from : List ℕ → List ℕ → List ℕ → Import
called_from name file version =
    record { name = name; kind = STT_FUNC; value = 0; file = Some file; version = Some version }

-- A function that is offered in a version.
abbrev pub offered : List ℕ → List ℕ → Export
offered name version =
    record { name = name; kind = STT_FUNC; version = Some version; hidden = false }

abbrev pub puts_called : Import
puts_called = called_from (codes "puts") c_library_name (codes "GLIBC_2.2.5")

abbrev pub loader_shape : Shape
loader_shape = record bare { soname = Some (codes "ld-linux-x86-64.so.2") }

abbrev pub c_library_shape : Shape
c_library_shape = record bare {
  soname = Some c_library_name;
  exports = offered (codes "puts") (codes "GLIBC_2.2.5") ∷ [];
}

-- The program needs the first library and the C library, and calls a function of each.
abbrev pub program_shape : Shape
program_shape = record bare {
  interp = Some loader_path;
  runpath = Some (codes "$ORIGIN/../lib");
  needs = library_name 1 ∷ c_library_name ∷ [];
  imports = called_from (function_name 1) (library_name 1) (codes "V1") ∷ puts_called ∷ [];
}

-- The name of a numbered library, where there are so many.
abbrev pub library_among : ℕ → ℕ → List (List ℕ)
library_among count n = cond (nat_le n count) (library_name n ∷ []) []

-- Of `count` libraries, library i needs 2i and 2i + 1, where there are such, and the C library.
abbrev pub library_needs : ℕ → ℕ → List (List ℕ)
library_needs count i =
    library_among count (2 * i) ++ (library_among count (2 * i + 1) ++ c_library_name ∷ [])

-- The library whose function library i calls, where that is another one.
abbrev pub callee : ℕ → ℕ → ℕ
callee count i = (7 * i) % count + 1

abbrev pub library_calls : ℕ → ℕ → List Import
library_calls count i =
    cond (callee count i == i) [] (called (function_name (callee count i)) ∷ [])
    ++ puts_called ∷ []

unfoldable pub library_shape : ℕ → ℕ → Shape
library_shape count i = record bare {
  soname = Some (library_name i);
  runpath = Some (codes "$ORIGIN");
  needs = library_needs count i;
  imports = library_calls count i;
  exports = offered (function_name i) (codes "V1") ∷ [];
}

-- ---- the tree

-- A file with the bytes of an object, whose identity is its path.
abbrev pub made_at : List ℕ → Shape → WorldFile
made_at path shape = record { path = path; id = path; bytes = made_object shape }

abbrev pub host_files : World
host_files = made_at loader_path loader_shape ∷ made_at c_library_path c_library_shape ∷ []

abbrev pub library_file : ℕ → ℕ → WorldFile
library_file count i = made_at (library_path i) (library_shape count i)

-- The host, the program, and the libraries from 1 on.
unfoldable pub made_tree : ℕ → World
made_tree count =
    host_files
    ++ (made_at program_path program_shape ∷ map (library_file count) (range_with_len 1 count))

-- How many libraries a tree may have.
abbrev pub IsTreeSize : ℕ → Type 0
IsTreeSize count = (1 ≤ count) × (count ≤ 1000)
