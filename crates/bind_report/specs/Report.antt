-- The text of the file of bindings: for each program its objects, the names that it opens, and what
-- the references of its objects bind to. Fields have one space between them, and lines end with LF.
use Rattle.std.specs.Prelude.{ℕ, List, [], ◌∷◌, ◌++◌, Bool, Option, Some, None, cond, codes, slice_get, zip}
use Rattle.std.specs.Fmt.{decimal}
use Rattle.std.specs.List.{enumerate_from, flat_map}
use Rattle.std.specs.Option.{option_map, unwrap_or}
use Rattle.std.specs.Str.{bytes_eq}
use Rattle.load_model.specs.Bindings.{symbol_at, wanted_version}
use Rattle.load_model.specs.Escaping.{escaped, version_text}
use Rattle.load_model.specs.declared.faces.Face.{Face}
use Rattle.load_model.specs.declared.runs.Bind.{Bind}
use Rattle.load_model.specs.declared.runs.Def.{Def}
use Rattle.load_model.specs.declared.runs.Obj.{Obj}
use Rattle.load_model.specs.declared.runs.Replay.{Replay}
use Rattle.load_model.specs.declared.runs.Run.{Run}
use Rattle.load_model.specs.declared.symbols.Class.{Class}
use Rattle.load_model.specs.declared.symbols.Class.TheVariants.{Plain, Call, Copy}
use Rattle.load_model.specs.declared.symbols.Sym.{Sym}

-- A place is escaped, but the place `-` stands for none.
unfoldable pub place_text : List ℕ → List ℕ
place_text place = cond (bytes_eq place (45 ∷ [])) (codes "-") (escaped place)

abbrev pub class_text : Class → List ℕ
class_text Plain = codes "p"
class_text Call = codes "c"
class_text Copy = codes "k"

-- The place of the object of this number.
abbrev pub object_place : List (List ℕ) → ℕ → List ℕ
object_place places j = unwrap_or (slice_get places j) []

-- The path of the object of this number.
abbrev pub path_at : List Obj → ℕ → List ℕ
path_at objs j = unwrap_or (option_map (λ o. o.path) (slice_get objs j)) []

-- `program PATH PLACE`
unfoldable pub program_line : List ℕ → List ℕ → List ℕ
program_line path place =
    codes "program " ++ (escaped path ++ (codes " " ++ (place_text place ++ 10 ∷ [])))

-- `load I PATH PLACE`
unfoldable pub load_line : ℕ → List ℕ → List ℕ → List ℕ
load_line i path place =
    codes "load "
    ++ (decimal i ++ (codes " " ++ (escaped path ++ (codes " " ++ (place_text place ++ 10 ∷ [])))))

-- The line of each object, by number.
abbrev pub numbered_load : (ℕ × (Obj × List ℕ)) → List ℕ
numbered_load numbered = load_line numbered.0 numbered.1.0.path numbered.1.1

unfoldable pub load_lines : List Obj → List (List ℕ) → List ℕ
load_lines objs places = flat_map numbered_load (enumerate_from 0 (zip objs places))

-- `open NAME I`
unfoldable pub open_line : (List ℕ × ℕ) → List ℕ
open_line opened =
    codes "open " ++ (escaped opened.0 ++ (codes " " ++ (decimal opened.1 ++ 10 ∷ [])))

-- The line of each opened name, with its root.
unfoldable pub open_lines : List (List ℕ) → List ℕ → List ℕ
open_lines opens roots = flat_map open_line (zip opens roots)

-- `NAME VERSION`
abbrev pub symbol_text : Option Sym → List ℕ
symbol_text None = []
symbol_text (Some s) = escaped s.name ++ (codes " " ++ version_text (wanted_version s.version))

-- `OBJ SYM NAME VERSION`
unfoldable pub reference_text : List Face → Run → ℕ → ℕ → List ℕ
reference_text faces run j i =
    decimal j ++ (codes " " ++ (decimal i ++ (codes " " ++ symbol_text (symbol_at faces run j i))))

-- The version of a symbol.
abbrev pub symbol_version : Option Sym → List ℕ
symbol_version None = []
symbol_version (Some s) = version_text (wanted_version s.version)

-- `OBJ2 VERSION2`, or `none`
abbrev pub definition_text : List Face → Run → Option Def → List ℕ
definition_text faces run None = codes "none"
definition_text faces run (Some d) =
    decimal d.obj ++ (codes " " ++ symbol_version (symbol_at faces run d.obj d.sym))

-- `bind OBJ SYM NAME VERSION CLASS OBJ2 VERSION2`, or `.. CLASS none`
unfoldable pub bind_line : List Face → Run → Bind → List ℕ
bind_line faces run bind =
    codes "bind "
    ++ (reference_text faces run bind.obj bind.sym ++ (codes " "
    ++ (class_text bind.class ++ (codes " " ++ (definition_text faces run bind.to ++ 10 ∷ [])))))

abbrev pub is_host : List ℕ → Bool
is_host place = bytes_eq place (codes "host")

-- The line of a bind, unless an object of the host refers.
unfoldable pub told_bind : List Face → Run → List (List ℕ) → Bind → List ℕ
told_bind faces run places bind =
    cond (is_host (object_place places bind.obj)) [] (bind_line faces run bind)

unfoldable pub bind_lines : List Face → Run → List (List ℕ) → List Bind → List ℕ
bind_lines faces run places binds = flat_map (told_bind faces run places) binds

-- The lines of a program, whose objects have these places.
unfoldable pub program_lines : List Face → Replay → List (List ℕ) → List ℕ
program_lines faces replay places =
    program_line (path_at replay.run.objs 0) (object_place places 0)
    ++ (load_lines replay.run.objs places
    ++ (open_lines replay.run.opens replay.run.roots
    ++ bind_lines faces replay.run places replay.binds))

abbrev pub placed_lines : List Face → (Replay × List (List ℕ)) → List ℕ
placed_lines faces placed = program_lines faces placed.0 placed.1

unfoldable pub all_lines : List Replay → List Face → List (List (List ℕ)) → List ℕ
all_lines replays faces places = flat_map (placed_lines faces) (zip replays places)

-- The text of the programs' bindings, each program with the places of its objects.
unfoldable pub report_text : List Replay → List Face → List (List (List ℕ)) → List ℕ
report_text replays faces places =
    codes "appdir-bindings 1"
    ++ (10 ∷ (all_lines replays faces places ++ (codes "end" ++ 10 ∷ [])))
