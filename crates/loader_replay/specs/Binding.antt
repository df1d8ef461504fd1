-- The bindings of one symbol.
use Rattle.std.specs.Prelude.{ℕ, List, [], Option, Some, None, length}
use Rattle.load_model.specs.Bindings.{binds_of_symbol, symbol_at, syms_in}
use Rattle.load_model.specs.Runs.{face_at}
use Rattle.load_model.specs.declared.faces.Face.{Face}
use Rattle.load_model.specs.declared.runs.Bind.{Bind}
use Rattle.load_model.specs.declared.runs.Run.{Run}
use Rattle.load_model.specs.declared.symbols.Sym.{Sym}

-- How many symbols the object of this number has.
abbrev pub object_symbol_count : List Face → Run → ℕ → ℕ
object_symbol_count faces run j = length (syms_in (face_at faces run j))

abbrev pub binds_by : List Face → Run → ℕ → ℕ → Option Sym → List Bind
binds_by faces run j i None = []
binds_by faces run j i (Some s) = binds_of_symbol faces run j i s

-- The bindings of the symbol of this index, of the object of this number.
unfoldable pub binds_at : List Face → Run → ℕ → ℕ → List Bind
binds_at faces run j i = binds_by faces run j i (symbol_at faces run j i)
