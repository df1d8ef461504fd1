-- Bytes of memory that stand in the file
use Rattle.std.specs.Prelude.{ℕ, ◌+◌, ◌≤◌, ◌<◌, ◌≡◌, true, List, length, is_some}
use Rattle.byte_view.specs.Headers.{headers}
use Rattle.byte_view.specs.Memory.{range_in}
use Rattle.byte_view.specs.Numbers.{number_at}
use Rattle.byte_view.specs.declared.constants.TheConstants.{HIGHEST_END}
use Rattle.load_model.specs.VersionTables.{file_place, memory_number}

-- the bytes at these addresses stand in the file from a place on
pub record IsBacked (file : List ℕ) (at size from : ℕ) : Type 0 where
  pub found : is_some (range_in (headers file) at size) ≡ true
  pub place : file_place file at size ≡ from
  pub within : from + size ≤ length file
  pub words : (k n : ℕ) → k + n ≤ size → memory_number n file (at + k) ≡ number_at n file (from + k)
  pub limit : 0 < size → at + size ≤ HIGHEST_END
