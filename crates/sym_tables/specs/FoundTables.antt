-- The hash tables that were found in a file
use Rattle.std.specs.Prelude.{Bool, true, ℕ, ◌≡◌, ◌≤◌, ◌&&◌, nat_le, length, List, Option, Some, None}
use Rattle.byte_view.specs.declared.segments.Segment.{Segment}
use Rattle.load_model.specs.GnuTable.{GnuTable, gnu_place, gnu_reach, gnu_table}
use Rattle.load_model.specs.SysvTable.{SysvTable, is_link, is_sysv_sound, sysv_place, sysv_table}
use Rattle.std.specs.List.{list_all}
use Rattle.sym_tables.specs.declared.sysv.FoundSysv.{FoundSysv}
use Rattle.sym_tables.specs.declared.sysv.SysvWords.{SysvWords}
use Rattle.sym_tables.specs.declared.gnu.FoundGnu.{FoundGnu}
use Rattle.sym_tables.specs.declared.gnu_front.Front.{Front}

-- the table with these parts and these chain words
abbrev pub front_table : Front → List ℕ → GnuTable
front_table f words =
    record {
      offset = f.offset;
      shift = f.shift;
      bloom = f.bloom.items;
      buckets = f.buckets.items;
      words = words;
    }

pub record IsFoundGnu (f : FoundGnu) (file : List ℕ) (segments : List Segment) (addr : ℕ) : Type 0
  where
    pub table : f.table ≡ gnu_table file segments addr
    pub reach : f.reach ≡ gnu_reach file segments addr
    pub range : gnu_place file segments addr ≡ Some f.range

-- the same where the file has one
abbrev pub IsGnuAt : Option FoundGnu → List ℕ → List Segment → Option ℕ → Type 0
IsGnuAt None file segments at = at ≡ None
IsGnuAt (Some f) file segments None = ⊥
IsGnuAt (Some f) file segments (Some addr) = IsFoundGnu f file segments addr

-- the table of these words
abbrev pub words_table : SysvWords → SysvTable
words_table w = record { buckets = w.buckets.items; chains = w.chains.items }

-- it has a bucket, and each word names a symbol or is 0
abbrev pub is_linked : SysvTable → Bool
is_linked t =
    nat_le 1 (length t.buckets)
    && (list_all (λ w. is_link (length t.chains) w) t.buckets
    && list_all (λ w. is_link (length t.chains) w) t.chains)

pub record IsFoundSysv (f : FoundSysv) (file : List ℕ) (segments : List Segment) (addr : ℕ) : Type 0
  where
    pub table : f.table ≡ sysv_table file segments addr
    pub sound : is_sysv_sound f.table ≡ true
    pub range : sysv_place file segments addr ≡ Some f.range

abbrev pub IsSysvAt : Option FoundSysv → List ℕ → List Segment → Option ℕ → Type 0
IsSysvAt None file segments at = at ≡ None
IsSysvAt (Some f) file segments None = ⊥
IsSysvAt (Some f) file segments (Some addr) = IsFoundSysv f file segments addr

-- a table that was found has a bucket
abbrev pub HasBucket : Option FoundSysv → Type 0
HasBucket None = Unit {0}
HasBucket (Some f) = 1 ≤ length f.table.buckets
