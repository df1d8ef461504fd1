-- A hash table in the same bytes is the same.
use Rattle.std.proofs.Common.{◌≡◌, ℕ, ◌+◌, ◌*◌, ◌&&◌, Bool, true, false, not, List, Option, Some, None, is_some, refl, arith}
use Rattle.answers.specs.First.{some_where}
use Rattle.byte_view.specs.declared.flaws.TheConstants.{HASH_RANGE}
use Rattle.byte_view.specs.Checks.{flaw}
use Rattle.byte_view.specs.Memory.{range_in}
use Rattle.byte_view.specs.declared.constants.TheConstants.{DT_HASH}
use Rattle.byte_view.specs.declared.flaws.Flaw.{Flaw}
use Rattle.byte_view.specs.declared.segments.Segment.{Segment}
use Rattle.load_model.specs.SymbolFlaws.{bad_sysv, is_sysv_whole}
use Rattle.load_model.specs.SysvTable.{is_sysv_sound, nbucket, nchain, sysv_place, sysv_size, sysv_table}
use Rattle.load_model.specs.TableWords.{words_in}
use Rattle.two_files.specs.Alike.{KeepsRanges, SameBytes}
use Rattle.two_files.proofs.Words.{first_same, word_same, words_same}

pub record SameSysv (b c : List ℕ) (bs cs : List Segment) (addr : ℕ) : Type 0 where
  pub table : sysv_table c cs addr ≡ sysv_table b bs addr
  pub size : sysv_size c cs addr ≡ sysv_size b bs addr
  pub count : nchain c cs addr ≡ nchain b bs addr

pub same_sysv : (b c : List ℕ) (bs cs : List Segment) (addr : ℕ) → SameBytes b c bs cs addr (sysv_size b bs addr) → SameSysv b c bs cs addr
unfolding sysv_table
same_sysv b c bs cs addr s =
    let n : ℕ = nbucket b bs addr in
    let len : ℕ = sysv_size b bs addr in
    let first : nbucket c cs addr ≡ nbucket b bs addr = first_same b c bs cs addr len 4 s (omega arith) in
    let second : nchain c cs addr ≡ nchain b bs addr = word_same b c bs cs addr len 4 4 s (omega arith) in
    let buckets : words_in 4 c cs (addr + 8) n ≡ words_in 4 b bs (addr + 8) n = words_same b c bs cs addr len 4 8 n s (omega arith) in
    let place : addr + (8 + 4 * n) ≡ addr + 8 + 4 * n = omega arith in
    let links : words_in 4 c cs (addr + (8 + 4 * n)) (nchain b bs addr) ≡ words_in 4 b bs (addr + (8 + 4 * n)) (nchain b bs addr) = words_same b c bs cs addr len 4 (8 + 4 * n) (nchain b bs addr) s (omega arith) in
    let chains : words_in 4 c cs (addr + 8 + 4 * n) (nchain b bs addr) ≡ words_in 4 b bs (addr + 8 + 4 * n) (nchain b bs addr) = rw place at links in
    record { table = rw (first, second, buckets, chains) refl; size = rw (first, second) refl; count = second }

pub flaw_gone : (t : Bool) (f : Flaw) → some_where (not t) f ≡ None → t ≡ true
flaw_gone true f e = refl
flaw_gone false f e = absurd (cc)

pub both : (s t : Bool) → (s && t) ≡ true → (s ≡ true) × (t ≡ true)
both true t e = (refl, e)
both false t e = absurd (cc)

pub whole_sysv : (b c : List ℕ) (bs cs : List Segment) (addr : ℕ) → KeepsRanges bs cs → SameBytes b c bs cs addr (sysv_size b bs addr) → is_sysv_whole b bs addr ≡ true → is_sysv_whole c cs addr ≡ true
unfolding sysv_place
whole_sysv b c bs cs addr keeps s e =
    let t : SameSysv b c bs cs addr = same_sysv b c bs cs addr s in
    let parts = both (is_some (sysv_place b bs addr)) (is_sysv_sound (sysv_table b bs addr)) e in
    let place : range_in cs addr (sysv_size b bs addr) ≡ range_in bs addr (sysv_size b bs addr) = keeps.keeps addr (sysv_size b bs addr) parts.0 in
    rw (t.table, t.size, place) e

pub kept_sysv : (b c : List ℕ) (bs cs : List Segment) (at : Option ℕ) → KeepsRanges bs cs → ((addr : ℕ) → at ≡ Some addr → SameBytes b c bs cs addr (sysv_size b bs addr)) → bad_sysv b bs at ≡ None → bad_sysv c cs at ≡ None
kept_sysv b c bs cs None keeps s e = refl
kept_sysv b c bs cs (Some addr) keeps s e =
    let whole : is_sysv_whole b bs addr ≡ true = flaw_gone (is_sysv_whole b bs addr) (flaw HASH_RANGE DT_HASH 0) e in
    let same : is_sysv_whole c cs addr ≡ true = whole_sysv b c bs cs addr keeps (s addr refl) whole in
    rw same refl
