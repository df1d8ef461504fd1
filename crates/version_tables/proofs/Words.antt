-- The words of a record that stands in the file are those of memory.
use Rattle.std.proofs.Common.{◌≡◌, ℕ, ◌+◌, false, cond, List, Some, None, refl, arith}
use Rattle.std.specs.Prelude.{is_some}
use Rattle.byte_view.specs.Headers.{headers}
use Rattle.byte_view.specs.Memory.{range_in}
use Rattle.byte_view.specs.Numbers.{number_at}
use Rattle.load_model.specs.VersionFlaws.{is_unbacked}
use Rattle.load_model.specs.VersionTables.{file_place, memory_number}
use Rattle.version_tables.specs.Backed.{IsBacked}
use Rattle.version_tables.specs.Records.{verdaux_words, verdef_words, vernaux_words, verneed_words}
use Rattle.version_tables.proofs.Backed.{first_word}

verdef_there : (file : List ℕ) (at place : ℕ) → IsBacked file at 20 place → record { place = place; version = number_at 2 file place; ndx = number_at 2 file (place + 4); cnt = number_at 2 file (place + 6); aux = number_at 4 file (place + 12); next = number_at 4 file (place + 16) } ≡ verdef_words file at
unfolding verdef_words
verdef_there file at place b =
    let p : file_place file at 20 ≡ place = b.place in
    let v : memory_number 2 file at ≡ number_at 2 file place = first_word file at 20 place 2 b (omega arith) in
    let n : memory_number 2 file (at + 4) ≡ number_at 2 file (place + 4) = b.words 4 2 (omega arith) in
    let c : memory_number 2 file (at + 6) ≡ number_at 2 file (place + 6) = b.words 6 2 (omega arith) in
    let a : memory_number 4 file (at + 12) ≡ number_at 4 file (place + 12) = b.words 12 4 (omega arith) in
    let x : memory_number 4 file (at + 16) ≡ number_at 4 file (place + 16) = b.words 16 4 (omega arith) in
    rw (p, v, n, c, a, x) refl

-- what is read of a record, once it is known that it stands in the file
pub backed_words : {X : Type 0} (file : List ℕ) (at size place : ℕ) (x y : X) → IsBacked file at size place → x ≡ y → Some x ≡ cond (is_unbacked file at size) None (Some y)
backed_words file at size place x y b e = rw (b.found, e) refl

pub unbacked_words : {X : Type 0} (file : List ℕ) (at size : ℕ) (y : X) → is_some (range_in (headers file) at size) ≡ false → None ≡ cond (is_unbacked file at size) None (Some y)
unbacked_words file at size y u = rw u refl

pub verdef_made : (file : List ℕ) (at place v n c a x : ℕ) → IsBacked file at 20 place → v ≡ number_at 2 file place → n ≡ number_at 2 file (place + 4) → c ≡ number_at 2 file (place + 6) → a ≡ number_at 4 file (place + 12) → x ≡ number_at 4 file (place + 16) → Some (record { place = place; version = v; ndx = n; cnt = c; aux = a; next = x }) ≡ cond (is_unbacked file at 20) None (Some (verdef_words file at))
verdef_made file at place v n c a x b ev en ec ea ex =
    backed_words file at 20 place (record { place = place; version = v; ndx = n; cnt = c; aux = a; next = x }) (verdef_words file at) b (rw (ev, en, ec, ea, ex) (verdef_there file at place b))

verdaux_there : (file : List ℕ) (at place : ℕ) → IsBacked file at 8 place → record { place = place; name = number_at 4 file place } ≡ verdaux_words file at
unfolding verdaux_words
verdaux_there file at place b =
    let p : file_place file at 8 ≡ place = b.place in
    let n : memory_number 4 file at ≡ number_at 4 file place = first_word file at 8 place 4 b (omega arith) in
    rw (p, n) refl

pub verdaux_made : (file : List ℕ) (at place n : ℕ) → IsBacked file at 8 place → n ≡ number_at 4 file place → Some (record { place = place; name = n }) ≡ cond (is_unbacked file at 8) None (Some (verdaux_words file at))
verdaux_made file at place n b en =
    backed_words file at 8 place (record { place = place; name = n }) (verdaux_words file at) b (rw en (verdaux_there file at place b))

verneed_there : (file : List ℕ) (at place : ℕ) → IsBacked file at 16 place → record { place = place; version = number_at 2 file place; cnt = number_at 2 file (place + 2); file = number_at 4 file (place + 4); aux = number_at 4 file (place + 8); next = number_at 4 file (place + 12) } ≡ verneed_words file at
unfolding verneed_words
verneed_there file at place b =
    let p : file_place file at 16 ≡ place = b.place in
    let v : memory_number 2 file at ≡ number_at 2 file place = first_word file at 16 place 2 b (omega arith) in
    let c : memory_number 2 file (at + 2) ≡ number_at 2 file (place + 2) = b.words 2 2 (omega arith) in
    let f : memory_number 4 file (at + 4) ≡ number_at 4 file (place + 4) = b.words 4 4 (omega arith) in
    let a : memory_number 4 file (at + 8) ≡ number_at 4 file (place + 8) = b.words 8 4 (omega arith) in
    let x : memory_number 4 file (at + 12) ≡ number_at 4 file (place + 12) = b.words 12 4 (omega arith) in
    rw (p, v, c, f, a, x) refl

pub verneed_made : (file : List ℕ) (at place v c f a x : ℕ) → IsBacked file at 16 place → v ≡ number_at 2 file place → c ≡ number_at 2 file (place + 2) → f ≡ number_at 4 file (place + 4) → a ≡ number_at 4 file (place + 8) → x ≡ number_at 4 file (place + 12) → Some (record { place = place; version = v; cnt = c; file = f; aux = a; next = x }) ≡ cond (is_unbacked file at 16) None (Some (verneed_words file at))
verneed_made file at place v c f a x b ev ec ef ea ex =
    backed_words file at 16 place (record { place = place; version = v; cnt = c; file = f; aux = a; next = x }) (verneed_words file at) b (rw (ev, ec, ef, ea, ex) (verneed_there file at place b))

vernaux_there : (file : List ℕ) (at place : ℕ) → IsBacked file at 16 place → record { place = place; flags = number_at 2 file (place + 4); other = number_at 2 file (place + 6); name = number_at 4 file (place + 8); next = number_at 4 file (place + 12) } ≡ vernaux_words file at
unfolding vernaux_words
vernaux_there file at place b =
    let p : file_place file at 16 ≡ place = b.place in
    let f : memory_number 2 file (at + 4) ≡ number_at 2 file (place + 4) = b.words 4 2 (omega arith) in
    let o : memory_number 2 file (at + 6) ≡ number_at 2 file (place + 6) = b.words 6 2 (omega arith) in
    let n : memory_number 4 file (at + 8) ≡ number_at 4 file (place + 8) = b.words 8 4 (omega arith) in
    let x : memory_number 4 file (at + 12) ≡ number_at 4 file (place + 12) = b.words 12 4 (omega arith) in
    rw (p, f, o, n, x) refl

pub vernaux_made : (file : List ℕ) (at place f o n x : ℕ) → IsBacked file at 16 place → f ≡ number_at 2 file (place + 4) → o ≡ number_at 2 file (place + 6) → n ≡ number_at 4 file (place + 8) → x ≡ number_at 4 file (place + 12) → Some (record { place = place; flags = f; other = o; name = n; next = x }) ≡ cond (is_unbacked file at 16) None (Some (vernaux_words file at))
vernaux_made file at place f o n x b ef eo en ex =
    backed_words file at 16 place (record { place = place; flags = f; other = o; name = n; next = x }) (vernaux_words file at) b (rw (ef, eo, en, ex) (vernaux_there file at place b))
