-- A table is sound where its words are linked and its chains end.
use Rattle.std.proofs.Common.{◌≡◌, ◌&&◌, Bool, true, false, length, refl}
use Rattle.std.specs.Prelude.{nat_le}
use Rattle.std.specs.List.{list_all}
use Rattle.load_model.specs.SysvTable.{SysvTable, ends_in, is_link, is_sysv_sound}
use Rattle.sym_tables.specs.FoundTables.{is_linked}

-- the two parts
in_parts : (a b c d : Bool) → (a && (b && (c && d))) ≡ ((a && (b && c)) && d)
in_parts true true true d = refl
in_parts true true false d = refl
in_parts true false c d = refl
in_parts false b c d = refl

sound_is : (t : SysvTable) → is_sysv_sound t ≡ (is_linked t && list_all (λ at. ends_in (length t.chains) t.chains at) t.buckets)
unfolding is_sysv_sound
sound_is t = in_parts (nat_le 1 (length t.buckets)) (list_all (λ w. is_link (length t.chains) w) t.buckets) (list_all (λ w. is_link (length t.chains) w) t.chains) (list_all (λ at. ends_in (length t.chains) t.chains at) t.buckets)

pub unlinked : (t : SysvTable) → is_linked t ≡ false → is_sysv_sound t ≡ false
unlinked t e = rw (sound_is t, e) refl

pub endless : (t : SysvTable) → is_linked t ≡ true → list_all (λ at. ends_in (length t.chains) t.chains at) t.buckets ≡ false → is_sysv_sound t ≡ false
endless t e f = rw (sound_is t, e, f) refl

pub sound : (t : SysvTable) → is_linked t ≡ true → list_all (λ at. ends_in (length t.chains) t.chains at) t.buckets ≡ true → is_sysv_sound t ≡ true
sound t e f = rw (sound_is t, e, f) refl

second : (a b c : Bool) → (a && (b && c)) ≡ true → b ≡ true
second true true c e = refl
second true false c e = absurd (cc)
second false b c e = absurd (cc)

third : (a b c : Bool) → (a && (b && c)) ≡ true → c ≡ true
third true true c e = e
third true false c e = absurd (cc)
third false b c e = absurd (cc)

pub buckets_linked : (t : SysvTable) → is_linked t ≡ true → list_all (λ w. is_link (length t.chains) w) t.buckets ≡ true
buckets_linked t e = second (nat_le 1 (length t.buckets)) (list_all (λ w. is_link (length t.chains) w) t.buckets) (list_all (λ w. is_link (length t.chains) w) t.chains) e

pub chains_linked : (t : SysvTable) → is_linked t ≡ true → list_all (λ w. is_link (length t.chains) w) t.chains ≡ true
chains_linked t e = third (nat_le 1 (length t.buckets)) (list_all (λ w. is_link (length t.chains) w) t.buckets) (list_all (λ w. is_link (length t.chains) w) t.chains) e
