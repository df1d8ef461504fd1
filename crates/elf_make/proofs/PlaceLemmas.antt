-- The paths of a generated tree are read as they are.
use Rattle.std.proofs.Common.{◌≡◌, ◌≢◌, ℕ, ◌+◌, ◌<◌, ◌^◌, ◌%◌, ◌&&◌, List, [], ◌∷◌, ◌++◌, Bool, true, not, arith, Ok, refl, eqb}
use Rattle.std.specs.Prelude.{All, IsUtf8, codes, nat_lt}
use Rattle.std.specs.Fmt.{decimal}
use Rattle.std.specs.List.{list_all}
use Rattle.std.proofs.lemmas.Bool.{and_parts, eqb-false, ltb-true, not-true}
use Rattle.std.proofs.lemmas.Fmt.{decimal_by_steps}
use Rattle.std.proofs.lemmas.List.Elements.{All-append, All-cons, All-nil, All-weaker}
use Rattle.std.proofs.lemmas.Nat.{mod_below}
use Rattle.std.proofs.lemmas.Str.{IsUtf8-from_ascii}
use Rattle.std.proofs.lemmas.Str.Ascii.{IsAscii-from_all}
use Rattle.path_text.proofs.PartLemmas.{NoSlash}
use Rattle.path_text.proofs.PathLemmas.{IsNormalPath-rooted, path_of-IsNormalPath}
use Rattle.path_text.specs.Path.{IsNamed, path_of, rooted}
use Rattle.elf_make.specs.Generator.{c_library_path, library_name, library_path, loader_path, program_path}

-- an ASCII byte that is no slash and not 0
abbrev IsPlain : ℕ → Type 0
IsPlain c = (c ≢ 47) × (c ≢ 0) × (c < 128)

abbrev is_plain : ℕ → Bool
is_plain c = not (eqb c 47) && (nat_lt 0 c && nat_lt c 128)

plain_by_test : (c : ℕ) → is_plain c ≡ true → IsPlain c
plain_by_test c h =
    let slash = and_parts (not (eqb c 47)) (nat_lt 0 c && nat_lt c 128) h in
    let ends = and_parts (nat_lt 0 c) (nat_lt c 128) slash.1 in
    let some : 0 < c = ltb-true 0 c ends.0 in
    (eqb-false c 47 (not-true (eqb c 47) slash.0), (λ e. omega arith), ltb-true c 128 ends.1)

plain : (text : List ℕ) → list_all is_plain text ≡ true → All IsPlain text
plain [] h = All-nil IsPlain
plain (c ∷ text) h =
    let both = and_parts (is_plain c) (list_all is_plain text) h in
    All-cons IsPlain c text (plain_by_test c both.0) (plain text both.1)

plain_digit : (d : ℕ) → d < 10 → IsPlain (48 + d)
plain_digit d small = ((λ e. omega arith), (λ e. omega arith), omega arith)

plain_decimal : (n : ℕ) → n < 2 ^ 64 → All IsPlain (decimal n)
plain_decimal = decimal_by_steps (λ n ds. All IsPlain ds)
    (λ n small. All-cons IsPlain (48 + n) [] (plain_digit n small) (All-nil IsPlain))
    (λ n ds large all. All-append IsPlain ds ((48 + n % 10) ∷ []) all (All-cons IsPlain (48 + n % 10) [] (plain_digit (n % 10) (mod_below n 10 (omega arith))) (All-nil IsPlain)))

plain_utf8 : (part : List ℕ) → All IsPlain part → IsUtf8 part
plain_utf8 part all = IsUtf8-from_ascii part (IsAscii-from_all part (All-weaker IsPlain (λ b. b < 128) (λ b p. p.2) part all))

-- plain parts, one below the other
reads : (parts : List (List ℕ)) → All IsNamed parts → All (All IsPlain) parts → path_of (rooted parts) ≡ Ok (rooted parts)
reads parts named all = path_of-IsNormalPath (rooted parts) (IsNormalPath-rooted parts (record {
  named = named;
  no_slash = All-weaker (All IsPlain) NoSlash (λ part p. All-weaker IsPlain (λ c. c ≢ 47) (λ c q. q.0) part p) parts all;
  no_zero = All-weaker (All IsPlain) (All (λ c. c ≢ 0)) (λ part p. All-weaker IsPlain (λ c. c ≢ 0) (λ c q. q.1) part p) parts all;
  utf8 = All-weaker (All IsPlain) IsUtf8 plain_utf8 parts all;
}))

two_read : (a b : List ℕ) → IsNamed a → IsNamed b → All IsPlain a → All IsPlain b → path_of (rooted (a ∷ b ∷ [])) ≡ Ok (rooted (a ∷ b ∷ []))
two_read a b na nb pa pb =
    reads (a ∷ b ∷ []) (All-cons IsNamed a (b ∷ []) na (All-cons IsNamed b [] nb (All-nil IsNamed)))
    (All-cons (All IsPlain) a (b ∷ []) pa (All-cons (All IsPlain) b [] pb (All-nil (All IsPlain))))

three_read : (a b c : List ℕ) → IsNamed a → IsNamed b → IsNamed c → All IsPlain a → All IsPlain b → All IsPlain c → path_of (rooted (a ∷ b ∷ c ∷ [])) ≡ Ok (rooted (a ∷ b ∷ c ∷ []))
three_read a b c na nb nc pa pb pc =
    reads (a ∷ b ∷ c ∷ []) (All-cons IsNamed a (b ∷ c ∷ []) na (All-cons IsNamed b (c ∷ []) nb (All-cons IsNamed c [] nc (All-nil IsNamed))))
    (All-cons (All IsPlain) a (b ∷ c ∷ []) pa (All-cons (All IsPlain) b (c ∷ []) pb (All-cons (All IsPlain) c [] pc (All-nil (All IsPlain)))))

pub loader_reads : path_of loader_path ≡ Ok loader_path
unfolding rooted
loader_reads = two_read (codes "lib64") (codes "ld-linux-x86-64.so.2") (refl, refl) (refl, refl) (plain (codes "lib64") refl) (plain (codes "ld-linux-x86-64.so.2") refl)

pub c_library_reads : path_of c_library_path ≡ Ok c_library_path
unfolding rooted
c_library_reads = two_read (codes "lib64") (codes "libc.so.6") (refl, refl) (refl, refl) (plain (codes "lib64") refl) (plain (codes "libc.so.6") refl)

pub program_reads : path_of program_path ≡ Ok program_path
unfolding rooted
program_reads = three_read (codes "gen") (codes "bin") (codes "app") (refl, refl) (refl, refl) (refl, refl) (plain (codes "gen") refl) (plain (codes "bin") refl) (plain (codes "app") refl)

plain_name : (i : ℕ) → i < 2 ^ 64 → All IsPlain (library_name i)
plain_name i small =
    All-append IsPlain (codes "libg") (decimal i ++ codes ".so") (plain (codes "libg") refl)
    (All-append IsPlain (decimal i) (codes ".so") (plain_decimal i small) (plain (codes ".so") refl))

pub library_reads : (i : ℕ) → i < 2 ^ 64 → path_of (library_path i) ≡ Ok (library_path i)
unfolding rooted
library_reads i small = three_read (codes "gen") (codes "lib") (library_name i) (refl, refl) (refl, refl) (refl, refl) (plain (codes "gen") refl) (plain (codes "lib") refl) (plain_name i small)
