-- A path of plain letters is read as it is, and so are the default directories.
use Rattle.std.proofs.Common.{◌≡◌, ◌≢◌, ◌∙◌, ap, refl, ℕ, ◌<◌, List, [], ◌∷◌, Bool, true, ◌&&◌, arith, bytes_eq, nat_lt, Ok}
use Rattle.std.specs.Prelude.{All, IsAscii}
use Rattle.std.specs.List.{list_all}
use Rattle.std.proofs.lemmas.Bool.{and_parts, ltb-true}
use Rattle.std.proofs.lemmas.List.Elements.{All-cons, All-nil}
use Rattle.std.proofs.lemmas.Str.{IsUtf8-from_ascii}
use Rattle.std.proofs.lemmas.Str.Ascii.{IsAscii-cons, IsAscii-nil}
use Rattle.answers.specs.First.{value_unless}
use Rattle.app_config.specs.Settings.{default_dirs}
use Rattle.load_model.proofs.TwoWorlds.{same_bytes}
use Rattle.path_text.proofs.PathLemmas.{IsNormalPath-path_of, not_contained, path_fault-IsPath}
use Rattle.path_text.specs.Path.{IsNormalPath, IsPath, begins_at_root, named_parts, normal_path, path_of, rooted}

abbrev pub is_plain_byte : ℕ → Bool
is_plain_byte c = nat_lt 0 c && nat_lt c 128

all_ascii : (text : List ℕ) → list_all is_plain_byte text ≡ true → IsAscii text
all_ascii [] h = IsAscii-nil
all_ascii (c ∷ text) h =
    let parts = and_parts (is_plain_byte c) (list_all is_plain_byte text) h in
    let small = and_parts (nat_lt 0 c) (nat_lt c 128) parts.0 in
    IsAscii-cons c text (ltb-true c 128 small.1) (all_ascii text parts.1)

no_zeros : (text : List ℕ) → list_all is_plain_byte text ≡ true → All (λ c. c ≢ 0) text
no_zeros [] h = All-nil (λ c. c ≢ 0)
no_zeros (c ∷ text) h =
    let parts = and_parts (is_plain_byte c) (list_all is_plain_byte text) h in
    let small = and_parts (nat_lt 0 c) (nat_lt c 128) parts.0 in
    let some : 0 < c = ltb-true 0 c small.0 in
    All-cons (λ c. c ≢ 0) c text (λ e. omega arith) (no_zeros text parts.1)

pub read_plain : (text : List ℕ) → list_all is_plain_byte text ≡ true → begins_at_root text ≡ true → normal_path text ≡ text → path_of text ≡ Ok text
read_plain text plain at_root normal =
    let is_path : IsPath text = record { at_root = at_root; no_zero = not_contained text 0 (no_zeros text plain); utf8 = IsUtf8-from_ascii text (all_ascii text plain) } in
    ap (λ f. value_unless f (normal_path text)) (path_fault-IsPath text is_path) ∙ ap Ok normal

is_plain_path : List ℕ → Bool
is_plain_path text = list_all is_plain_byte text && (begins_at_root text && bytes_eq (normal_path text) text)

plain_are_normal : (texts : List (List ℕ)) → list_all is_plain_path texts ≡ true → All IsNormalPath texts
unfolding is_plain_path
plain_are_normal [] h = All-nil IsNormalPath
plain_are_normal (text ∷ texts) h =
    let both = and_parts (is_plain_path text) (list_all is_plain_path texts) h in
    let plain = and_parts (list_all is_plain_byte text) (begins_at_root text && bytes_eq (normal_path text) text) both.0 in
    let normal = and_parts (begins_at_root text) (bytes_eq (normal_path text) text) plain.1 in
    All-cons IsNormalPath text texts (IsNormalPath-path_of text text (read_plain text plain.0 normal.0 (same_bytes (normal_path text) text normal.1))) (plain_are_normal texts both.1)

pub default_are_normal : All IsNormalPath default_dirs
unfolding named_parts rooted is_plain_path
default_are_normal = plain_are_normal default_dirs refl
