-- Bytes that are a document, and bytes that are none.
use Rattle.std.proofs.Common.{◌≡◌, ◌∙◌, ap, refl, ℕ, List, Bool, true, false, cond}
use Rattle.std.specs.Prelude.{None, Some, Err, IsUtf8}
use Rattle.std.specs.Str.{is_utf8}
use Rattle.std.proofs.lemmas.Str.{IsUtf8-from_is_utf8, is_utf8-from_IsUtf8}
use Rattle.toml.specs.Data.{Members}
use Rattle.toml.specs.Parse.{parse_document}
use Rattle.config_text.specs.Reading.{config_in, config_of, config_read}
use Rattle.config_text.specs.declared.faults.ConfigFault.TheVariants.{NotToml}

pub document_is : (bytes : List ℕ) (top : Members) → IsUtf8 bytes → parse_document bytes ≡ Some top → config_read bytes ≡ config_of top
unfolding config_read
document_is bytes top u p = ap (λ b. config_in (cond b (parse_document bytes) None)) (is_utf8-from_IsUtf8 bytes u) ∙ ap config_in p

refused : (bytes : List ℕ) (b : Bool) → is_utf8 bytes ≡ b → (IsUtf8 bytes → parse_document bytes ≡ None) → config_in (cond b (parse_document bytes) None) ≡ Err NotToml
refused bytes true e h = ap config_in (h (IsUtf8-from_is_utf8 bytes e))
refused bytes false e h = refl

pub no_document : (bytes : List ℕ) → (IsUtf8 bytes → parse_document bytes ≡ None) → config_read bytes ≡ Err NotToml
unfolding config_read
no_document bytes h = refused bytes (is_utf8 bytes) refl h
