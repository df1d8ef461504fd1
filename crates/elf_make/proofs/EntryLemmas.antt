-- An entry is two numbers of eight bytes each.
use Rattle.std.proofs.Common.{◌≡◌, ap, [], ◌∷◌, ◌++◌}
use Rattle.std.proofs.lemmas.List.{append-nil}
use Rattle.byte_view.specs.Dynamic.{entry_bytes}
use Rattle.byte_view.specs.Numbers.{word_bytes}
use Rattle.byte_view.specs.declared.dynamic.Entry.{Entry}
use Rattle.elf_shape.specs.Bytes.{longs}

pub longs_of_entry : (e : Entry) → longs (e.tag ∷ e.value ∷ []) ≡ entry_bytes e
unfolding longs entry_bytes word_bytes
longs_of_entry e = ap (λ b. word_bytes 8 e.tag ++ b) (append-nil (word_bytes 8 e.value))
