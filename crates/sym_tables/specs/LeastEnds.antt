-- Where the last chain of a GNU hash table ends
use Rattle.std.specs.Prelude.{ℕ, ◌≡◌, ◌≤◌, ◌<◌, true, false, List}
use Rattle.byte_view.specs.declared.segments.Segment.{Segment}
use Rattle.load_model.specs.GnuTable.{chain_word, is_last}

-- the least index, from one on, whose chain word is odd
pub record IsLeastEnd (file : List ℕ) (segments : List Segment) (addr from last : ℕ) : Type 0 where
  pub above : from ≤ last
  pub odd : is_last (chain_word file segments addr last) ≡ true
  pub least : (i : ℕ) → from ≤ i → i < last → is_last (chain_word file segments addr i) ≡ false
