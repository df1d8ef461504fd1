-- Program headers of some file that is not too long and has no flaw.
use Rattle.std.specs.Prelude.{ℕ, ◌≤◌, List}
use Rattle.byte_view.specs.Sound.{AreSound}
use Rattle.byte_view.specs.declared.constants.TheConstants.{LONGEST_FILE}
use Rattle.byte_view.specs.declared.segments.Segment.{Segment}

pub record AreUsable (segments : List Segment) : Type 0 where
  pub len : ℕ
  pub limit : len ≤ LONGEST_FILE
  pub sound : AreSound len segments
