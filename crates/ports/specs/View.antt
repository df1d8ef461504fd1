-- What an object of the outside tells of itself, and how many faults it has met.
use Rattle.std.specs.Prelude.{List, ℕ, ◌++◌, ◌≡◌, ◌≤◌, Option, Some, option_map, Result, OnErr}
use Rattle.answers.specs.Faults.{Rose}
use Rattle.answers.specs.Told.{WhereTold}

-- it tells all or nothing; the count of faults stands still at its last value
pub record View (A : Type 0) : Type 0 where
  pub told : Option A
  pub faults : ℕ

-- it tells what the change makes of what it told before
abbrev pub Became : {A : Type 0} → (A → A) → View A → View A → Type 0
Became change before after = after.told ≡ option_map change before.told

-- it tells what it told before
abbrev pub Stays : {A : Type 0} → View A → View A → Type 0
Stays before after = after.told ≡ before.told

-- where it told something before, it tells something now, and the two are so related
abbrev pub Changed : {A : Type 0} → (A → A → Type 0) → View A → View A → Type 0
Changed {A} P before after =
    WhereTold before.told (λ old. (latest : A) × (after.told ≡ Some latest) × P old latest)

-- the count of faults fell in no case, and it rose where the call failed
pub record HasCause {V A E : Type 0} (before after : View V) (result : Result A E) : Type 0 where
  pub never_falls : before.faults ≤ after.faults
  pub failed : OnErr result (Rose before.faults after.faults)

-- the object was read alone: it tells what it told, and the count of faults fell in no case
pub record OnlyReads {V : Type 0} (before after : View V) : Type 0 where
  pub stays : Stays before after
  pub never_falls : before.faults ≤ after.faults

-- what a sink took, with this text at its end
abbrev pub with_line : List ℕ → List ℕ → List ℕ
with_line text taken = taken ++ text
