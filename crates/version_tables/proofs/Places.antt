-- Where the records of each walk lie.
use Rattle.std.proofs.Common.{◌≡◌, ℕ, ◌+◌, List, refl, add-one}
use Rattle.std.specs.Option.{unwrap_or}
use Rattle.byte_view.specs.declared.constants.TheConstants.{DT_VERDEF, DT_VERNEED}
use Rattle.load_model.specs.VersionTables.{dynamic_value, record_place, vd_next, verdef_place, vernaux_place, verneed_place, vn_aux, vn_next, vna_next}

pub next_place : (next : ℕ → ℕ) (first k : ℕ) → record_place next first (k + 1) ≡ record_place next first k + next (record_place next first k)
unfolding record_place
next_place next first k = rw add-one refl

pub first_verdef : (file : List ℕ) → verdef_place file 0 ≡ unwrap_or (dynamic_value file DT_VERDEF) 0
unfolding verdef_place record_place
first_verdef file = refl

pub next_verdef : (file : List ℕ) (k : ℕ) → verdef_place file (k + 1) ≡ verdef_place file k + vd_next file (verdef_place file k)
unfolding verdef_place
next_verdef file k = next_place (vd_next file) (unwrap_or (dynamic_value file DT_VERDEF) 0) k

pub first_verneed : (file : List ℕ) → verneed_place file 0 ≡ unwrap_or (dynamic_value file DT_VERNEED) 0
unfolding verneed_place record_place
first_verneed file = refl

pub next_verneed : (file : List ℕ) (k : ℕ) → verneed_place file (k + 1) ≡ verneed_place file k + vn_next file (verneed_place file k)
unfolding verneed_place
next_verneed file k = next_place (vn_next file) (unwrap_or (dynamic_value file DT_VERNEED) 0) k

pub first_vernaux : (file : List ℕ) (verneed : ℕ) → vernaux_place file verneed 0 ≡ verneed + vn_aux file verneed
unfolding vernaux_place record_place
first_vernaux file verneed = refl

pub next_vernaux : (file : List ℕ) (verneed j : ℕ) → vernaux_place file verneed (j + 1) ≡ vernaux_place file verneed j + vna_next file (vernaux_place file verneed j)
unfolding vernaux_place
next_vernaux file verneed j = next_place (vna_next file) (verneed + vn_aux file verneed) j
