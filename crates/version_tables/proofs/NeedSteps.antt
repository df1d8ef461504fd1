-- A step of the walk through the needs.
use Rattle.std.proofs.Common.{◌≡◌, ℕ, ◌+◌, List, Option, refl, ap, sym, subst}
use Rattle.answers.specs.Answers.{Names}
use Rattle.answers.specs.First.{first_some}
use Rattle.byte_view.specs.declared.flaws.Flaw.{Flaw}
use Rattle.load_model.specs.VersionFlaws.{verneed_flaw, verneed_flaw_at, verneeds_flaw}
use Rattle.load_model.specs.VersionTables.{file_place, verneed_count, verneed_place, vn_next}
use Rattle.version_tables.specs.Records.{verneed_words}
use Rattle.version_tables.specs.Walks.{asked_of_record, asked_of_need, file_word_of, from_on}
use Rattle.version_tables.specs.declared.records.Verneed.{Verneed}
use Rattle.version_tables.proofs.Places.{next_verneed}
use Rattle.version_tables.proofs.Walks.{from_on_all}

pub verneeds_left : (file : List ℕ) (said : ℕ) → said ≡ verneed_count file → first_some (from_on (verneed_flaw file) 0 said) ≡ verneeds_flaw file
unfolding verneeds_flaw
verneeds_left file said e = rw e (ap first_some (from_on_all (verneed_flaw file) (verneed_count file)))

pub verneed_here : (file : List ℕ) (k at : ℕ) → at ≡ verneed_place file k → verneed_flaw_at file k at ≡ verneed_flaw file k
unfolding verneed_flaw
verneed_here file k at e = ap (verneed_flaw_at file k) e

pub verneed_named : (file : List ℕ) (k at : ℕ) (o : Option Flaw) → at ≡ verneed_place file k → Names o (verneed_flaw_at file k at) → Names o (verneed_flaw file k)
verneed_named file k at o e h = subst (λ (x : Option Flaw). Names o x) (verneed_here file k at e) h

pub asked_by_here : (file : List ℕ) (k at : ℕ) → at ≡ verneed_place file k → asked_of_record file k at ≡ asked_of_need file k
unfolding asked_of_need
asked_by_here file k at e = ap (asked_of_record file k) e

pub file_word_here : (file : List ℕ) (k at : ℕ) (v : Verneed) → at ≡ verneed_place file k → v ≡ verneed_words file at → v.place + 4 ≡ file_word_of file k
unfolding file_word_of verneed_words
file_word_here file k at v e is =
    let place : v.place ≡ file_place file at 16 = ap (λ (x : Verneed). x.place) is in
    rw (place, e) refl

pub verneed_step : (file : List ℕ) (k at : ℕ) (v : Verneed) → at ≡ verneed_place file k → v ≡ verneed_words file at → at + v.next ≡ verneed_place file (k + 1)
unfolding verneed_words
verneed_step file k at v e is =
    let next : v.next ≡ vn_next file at = ap (λ (x : Verneed). x.next) is in
    rw (next, e) (sym (next_verneed file k))
