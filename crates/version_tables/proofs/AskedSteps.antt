-- A step of the walk through the versions that a need asks of its file.
use Rattle.std.proofs.Common.{◌≡◌, ℕ, ◌+◌, List, [], ◌∷◌, ◌++◌, Option, refl, ap, sym, subst, ◌∙◌}
use Rattle.answers.specs.Answers.{Names}
use Rattle.answers.specs.First.{first_some}
use Rattle.byte_view.specs.declared.flaws.Flaw.{Flaw}
use Rattle.load_model.specs.VersionFlaws.{bad_next, bad_text, bad_vernaux, vernaux_flaw, vernaux_flaw_at, vernauxs_flaw}
use Rattle.load_model.specs.VersionTables.{vernaux_place, vn_aux, vn_cnt, vna_name, vna_next}
use Rattle.version_tables.specs.Records.{asked_at, asked_with, vernaux_words, verneed_words}
use Rattle.version_tables.specs.Walks.{asked_of_record, asked_of, from_on}
use Rattle.version_tables.specs.declared.asked.Asked.{Asked}
use Rattle.version_tables.specs.declared.records.Vernaux.{Vernaux}
use Rattle.version_tables.specs.declared.records.Verneed.{Verneed}
use Rattle.version_tables.proofs.Places.{first_vernaux, next_vernaux}
use Rattle.version_tables.proofs.Walks.{from_on_all}

pub asked_said : (file : List ℕ) (at : ℕ) (v : Verneed) → v ≡ verneed_words file at → v.cnt ≡ vn_cnt file at
unfolding verneed_words
asked_said file at v is = ap (λ (x : Verneed). x.cnt) is

pub asked_first : (file : List ℕ) (at : ℕ) (v : Verneed) → v ≡ verneed_words file at → at + v.aux ≡ vernaux_place file at 0
unfolding verneed_words
asked_first file at v is =
    let aux : v.aux ≡ vn_aux file at = ap (λ (x : Verneed). x.aux) is in
    rw aux (sym (first_vernaux file at))

pub vernauxs_left : (file : List ℕ) (at said : ℕ) → said ≡ vn_cnt file at → first_some (from_on (vernaux_flaw file at) 0 said) ≡ vernauxs_flaw file at
unfolding vernauxs_flaw
vernauxs_left file at said e = rw e (ap first_some (from_on_all (vernaux_flaw file at) (vn_cnt file at)))

pub asked_left : (file : List ℕ) (number at said : ℕ) (done : List Asked) → said ≡ vn_cnt file at → done ++ from_on (asked_of file number at) 0 said ≡ done ++ asked_of_record file number at
unfolding asked_of_record
asked_left file number at said done e = rw e refl

-- the checks of a Vernaux are those of its number
pub vernaux_here : (file : List ℕ) (at j aux said : ℕ) → aux ≡ vernaux_place file at j → said ≡ vn_cnt file at → first_some (bad_vernaux file aux ∷ bad_text file (vna_name file aux) ∷ bad_next said j (vna_next file aux) ∷ []) ≡ vernaux_flaw file at j
unfolding vernaux_flaw
vernaux_here file at j aux said e s =
    ap (λ (n : ℕ). first_some (bad_vernaux file aux ∷ bad_text file (vna_name file aux) ∷ bad_next n j (vna_next file aux) ∷ [])) s ∙ ap (vernaux_flaw_at file at j) e

pub vernaux_named : (file : List ℕ) (at j aux said : ℕ) (o : Option Flaw) → aux ≡ vernaux_place file at j → said ≡ vn_cnt file at → Names o (first_some (bad_vernaux file aux ∷ bad_text file (vna_name file aux) ∷ bad_next said j (vna_next file aux) ∷ [])) → Names o (vernaux_flaw file at j)
vernaux_named file at j aux said o e s h = subst (λ (x : Option Flaw). Names o x) (vernaux_here file at j aux said e s) h

pub vernaux_step : (file : List ℕ) (at j aux : ℕ) (v : Vernaux) → aux ≡ vernaux_place file at j → v ≡ vernaux_words file aux → aux + v.next ≡ vernaux_place file at (j + 1)
unfolding vernaux_words
vernaux_step file at j aux v e is =
    let next : v.next ≡ vna_next file aux = ap (λ (x : Vernaux). x.next) is in
    rw (next, e) (sym (next_vernaux file at j))

asked_same : (file : List ℕ) (number at aux : ℕ) → asked_with number (verneed_words file at) (vernaux_words file aux) ≡ asked_at file number at aux
unfolding asked_at verneed_words vernaux_words
asked_same file number at aux = refl

pub asked_here : (file : List ℕ) (number at j aux : ℕ) (verneed : Verneed) (v : Vernaux) (a : Asked) → aux ≡ vernaux_place file at j → verneed ≡ verneed_words file at → v ≡ vernaux_words file aux → a ≡ asked_with number verneed v → a ≡ asked_of file number at j
unfolding asked_of
asked_here file number at j aux verneed v a e n is made =
    let same : asked_with number verneed v ≡ asked_with number (verneed_words file at) (vernaux_words file aux) = ap (λ (x : Verneed). asked_with number x v) n ∙ ap (asked_with number (verneed_words file at)) is in
    made ∙ (same ∙ (asked_same file number at aux ∙ ap (asked_at file number at) e))
