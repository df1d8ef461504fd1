-- A step of the walk through the definitions.
use Rattle.std.proofs.Common.{◌≡◌, ℕ, ◌+◌, List, Option, ap, sym, subst}
use Rattle.answers.specs.Answers.{Names}
use Rattle.answers.specs.First.{first_some}
use Rattle.byte_view.specs.declared.flaws.Flaw.{Flaw}
use Rattle.load_model.specs.VersionFlaws.{verdef_flaw, verdef_flaw_at, verdefs_flaw}
use Rattle.load_model.specs.VersionTables.{vd_next, verdef_count, verdef_place}
use Rattle.version_tables.specs.Records.{definition_at}
use Rattle.version_tables.specs.Walks.{definition_of, from_on}
use Rattle.version_tables.specs.declared.definitions.Definition.{Definition}
use Rattle.version_tables.proofs.Places.{next_verdef}
use Rattle.version_tables.proofs.Walks.{from_on_all}

pub verdefs_left : (file : List ℕ) (said : ℕ) → said ≡ verdef_count file → first_some (from_on (verdef_flaw file) 0 said) ≡ verdefs_flaw file
unfolding verdefs_flaw
verdefs_left file said e = rw e (ap first_some (from_on_all (verdef_flaw file) (verdef_count file)))

pub verdef_here : (file : List ℕ) (k at : ℕ) → at ≡ verdef_place file k → verdef_flaw_at file k at ≡ verdef_flaw file k
unfolding verdef_flaw
verdef_here file k at e = ap (verdef_flaw_at file k) e

pub definition_here : (file : List ℕ) (k at : ℕ) → at ≡ verdef_place file k → definition_at file at ≡ definition_of file k
unfolding definition_of
definition_here file k at e = ap (definition_at file) e

pub verdef_step : (file : List ℕ) (k at : ℕ) (d : Definition) → at ≡ verdef_place file k → d ≡ definition_at file at → at + d.next ≡ verdef_place file (k + 1)
unfolding definition_at
verdef_step file k at d e is =
    let next : d.next ≡ vd_next file at = ap (λ (x : Definition). x.next) is in
    rw (next, e) (sym (next_verdef file k))

pub verdef_named : (file : List ℕ) (k at : ℕ) (o : Option Flaw) → at ≡ verdef_place file k → Names o (verdef_flaw_at file k at) → Names o (verdef_flaw file k)
verdef_named file k at o e h = subst (λ (x : Option Flaw). Names o x) (verdef_here file k at e) h
