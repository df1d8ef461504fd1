-- the versions that were found are few, and they are those of the shape
use Rattle.std.proofs.Common.{Result, Ok, Err, subst}
use Rattle.std.specs.Prelude.{OnOk}
use Rattle.elf_shape.specs.Versions.{HasFewVersions}
use Rattle.elf_shape.specs.declared.versions.Versions.{Versions}
use Rattle.elf_make.proofs.object.make_object.Goals as goal

whatever_comes : {T E : Type 0} (r : Result T E) (P : Type 0) → P → OnOk r P
whatever_comes (Ok x) P p = p
whatever_comes (Err e) P p = tt

pub returns-clause-versions : goal.returns-clause-versions
returns-clause-versions c =
    whatever_comes _ _ (subst (λ (v : Versions). HasFewVersions v) c.in_ok-versions.ensures.versions c.in_ok-versions.ensures.few)
