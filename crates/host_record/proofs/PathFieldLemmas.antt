-- A path in normal form is read as itself.
use Rattle.std.proofs.Common.{◌≡◌, ◌∙◌, sym, ap, refl, ℕ, List, subst, ◌⊎◌, inl, inr}
use Rattle.std.specs.Prelude.{Some, Result, Ok, Err}
use Rattle.answers.specs.Answers.{Answers}
use Rattle.path_text.specs.Path.{path_of, said_of_path}
use Rattle.path_text.specs.declared.absolute.PathFault.{PathFault}
use Rattle.path_text.specs.declared.absolute.PathFault.TheVariants.{Empty, Relative, HasNul, NotText, NoMemory}
use Rattle.path_text.proofs.PathLemmas.{path_of-IsNormalPath}
use Rattle.load_model.specs.Escaping.{escaped}
use Rattle.load_model.proofs.Escaped.{told}
use Rattle.host_record.specs.Lines.{IsPathBytes}
use Rattle.host_record.specs.Unescaping.{IsEscaped}

-- the answer is this path, or memory was refused
abbrev pub IsThis : List ℕ → Result (List ℕ) PathFault → Type 0
IsThis path (Ok p) = p ≡ path
IsThis path (Err e) = e ≡ NoMemory

this : (path : List ℕ) (answer : Result (List ℕ) PathFault) → Answers said_of_path answer (Ok path) → IsThis path answer
this path (Ok p) h = cc
this path (Err NoMemory) h = refl
this path (Err Empty) h = cc
this path (Err Relative) h = cc
this path (Err HasNul) h = cc
this path (Err NotText) h = cc

pub read_this : (field bytes given path : List ℕ) (answer : Result (List ℕ) PathFault) → IsEscaped field (Some bytes) → given ≡ bytes → IsPathBytes path → field ≡ escaped path → Answers said_of_path answer (path_of given) → IsThis path answer
read_this field bytes given path answer u g p e h =
    let same = told bytes path u.0 p.0 (sym u.1 ∙ e) in
    this path answer (subst (λ (r : Result (List ℕ) PathFault). Answers said_of_path answer r) (ap path_of (g ∙ same) ∙ path_of-IsNormalPath path p.1) h)

pub same_bytes_read : (field bytes path : List ℕ) → IsEscaped field (Some bytes) → IsPathBytes path → field ≡ escaped path → bytes ≡ path
same_bytes_read field bytes path u p e = told bytes path u.0 p.0 (sym u.1 ∙ e)

pub not_refused : (e : PathFault) → e ≡ NoMemory → (e ≡ Empty) ⊎ ((e ≡ Relative) ⊎ ((e ≡ HasNul) ⊎ (e ≡ NotText))) → ⊥
not_refused e h (inl a) = cc
not_refused e h (inr (inl a)) = cc
not_refused e h (inr (inr (inl a))) = cc
not_refused e h (inr (inr (inr a))) = cc
