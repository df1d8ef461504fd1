-- Opened names that pass the test are file names.
use Rattle.std.proofs.Common.{◌≡◌, List, [], ◌∷◌, Bool, true, All}
use Rattle.std.specs.List.{list_all}
use Rattle.std.proofs.lemmas.Bool.{and_parts}
use Rattle.std.proofs.lemmas.List.Elements.{All-cons, All-nil}
use Rattle.load_model.specs.declared.runs.Run.{Run}
use Rattle.path_text.proofs.NameLemmas.{IsFileName-from_test}
use Rattle.path_text.specs.FileName.{IsFileName, is_file_name_text}

all_pass : {X : Type 0} (P : X → Type 0) (p : X → Bool) → ((x : X) → p x ≡ true → P x) → (xs : List X) → list_all p xs ≡ true → All P xs
all_pass P p holds [] h = All-nil P
all_pass P p holds (x ∷ xs) h =
    let both = and_parts (p x) (list_all p xs) h in
    All-cons P x xs (holds x both.0) (all_pass P p holds xs both.1)

pub opens_named : (runs : List Run) → list_all (λ (run : Run). list_all is_file_name_text run.opens) runs ≡ true → All (λ (run : Run). All IsFileName run.opens) runs
opens_named runs h =
    all_pass (λ (run : Run). All IsFileName run.opens) (λ (run : Run). list_all is_file_name_text run.opens)
    (λ run g. all_pass IsFileName is_file_name_text IsFileName-from_test run.opens g) runs h
