-- The lines that the program prints.
use Rattle.std.specs.Prelude.{ℕ, List, [], ◌∷◌, ◌++◌, codes}
use Rattle.std.specs.Fmt.{decimal}
use Rattle.refusals.specs.ConfigRefusal.{config_evidence, config_number}
use Rattle.refusals.specs.FileRefusal.{file_evidence, file_number}
use Rattle.refusals.specs.FolderRefusal.{folder_evidence, folder_number}
use Rattle.refusals.specs.LoadRefusal.{load_evidence, load_number}
use Rattle.refusals.specs.NameRefusal.{name_evidence, name_number}
use Rattle.refusals.specs.RewriteRefusal.{rewrite_evidence, rewrite_number}
use Rattle.refusals.specs.SplitRefusal.{split_evidence, split_number}
use Rattle.refusals.specs.declared.refusal.Refusal.{Refusal}
use Rattle.refusals.specs.declared.refusal.Refusal.TheVariants.{Config, Load, Split, Names, Rewrite, Files, Folder}

-- The line for words of no shape.
abbrev pub usage_text : List ℕ
usage_text =
    codes "usage: appdir quick PROGRAM OUT [NAME ..] | build CONFIG OUT | show PROGRAM [DIR ..] | host OUT [DIR ..] | verify CONFIG OUT | gen N" ++ 10 ∷ []

-- The number of a refusal, and what it says with its evidence.
abbrev pub refusal_number : Refusal → ℕ
refusal_number (Config refusal) = config_number refusal
refusal_number (Load refusal) = load_number refusal
refusal_number (Split refusal) = split_number refusal
refusal_number (Names refusal) = name_number refusal
refusal_number (Rewrite refusal) = rewrite_number refusal
refusal_number (Files refusal) = file_number refusal
refusal_number (Folder refusal) = folder_number refusal

abbrev pub evidence : Refusal → List ℕ
evidence (Config refusal) = config_evidence refusal
evidence (Load refusal) = load_evidence refusal
evidence (Split refusal) = split_evidence refusal
evidence (Names refusal) = name_evidence refusal
evidence (Rewrite refusal) = rewrite_evidence refusal
evidence (Files refusal) = file_evidence refusal
evidence (Folder refusal) = folder_evidence refusal

-- The line that says a refusal.
abbrev pub refusal_line : Refusal → List ℕ
refusal_line refusal =
    codes "refused "
    ++ (decimal (refusal_number refusal) ++ (codes ": " ++ (evidence refusal ++ 10 ∷ [])))

-- The line for a whole AppDir: how many files it has, and how many libraries are bundled and
-- expected of the host.
abbrev pub done_line : ℕ → ℕ → ℕ → List ℕ
done_line files bundled hosts =
    codes "done: "
    ++ (decimal files ++ (codes " files, "
    ++ (decimal bundled ++ (codes " bundled, "
    ++ (decimal hosts ++ (codes " host libraries" ++ 10 ∷ []))))))
