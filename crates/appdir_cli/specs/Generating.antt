-- What `gen N` comes to in the tree that it makes: a line of what packing its program counts, or
-- the first refusal.
use Rattle.std.specs.Prelude.{ℕ, List, [], ◌∷◌, ◌++◌, ◌≡◌, Result, Ok, Err, codes, length}
use Rattle.std.specs.Fmt.{decimal}
use Rattle.app_config.specs.Configs.{quick_config_of}
use Rattle.app_config.specs.Settings.{setting_of}
use Rattle.app_config.specs.declared.config.Config.{Config}
use Rattle.appdir_build.specs.Outcome.{Outcome, Package}
use Rattle.deliveries.specs.declared.answer.Answer.{Answer}
use Rattle.deliveries.specs.declared.answer.Answer.TheVariants.{Says, Packs as PacksFiles}
use Rattle.elf_make.specs.Generator.{program_path}
use Rattle.load_model.specs.World.{World}
use Rattle.refusals.specs.declared.refusal.Refusal.{Refusal}
use Rattle.appdir_build.specs.declared.built.Built.{Built}
use Rattle.appdir_cli.specs.declared.generating.Counts.{Counts}

-- The generated program is packed as `quick` packs one, with the default names and one directory.
abbrev pub gen_config : Config
gen_config =
    record (quick_config_of program_path []) { setting = setting_of (codes "/lib64" ∷ []) }

abbrev pub counts_of : Package → Counts
counts_of made = record {
  objects = made.objects;
  bundled = made.bundled;
  hosts = made.hosts;
  references = made.references;
  bound = made.bound;
  files = length made.files;
}

-- The same of what is built.
abbrev pub counts_in : Built → Counts
counts_in built = record {
  objects = built.objects;
  bundled = built.bundled;
  hosts = built.hosts;
  references = built.references;
  bound = built.bound;
  files = length built.items;
}

-- The line for so many generated libraries, with what was counted: objects and libraries, and then
-- references and files.
abbrev pub objects_text : ℕ → Counts → List ℕ
objects_text count counts =
    codes "gen " ++ (decimal count ++ (codes ": "
    ++ (decimal counts.objects ++ (codes " objects, "
    ++ (decimal counts.bundled ++ (codes " bundled, "
    ++ (decimal counts.hosts ++ codes " host libraries, ")))))))

abbrev pub references_text : Counts → List ℕ
references_text counts =
    decimal counts.references ++ (codes " references, "
    ++ (decimal counts.bound ++ (codes " bound, "
    ++ (decimal counts.files ++ (codes " files" ++ 10 ∷ [])))))

abbrev pub gen_line : ℕ → Counts → List ℕ
gen_line count counts = objects_text count counts ++ references_text counts

-- The line over the directory of the world's program.
pub record IsGenerated (world : World) (count : ℕ) (text : List ℕ) : Type 0 where
  pub made : Package
  pub builds : Outcome world gen_config (Ok made)
  pub line : text ≡ gen_line count (counts_of made)

abbrev pub Generates : World → ℕ → Result Answer Refusal → Type 0
Generates world count (Ok (Says text)) = IsGenerated world count text
Generates world count (Ok (PacksFiles whole)) = ⊥
Generates world count (Err refusal) = Outcome world gen_config (Err refusal)
