-- What `show` comes to: the text of the program's run in its directories, or the first refusal.
use Rattle.std.specs.Prelude.{ℕ, List, [], ◌∷◌, ◌≡◌, Result, Ok, Err}
use Rattle.app_config.specs.Settings.{setting_of}
use Rattle.build_texts.specs.Texts.{replay_in}
use Rattle.bind_report.specs.Places.{no_places}
use Rattle.bind_report.specs.Report.{report_text}
use Rattle.build_runs.specs.BuildRuns.{AreRuns}
use Rattle.build_runs.specs.FirstStops.{IsFirstStop}
use Rattle.build_runs.specs.declared.programs.Start.{Start}
use Rattle.deliveries.specs.declared.answer.Answer.{Answer}
use Rattle.deliveries.specs.declared.answer.Answer.TheVariants.{Says, Packs as PacksFiles}
use Rattle.load_model.specs.World.{World}
use Rattle.load_model.specs.declared.faces.Face.{Face}
use Rattle.load_model.specs.declared.runs.Run.{Run}
use Rattle.load_model.specs.declared.setting.Setting.{Setting}
use Rattle.refusals.specs.declared.refusal.Refusal.{Refusal}
use Rattle.refusals.specs.declared.refusal.Refusal.TheVariants.{Config, Load, Split, Names, Rewrite, Files, Folder}
use Rattle.command_words.specs.declared.commands.Show.{Show}

-- What a program loads, with the bindings of all its references.
unfoldable pub shown_text : List Face → Run → List ℕ
shown_text faces run =
    report_text (replay_in faces run ∷ []) faces (no_places run.objs ∷ [])

-- The program alone, which opens nothing.
abbrev pub shown_program : List ℕ → Start
shown_program path = record { path = path; opens = [] }

-- The text of the program's run, whose versions are met.
pub record IsShown (setting : Setting) (world : World) (path text : List ℕ) : Type 0 where
  pub faces : List Face
  pub run : Run
  pub loads : AreRuns setting world (shown_program path ∷ []) faces (run ∷ [])
  pub text_is : text ≡ shown_text faces run

abbrev pub ShowsIn : Setting → World → List ℕ → Result Answer Refusal → Type 0
ShowsIn setting world path (Ok (Says text)) = IsShown setting world path text
ShowsIn setting world path (Ok (PacksFiles whole)) = ⊥
ShowsIn setting world path (Err (Config refusal)) = ⊥
ShowsIn setting world path (Err (Load refusal)) =
    IsFirstStop setting world (shown_program path ∷ []) refusal
ShowsIn setting world path (Err (Split refusal)) = ⊥
ShowsIn setting world path (Err (Names refusal)) = ⊥
ShowsIn setting world path (Err (Rewrite refusal)) = ⊥
ShowsIn setting world path (Err (Files refusal)) = ⊥
ShowsIn setting world path (Err (Folder refusal)) = ⊥

-- The same in the directories of the command.
abbrev pub Shows : World → Show → Result Answer Refusal → Type 0
Shows world command outcome =
    ShowsIn (setting_of command.dirs) world command.program outcome
