-- What showing a program comes to, from its steps; and it is one of its outcomes alone.
use Rattle.std.proofs.Common.{ℕ, List, [], ◌∷◌, ◌++◌, ◌≡◌, All, refl, sym, subst, ap, ◌∙◌, Option, Some, None, Result, Ok, Err, IfOk, IfSome}
use Rattle.std.proofs.lemmas.List.Elements.{All-head, All-tail}
use Rattle.std.specs.Option.{option_to_list}
use Rattle.app_config.specs.Settings.{setting_of}
use Rattle.build_plan.specs.Refusals.{stop_of_loads}
use Rattle.build_plan.specs.Steps.{IsStepAnswer}
use Rattle.build_plan.specs.declared.stops.BuildStop.{BuildStop}
use Rattle.build_runs.proofs.LawLemmas.{runs_or_stop}
use Rattle.build_runs.specs.Answering.{IsLoadsAnswer}
use Rattle.build_runs.specs.BuildRuns.{AreRuns}
use Rattle.build_runs.specs.FirstStops.{IsFirstStop}
use Rattle.build_runs.specs.declared.loading.LoadedRuns.{LoadedRuns}
use Rattle.build_runs.specs.declared.programs.Start.{Start}
use Rattle.build_runs.specs.declared.stops.LoadsStop.{LoadsStop}
use Rattle.build_runs.specs.declared.stops.LoadsStop.TheVariants.{Refused, Read, NoMemory}
use Rattle.deliveries.specs.declared.answer.Answer.{Answer}
use Rattle.deliveries.specs.declared.answer.Answer.TheVariants.{Says}
use Rattle.load_model.specs.Runs.{IsRunOver}
use Rattle.load_model.specs.World.{World}
use Rattle.load_model.specs.declared.faces.Face.{Face}
use Rattle.load_model.specs.declared.runs.Run.{Run}
use Rattle.load_model.specs.declared.setting.Setting.{Setting}
use Rattle.ports.specs.View.{View}
use Rattle.refusals.specs.declared.refusal.Refusal.{Refusal}
use Rattle.refusals.specs.declared.refusal.Refusal.TheVariants.{Config, Load, Split, Names, Rewrite, Files, Folder}
use Rattle.appdir_cli.specs.Showing.{IsShown, Shows, ShowsIn, shown_program, shown_text}
use Rattle.command_words.specs.declared.commands.Show.{Show}

pub shown_or_refused : (world : World) (command : Show) (text : List ℕ) (refusal : Refusal) → IsShown (setting_of command.dirs) world command.program text → Shows world command (Err refusal) → ⊥
shown_or_refused world command text (Config refusal) shown refused = refused
shown_or_refused world command text (Load refusal) shown refused =
    runs_or_stop (setting_of command.dirs) world (shown_program command.program ∷ []) shown.faces (shown.run ∷ []) refusal shown.loads refused
shown_or_refused world command text (Split refusal) shown refused = refused
shown_or_refused world command text (Names refusal) shown refused = refused
shown_or_refused world command text (Rewrite refusal) shown refused = refused
shown_or_refused world command text (Files refusal) shown refused = refused
shown_or_refused world command text (Folder refusal) shown refused = refused

-- ---- the last of the runs, which is the one run where there is one

pub last_is : (runs front : List Run) (last : Option Run) → runs ≡ front ++ option_to_list last → IfSome last (λ run. (before : List Run) × (runs ≡ before ++ run ∷ []))
last_is runs front (Some run) e = (front, e)
last_is runs front None e = tt

all_last : (P : Run → Type 0) (front : List Run) (run : Run) → All P (front ++ run ∷ []) → P run
all_last P [] run h = All-head P run [] h
all_last P (r ∷ front) run h = all_last P front run (All-tail P r (front ++ run ∷ []) h)

pub last_over : (faces : List Face) (runs front : List Run) (run : Run) → runs ≡ front ++ run ∷ [] → All (IsRunOver faces) runs → IsRunOver faces run
last_over faces runs front run e h = all_last (IsRunOver faces) front run (subst (λ (l : List Run). All (IsRunOver faces) l) e h)

one_last : (front : List Run) (run only : Run) → front ++ run ∷ [] ≡ only ∷ [] → run ≡ only
one_last [] run only e = cc
one_last (r ∷ []) run only e = absurd (cc)
one_last (r ∷ s ∷ front) run only e = absurd (cc)

pub text_said : {E : Type 0} (faces : List Face) (runs front : List Run) (run : Run) (result : Result (List ℕ) E) → runs ≡ front ++ run ∷ [] → IfOk result (λ text. text ≡ shown_text faces run) → IfOk result (λ text. (only : Run) → runs ≡ only ∷ [] → text ≡ shown_text faces only)
text_said faces runs front run (Ok text) e h = λ only one. h ∙ ap (shown_text faces) (one_last front run only (sym e ∙ one))
text_said faces runs front run (Err error) e h = tt

-- ---- from loading

-- a program that is not loaded ends the command
pub loading_stops : (setting : Setting) (before after : View World) (path : List ℕ) (programs : List Start) (stop : LoadsStop) → programs ≡ shown_program path ∷ [] → IsLoadsAnswer setting before after programs (Err stop) → IsStepAnswer {A = Answer} before after (λ world outcome. ShowsIn setting world path outcome) (Err (stop_of_loads stop))
loading_stops setting before after path programs (Refused refusal) e h = λ world told. subst (λ (l : List Start). IsFirstStop setting world l refusal) e (h world told)
loading_stops setting before after path programs Read e h = h
loading_stops setting before after path programs NoMemory e h = tt

module _ (setting : Setting) (world : World) (path text : List ℕ) (faces : List Face) where
  shown_one : (runs : List Run) → AreRuns setting world (shown_program path ∷ []) faces runs → ((run : Run) → runs ≡ run ∷ [] → text ≡ shown_text faces run) → IsShown setting world path text
  shown_one [] are said = absurd are.each
  shown_one (run ∷ []) are said = record { faces = faces; run = run; loads = are; text_is = said run refl }
  shown_one (run ∷ other ∷ runs) are said = absurd are.each.1

-- what is said of the run that was loaded is said of the world's
pub shown : (setting : Setting) (before after : View World) (path : List ℕ) (programs : List Start) (loaded : LoadedRuns) (text : List ℕ) → programs ≡ shown_program path ∷ [] → IsLoadsAnswer setting before after programs (Ok loaded) → ((run : Run) → loaded.runs ≡ run ∷ [] → text ≡ shown_text loaded.table.faces run) → IsStepAnswer {A = Answer} before after (λ world outcome. ShowsIn setting world path outcome) (Ok (Says text))
shown setting before after path programs loaded text e h said = λ world told.
    shown_one setting world path text loaded.table.faces loaded.runs (subst (λ (l : List Start). AreRuns setting world l loaded.table.faces loaded.runs) e (h world told)) said

-- one setting is that of the command
pub shown_there : (setting : Setting) (before after : View World) (command : Show) (result : Result Answer BuildStop) → setting ≡ setting_of command.dirs → IsStepAnswer before after (λ world outcome. ShowsIn setting world command.program outcome) result → IsStepAnswer before after (λ world outcome. Shows world command outcome) result
shown_there setting before after command result is h = subst (λ (s : Setting). IsStepAnswer before after (λ world outcome. ShowsIn s world command.program outcome) result) is h
