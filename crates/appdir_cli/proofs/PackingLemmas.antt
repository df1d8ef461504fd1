-- What packing comes to, from the files that are built; and it is one of its outcomes alone.
use Rattle.std.proofs.Common.{ℕ, List, [], ◌≡◌, All, refl, sym, ap, subst, ◌∙◌, length, inl, inr, Some, Result, Ok, Err}
use Rattle.std.proofs.lemmas.List.Elements.{All-nil, All-cons, All-head, All-tail}
use Rattle.std.specs.Prelude.{◌∷◌, None, Option, map}
use Rattle.std.proofs.lemmas.Slice.Zip.{AllZip-long}
use Rattle.app_config.specs.Ready.{AreTogether, IsNameText, IsReady, OpensNames}
use Rattle.app_config.specs.declared.config.Config.{Config}
use Rattle.app_config.specs.declared.config.Program.{Program}
use Rattle.appdir_build.proofs.LawLemmas.{at_most_one_outcome}
use Rattle.appdir_build.specs.Outcome.{Outcome}
use Rattle.appdir_build.specs.Writing.{Builds, IsBuilt}
use Rattle.appdir_build.specs.declared.built.Built.{Built}
use Rattle.appdir_files.specs.Writing.{AreFilesOf, IsFileOf}
use Rattle.appdir_files.specs.declared.items.Item.{Item}
use Rattle.build_plan.specs.Building.{start_of}
use Rattle.build_plan.specs.Deciding.{OpensFileNames}
use Rattle.build_plan.specs.Steps.{IsStepAnswer}
use Rattle.build_plan.specs.declared.stops.BuildStop.{BuildStop}
use Rattle.build_plan.specs.declared.stops.BuildStop.TheVariants.{Refused, Read, NoMemory}
use Rattle.build_runs.specs.declared.programs.Start.{Start}
use Rattle.command_words.specs.declared.commands.Build.{Build}
use Rattle.command_words.specs.declared.commands.Quick.{Quick}
use Rattle.config_files.proofs.ConfiguringLemmas.{one_configuration, read_or_not}
use Rattle.config_files.specs.Configuring.{IsConfigured, IsUnconfigured}
use Rattle.deliveries.specs.declared.answer.Answer.{Answer}
use Rattle.deliveries.specs.declared.answer.Answer.TheVariants.{Says, Packs as PacksFiles}
use Rattle.deliveries.specs.declared.answer.Whole.{Whole}
use Rattle.load_model.specs.World.{World}
use Rattle.path_text.specs.FileName.{IsFileName}
use Rattle.ports.specs.View.{OnlyReads, View}
use Rattle.refusals.specs.Lines.{done_line}
use Rattle.refusals.specs.declared.refusal.Refusal.{Refusal}
use Rattle.appdir_cli.specs.Packing.{IsPacked, IsUnread, Packs, PacksAlone, PacksAsRead, PacksBy, config_of}

pub packed_or_refused : (world : World) (config : Config) (out : List ℕ) (whole : Whole) (refusal : Refusal) → IsPacked world config out whole → Packs world config out (Err refusal) → ⊥
packed_or_refused world config out whole refusal packed refused =
    at_most_one_outcome world config packed.made refusal packed.builds refused

-- ---- what `build` comes to

-- An answer of `build` is one of packing by the configuration that is read.
pub by_answer : (world : World) (command : Build) (answer : Answer) → PacksBy world command (Ok answer) → PacksAsRead world command (Ok answer)
by_answer world command answer h = elim h [ inl packs ↦ packs | inr unread ↦ absurd (not_err answer unread.refusal unread.outcome_is) ]
  where
    not_err : (a : Answer) (refusal : Refusal) → Ok a ≡ Err refusal → ⊥
    not_err a refusal e = cc

pub by_says : (world : World) (command : Build) (text : List ℕ) → PacksBy world command (Ok (Says text)) → ⊥
by_says world command text h = (by_answer world command (Says text) h).packs

pub by_packed_or_refused : (world : World) (command : Build) (whole : Whole) (refusal : Refusal) → PacksBy world command (Ok (PacksFiles whole)) → PacksBy world command (Err refusal) → ⊥
by_packed_or_refused world command whole refusal packed refused =
    let p = by_answer world command (PacksFiles whole) packed in
    elim refused [
      | inl packs ↦
          packed_or_refused world p.config command.out whole refusal p.packs
          (subst (λ (c : Config). Packs world c command.out (Err refusal)) (one_configuration world command.config packs.config p.config packs.read p.read) packs.packs)
      | inr unread ↦ read_or_not world command.config p.config unread.refusal p.read unread.unread
    ]

-- ---- what the build asks of the configuration

pub opens_nothing : (command : Quick) (config : Config) → config ≡ config_of command → OpensFileNames config
opens_nothing command config e =
    let P : Start → Type 0 = λ program. All IsFileName program.opens in
    let one : Start = record { path = command.program; opens = [] } in
    subst (λ (c : Config). OpensFileNames c) (sym e) (All-cons P one [] (All-nil IsFileName) (All-nil P))

pub has_no_entry : (command : Quick) (config : Config) → config ≡ config_of command → AreTogether config.desktop config.icon
has_no_entry command config e = subst (λ (c : Config). AreTogether c.desktop c.icon) (sym e) tt

file_names : (names : List (List ℕ)) → All IsNameText names → All IsFileName names
file_names names h = λ k d less. (h k d less).0

starts_named : (programs : List Program) → All OpensNames programs → All (λ (program : Start). All IsFileName program.opens) (map start_of programs)
starts_named [] h = All-nil (λ (program : Start). All IsFileName program.opens)
starts_named (program ∷ programs) h =
    All-cons (λ (program : Start). All IsFileName program.opens) (start_of program) (map start_of programs)
    (file_names program.opens (All-head OpensNames program programs h)) (starts_named programs (All-tail OpensNames program programs h))

pub opens_names : (config : Config) → IsReady config → OpensFileNames config
opens_names config ready = starts_named (config.main ∷ config.tools) ready.opens

-- ---- from what is built

packed : (world : World) (config : Config) (out : List ℕ) (built : Built) (whole : Whole) → IsBuilt world config built → whole.place ≡ out → whole.items ≡ built.items → whole.line ≡ done_line (length built.items) built.bundled built.hosts → IsPacked world config out whole
packed world config out built whole is place items line =
    let count : length is.made.files ≡ length built.items = AllZip-long (IsFileOf (Some world)) built.items is.made.files is.files in
    record {
      made = is.made;
      builds = is.outcome;
      place = place;
      files = subst (λ (i : List Item). AreFilesOf (Some world) i is.made.files) (sym items) is.files;
      line = line ∙ (ap (λ n. done_line n built.bundled built.hosts) (sym count)
          ∙ (ap (λ n. done_line (length is.made.files) n built.hosts) is.bundled
          ∙ ap (λ n. done_line (length is.made.files) is.made.bundled n) is.hosts));
    }

-- the files that are built for a configuration are those that are packed
pub packs_built : (before after : View World) (config : Config) (out : List ℕ) (built : Built) (whole : Whole) → IsStepAnswer {A = Built} before after (λ world outcome. Builds world config outcome) (Ok built) → whole.place ≡ out → whole.items ≡ built.items → whole.line ≡ done_line (length built.items) built.bundled built.hosts → IsStepAnswer {A = Answer} before after (λ world outcome. Packs world config out outcome) (Ok (PacksFiles whole))
packs_built before after config out built whole h place items line = λ world told. packed world config out built whole (h world told) place items line

-- what is not built ends the command
pub build_stops : (before after : View World) (config : Config) (out : List ℕ) (stop : BuildStop) → IsStepAnswer {A = Built} before after (λ world outcome. Builds world config outcome) (Err stop) → IsStepAnswer {A = Answer} before after (λ world outcome. Packs world config out outcome) (Err stop)
build_stops before after config out (Refused refusal) h = h
build_stops before after config out Read h = h
build_stops before after config out NoMemory h = h

-- ---- the commands

pub packs_alone : (before after : View World) (command : Quick) (config : Config) (result : Result Answer BuildStop) → config ≡ config_of command → IsStepAnswer before after (λ world outcome. Packs world config command.out outcome) result → IsStepAnswer before after (λ world outcome. PacksAlone world command outcome) result
packs_alone before after command config result e h =
    subst (λ (c : Config). IsStepAnswer before after (λ world outcome. Packs world c command.out outcome) result) e h
