-- What generating comes to, from the files that are built; and it is one of its outcomes alone.
use Rattle.std.proofs.Common.{ℕ, List, [], ◌≡◌, All, refl, sym, ap, subst, ◌∙◌, length, option_map, Some, Ok, Err}
use Rattle.std.proofs.lemmas.List.Elements.{All-nil, All-cons}
use Rattle.std.proofs.lemmas.Slice.Zip.{AllZip-long}
use Rattle.app_config.specs.Ready.{AreTogether}
use Rattle.app_config.specs.declared.config.Config.{Config}
use Rattle.appdir_build.proofs.LawLemmas.{at_most_one_outcome}
use Rattle.appdir_build.specs.Outcome.{Outcome, Package}
use Rattle.appdir_build.specs.Writing.{Builds, IsBuilt}
use Rattle.appdir_build.specs.declared.built.Built.{Built}
use Rattle.appdir_files.specs.Writing.{IsFileOf}
use Rattle.build_plan.specs.Deciding.{OpensFileNames}
use Rattle.build_plan.specs.Steps.{IsStepAnswer}
use Rattle.build_plan.specs.declared.stops.BuildStop.{BuildStop}
use Rattle.build_plan.specs.declared.stops.BuildStop.TheVariants.{Refused, Read, NoMemory}
use Rattle.build_runs.specs.declared.programs.Start.{Start}
use Rattle.deliveries.specs.declared.answer.Answer.{Answer}
use Rattle.deliveries.specs.declared.answer.Answer.TheVariants.{Says}
use Rattle.deliveries.specs.declared.answer.Whole.{Whole}
use Rattle.deliveries.specs.declared.status.Status.{Status}
use Rattle.deliveries.specs.declared.status.Status.TheVariants.{Done}
use Rattle.deliveries.specs.Delivery.{IsDelivered}
use Rattle.elf_make.specs.Generator.{program_path}
use Rattle.load_model.specs.World.{World}
use Rattle.path_text.specs.FileName.{IsFileName}
use Rattle.ports.specs.Folder.{Folder}
use Rattle.ports.specs.View.{View, with_line}
use Rattle.refusals.specs.declared.refusal.Refusal.{Refusal}
use Rattle.appdir_cli.specs.Generating.{Generates, IsGenerated, counts_in, counts_of, gen_config, gen_line}

pub generated_or_refused : (world : World) (count : ℕ) (text : List ℕ) (refusal : Refusal) → IsGenerated world count text → Generates world count (Err refusal) → ⊥
generated_or_refused world count text refusal generated refused =
    at_most_one_outcome world gen_config generated.made refusal generated.builds refused

-- ---- what the build asks of the configuration

pub gen_entry : (config : Config) → config ≡ gen_config → AreTogether config.desktop config.icon
gen_entry config e = subst (λ (c : Config). AreTogether c.desktop c.icon) (sym e) tt

pub gen_opens : (config : Config) → config ≡ gen_config → OpensFileNames config
gen_opens config e =
    let P : Start → Type 0 = λ program. All IsFileName program.opens in
    let one : Start = record { path = program_path; opens = [] } in
    subst (λ (c : Config). OpensFileNames c) (sym e) (All-cons P one [] (All-nil IsFileName) (All-nil P))

-- ---- from what is built

same_counts : (built : Built) (made : Package) → built.bundled ≡ made.bundled → built.hosts ≡ made.hosts → built.references ≡ made.references → built.bound ≡ made.bound → built.objects ≡ made.objects → length built.items ≡ length made.files → counts_in built ≡ counts_of made
same_counts built made bundled hosts references bound objects files = cc

generated : (world : World) (count : ℕ) (built : Built) (text : List ℕ) → IsBuilt world gen_config built → text ≡ gen_line count (counts_in built) → IsGenerated world count text
generated world count built text is line = record {
  made = is.made;
  builds = is.outcome;
  line = line ∙ ap (gen_line count) (same_counts built is.made is.bundled is.hosts is.references is.bound is.objects (sym (AllZip-long (IsFileOf (Some world)) built.items is.made.files is.files)));
}

pub generates : (before after : View World) (count : ℕ) (config : Config) (built : Built) (text : List ℕ) → config ≡ gen_config → IsStepAnswer {A = Built} before after (λ world outcome. Builds world config outcome) (Ok built) → text ≡ gen_line count (counts_in built) → IsStepAnswer {A = Answer} before after (λ world outcome. Generates world count outcome) (Ok (Says text))
generates before after count config built text e h line = λ world told.
    generated world count built text (subst (λ (c : Config). IsBuilt world c built) e (h world told)) line

pub generating_stops : (before after : View World) (count : ℕ) (config : Config) (stop : BuildStop) → config ≡ gen_config → IsStepAnswer {A = Built} before after (λ world outcome. Builds world config outcome) (Err stop) → IsStepAnswer {A = Answer} before after (λ world outcome. Generates world count outcome) (Err stop)
generating_stops before after count config (Refused refusal) e h = λ world told. subst (λ (c : Config). Outcome world c (Err refusal)) e (h world told)
generating_stops before after count config Read e h = h
generating_stops before after count config NoMemory e h = tt

-- ---- the line that a sink in memory took

pub line_taken : (whole : Whole) (tree tree' : View World) (folder folder' : View Folder) (sink sink' : View (List ℕ)) (taken : List ℕ) (status : Status) → sink.told ≡ Some [] → IsDelivered whole tree tree' folder folder' sink sink' status → status ≡ Done → sink'.told ≡ Some taken → taken ≡ whole.line
line_taken whole tree tree' folder folder' sink sink' taken status empty given done held =
    let is = subst (λ (s : Status). IsDelivered whole tree tree' folder folder' sink sink' s) done given in
    let took : Some taken ≡ Some whole.line = sym held ∙ (is.1 ∙ ap (option_map (with_line whole.line)) empty) in
    cc

-- ---- in the tree that is made

pub refused_in : (before after : View World) (made : World) (count : ℕ) (stop : BuildStop) (refusal : Refusal) → stop ≡ Refused refusal → before.told ≡ Some made → IsStepAnswer {A = Answer} before after (λ world outcome. Generates world count outcome) (Err stop) → Generates made count (Err refusal)
refused_in before after made count stop refusal e told h =
    subst (λ (s : BuildStop). IsStepAnswer {A = Answer} before after (λ world outcome. Generates world count outcome) (Err s)) e h made told
