-- What is assembled is a package, or a refusal.
use Rattle.std.proofs.Common.{◌≡◌, ◌∙◌, sym, ap, refl, subst, ℕ, List, [], ◌∷◌, ◌++◌, All, Option, Some, None, Result, Ok, Err, drop, inl, inr, map, take}
use Rattle.std.proofs.lemmas.List.Elements.{All-append, All-cons, All-head, All-nil, All-tail}
use Rattle.answers.specs.First.{first_some}
use Rattle.app_config.specs.declared.config.Config.{Config}
use Rattle.appdir_files.specs.Listing.{list_stop}
use Rattle.appdir_files.specs.Writing.{AreFilesOf, IsProbed}
use Rattle.appdir_files.specs.declared.items.Item.{Item}
use Rattle.appdir_files.specs.declared.stops.ListStop.{ListStop}
use Rattle.appdir_files.specs.declared.stops.ListStop.TheVariants.{TargetInLib as InLib, TargetClash as Clash, NoMemory as NoMemoryList}
use Rattle.build_plan.specs.Building.{Building, IsBuilding}
use Rattle.build_plan.specs.Deciding.{IsUndecided}
use Rattle.build_plan.specs.Steps.{IsStepAnswer}
use Rattle.build_plan.specs.declared.plans.Plan.{Plan}
use Rattle.build_plan.specs.declared.stops.BuildStop.{BuildStop}
use Rattle.build_plan.specs.declared.stops.BuildStop.TheVariants.{Refused}
use Rattle.build_texts.specs.Texts.{record_in, report_in}
use Rattle.elf_rewrite.specs.declared.change.Change.{Change}
use Rattle.elf_rewrite.specs.declared.change.RewriteStop.{RewriteStop}
use Rattle.elf_rewrite.specs.declared.change.RewriteStop.TheVariants.{NoMemory, TableOverlap, NoRoom, TooManyHeaders, StringsTooLong, TooLarge}
use Rattle.extra_files.specs.Extras.{AreExtras}
use Rattle.extra_files.specs.Faults.{IsExtraFault}
use Rattle.host_record.specs.Grammar.{record_text}
use Rattle.lib_closure.specs.declared.splits.Member.{Member}
use Rattle.load_model.specs.World.{World}
use Rattle.manifest.specs.Manifest.{manifest_of}
use Rattle.ports.specs.View.{View}
use Rattle.refusals.specs.declared.file_refusal.FileRefusal.TheVariants.{TargetClash, TargetInLib}
use Rattle.refusals.specs.declared.refusal.Refusal.{Refusal}
use Rattle.refusals.specs.declared.refusal.Refusal.TheVariants.{Config as Configuration, Load, Split as RefusesSplit, Names, Rewrite, Files, Folder}
use Rattle.refusals.specs.declared.split_refusal.SplitRefusal.TheVariants.{NoInterpreter, InterpreterUnlisted, ProgramNeeded, HostNameClash, HostRpath, HostNeedsUnlisted, HostAlias, SplitNeed, SourceNotHost}
use Rattle.source_hosts.specs.Trying.{TriesSource}
use Rattle.host_checks.specs.Hosting.{record_place}
use Rattle.appdir_build.specs.Files.{files_of, files_of_programs, lib_files, manifest_place, report_place}
use Rattle.appdir_build.specs.Objects.{first_unwritten, lib_objects, new_file_of, program_objects, stop_at, stop_in}
use Rattle.appdir_build.specs.Outcome.{IsUnlistable, Outcome, SourceMeets, listing_stop}
use Rattle.appdir_build.specs.Refusals.{stop_of_listing}
use Rattle.appdir_build.specs.Writing.{AreAllItems, AreWritten, Builds, IsAssembled, IsBuilt, IsListing, data_from, data_to, front_items, listed_items, text_item}
use Rattle.appdir_build.specs.declared.built.Built.{Built}
use Rattle.appdir_build.specs.declared.writing.Written.{Written}
use Rattle.appdir_build.proofs.PackageLemmas.{AreParts, HasCounts, files_match, is_built, stop_matches}

module _ (world : World) (config : Config) (b : Building) (written : Written) (extras : List Item) (host report : List ℕ) where
  -- What all items are made of.
  pub record IsDone : Type 0 where
    pub host_is : host ≡ record_text (record_in b)
    pub report_is : report ≡ report_in config b
    pub builds : IsBuilding world config b
    pub meets : SourceMeets world config b
    pub all : first_unwritten world b ≡ None
    pub programs : AreFilesOf (Some world) written.programs (files_of_programs world config b)
    pub libs : AreFilesOf (Some world) written.libs (lib_files world b)
    pub extra : AreExtras world config (Ok extras)

  parts_of : (items : List Item) (all : AreAllItems written extras host report items) → IsDone → AreParts world config b written extras host report all.main
  parts_of items all d =
      record {
        host_is = d.host_is;
        report_is = d.report_is;
        programs_are = d.programs;
        libs_are = d.libs;
        extras_are = d.extra.1;
        main_is = all.first;
      }

  stop_there : (items : List Item) → AreAllItems written extras host report items → IsDone → list_stop items (data_from written) (data_to config written extras) ≡ listing_stop world config b
  stop_there items all d =
      ap (λ (l : List Item). list_stop l (data_from written) (data_to config written extras)) all.items_are
      ∙ stop_matches world config b written extras host report all.main (parts_of items all d)

  pub assembled_ok : (built : Built) → IsDone → IsListing config written extras host report (Ok built.items) → HasCounts config b built → IsBuilt world config built
  assembled_ok built d h counts =
      is_built world config b built d.builds d.meets d.all d.extra.0 (sym (stop_there built.items h.0 d) ∙ h.1)
      (subst (λ items. AreFilesOf (Some world) items (files_of world config b)) (sym h.0.items_are) (files_match world config b written extras host report h.0.main (parts_of built.items h.0 d))) counts

  unlistable : (stop : ListStop) (refusal : Refusal) → IsDone → (items : List Item) → AreAllItems written extras host report items → list_stop items (data_from written) (data_to config written extras) ≡ Some stop → stop_of_listing stop ≡ Refused refusal → IsUnlistable world config refusal
  unlistable stop refusal d items all e is =
      record { building = b; builds = d.builds; meets = d.meets; written = d.all; furnished = d.extra.0; stop = stop; stops = sym (stop_there items all d) ∙ e; refusal_is = is }

  pub assembled_err : (stop : ListStop) → IsDone → IsListing config written extras host report (Err stop) → IsAssembled world config (Err stop)
  assembled_err (InLib path) d h = inr (unlistable (InLib path) (Files (TargetInLib path)) d h.0 h.1 h.2 refl)
  assembled_err (Clash path) d h = inr (unlistable (Clash path) (Files (TargetClash path)) d h.0 h.1 h.2 refl)
  assembled_err NoMemoryList d h = tt

one_same : (x y : Item) → x ∷ [] ≡ y ∷ [] → x ≡ y
one_same x y h = cc

tail_probed : (told : Option World) (items : List Item) → All (IsProbed told) items → All (IsProbed told) (drop 1 items)
tail_probed told [] h = All-nil (IsProbed told)
tail_probed told (item ∷ items) h = All-tail (IsProbed told) item items h

head_probed : (told : Option World) (items : List Item) (main : Item) → take 1 items ≡ main ∷ [] → All (IsProbed told) items → IsProbed told main
head_probed told [] main e h = cc
head_probed told (item ∷ items) main e h = subst (IsProbed told) (one_same item main e) (All-head (IsProbed told) item items h)

pub all_probed : (told : Option World) (written : Written) (extras items : List Item) (host report : List ℕ) → AreAllItems written extras host report items → All (IsProbed told) written.programs → All (IsProbed told) written.libs → All (IsProbed told) extras → All (IsProbed told) items
all_probed told written extras items host report all programs libs others =
    let front = front_items written extras in
    let main = all.main in
    let record_is = text_item record_place host in
    let report_is = text_item report_place report in
    let list_is = text_item manifest_place (manifest_of (listed_items front host report main)) in
    subst (λ l. All (IsProbed told) l) (sym all.items_are)
    (All-append (IsProbed told) front (record_is ∷ report_is ∷ list_is ∷ main ∷ [])
    (All-append (IsProbed told) written.libs (drop 1 written.programs ++ extras) libs (All-append (IsProbed told) (drop 1 written.programs) extras (tail_probed told written.programs programs) others))
    (All-cons (IsProbed told) record_is (report_is ∷ list_is ∷ main ∷ []) (tt {0})
    (All-cons (IsProbed told) report_is (list_is ∷ main ∷ []) (tt {0})
    (All-cons (IsProbed told) list_is (main ∷ []) (tt {0})
    (All-cons (IsProbed told) main [] (head_probed told written.programs main all.first programs) (All-nil (IsProbed told)))))))

-- ---- refusals

abbrev pub IsRewriteRefusal : Refusal → Type 0
IsRewriteRefusal (Configuration refusal) = ⊥
IsRewriteRefusal (Load refusal) = ⊥
IsRewriteRefusal (RefusesSplit refusal) = ⊥
IsRewriteRefusal (Names refusal) = ⊥
IsRewriteRefusal (Rewrite refusal) = Unit {0}
IsRewriteRefusal (Files refusal) = ⊥
IsRewriteRefusal (Folder refusal) = ⊥

refusal_same : (a r : Refusal) → Some (Refused a) ≡ Some (Refused r) → a ≡ r
refusal_same a r h = cc

one_stop : (path : List ℕ) (made : Result (List ℕ) RewriteStop) (r : Refusal) → stop_in path made ≡ Some (Refused r) → IsRewriteRefusal r
one_stop path (Ok bytes) r h = cc
one_stop path (Err NoRoom) r h = subst IsRewriteRefusal (refusal_same _ r h) tt
one_stop path (Err (TableOverlap a c)) r h = subst IsRewriteRefusal (refusal_same _ r h) tt
one_stop path (Err TooManyHeaders) r h = subst IsRewriteRefusal (refusal_same _ r h) tt
one_stop path (Err (TooLarge len)) r h = subst IsRewriteRefusal (refusal_same _ r h) tt
one_stop path (Err StringsTooLong) r h = subst IsRewriteRefusal (refusal_same _ r h) tt
one_stop path (Err NoMemory) r h = cc

either : (s : Option BuildStop) (more : List (Option BuildStop)) (r : Refusal) → (s ≡ Some (Refused r) → IsRewriteRefusal r) → (first_some more ≡ Some (Refused r) → IsRewriteRefusal r) → first_some (s ∷ more) ≡ Some (Refused r) → IsRewriteRefusal r
either None more r f g h = g h
either (Some stop) more r f g h = f h

any_stop : (world : World) (objects : List (Member × Change)) (r : Refusal) → first_some (map (stop_at world) objects) ≡ Some (Refused r) → IsRewriteRefusal r
any_stop world [] r h = cc
any_stop world (o ∷ objects) r h = either (stop_at world o) (map (stop_at world) objects) r (λ e. one_stop o.0.path (new_file_of world o) r e) (any_stop world objects r) h

is_rewrite : (world : World) (b : Building) (r : Refusal) → first_unwritten world b ≡ Some (Refused r) → IsRewriteRefusal r
unfolding first_unwritten
is_rewrite world b r h = any_stop world (program_objects b ++ lib_objects b) r h

pub unwritten_outcome : (world : World) (config : Config) (b : Building) (refusal : Refusal) → IsBuilding world config b → SourceMeets world config b → first_unwritten world b ≡ Some (Refused refusal) → Outcome world config (Err refusal)
unwritten_outcome world config b (Configuration refusal) builds meets h = absurd (is_rewrite world b (Configuration refusal) h)
unwritten_outcome world config b (Load refusal) builds meets h = absurd (is_rewrite world b (Load refusal) h)
unwritten_outcome world config b (RefusesSplit refusal) builds meets h = absurd (is_rewrite world b (RefusesSplit refusal) h)
unwritten_outcome world config b (Names refusal) builds meets h = absurd (is_rewrite world b (Names refusal) h)
unwritten_outcome world config b (Rewrite refusal) builds meets h = record { building = b; builds = builds; meets = meets; stops = h }
unwritten_outcome world config b (Files refusal) builds meets h = absurd (is_rewrite world b (Files refusal) h)
unwritten_outcome world config b (Folder refusal) builds meets h = absurd (is_rewrite world b (Folder refusal) h)

pub undecided_outcome : (world : World) (config : Config) (refusal : Refusal) → IsUndecided world config refusal → Outcome world config (Err refusal)
undecided_outcome world config (Configuration refusal) h = absurd h
undecided_outcome world config (Load refusal) h = h
undecided_outcome world config (RefusesSplit refusal) h = inl h
undecided_outcome world config (Names refusal) h = h
undecided_outcome world config (Rewrite refusal) h = absurd h
undecided_outcome world config (Files refusal) h = absurd h
undecided_outcome world config (Folder refusal) h = absurd h

pub listing_stops : (before after : View World) (config : Config) (b : Building) (plan : Plan) (written : Written) (stop : ListStop) → ((world : World) → before.told ≡ Some world → IsBuilding world config b → SourceMeets world config b → AreWritten world config plan written → IsAssembled world config (Err stop)) → IsStepAnswer {A = Built} before after (λ world outcome. IsBuilding world config b → SourceMeets world config b → AreWritten world config plan written → Builds world config outcome) (Err (stop_of_listing stop))
listing_stops before after config b plan written (InLib path) h = λ world told builds meets are. h world told builds meets are
listing_stops before after config b plan written (Clash path) h = λ world told builds meets are. h world told builds meets are
listing_stops before after config b plan written NoMemoryList h = tt

-- The tree that is no host for a build, and which demand it does not meet.
pub no_host_outcome : (world : World) (config : Config) (b : Building) (refusal : Refusal) → IsBuilding world config b → TriesSource world config b (Err refusal) → Outcome world config (Err refusal)
no_host_outcome world config b (Configuration refusal) builds h = absurd h
no_host_outcome world config b (Load refusal) builds h = absurd h
no_host_outcome world config b (RefusesSplit (NoInterpreter path)) builds h = absurd h
no_host_outcome world config b (RefusesSplit (InterpreterUnlisted path)) builds h = absurd h
no_host_outcome world config b (RefusesSplit (ProgramNeeded path)) builds h = absurd h
no_host_outcome world config b (RefusesSplit (HostNameClash name one other)) builds h = absurd h
no_host_outcome world config b (RefusesSplit (HostRpath path)) builds h = absurd h
no_host_outcome world config b (RefusesSplit (HostNeedsUnlisted path name)) builds h = absurd h
no_host_outcome world config b (RefusesSplit (HostAlias path name)) builds h = absurd h
no_host_outcome world config b (RefusesSplit (SplitNeed path name one other)) builds h = absurd h
no_host_outcome world config b (RefusesSplit (SourceNotHost difference)) builds h = inr (record { building = b; builds = builds; difference = difference; differs = h; refusal_is = refl })
no_host_outcome world config b (Names refusal) builds h = absurd h
no_host_outcome world config b (Rewrite refusal) builds h = absurd h
no_host_outcome world config b (Files refusal) builds h = absurd h
no_host_outcome world config b (Folder refusal) builds h = absurd h

-- What lies beside the programs is refused.
pub extra_outcome : (world : World) (config : Config) (b : Building) (refusal : Refusal) → IsBuilding world config b → SourceMeets world config b → first_unwritten world b ≡ None → AreExtras world config (Err refusal) → Outcome world config (Err refusal)
extra_outcome world config b (Configuration refusal) builds meets written h = absurd h
extra_outcome world config b (Load refusal) builds meets written h = absurd h
extra_outcome world config b (RefusesSplit refusal) builds meets written h = absurd h
extra_outcome world config b (Names refusal) builds meets written h = absurd h
extra_outcome world config b (Rewrite refusal) builds meets written h = absurd h
extra_outcome world config b (Files refusal) builds meets written h = inl (record { building = b; builds = builds; meets = meets; written = written; faulty = h })
extra_outcome world config b (Folder refusal) builds meets written h = absurd h
