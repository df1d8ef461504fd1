-- `AppRun` is the last file that is written, from how a call ends.
use Rattle.std.proofs.Common.{ℕ, zero, suc, ◌+◌, ◌<◌, arith, List, [], ◌∷◌, ◌++◌, ◌≡◌, ◌∙◌, inl, inr, refl, ap, sym, subst, Option, Some, Result, Ok, codes, length, take}
use Rattle.std.specs.Prelude.{◌≢◌, ◌⊎◌}
use Rattle.std.specs.Option.{option_map}
use Rattle.std.proofs.lemmas.Bool.{cases_lt}
use Rattle.std.proofs.lemmas.List.{length-append, take-append-le, take_all}
use Rattle.std.proofs.lemmas.List.Elements.{All-nil, All-take}
use Rattle.std.proofs.lemmas.Slice.Zip.{AllZip-long}
use Rattle.app_config.specs.declared.config.Config.{Config}
use Rattle.appdir_build.proofs.AppRunLemmas.{ends_with_app_run}
use Rattle.appdir_build.specs.AppRun.{EndsWithAppRun, HasNoAppRun}
use Rattle.appdir_files.specs.Writing.{AreFilesOf, IsBytesOf, IsFileOf}
use Rattle.appdir_files.specs.declared.items.Body.{Body}
use Rattle.appdir_files.specs.declared.items.Body.TheVariants.{Bytes, Copy}
use Rattle.appdir_files.specs.declared.items.Item.{Item}
use Rattle.deliveries.specs.Delivery.{IsCutShort, IsFull, IsWhole, filled}
use Rattle.deliveries.specs.declared.answer.Answer.{Answer}
use Rattle.deliveries.specs.declared.answer.Answer.TheVariants.{Packs, Says}
use Rattle.deliveries.specs.declared.answer.Whole.{Whole}
use Rattle.deliveries.specs.declared.status.Status.{Status}
use Rattle.deliveries.specs.declared.status.Status.TheVariants.{Done, Refused, Usage, ReadFailed, WriteFailed, NoMemory, PrintFailed}
use Rattle.load_model.specs.World.{World}
use Rattle.refusals.specs.declared.refusal.Refusal.{Refusal}
use Rattle.ports.specs.Folder.{Folder}
use Rattle.ports.specs.View.{Stays, View}
use Rattle.ports.specs.declared.folders.MemFile.{MemFile}
use Rattle.appdir_cli.specs.AppRun.{AreAll, AtEachMoment, IsAppRunLast, Leaves}
use Rattle.appdir_cli.specs.Endings.{Ends, EndsFor, IsDone, IsGiven, IsOutcome, IsRefused, Outside}
use Rattle.appdir_cli.specs.ComesTo.{ComesTo}
use Rattle.appdir_cli.specs.Packing.{IsPacked, IsPacking}
use Rattle.appdir_cli.proofs.CommandsThatPackLemmas.{packed_by, reads_told, says_nothing}
use Rattle.command_words.specs.declared.commands.Command.{Command}

-- ---- items have one list of files

file_by : (f m : MemFile) → f.path ≡ m.path → f.executable ≡ m.executable → f.bytes ≡ m.bytes → f ≡ m
file_by f m e g h =
    ap (λ x. record { path = x; executable = f.executable; bytes = f.bytes }) e
    ∙ (ap (λ x. record { path = m.path; executable = x; bytes = f.bytes }) g
    ∙ ap (λ x. record { path = m.path; executable = m.executable; bytes = x }) h)

module _ (world : World) where
  bytes_one : (body : Body) (a b : List ℕ) → IsBytesOf (Some world) body a → IsBytesOf (Some world) body b → a ≡ b
  bytes_one (Bytes text) a b h g = h ∙ sym g
  bytes_one (Copy from len) a b h g = h.1 world refl ∙ sym (g.1 world refl)

  file_one : (item : Item) (f m : MemFile) → IsFileOf (Some world) item f → IsFileOf (Some world) item m → f ≡ m
  file_one item f m h g =
      file_by f m (h.path ∙ sym g.path) (h.mark ∙ sym g.mark) (bytes_one item.body f.bytes m.bytes h.bytes g.bytes)

  -- the files of the first items are the first files of all
  front_one : (items : List Item) (count : ℕ) (fs ms : List MemFile) → AreFilesOf (Some world) (take count items) fs → AreFilesOf (Some world) items ms → fs ≡ take count ms
  front_one items zero [] ms h g = refl
  front_one items zero (f ∷ fs) ms h g = absurd h
  front_one [] (suc count) [] [] h g = refl
  front_one [] (suc count) [] (m ∷ ms) h g = absurd g
  front_one [] (suc count) (f ∷ fs) ms h g = absurd h
  front_one (item ∷ items) (suc count) [] ms h g = absurd h
  front_one (item ∷ items) (suc count) (f ∷ fs) [] h g = absurd g
  front_one (item ∷ items) (suc count) (f ∷ fs) (m ∷ ms) h g =
      ap (λ x. x ∷ fs) (file_one item f m h.0 g.0) ∙ ap (λ l. m ∷ l) (front_one items count fs ms h.1 g.1)

  pub all_one : (items : List Item) (fs ms : List MemFile) → AreFilesOf (Some world) items fs → AreFilesOf (Some world) items ms → fs ≡ ms
  all_one items fs ms h g =
      let whole : take (length items) items ≡ items = take_all (length items) items (omega arith) in
      let count : length ms ≡ length items = AllZip-long (IsFileOf (Some world)) items ms g in
      front_one items (length items) fs ms (subst (λ (l : List Item). AreFilesOf (Some world) l fs) (sym whole) h) g
      ∙ take_all (length items) ms (omega (arith, count))

-- ---- what stands in the folder

-- a part of the files that is not all has no AppRun
part_without : (ms : List MemFile) (count : ℕ) → EndsWithAppRun ms → count < length ms → HasNoAppRun (take count ms)
part_without ms count ends less =
    let size : length ms ≡ length ends.front + 1 = ap length ends.files_are ∙ length-append ends.front (ends.last ∷ []) in
    let same : take count ms ≡ take count ends.front = ap (take count) ends.files_are ∙ take-append-le count ends.front (ends.last ∷ []) (omega (arith, less, size)) in
    subst HasNoAppRun (sym same) (All-take (λ (file : MemFile). file.path ≢ codes "AppRun") count ends.front ends.no_other)

none_there : (files : List MemFile) → files ≡ [] → HasNoAppRun files
none_there files e = subst HasNoAppRun (sym e) (All-nil (λ (file : MemFile). file.path ≢ codes "AppRun"))

module _ (world : World) (before after : View Folder) (held kept : Folder) (tells : before.told ≡ Some held) (empty : held.finished ≡ []) (keeps : after.told ≡ Some kept) where
  kept_is : (latest : Folder) → after.told ≡ Some latest → latest ≡ kept
  kept_is latest e =
      let both : Some latest ≡ Some kept = sym e ∙ keeps in
      cc

  untouched : Stays before after → HasNoAppRun kept.finished
  untouched stays = none_there kept.finished (sym (ap (λ (f : Folder). f.finished) (kept_is held (stays ∙ tells))) ∙ empty)

  all_written : (config : Config) (out : List ℕ) (whole : Whole) (packed : IsPacked world config out whole) → IsWhole (Some world) whole before after → (kept.finished ≡ packed.made.files) × EndsWithAppRun kept.finished
  all_written config out whole packed given =
      let same : filled whole.place given.files held ≡ kept = kept_is (filled whole.place given.files held) (given.written ∙ ap (option_map (filled whole.place given.files)) tells) in
      let files : kept.finished ≡ given.files = sym (ap (λ (f : Folder). f.finished) same) ∙ ap (λ l. l ++ given.files) empty in
      let all : kept.finished ≡ packed.made.files = files ∙ all_one world whole.items given.files packed.made.files given.each packed.files in
      (all, subst EndsWithAppRun (sym all) (ends_with_app_run world config packed.made packed.builds))

  part_written : (config : Config) (out : List ℕ) (whole : Whole) → IsPacked world config out whole → IsCutShort (Some world) whole before after → HasNoAppRun kept.finished
  part_written config out whole packed cut =
      let begun = cut.begun held tells in
      let files : kept.finished ≡ cut.files = sym (ap (λ (f : Folder). f.finished) (kept_is begun.0 begun.1)) ∙ (begun.2.finished ∙ ap (λ l. l ++ cut.files) empty) in
      let front : cut.files ≡ take cut.count packed.made.files = front_one world whole.items cut.count cut.files packed.made.files cut.each packed.files in
      let count : length packed.made.files ≡ length whole.items = AllZip-long (IsFileOf (Some world)) whole.items packed.made.files packed.files in
      let proper = cut.proper in
      subst HasNoAppRun (sym (files ∙ front)) (part_without packed.made.files cut.count (ends_with_app_run world config packed.made packed.builds) (omega (arith, proper, count)))

  not_full : (whole : Whole) → IsFull whole before after → ⊥
  not_full whole full = full.held held tells empty

-- ---- how a call ends

module _ (command : Command) (packing : IsPacking command) (before after : Outside) (world : World) (held kept : Folder) (told : before.tree.told ≡ Some world) (tells : before.folder.told ≡ Some held) (empty : held.finished ≡ []) (keeps : after.folder.told ≡ Some kept) where
  comes : (outcome : Result Answer Refusal) → IsOutcome command before outcome → ComesTo world command outcome
  comes outcome is = is world (reads_told command packing before.tree.told ∙ told)

  nothing_there : Stays before.folder after.folder → HasNoAppRun kept.finished
  nothing_there stays = untouched world before.folder after.folder held kept tells empty keeps stays

  given_all : (answer : Answer) → IsOutcome command before (Ok answer) → IsGiven answer before.tree.told before.folder after.folder → AreAll world command kept.finished
  given_all (Says text) outcome given = absurd (says_nothing world command packing text (comes (Ok (Says text)) outcome))
  given_all (Packs whole) outcome given =
      let p = packed_by world command packing whole (comes (Ok (Packs whole)) outcome) in
      let all = all_written world before.folder after.folder held kept tells empty keeps p.config p.out whole p.packed (subst (λ (t : Option World). IsWhole t whole before.folder after.folder) told given) in
      record { config = p.config; out = p.out; packs = p.by; made = p.packed.made; builds = p.packed.builds; files_are = all.0; app_run = all.1 }

  done_all : (text : List ℕ) → IsDone command before after text → AreAll world command kept.finished
  done_all text done = given_all done.answer done.outcome done.given

  refused_none : (text : List ℕ) → IsRefused command before after text → HasNoAppRun kept.finished
  refused_none text refused =
      elim refused.reason [
        | inl decided ↦ nothing_there decided.untouched
        | inr over ↦ absurd (not_full world before.folder after.folder held kept tells empty keeps over.whole over.full)
      ]

  cut_none : (whole : Whole) → IsOutcome command before (Ok (Packs whole)) → IsCutShort before.tree.told whole before.folder after.folder → HasNoAppRun kept.finished
  cut_none whole outcome cut =
      let p = packed_by world command packing whole (comes (Ok (Packs whole)) outcome) in
      part_written world before.folder after.folder held kept tells empty keeps p.config p.out whole p.packed (subst (λ (t : Option World). IsCutShort t whole before.folder after.folder) told cut)

  leaves : (status : Status) → EndsFor command before after status → Leaves world command kept.finished status
  leaves Done h = done_all h.0 h.1
  leaves Refused h = refused_none h.0 h.1
  leaves Usage h = absurd h
  leaves ReadFailed h = elim h.2 [ inl clean ↦ nothing_there clean.folder | inr cut ↦ cut_none cut.whole cut.outcome cut.cut_short ]
  leaves WriteFailed h = elim h.cut_off.left [ inl stays ↦ nothing_there stays | inr cut ↦ cut_none h.whole h.outcome cut ]
  leaves NoMemory h = nothing_there h.folder
  leaves PrintFailed h = elim h [ inl p ↦ inl (done_all p.0 p.1) | inr q ↦ inr (refused_none q.0 q.1) ]

-- ---- within a call

all_or_none : (world : World) (command : Command) (files : List MemFile) (status : Status) → Leaves world command files status → AreAll world command files ⊎ HasNoAppRun files
all_or_none world command files Done h = inl h
all_or_none world command files Refused h = inr h
all_or_none world command files Usage h = inr h
all_or_none world command files ReadFailed h = inr h
all_or_none world command files WriteFailed h = inr h
all_or_none world command files NoMemory h = inr h
all_or_none world command files PrintFailed h = h

at_each_moment : (world : World) (command : Command) (files : List MemFile) → AreAll world command files ⊎ HasNoAppRun files → AtEachMoment world command files
at_each_moment world command files (inl all) count =
    elim (cases_lt count (length files)) [
      | inl less ↦ inr (part_without files count all.app_run less)
      | inr over ↦ inl (subst (AreAll world command) (sym (take_all count files (omega (arith, over)))) all)
    ]
at_each_moment world command files (inr none) count = inr (All-take (λ (file : MemFile). file.path ≢ codes "AppRun") count files none)

pub app_run_last : (asked : Option Command) (before after : Outside) (status : Status) → Ends asked before after status → IsAppRunLast asked before after status
unfolding IsAppRunLast
app_run_last asked before after status ends command world held kept is packing told tells empty keeps =
    let left = leaves command packing before after world held kept told tells empty keeps status (subst (λ (a : Option Command). Ends a before after status) is ends) in
    (left, at_each_moment world command kept.finished (all_or_none world command kept.finished status left))
