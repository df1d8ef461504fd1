-- A call without faults has the status of its outcome, or it lacked memory.
use Rattle.std.proofs.Common.{ℕ, List, [], ◌∷◌, ◌≡◌, ◌≢◌, inl, inr, refl, ap, sym, Option, Some, None, Result, Ok, Err}
use Rattle.load_model.specs.World.{World}
use Rattle.ports.specs.declared.folders.MemFile.{MemFile}
use Rattle.ports.specs.Folder.{Folder}
use Rattle.ports.specs.View.{View}
use Rattle.appdir_cli.proofs.GeneratingLemmas.{generated_or_refused}
use Rattle.appdir_cli.proofs.HostingLemmas.{ChecksOnce, checked_or_refused}
use Rattle.appdir_cli.proofs.PackingLemmas.{by_packed_or_refused, by_says, packed_or_refused}
use Rattle.appdir_cli.specs.Packing.{config_of}
use Rattle.appdir_cli.proofs.ShowingLemmas.{shown_or_refused}
use Rattle.appdir_cli.specs.ComesTo.{ComesTo, world_read}
use Rattle.deliveries.specs.Delivery.{IsFull}
use Rattle.appdir_cli.specs.Endings.{Ends, EndsFor, EndsUnshaped, Expects, IsComplete, IsGiven, IsRefused, Outside, packing_status}
use Rattle.deliveries.specs.declared.answer.Answer.{Answer}
use Rattle.deliveries.specs.declared.answer.Answer.TheVariants.{Says, Packs}
use Rattle.deliveries.specs.declared.answer.Whole.{Whole}
use Rattle.command_words.specs.declared.commands.Command.{Command}
use Rattle.command_words.specs.declared.commands.Command.TheVariants.{Quick, Build, Show, Host, Gen}
use Rattle.refusals.specs.declared.refusal.Refusal.{Refusal}
use Rattle.deliveries.specs.declared.status.Status.{Status}
use Rattle.deliveries.specs.declared.status.Status.TheVariants.{Done, Refused, Usage, ReadFailed, WriteFailed, NoMemory, PrintFailed}

module _ (once : ChecksOnce) where
  -- no command has an answer and a refusal; of the commands this lemma and the next alone speak
  pub never_both : (world : World) (command : Command) (answer : Answer) (refusal : Refusal) → ComesTo world command (Ok answer) → ComesTo world command (Err refusal) → ⊥
  never_both world (Quick quick) (Says text) refusal given refused = given
  never_both world (Quick quick) (Packs whole) refusal given refused = packed_or_refused world (config_of quick) quick.out whole refusal given refused
  never_both world (Build build) (Says text) refusal given refused = by_says world build text given
  never_both world (Build build) (Packs whole) refusal given refused = by_packed_or_refused world build whole refusal given refused
  never_both world (Show show) (Says text) refusal given refused = shown_or_refused world show text refusal given refused
  never_both world (Show show) (Packs whole) refusal given refused = given
  never_both world (Host host) (Says text) refusal given refused = checked_or_refused once world host text refusal given refused
  never_both world (Host host) (Packs whole) refusal given refused = given
  never_both world (Gen gen) (Says text) refusal given refused = generated_or_refused world gen.count text refusal given refused
  never_both world (Gen gen) (Packs whole) refusal given refused = given

  -- nor a text and files
  pub one_kind : (world : World) (command : Command) (text : List ℕ) (whole : Whole) → ComesTo world command (Ok (Says text)) → ComesTo world command (Ok (Packs whole)) → ⊥
  one_kind world (Quick quick) text whole says packs = says
  one_kind world (Build build) text whole says packs = by_says world build text says
  one_kind world (Show show) text whole says packs = packs
  one_kind world (Host host) text whole says packs = packs
  one_kind world (Gen gen) text whole says packs = packs

  full_is_refused : (files : List MemFile) → files ≢ [] → Refused ≡ packing_status files
  full_is_refused [] full = absurd (full refl)
  full_is_refused (file ∷ files) full = refl

  module _ (world : World) (command : Command) (told : Option World) (folder folder' : View Folder) where
    done_expects : (answer : Answer) (outcome : Result Answer Refusal) → ComesTo world command (Ok answer) → IsGiven answer told folder folder' → ComesTo world command outcome → Expects outcome folder Done
    done_expects answer (Err refusal) is given comes = absurd (never_both world command answer refusal is comes)
    done_expects (Says text) (Ok (Says other)) is given comes = refl
    done_expects (Says text) (Ok (Packs whole)) is given comes = absurd (one_kind world command text whole is comes)
    done_expects (Packs whole) (Ok (Says text)) is given comes = absurd (one_kind world command text whole comes is)
    done_expects (Packs whole) (Ok (Packs other)) is given comes = λ held holds. sym (ap packing_status (given.empty held holds))

    decided_expects : (refusal : Refusal) (outcome : Result Answer Refusal) → ComesTo world command (Err refusal) → ComesTo world command outcome → Expects outcome folder Refused
    decided_expects refusal (Err other) is comes = refl
    decided_expects refusal (Ok answer) is comes = absurd (never_both world command answer refusal comes is)

    over_expects : (whole : Whole) (outcome : Result Answer Refusal) → ComesTo world command (Ok (Packs whole)) → IsFull whole folder folder' → ComesTo world command outcome → Expects outcome folder Refused
    over_expects whole (Err refusal) is full comes = absurd (never_both world command (Packs whole) refusal is comes)
    over_expects whole (Ok (Says text)) is full comes = absurd (one_kind world command text whole comes is)
    over_expects whole (Ok (Packs other)) is full comes = λ held holds. full_is_refused held.finished (full.held held holds)

  refused_expects : (command : Command) (before after : Outside) (text : List ℕ) (world : World) (outcome : Result Answer Refusal) → IsRefused command before after text → world_read command before.tree.told ≡ Some world → ComesTo world command outcome → Expects outcome before.folder Refused
  refused_expects command before after text world outcome refused told comes =
      elim refused.reason [
        | inl decided ↦ decided_expects world command before.tree.told before.folder after.folder refused.refusal outcome (decided.outcome world told) comes
        | inr over ↦ over_expects world command before.tree.told before.folder after.folder over.whole outcome (over.outcome world told) over.full comes
      ]

  complete_for : (command : Command) (before after : Outside) (status : Status) → EndsFor command before after status → IsComplete (Some command) before after status
  complete_for command before after Done h = λ world outcome told comes clean. inl (done_expects world command before.tree.told before.folder after.folder h.1.answer outcome (h.1.outcome world told) h.1.given comes)
  complete_for command before after Refused h = λ world outcome told comes clean. inl (refused_expects command before after h.0 world outcome h.1 told comes)
  complete_for command before after Usage h = absurd h
  complete_for command before after ReadFailed h = λ world outcome told comes clean. absurd (clean.tree h.1)
  complete_for command before after WriteFailed h = λ world outcome told comes clean. absurd (clean.folder h.cut_off.cause)
  complete_for command before after NoMemory h = λ world outcome told comes clean. inr refl
  complete_for command before after PrintFailed h = λ world outcome told comes clean. elim h [ inl p ↦ absurd (clean.sink p.2.cause) | inr q ↦ absurd (clean.sink q.2.cause) ]

  complete_unshaped : (before after : Outside) (status : Status) → EndsUnshaped before after status → IsComplete None before after status
  complete_unshaped before after Usage h = λ clean. inl refl
  complete_unshaped before after NoMemory h = λ clean. inr refl
  complete_unshaped before after PrintFailed h = λ clean. absurd (clean.sink h.2.cause)
  complete_unshaped before after Done h = absurd h
  complete_unshaped before after Refused h = absurd h
  complete_unshaped before after ReadFailed h = absurd h
  complete_unshaped before after WriteFailed h = absurd h

  pub ends_complete : (asked : Option Command) (before after : Outside) (status : Status) → Ends asked before after status → IsComplete asked before after status
  ends_complete (Some command) before after status ends = complete_for command before after status ends
  ends_complete None before after status ends = complete_unshaped before after status ends
