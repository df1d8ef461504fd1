-- How a call for a command ends, from how its files were delivered, or from its refusal.
use Rattle.std.proofs.Common.{ℕ, List, ◌≡◌, ◌≤◌, ◌∙◌, inl, inr, refl, sym, subst, Option, Ok, Err, arith}
use Rattle.deliveries.proofs.DeliveryLemmas.{rose_later}
use Rattle.deliveries.specs.Delivery.{IsAnswerDelivered, IsAnswerProbed, IsCutOff, IsCutShort, IsDelivered, IsFull, IsWhole}
use Rattle.appdir_cli.specs.ComesTo.{ReadsTree}
use Rattle.elf_make.specs.Generator.{made_tree}
use Rattle.appdir_cli.specs.Endings.{EndsFor, EndsUnshaped, IsDone, IsOutcome, IsRefused, Outside}
use Rattle.load_model.specs.World.{World}
use Rattle.ports.specs.Folder.{Folder}
use Rattle.ports.specs.View.{OnlyReads, Stays, View}
use Rattle.refusals.specs.Lines.{refusal_line, usage_text}
use Rattle.deliveries.specs.Saying.{IsRefusal, IsSaid}
use Rattle.deliveries.specs.declared.answer.Answer.{Answer}
use Rattle.deliveries.specs.declared.answer.Answer.TheVariants.{Packs, Says}
use Rattle.deliveries.specs.declared.answer.Whole.{Whole}
use Rattle.command_words.specs.declared.commands.Command.{Command}
use Rattle.command_words.specs.declared.commands.Command.TheVariants.{Quick, Build, Show, Host, Gen}
use Rattle.refusals.specs.declared.refusal.Refusal.{Refusal}
use Rattle.refusals.specs.declared.folder_refusal.FolderRefusal.TheVariants.{NotEmpty}
use Rattle.refusals.specs.declared.refusal.Refusal.TheVariants.{Folder as RefusesFolder}
use Rattle.deliveries.specs.declared.status.Status.{Status}
use Rattle.deliveries.specs.declared.status.Status.TheVariants.{Done, Refused, Usage, ReadFailed, WriteFailed, NoMemory, PrintFailed}

-- a command that comes to files reads the tree
packs_reads : (command : Command) (before : Outside) (whole : Whole) → IsOutcome command before (Ok (Packs whole)) → ReadsTree command
packs_reads (Quick quick) before whole h = tt
packs_reads (Build build) before whole h = tt
packs_reads (Show show) before whole h = tt
packs_reads (Host host) before whole h = tt
packs_reads (Gen gen) before whole h = h (made_tree gen.count) refl

module _ (command : Command) (before after : Outside) (whole : Whole) (outcome : IsOutcome command before (Ok (Packs whole))) where
  done : IsWhole before.tree.told whole before.folder after.folder → IsDone command before after whole.line
  done given = record { answer = Packs whole; outcome = outcome; line = refl; given = given }

  over : IsFull whole before.folder after.folder → IsRefused command before after (refusal_line (RefusesFolder (NotEmpty whole.place)))
  over full = record { refusal = RefusesFolder (NotEmpty whole.place); line = refl; reason = inr (record { whole = whole; outcome = outcome; not_empty = refl; full = full }) }

  delivered_ends : (status : Status) → IsDelivered whole before.tree after.tree before.folder after.folder before.sink after.sink status → EndsFor command before after status
  delivered_ends Done h = (whole.line, done h.0, h.1)
  delivered_ends Refused h = (refusal_line (RefusesFolder (NotEmpty whole.place)), over h.0, h.1)
  delivered_ends WriteFailed h = record { whole = whole; outcome = outcome; cut_off = h.0; silent = h.1 }
  delivered_ends NoMemory h = record { folder = h.0; sink = h.1 }
  delivered_ends PrintFailed h =
      elim h [
        | inl p ↦ inl (whole.line, done p.0, p.1)
        | inr q ↦ inr (refusal_line (RefusesFolder (NotEmpty whole.place)), over q.0, q.1)
      ]
  delivered_ends Usage h = h
  delivered_ends ReadFailed h =
      (packs_reads command before whole outcome, h.0, inr (record { whole = whole; outcome = outcome; cut_short = h.1; silent = h.2 }))

module _ (command : Command) (before after : Outside) (refusal : Refusal) (outcome : IsOutcome command before (Err refusal)) (untouched : Stays before.folder after.folder) where
  decided : IsRefused command before after (refusal_line refusal)
  decided = record { refusal = refusal; line = refl; reason = inl (record { outcome = outcome; untouched = untouched }) }

  pub refused_ends : (status : Status) → IsRefusal refusal before.sink after.sink status → EndsFor command before after status
  refused_ends status h =
      let P : Status → Type 0 = λ s. EndsFor command before after s in
      elim h [
        | inl none ↦ subst P (sym none.0) (record { folder = untouched; sink = none.1 })
        | inr said ↦ elim said [
          | inl took ↦ subst P (sym took.0) (refusal_line refusal, decided, took.1)
          | inr part ↦ subst P (sym part.0) (inr (refusal_line refusal, decided, part.1))
        ]
      ]

module _ (command : Command) (before after : Outside) (text : List ℕ) (outcome : IsOutcome command before (Ok (Says text))) (untouched : Stays before.folder after.folder) where
  said_ends : (line : List ℕ) (status : Status) → line ≡ text → IsSaid line Done before.sink after.sink status → EndsFor command before after status
  said_ends line status is h =
      let P : Status → Type 0 = λ s. EndsFor command before after s in
      let done : IsDone command before after line = record { answer = Says text; outcome = outcome; line = is; given = untouched } in
      elim h [
        | inl took ↦ subst P (sym took.0) (line, done, took.1)
        | inr part ↦ subst P (sym part.0) (inl (line, done, part.1))
      ]

-- how a call for a command ends that has an answer
pub answer_ends : (command : Command) (before after : Outside) (answer : Answer) → IsOutcome command before (Ok answer) → (status : Status) → IsAnswerDelivered answer before.tree after.tree before.folder after.folder before.sink after.sink status → EndsFor command before after status
answer_ends command before after (Says text) outcome status h = said_ends command before after text outcome h.0 text status refl h.1
answer_ends command before after (Packs whole) outcome status h = delivered_ends command before after whole outcome status h

-- how a call for no command ends
pub unshaped_ends : (before after : Outside) (line : List ℕ) (status : Status) → Stays before.folder after.folder → line ≡ usage_text → IsSaid line Usage before.sink after.sink status → EndsUnshaped before after status
unshaped_ends before after line status untouched is h =
    let P : Status → Type 0 = λ s. EndsUnshaped before after s in
    elim h [
      | inl took ↦ subst P (sym took.0) (line, (is, untouched), took.1)
      | inr part ↦ subst P (sym part.0) (line, (is, untouched), part.1)
    ]

-- ---- of a tree that was read before

module _ (whole : Whole) (tree mid tree' : View World) (folder folder' : View Folder) (sink sink' : View (List ℕ)) (told : mid.told ≡ tree.told) (grew : tree.faults ≤ mid.faults) where
  whole_since : IsWhole mid.told whole folder folder' → IsWhole tree.told whole folder folder'
  whole_since h = subst (λ (t : Option World). IsWhole t whole folder folder') told h

  delivered_since : (status : Status) → IsDelivered whole mid tree' folder folder' sink sink' status → IsDelivered whole tree tree' folder folder' sink sink' status
  delivered_since Done h = (whole_since h.0, h.1)
  delivered_since Refused h = h
  delivered_since ReadFailed h = (rose_later tree.faults mid.faults tree'.faults grew h.0, subst (λ (t : Option World). IsCutShort t whole folder folder') told h.1, h.2)
  delivered_since WriteFailed h = (subst (λ (t : Option World). IsCutOff t whole folder folder') told h.0, h.1)
  delivered_since NoMemory h = h
  delivered_since PrintFailed h = elim h [ inl p ↦ inl (whole_since p.0, p.1) | inr q ↦ inr q ]
  delivered_since Usage h = h

-- an answer that was given is given of what the tree told before it was read
pub given_since : (answer : Answer) (tree mid tree' : View World) (folder folder' : View Folder) (sink sink' : View (List ℕ)) (status : Status) → OnlyReads tree mid → IsAnswerDelivered answer mid tree' folder folder' sink sink' status → IsAnswerDelivered answer tree tree' folder folder' sink sink' status
given_since (Says text) tree mid tree' folder folder' sink sink' status reads h = h
given_since (Packs whole) tree mid tree' folder folder' sink sink' status reads h = delivered_since whole tree mid tree' folder folder' sink sink' reads.stays reads.never_falls status h

pub probed_since : (answer : Answer) (tree mid : View World) → OnlyReads tree mid → IsAnswerProbed tree.told answer → IsAnswerProbed mid.told answer
probed_since answer tree mid reads h = subst (λ (t : Option World). IsAnswerProbed t answer) (sym reads.stays) h

-- a tree that was read twice was read
pub both_read : (tree mid tree' : View World) → OnlyReads tree mid → OnlyReads mid tree' → OnlyReads tree tree'
both_read tree mid tree' a b = record { stays = b.stays ∙ a.stays; never_falls = omega (arith, a.never_falls, b.never_falls) }
