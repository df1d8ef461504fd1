-- What writing into a folder comes to, from what its steps say.
use Rattle.std.proofs.Common.{ℕ, List, [], ◌∷◌, ◌≡◌, ◌≢◌, ◌<◌, ◌≤◌, inr, length, take, refl, ap, ◌∙◌, subst, Option, Some, None, option_map, arith}
use Rattle.answers.specs.Faults.{Rose}
use Rattle.appdir_files.specs.Writing.{AreFilesOf, IsCopyCause, IsPartWritten, IsWritten}
use Rattle.appdir_files.specs.declared.items.Item.{Item}
use Rattle.appdir_files.specs.declared.stops.CopyStop.{CopyStop}
use Rattle.appdir_files.specs.declared.stops.CopyStop.TheVariants.{Read, Write}
use Rattle.load_model.specs.World.{World}
use Rattle.ports.specs.Folder.{Folder, root_state, with_files, with_root}
use Rattle.ports.specs.View.{Became, View}
use Rattle.ports.specs.declared.folders.MemFile.{MemFile}
use Rattle.ports.specs.declared.folders.RootState.TheVariants.{Empty, NotEmpty as Filled}
use Rattle.deliveries.specs.Delivery.{IsCutShort, IsFull, IsStoppedBy, IsWhole}
use Rattle.deliveries.specs.declared.answer.Whole.{Whole}

held_files : (files : List MemFile) → Filled ≡ root_state files → files ≢ []
held_files [] e = absurd (cc)
held_files (file ∷ files) e = λ f. cc

no_files : (files : List MemFile) → Empty ≡ root_state files → files ≡ []
no_files [] e = refl
no_files (file ∷ files) e = absurd (cc)

both : {A : Type 0} (f g : A → A) (told : Option A) → option_map f (option_map g told) ≡ option_map (λ x. f (g x)) told
both f g None = refl
both f g (Some x) = refl

-- a count that rose after it did not fall rose
pub rose_later : (a b c : ℕ) → a ≤ b → Rose b c → Rose a c
rose_later a b c stays rose = omega (arith, stays, rose)

module _ (whole : Whole) (before rooted : View Folder) (opened : Became (with_root whole.place) before rooted) where
  -- the folder held a file
  pub opened_full : ((folder : Folder) → before.told ≡ Some folder → Filled ≡ root_state folder.finished) → IsFull whole before rooted
  opened_full state = record { held = λ folder told. held_files folder.finished (state folder told); root = opened }

  module _ (state : (folder : Folder) → before.told ≡ Some folder → Empty ≡ root_state folder.finished) (after : View Folder) (items : List Item) (same : items ≡ whole.items) where
    -- all was written
    pub opened_whole : (told : Option World) → IsWritten told items rooted after → IsWhole told whole before after
    opened_whole told written = record {
      empty = λ folder there. no_files folder.finished (state folder there);
      files = written.files;
      each = subst (λ (i : List Item). AreFilesOf told i written.files) same written.each;
      written = written.written ∙ (ap (option_map (with_files written.files)) opened ∙ both (with_files written.files) (with_root whole.place) before.told);
    }

    part_written : (told : Option World) → IsPartWritten told items rooted after → IsCutShort told whole before after
    part_written told part = record {
      empty = λ folder there. no_files folder.finished (state folder there);
      count = part.count;
      proper = subst (λ (i : List Item). part.count < length i) same part.proper;
      files = part.files;
      each = subst (λ (i : List Item). AreFilesOf told (take part.count i) part.files) same part.each;
      begun = λ folder there.
          let root : rooted.told ≡ Some (with_root whole.place folder) = opened ∙ ap (option_map (with_root whole.place)) there in
          let latest = part.written (with_root whole.place folder) root in
          (latest.0, latest.1, record { finished = latest.2.finished; roots = latest.2.roots });
    }

    -- a part was written
    pub stopped_short : (tree tree' : View World) (stop : CopyStop) → before.faults ≤ rooted.faults → IsPartWritten tree.told items rooted after → IsCopyCause tree tree' rooted after stop → IsStoppedBy whole tree tree' before after stop
    stopped_short tree tree' Read grew part cause = (cause, part_written tree.told part)
    stopped_short tree tree' Write grew part cause = record { cause = rose_later before.faults rooted.faults after.faults grew cause; left = inr (part_written tree.told part) }
