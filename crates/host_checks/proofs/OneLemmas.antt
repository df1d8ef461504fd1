-- The check of a place comes to one outcome at most.
use Rattle.std.proofs.Common.{◌≡◌, ◌∙◌, sym, ap, refl, subst, ℕ, List}
use Rattle.std.specs.Prelude.{Option, None, Some, Result, Ok, Err}
use Rattle.load_model.specs.World.{World, file_at}
use Rattle.load_model.specs.Faces.{face_or_flaw}
use Rattle.load_model.specs.declared.world.WorldFile.{WorldFile}
use Rattle.host_record.specs.Grammar.{Refuses, Says}
use Rattle.host_record.specs.declared.records.Record.{Record}
use Rattle.host_list.specs.Meeting.{first_difference}
use Rattle.host_list.specs.declared.differences.Difference.{Difference}
use Rattle.refusals.specs.declared.folder_refusal.FolderRefusal.{FolderRefusal}
use Rattle.refusals.specs.declared.folder_refusal.FolderRefusal.TheVariants.{FileChanged, HostFails, NotEmpty, RecordAbsent, RecordLine}
use Rattle.refusals.specs.declared.refusal.Refusal.{Refusal}
use Rattle.refusals.specs.declared.refusal.Refusal.TheVariants.{Config, Load, Split, Names, Rewrite, Files, Folder}
use Rattle.host_checks.specs.Hosting.{FailsRecord, HasBadLine, HasRecord, HostCheck, IsHostRefusal, MeetsRecord, host_setting, record_path}

-- a text has one reading
abbrev SaysOne : Type 0
SaysOne = (text : List ℕ) (r s : Record) → Says text r → Says text s → r ≡ s

abbrev RefusesOne : Type 0
RefusesOne = (text : List ℕ) (m n : ℕ) → Refuses text m → Refuses text n → m ≡ n

abbrev SaysOrRefuses : Type 0
SaysOrRefuses = (text : List ℕ) (r : Record) (n : ℕ) → Says text r → Refuses text n → ⊥

module _ (says_one : SaysOne) (refuses_one : RefusesOne) (says_or_refuses : SaysOrRefuses) (world : World) (place : List ℕ) where
  same_file : (f g : WorldFile) → file_at world (record_path place) ≡ Some f → file_at world (record_path place) ≡ Some g → f ≡ g
  same_file f g e h = let both = sym e ∙ h in cc

  one_record : (r s : Record) → HasRecord world place r → HasRecord world place s → r ≡ s
  one_record r s a b = says_one a.file.bytes r s a.says (subst (λ (f : WorldFile). Says f.bytes s) (sym (same_file a.file b.file a.lies b.lies)) b.says)

  one_line : (m n : ℕ) → HasBadLine world place m → HasBadLine world place n → m ≡ n
  one_line m n a b = refuses_one a.file.bytes m n a.refuses (subst (λ (f : WorldFile). Refuses f.bytes n) (sym (same_file a.file b.file a.lies b.lies)) b.refuses)

  not_both : (r : Record) (n : ℕ) → HasRecord world place r → HasBadLine world place n → ⊥
  not_both r n a b = says_or_refuses a.file.bytes r n a.says (subst (λ (f : WorldFile). Refuses f.bytes n) (sym (same_file a.file b.file a.lies b.lies)) b.refuses)

  absent : (path : List ℕ) (f : WorldFile) → path ≡ record_path place → file_at world path ≡ None → file_at world (record_path place) ≡ Some f → ⊥
  absent path f e none h = let both : None ≡ Some f = sym none ∙ (ap (file_at world) e ∙ h) in cc

  module _ (dirs : List (List ℕ)) where
    abbrev difference_in : Record → Option Difference
    difference_in r = first_difference face_or_flaw (host_setting r dirs) world r

    one_difference : (d e : Difference) → FailsRecord world place dirs d → FailsRecord world place dirs e → d ≡ e
    one_difference d e a b =
        let same = one_record a.demands b.demands a.lies b.lies in
        let both : Some d ≡ Some e = sym a.fails ∙ (ap difference_in same ∙ b.fails) in
        cc

    meets_or_fails : (d : Difference) → MeetsRecord world place dirs → FailsRecord world place dirs d → ⊥
    meets_or_fails d a b =
        let same = one_record a.demands b.demands a.lies b.lies in
        let both : None ≡ Some d = sym a.meets ∙ (ap difference_in same ∙ b.fails) in
        cc

    meets_or_refused : (f : FolderRefusal) → MeetsRecord world place dirs → IsHostRefusal world place dirs f → ⊥
    meets_or_refused (NotEmpty path) a h = h
    meets_or_refused (FileChanged path) a h = h
    meets_or_refused (RecordAbsent path) a h = absent path a.lies.file h.0 h.1 a.lies.lies
    meets_or_refused (RecordLine n) a h = not_both a.demands n a.lies h
    meets_or_refused (HostFails d) a h = meets_or_fails d a h

    one_refusal : (f g : FolderRefusal) → IsHostRefusal world place dirs f → IsHostRefusal world place dirs g → f ≡ g
    one_refusal (NotEmpty path) g h k = absurd h
    one_refusal (FileChanged path) g h k = absurd h
    one_refusal (RecordAbsent path) (NotEmpty other) h k = absurd k
    one_refusal (RecordAbsent path) (FileChanged other) h k = absurd k
    one_refusal (RecordAbsent path) (RecordAbsent other) h k = ap RecordAbsent (h.0 ∙ sym k.0)
    one_refusal (RecordAbsent path) (RecordLine n) h k = absurd (absent path k.file h.0 h.1 k.lies)
    one_refusal (RecordAbsent path) (HostFails d) h k = absurd (absent path k.lies.file h.0 h.1 k.lies.lies)
    one_refusal (RecordLine n) (NotEmpty other) h k = absurd k
    one_refusal (RecordLine n) (FileChanged other) h k = absurd k
    one_refusal (RecordLine n) (RecordAbsent path) h k = absurd (absent path h.file k.0 k.1 h.lies)
    one_refusal (RecordLine n) (RecordLine m) h k = ap RecordLine (one_line n m h k)
    one_refusal (RecordLine n) (HostFails d) h k = absurd (not_both k.demands n k.lies h)
    one_refusal (HostFails d) (NotEmpty other) h k = absurd k
    one_refusal (HostFails d) (FileChanged other) h k = absurd k
    one_refusal (HostFails d) (RecordAbsent path) h k = absurd (absent path h.lies.file k.0 k.1 h.lies.lies)
    one_refusal (HostFails d) (RecordLine n) h k = absurd (not_both h.demands n h.lies k)
    one_refusal (HostFails d) (HostFails e) h k = ap HostFails (one_difference d e h k)

    -- a refusal that a check comes to is one of a folder
    record IsOfFolder (why : Refusal) : Type 0 where
      refusal : FolderRefusal
      why_is : why ≡ Folder refusal
      refused : IsHostRefusal world place dirs refusal

    of_folder : (why : Refusal) → HostCheck world place dirs (Err why) → IsOfFolder why
    of_folder (Config refusal) h = absurd h
    of_folder (Load refusal) h = absurd h
    of_folder (Split refusal) h = absurd h
    of_folder (Names refusal) h = absurd h
    of_folder (Rewrite refusal) h = absurd h
    of_folder (Files refusal) h = absurd h
    of_folder (Folder refusal) h = record { refusal = refusal; why_is = refl; refused = h }

    pub one_check : (one other : Result (List ℕ) Refusal) → HostCheck world place dirs one → HostCheck world place dirs other → one ≡ other
    one_check (Ok text) (Ok other) h k = ap Ok (h.0 ∙ sym k.0)
    one_check (Ok text) (Err why) h k = let f = of_folder why k in absurd (meets_or_refused f.refusal h.1 f.refused)
    one_check (Err why) (Ok text) h k = let f = of_folder why h in absurd (meets_or_refused f.refusal k.1 f.refused)
    one_check (Err why) (Err other) h k =
        let f = of_folder why h in
        let g = of_folder other k in
        ap Err (f.why_is ∙ (ap Folder (one_refusal f.refusal g.refusal f.refused g.refused) ∙ sym g.why_is))
