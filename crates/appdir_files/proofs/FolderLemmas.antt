-- What a folder tells after pieces and files were written.
use Rattle.std.proofs.Common.{ℕ, Bool, List, [], ◌∷◌, ◌++◌, ◌≡◌, refl, ap, sym, ◌∙◌, subst, Option, Some, None, IsSome, IsNone, option_map, append-nil, append_assoc}
use Rattle.ports.specs.declared.folders.MemFile.{MemFile}
use Rattle.ports.specs.Folder.{Added, Folder, IsClosed, begun, closed, grown, grown_file, with_files}
use Rattle.ports.specs.View.{Became, Changed, Stays, View}
use Rattle.appdir_files.specs.Writing.{IsBegun}

-- ---- pieces

grown_none_file : (pending : Option MemFile) → option_map (grown_file []) pending ≡ pending
grown_none_file None = refl
grown_none_file (Some file) = ap (λ b. Some (record { path = file.path; executable = file.executable; bytes = b })) (append-nil file.bytes)

grown_none_told : (told : Option Folder) → told ≡ option_map (grown []) told
grown_none_told None = refl
grown_none_told (Some f) = ap (λ p. Some (record { finished = f.finished; pending = p; roots = f.roots })) (sym (grown_none_file f.pending))

-- no piece changes nothing
pub grown_none : (view : View Folder) → Became (grown []) view view
grown_none view = grown_none_told view.told

grown_more_file : (a b : List ℕ) (pending : Option MemFile) → option_map (grown_file b) (option_map (grown_file a) pending) ≡ option_map (grown_file (a ++ b)) pending
grown_more_file a b None = refl
grown_more_file a b (Some file) = ap (λ x. Some (record { path = file.path; executable = file.executable; bytes = x })) (append_assoc file.bytes a b)

grown_more_told : (a b : List ℕ) (told : Option Folder) → option_map (grown b) (option_map (grown a) told) ≡ option_map (grown (a ++ b)) told
grown_more_told a b None = refl
grown_more_told a b (Some f) = ap (λ p. Some (record { finished = f.finished; pending = p; roots = f.roots })) (grown_more_file a b f.pending)

-- two pieces are one
pub grown_more : (a b : List ℕ) (x y z : View Folder) → Became (grown a) x y → Became (grown b) y z → Became (grown (a ++ b)) x z
grown_more a b x y z p q = q ∙ (ap (option_map (grown b)) p ∙ grown_more_told a b x.told)

-- ---- open files

some_grown : (a : List ℕ) (pending : Option MemFile) → IsSome pending → IsSome (option_map (grown_file a) pending)
some_grown a None h = absurd (cc)
some_grown a (Some file) h = refl

begun_grown : (a : List ℕ) (before after : Option Folder) → after ≡ option_map (grown a) before → ((f : Folder) → before ≡ Some f → IsSome f.pending) → (g : Folder) → after ≡ Some g → IsSome g.pending
begun_grown a None after e h g told = absurd (cc)
begun_grown a (Some f) after e h g told =
    let same : grown a f ≡ g = cc in
    subst (λ (k : Folder). IsSome k.pending) same (some_grown a f.pending (h f refl))

-- a file that grew is open
pub still_begun : (a : List ℕ) (x y : View Folder) → Became (grown a) x y → IsBegun x → IsBegun y
still_begun a x y e h = begun_grown a x.told y.told e h

just_begun : (path : List ℕ) (mark : Bool) (before after : Option Folder) → after ≡ option_map (begun path mark) before → (g : Folder) → after ≡ Some g → IsSome g.pending
just_begun path mark None after e g told = absurd (cc)
just_begun path mark (Some f) after e g told =
    let same : begun path mark f ≡ g = cc in
    subst (λ (k : Folder). IsSome k.pending) same refl

-- a file that was begun is open
pub is_begun : (path : List ℕ) (mark : Bool) (x y : View Folder) → Became (begun path mark) x y → IsBegun y
is_begun path mark x y e = just_begun path mark x.told y.told e

all_closed : (files : List MemFile) (before after : Option Folder) → after ≡ option_map (with_files files) before → (g : Folder) → after ≡ Some g → IsNone g.pending
all_closed files None after e g told = absurd (cc)
all_closed files (Some f) after e g told =
    let same : with_files files f ≡ g = cc in
    subst (λ (k : Folder). IsNone k.pending) same refl

-- after files were written no file is open
pub is_closed : (files : List MemFile) (x y : View Folder) → Became (with_files files) x y → IsClosed y
is_closed files x y e = all_closed files x.told y.told e

-- ---- what is finished

-- an open file, begun or grown, is no finished one
pub added_none : (f g : Folder) → g.finished ≡ f.finished → g.roots ≡ f.roots → Added [] f g
added_none f g e r = record { finished = e ∙ sym (append-nil f.finished); roots = r }

pub stays_cut : (x y : View Folder) → Stays x y → Changed (Added []) x y
stays_cut x y e = λ f told. (f, e ∙ told, added_none f f refl refl)

pub begun_cut : (path : List ℕ) (mark : Bool) (x y : View Folder) → Became (begun path mark) x y → Changed (Added []) x y
begun_cut path mark x y e = λ f told. (begun path mark f, e ∙ ap (option_map (begun path mark)) told, added_none f (begun path mark f) refl refl)

pub grown_cut : (a : List ℕ) (x y : View Folder) → Became (grown a) x y → Changed (Added []) x y
grown_cut a x y e = λ f told. (grown a f, e ∙ ap (option_map (grown a)) told, added_none f (grown a f) refl refl)

-- files that were added, and then others
pub added_more : (a b : List MemFile) (x y z : View Folder) → Changed (Added a) x y → Changed (Added b) y z → Changed (Added (a ++ b)) x z
added_more a b x y z p q = λ f told.
    let mid = p f told in
    let last = q mid.0 mid.1 in (
      last.0,
      last.1,
      record {
        finished = last.2.finished ∙ (ap (λ (i : List MemFile). i ++ b) mid.2.finished ∙ append_assoc f.finished a b);
        roots = last.2.roots ∙ mid.2.roots;
      },
    )

-- files that were added, and then none
pub added_then_none : (a : List MemFile) (x y z : View Folder) → Changed (Added a) x y → Changed (Added []) y z → Changed (Added a) x z
added_then_none a x y z p q = subst (λ (i : List MemFile). Changed (Added i) x z) (append-nil a) (added_more a [] x y z p q)

-- files that were written were added
pub written_added : (files : List MemFile) (x y : View Folder) → Became (with_files files) x y → Changed (Added files) x y
written_added files x y e = λ f told. (with_files files f, e ∙ ap (option_map (with_files files)) told, record { finished = refl; roots = refl })

-- ---- whole files

one_told : (path : List ℕ) (mark : Bool) (bytes : List ℕ) (told : Option Folder) → option_map closed (option_map (grown bytes) (option_map (begun path mark) told)) ≡ option_map (with_files ((record { path = path; executable = mark; bytes = bytes }) ∷ [])) told
one_told path mark bytes None = refl
one_told path mark bytes (Some f) = refl

-- a file that was begun, got these bytes and was finished
pub one_written : (path : List ℕ) (mark : Bool) (bytes : List ℕ) (x y z w : View Folder) → Became (begun path mark) x y → Became (grown bytes) y z → Became closed z w → Became (with_files ((record { path = path; executable = mark; bytes = bytes }) ∷ [])) x w
one_written path mark bytes x y z w p q r =
    r ∙ (ap (option_map closed) q
    ∙ (ap (λ t. option_map closed (option_map (grown bytes) t)) p ∙ one_told path mark bytes x.told))

both_told : (a b : List MemFile) (told : Option Folder) → option_map (with_files b) (option_map (with_files a) told) ≡ option_map (with_files (a ++ b)) told
both_told a b None = refl
both_told a b (Some f) = ap (λ i. Some (record { finished = i; pending = None; roots = f.roots })) (append_assoc f.finished a b)

-- files that were written, and then others
pub both_written : (a b : List MemFile) (x y z : View Folder) → Became (with_files a) x y → Became (with_files b) y z → Became (with_files (a ++ b)) x z
both_written a b x y z p q = q ∙ (ap (option_map (with_files b)) p ∙ both_told a b x.told)

no_files : (finished : List MemFile) (pending : Option MemFile) (roots : List (List ℕ)) → IsNone pending → with_files [] (record { finished = finished; pending = pending; roots = roots }) ≡ record { finished = finished; pending = pending; roots = roots }
no_files finished None roots closed = ap (λ files. record { finished = files; pending = None; roots = roots }) (append-nil finished)
no_files finished (Some file) roots closed = cc

no_files_told : (told : Option Folder) → ((folder : Folder) → told ≡ Some folder → IsNone folder.pending) → told ≡ option_map (with_files []) told
no_files_told None closed = refl
no_files_told (Some folder) closed = ap (λ f. Some f) (sym (no_files folder.finished folder.pending folder.roots (closed folder refl)))

-- where no file is open, writing none changes nothing
pub nothing_written : (view : View Folder) → IsClosed view → Became (with_files []) view view
nothing_written view closed = no_files_told view.told closed
