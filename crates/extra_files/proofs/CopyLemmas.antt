-- Files that lie at a path or do not, and items that are copies of them.
use Rattle.std.proofs.Common.{◌≡◌, sym, ap, refl, subst, ℕ, List, [], ◌∷◌, ◌++◌, Option, Some, None, length, codes, All}
use Rattle.std.specs.Prelude.{is_none}
use Rattle.std.proofs.lemmas.List.Elements.{All-cons, All-nil, All-push}
use Rattle.answers.specs.First.{some_where}
use Rattle.appdir_files.specs.Writing.{AreFilesOf, HasLength, IsFileOf, IsProbed}
use Rattle.load_model.proofs.Texts.{text}
use Rattle.load_model.specs.World.{World, file_at}
use Rattle.load_model.specs.declared.world.WorldFile.{WorldFile}
use Rattle.path_text.specs.Path.{base_of}
use Rattle.path_text.specs.Target.{target_fault}
use Rattle.ports.specs.Reading.{bytes_at, bytes_of, found_of}
use Rattle.ports.specs.declared.trees.Found.TheVariants.{File}
use Rattle.refusals.specs.declared.file_refusal.FileRefusal.TheVariants.{FileAbsent}
use Rattle.extra_files.specs.Copying.{copy_item, launcher_items}
use Rattle.extra_files.specs.Extras.{copy_at, desktop_files, icon_files}
use Rattle.extra_files.specs.Faults.{absence}

length_of : (o : Option WorldFile) (id : List ℕ) (len : ℕ) → found_of o ≡ File id len → length (bytes_of o) ≡ len
length_of None id len e = cc
length_of (Some file) id len e = cc

pub has_bytes : (world : World) (path : List ℕ) (len : ℕ) → HasLength world path len → length (bytes_at world path) ≡ len
has_bytes world path len h = length_of (file_at world path) h.0 len h.1

present : (o : Option WorldFile) (id path : List ℕ) (len : ℕ) → found_of o ≡ File id len → some_where (is_none o) (FileAbsent path) ≡ None
present None id path len e = cc
present (Some file) id path len e = refl

pub is_present : (world : World) (path : List ℕ) (len : ℕ) → HasLength world path len → absence world path ≡ None
is_present world path len h = present (file_at world path) h.0 path len h.1

same_bytes : (world : World) (path : List ℕ) (w : World) → Some world ≡ Some w → bytes_at world path ≡ bytes_at w path
same_bytes world path w e = let same : world ≡ w = cc in ap (λ x. bytes_at x path) same

pub copied : (world : World) (place from : List ℕ) (len : ℕ) → HasLength world from len → IsFileOf (Some world) (copy_item place from len) (copy_at world place from)
copied world place from len h = record {
  path = refl;
  mark = refl;
  bytes = (has_bytes world from len h, same_bytes world from);
}

-- The icon, twice, and the desktop file.
pub launcher_copied : (world : World) (desktop icon : List ℕ) (desktop_len icon_len : ℕ) → HasLength world desktop desktop_len → HasLength world icon icon_len → AreFilesOf (Some world) (launcher_items desktop desktop_len icon icon_len) (icon_files world (Some icon) ++ desktop_files world (Some desktop))
launcher_copied world desktop icon desktop_len icon_len d i =
    (copied world (base_of icon) icon icon_len i, (copied world (codes ".DirIcon") icon icon_len i, (copied world (base_of desktop) desktop desktop_len d, tt)))

pub launcher_probed : (told : Option World) (desktop icon : List ℕ) (desktop_len icon_len : ℕ) → ((world : World) → told ≡ Some world → HasLength world desktop desktop_len) → ((world : World) → told ≡ Some world → HasLength world icon icon_len) → All (IsProbed told) (launcher_items desktop desktop_len icon icon_len)
launcher_probed told desktop icon desktop_len icon_len d i =
    let one = copy_item (base_of icon) icon icon_len in
    let two = copy_item (codes ".DirIcon") icon icon_len in
    let three = copy_item (base_of desktop) desktop desktop_len in
    All-cons (IsProbed told) one (two ∷ three ∷ []) i
    (All-cons (IsProbed told) two (three ∷ []) i (All-cons (IsProbed told) three [] d (All-nil (IsProbed told))))

-- The name that a directory's icon has is a target.
pub dir_icon : target_fault (codes ".DirIcon") ≡ None
unfolding target_fault
dir_icon = rw (text (codes ".DirIcon") refl) refl

pub all_pushed : {X : Type 0} (P : X → Type 0) (xs more : List X) (x : X) → more ≡ xs ++ (x ∷ []) → All P xs → P x → All P more
all_pushed P xs more x e h one = subst (λ l. All P l) (sym e) (All-push P xs x h one)
