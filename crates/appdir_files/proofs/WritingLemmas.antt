-- Items that are written one after the other.
use Rattle.std.proofs.Common.{ℕ, false, add-one, Result, Ok, Err, OnOk, is_err, List, [], ◌∷◌, ◌++◌, ◌+◌, ◌<◌, ◌≡◌, refl, ap, sym, ◌∙◌, subst, length, take, get_or, Option}
use Rattle.std.specs.List.{AllZip}
use Rattle.std.proofs.Math.Seq.{take-suc}
use Rattle.load_model.specs.World.{World}
use Rattle.ports.specs.Folder.{Added, Folder, IsClosed, begun, closed}
use Rattle.ports.specs.View.{Became, Changed, View}
use Rattle.appdir_files.specs.Writing.{IsBodyAdded, IsFileOf, IsPartWritten, IsWritten}
use Rattle.appdir_files.specs.declared.items.Item.{Item}
use Rattle.appdir_files.proofs.FolderLemmas.{added_then_none, both_written, nothing_written, one_written, written_added}

zip_append : {A B : Type 0} (R : A → B → Type 0) (xs zs : List A) (ys ws : List B) → AllZip R xs ys → AllZip R zs ws → AllZip R (xs ++ zs) (ys ++ ws)
zip_append R [] zs [] ws p q = q
zip_append R [] zs (y ∷ ys) ws p q = absurd p
zip_append R (x ∷ xs) zs [] ws p q = absurd p
zip_append R (x ∷ xs) zs (y ∷ ys) ws p q = (p.0, zip_append R xs zs ys ws p.1 q)

-- no item is written yet
pub none_written : (told : Option World) (view : View Folder) → IsClosed view → IsWritten told [] view view
none_written told view free = record { files = []; each = tt; written = nothing_written view free }

-- one item was written
pub item_written : (told : Option World) (item : Item) (x y z w : View Folder) → Became (begun item.path item.executable) x y → IsBodyAdded told item.body y z → Became closed z w → IsWritten told (item ∷ []) x w
item_written told item x y z w p q r = record {
  files = (record { path = item.path; executable = item.executable; bytes = q.bytes }) ∷ [];
  each = (record { path = refl; mark = refl; bytes = q.right }, tt);
  written = one_written item.path item.executable q.bytes x y z w p q.added r;
}

-- items were written, and then others
pub more_written : (told : Option World) (a b : List Item) (x y z : View Folder) → IsWritten told a x y → IsWritten told b y z → IsWritten told (a ++ b) x z
more_written told a b x y z p q = record {
  files = p.files ++ q.files;
  each = zip_append (IsFileOf told) a b p.files q.files p.each q.each;
  written = both_written p.files q.files x y z p.written q.written;
}

take_next : {X : Type 0} (xs : List X) (i : ℕ) (x : X) → i < length xs → x ≡ get_or xs i x → take (i + 1) xs ≡ take i xs ++ x ∷ []
take_next xs i x less e = ap (λ k. take k xs) (add-one i) ∙ (take-suc xs i x less ∙ ap (λ y. take i xs ++ y ∷ []) (sym e))

-- items were written, and the next one
pub next_written : (told now : Option World) (items : List Item) (i : ℕ) (item : Item) (x y z : View Folder) → i < length items → item ≡ get_or items i item → now ≡ told → IsWritten told (take i items) x y → IsWritten now (item ∷ []) y z → IsWritten told (take (i + 1) items) x z
next_written told now items i item x y z less e same p q =
    let here : IsWritten told (item ∷ []) y z = subst (λ (t : Option World). IsWritten t (item ∷ []) y z) same q in
    subst (λ (l : List Item). IsWritten told l x z) (sym (take_next items i item less e)) (more_written told (take i items) (item ∷ []) x y z p here)

-- a call that was no failure was Ok
pub not_err : {A E : Type 0} (r : Result A E) (P : Type 0) → is_err r ≡ false → OnOk r P → P
not_err (Ok a) P e h = h
not_err (Err x) P e h = absurd (cc)

-- items were written, and the next one was not
pub part_written : (told : Option World) (items : List Item) (count : ℕ) (x y z : View Folder) → count < length items → IsWritten told (take count items) x y → Changed (Added []) y z → IsPartWritten told items x z
part_written told items count x y z less p cut = record {
  count = count;
  proper = less;
  files = p.files;
  each = p.each;
  written = added_then_none p.files x y z (written_added p.files x y p.written) cut;
}
