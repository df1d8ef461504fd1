-- Bytes that are added piece by piece.
use Rattle.std.proofs.Common.{ℕ, zero, suc, List, [], ◌∷◌, ◌++◌, ◌+◌, ◌-◌, ◌≤◌, ◌≡◌, refl, ap, sym, ◌∙◌, subst, length, take, drop, min, arith, Option, Some, None, length-append, length-drop}
use Rattle.std.proofs.Math.Seq.{take-add, take-length}
use Rattle.std.proofs.lemmas.List.{length-take-le}
use Rattle.answers.specs.Told.{WhereTold}
use Rattle.load_model.specs.World.{World, file_at}
use Rattle.load_model.specs.declared.world.WorldFile.{WorldFile}
use Rattle.ports.specs.Folder.{Folder, grown}
use Rattle.ports.specs.Reading.{bytes_at, bytes_of, found_of}
use Rattle.ports.specs.View.{Became, View}
use Rattle.ports.specs.declared.trees.Found.TheVariants.{File}
use Rattle.appdir_files.specs.Writing.{HasLength, IsBodyAdded, IsFrontAdded}
use Rattle.appdir_files.specs.declared.items.Body.TheVariants.{Copy}
use Rattle.appdir_files.proofs.FolderLemmas.{grown_more, grown_none}

-- a shorter front of a front
take_within : {A : Type 0} (w n : ℕ) (l : List A) → w ≤ n → take w (take n l) ≡ take w l
take_within zero n l h = refl
take_within (suc w) zero l h = absurd (omega arith)
take_within (suc w) (suc n) [] h = refl
take_within (suc w) (suc n) (x ∷ l) h = ap (λ m. x ∷ m) (take_within w n l (omega arith))

length_of_found : (id : List ℕ) (len : ℕ) (found : Option WorldFile) → found_of found ≡ File id len → length (bytes_of found) ≡ len
length_of_found id len None h = absurd (cc)
length_of_found id len (Some f) h = cc

-- the file at the path has the length that a probe told
pub length_told : (world : World) (path : List ℕ) (len : ℕ) → HasLength world path len → length (bytes_at world path) ≡ len
length_told world path len h = length_of_found h.0 len (file_at world path) h.1

rest_length : (bytes : List ℕ) (at : ℕ) → length (take (length bytes - at) (drop at bytes)) ≡ length bytes - at
rest_length bytes at =
    let rest : length (drop at bytes) ≡ length bytes - at = length-drop at bytes in
    length-take-le (length bytes - at) (drop at bytes) (omega (arith, rest))

-- a piece of what is left is no longer than that
pub piece_fits : (bytes : List ℕ) (at n most : ℕ) → n ≡ min (length (take (length bytes - at) (drop at bytes))) most → n ≤ length bytes - at
piece_fits bytes at n most e = omega (arith, e, rest_length bytes at)

-- the first pieces of some bytes, and one more of what is left
pub pieces_more : (bytes : List ℕ) (at n : ℕ) (x y z : View Folder) → n ≤ length bytes - at → Became (grown (take at bytes)) x y → Became (grown (take n (take (length bytes - at) (drop at bytes)))) y z → Became (grown (take (at + n) bytes)) x z
pieces_more bytes at n x y z less p q =
    let here : Became (grown (take n (drop at bytes))) y z = subst (λ (b : List ℕ). Became (grown b) y z) (take_within n (length bytes - at) (drop at bytes) less) q in
    subst (λ (b : List ℕ). Became (grown b) x z) (sym (take-add at n bytes)) (grown_more (take at bytes) (take n (drop at bytes)) x y z p here)

-- nothing is added yet
pub front_none : (told : Option World) (from : List ℕ) (view : View Folder) → IsFrontAdded told from 0 view view
front_none told from view = record { bytes = []; size = refl; front = λ world t. refl; added = grown_none view }

-- one more piece of what was read
pub front_more : (told : Option World) (from window : List ℕ) (at count n : ℕ) (x y z : View Folder) → IsFrontAdded told from at x y → WhereTold told (λ world. take count window ≡ take count (drop at (bytes_at world from))) → n ≤ count → count ≤ length window → Became (grown (take n (take count window))) y z → IsFrontAdded told from (at + n) x z
front_more told from window at count n x y z so read less fits more =
    let cut : take n (take count window) ≡ take n window = take_within n count window less in
    record {
      bytes = so.bytes ++ take n window;
      size = length-append so.bytes (take n window) ∙ omega (arith, so.size, length-take-le n window (omega (arith, less, fits)));
      front = λ world t.
          let all : List ℕ = bytes_at world from in
          let next : take n window ≡ take n (drop at all) = sym cut ∙ (ap (take n) (read world t) ∙ take_within n count (drop at all) less) in
          ap (λ b. b ++ take n window) (so.front world t) ∙ (ap (λ b. take at all ++ b) next ∙ sym (take-add at n all));
      added = subst (λ (b : List ℕ). Became (grown (so.bytes ++ b)) x z) cut (grown_more so.bytes (take n (take count window)) x y z so.added more);
    }

-- all of a file that is copied was added
pub copy_added : (told : Option World) (from : List ℕ) (len : ℕ) (x y : View Folder) → WhereTold told (λ world. HasLength world from len) → IsFrontAdded told from len x y → IsBodyAdded told (Copy from len) x y
copy_added told from len x y probed so = record {
  bytes = so.bytes;
  right = (so.size, λ world t. so.front world t ∙ (ap (λ k. take k (bytes_at world from)) (sym (length_told world from len (probed world t))) ∙ take-length (bytes_at world from)));
  added = so.added;
}
