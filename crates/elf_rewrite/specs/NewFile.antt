-- What a change may ask for, and what the new file promises
use Rattle.std.specs.Prelude.{ℕ, ◌&&◌, ◌≡◌, ◌<◌, Bool, true, not, is_some, List, [], Option, Some, None, length, map, slice_index_or}
use Rattle.std.specs.List.{list_all}
use Rattle.std.specs.Option.{option_map, unwrap_or}
use Rattle.std.specs.Str.{is_utf8}
use Rattle.byte_view.specs.Dynamic.{string_at}
use Rattle.byte_view.specs.declared.constants.TheConstants.{DT_SONAME}
use Rattle.load_model.specs.Faces.{face_of, first_flaw, named_text, needs_of}
use Rattle.load_model.specs.VersionTables.{asks_of, text_of, verneed_place, vn_file}
use Rattle.path_text.specs.Path.{has_nul}
use Rattle.two_files.specs.Alike.{Wanted, face_with}
use Rattle.two_files.specs.Kept.{SameImage}
use Rattle.elf_rewrite.specs.NewTable.{old_size}
use Rattle.elf_rewrite.specs.NewTexts.{ask_files}
use Rattle.elf_rewrite.specs.Patched.{range_of}
use Rattle.elf_rewrite.specs.Rewriting.{file_for, rewriting}
use Rattle.elf_rewrite.specs.declared.change.Change.{Change}

-- A text that can stand in a string table and be read as a name.
abbrev pub is_name_text : List ℕ → Bool
is_name_text t = is_utf8 t && not (has_nul t)

abbrev pub is_name_or_none : Option (List ℕ) → Bool
is_name_or_none None = true
is_name_or_none (Some t) = is_name_text t

abbrev pub text_at : List (List ℕ) → ℕ → List ℕ
text_at texts i = slice_index_or texts i []

-- A change that can be made to a file with a face: a text for each need and each ask, equal ones
-- for asks of equal files; a soname only where there is one.
pub record Fits (change : Change) (b : List ℕ) : Type 0 where
  pub needs : length change.needs ≡ length (needs_of b)
  pub files : length change.files ≡ length (asks_of b)
  pub alike : (i j : ℕ) → i < length (asks_of b) → j < length (asks_of b) → text_at (ask_files b) i
      ≡ text_at (ask_files b) j
      → text_at change.files i ≡ text_at change.files j
  pub soname : is_some change.soname ≡ true → is_some (named_text b DT_SONAME) ≡ true
  pub need_texts : list_all is_name_text change.needs ≡ true
  pub file_texts : list_all is_name_text change.files ≡ true
  pub soname_text : is_name_or_none change.soname ≡ true
  pub path_text : is_name_or_none change.runpath ≡ true

-- The texts that the new file is to have.
abbrev pub wanted_of : List ℕ → Change → Wanted
wanted_of b change = record {
  needs = change.needs;
  soname = change.soname;
  runpath = change.runpath;
  files = λ k. unwrap_or (option_map (λ p. p.1) (file_for b change k))
      (text_of b (vn_file b (verneed_place b k)));
}

-- The new file has a face, which is the old one with these texts; old string places have their
-- texts; memory is the same but for what is written over it.
pub record IsNewFile (b : List ℕ) (change : Change) (c : List ℕ) : Type 0 where
  pub unflawed : first_flaw c ≡ None
  pub face : face_of c ≡ face_with b (wanted_of b change)
  pub texts : (at : ℕ) → at < old_size b → string_at c at ≡ string_at b at
  pub image : SameImage b c (map range_of (rewriting b change).patches)
