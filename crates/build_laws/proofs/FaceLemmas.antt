-- What a loader sees of files that are rewritten, and that they are for the same machine.
use Rattle.std.proofs.Common.{◌≡◌, ◌∙◌, sym, ap, refl, subst, ℕ, ◌≤◌, ◌&&◌, ◌==◌, List, [], ◌∷◌, Bool, true, false, None, Ok, eqb, length, nat_le, arith}
use Rattle.std.specs.Prelude.{not}
use Rattle.std.specs.List.{starts_with}
use Rattle.std.proofs.lemmas.Bool.{le-leb}
use Rattle.answers.specs.First.{some_where}
use Rattle.byte_view.proofs.Loads.{none_first}
use Rattle.byte_view.specs.DynamicFlaws.{dynamic_flaw}
use Rattle.byte_view.specs.HeaderFlaws.{header_flaw, ident_flaw, not_elf, segment_flaw, short_header, too_big, word_flaw, wrong_class, wrong_ident_version, wrong_order, wrong_version}
use Rattle.byte_view.specs.Headers.{e_machine, ei_class, ei_data, headers}
use Rattle.byte_view.specs.declared.constants.TheConstants.{ELFCLASS64, ELFDATA2LSB, ELFMAG}
use Rattle.byte_view.specs.declared.flaws.Flaw.{Flaw}
use Rattle.elf_face.proofs.Within.{header_whole}
use Rattle.elf_rewrite.specs.NewFile.{wanted_of}
use Rattle.elf_rewrite.specs.declared.change.Change.{Change}
use Rattle.load_model.specs.Faces.{face_of, first_flaw, name_flaw}
use Rattle.load_model.specs.LoadList.{Object}
use Rattle.load_model.specs.SymbolFlaws.{symbol_count, symbol_flaw}
use Rattle.load_model.specs.VersionFlaws.{version_flaw}
use Rattle.load_model.specs.World.{is_other}
use Rattle.load_model.specs.declared.faces.Face.{Face}
use Rattle.object_rewriting.proofs.NamingLemmas.{with_face}
use Rattle.object_rewriting.proofs.RewrittenLemmas.{rewritten_face}
use Rattle.two_files.specs.Alike.{face_with}
use Rattle.build_laws.proofs.BesideLemmas.{IsRewrittenBy}

-- ---- for which machine a file with a face is

shown_by : (b : Bool) (f : Flaw) → some_where (not b) f ≡ None → b ≡ true
shown_by true f h = refl
shown_by false f h = absurd (cc)

-- It begins as an object of 64-bit words, the lowest byte of a number first.
record IsObjectFile (file : List ℕ) : Type 0 where
  long : nat_le 20 (length file) ≡ true
  elf : starts_with eqb file ELFMAG ≡ true
  class : (ei_class file == ELFCLASS64) ≡ true
  order : (ei_data file == ELFDATA2LSB) ≡ true

object_file : (file : List ℕ) → first_flaw file ≡ None → IsObjectFile file
unfolding first_flaw header_flaw ident_flaw
object_file file e =
    let header = none_first (header_flaw file) (dynamic_flaw file ∷ symbol_flaw file ∷ version_flaw (symbol_count file) file ∷ name_flaw file ∷ []) e in
    let ident = none_first (ident_flaw file) (word_flaw file ∷ segment_flaw (length file) (headers file) ∷ []) header.0 in
    let big = none_first (too_big file) (not_elf file ∷ short_header file ∷ wrong_class file ∷ wrong_order file ∷ wrong_ident_version file ∷ wrong_version file ∷ []) ident.0 in
    let elf = none_first (not_elf file) (short_header file ∷ wrong_class file ∷ wrong_order file ∷ wrong_ident_version file ∷ wrong_version file ∷ []) big.1 in
    let short = none_first (short_header file) (wrong_class file ∷ wrong_order file ∷ wrong_ident_version file ∷ wrong_version file ∷ []) elf.1 in
    let class = none_first (wrong_class file) (wrong_order file ∷ wrong_ident_version file ∷ wrong_version file ∷ []) short.1 in
    let order = none_first (wrong_order file) (wrong_ident_version file ∷ wrong_version file ∷ []) class.1 in
    let whole : 64 ≤ length file = header_whole file header.0 in
    record {
      long = le-leb 20 (length file) (omega arith);
      elf = shown_by (starts_with eqb file ELFMAG) _ elf.0;
      class = shown_by (ei_class file == ELFCLASS64) _ class.0;
      order = shown_by (ei_data file == ELFDATA2LSB) _ order.0;
    }

right_by : (a b c d m : Bool) → a ≡ true → b ≡ true → c ≡ true → d ≡ true → m ≡ true → (a && (b && not (c && (d && m)))) ≡ false
right_by true true true true true e f g h i = refl
right_by true true true true false e f g h i = cc
right_by true true true false m e f g h i = cc
right_by true true false d m e f g h i = cc
right_by true false c d m e f g h i = cc
right_by false b c d m e f g h i = cc

machine_by : (a b c d m : Bool) → a ≡ true → b ≡ true → (a && (b && not (c && (d && m)))) ≡ false → m ≡ true
machine_by true true true true true e f h = refl
machine_by true true true true false e f h = absurd (cc)
machine_by true true true false m e f h = absurd (cc)
machine_by true true false d m e f h = absurd (cc)
machine_by true false c d m e f h = absurd (cc)
machine_by false b c d m e f h = absurd (cc)

for_machine : (m : ℕ) (file : List ℕ) → first_flaw file ≡ None → is_other m file ≡ false → (e_machine file == m) ≡ true
for_machine m file e right =
    let o = object_file file e in
    machine_by (nat_le 20 (length file)) (starts_with eqb file ELFMAG) (ei_class file == ELFCLASS64) (ei_data file == ELFDATA2LSB) (e_machine file == m) o.long o.elf right

right_for : (m : ℕ) (file : List ℕ) → first_flaw file ≡ None → (e_machine file == m) ≡ true → is_other m file ≡ false
right_for m file e machine =
    let o = object_file file e in
    right_by (nat_le 20 (length file)) (starts_with eqb file ELFMAG) (ei_class file == ELFCLASS64) (ei_data file == ELFDATA2LSB) (e_machine file == m) o.long o.elf o.class o.order machine

machine_of : (file : List ℕ) → (face_of file).machine ≡ e_machine file
unfolding face_of
machine_of file = refl

machine_with : (file : List ℕ) (change : Change) → (face_with file (wanted_of file change)).machine ≡ e_machine file
unfolding face_with
machine_with file change = refl

-- ---- the face of a file that is rewritten

pub new_face : (change : Change) (o q : Object) (by : IsRewrittenBy change o q) → q.face ≡ face_with by.bytes (wanted_of by.bytes change)
new_face change o q by =
    let both : Ok q.face ≡ Ok (face_with by.bytes (wanted_of by.bytes change)) = sym by.seen ∙ rewritten_face by.bytes by.made change o.face by.are_bytes by.reads by.fits by.made_is in
    cc

-- It is for the machine of the old one.
pub new_right : (m : ℕ) (change : Change) (o q : Object) (by : IsRewrittenBy change o q) → is_other m by.bytes ≡ false → is_other m by.made ≡ false
new_right m change o q by right =
    let old = with_face by.bytes o.face by.reads in
    let new = with_face by.made q.face by.seen in
    let same : e_machine by.made ≡ e_machine by.bytes =
    sym (machine_of by.made) ∙ ap (λ (f : Face). f.machine) (sym new.1 ∙ new_face change o q by) ∙ machine_with by.bytes change in
    right_for m by.made new.0 (ap (λ n. n == m) same ∙ for_machine m by.bytes old.0 right)

-- The texts of the new face are those of the change.
pub record HasTexts (change : Change) (face : Face) : Type 0 where
  pub needs : face.needs ≡ change.needs
  pub soname : face.soname ≡ change.soname
  pub rpath : face.rpath ≡ None
  pub runpath : face.runpath ≡ change.runpath

texts_with : (file : List ℕ) (change : Change) → HasTexts change (face_with file (wanted_of file change))
unfolding face_with
texts_with file change = record { needs = refl; soname = refl; rpath = refl; runpath = refl }

pub new_texts : (change : Change) (o q : Object) → IsRewrittenBy change o q → HasTexts change q.face
new_texts change o q by = subst (HasTexts change) (sym (new_face change o q by)) (texts_with by.bytes change)
