-- A file that names the same is one that the change fits, and the file that was loaded is
use Rattle.std.proofs.Common.{◌≡◌, ℕ, ◌==◌, ◌&&◌, Bool, true, false, is_some, List, [], ◌∷◌, Option, Some, None, Ok, length, refl, sym, ap, subst, ◌∙◌, arith}
use Rattle.std.specs.List.{list_all, zip}
use Rattle.std.specs.Str.{bytes_eq}
use Rattle.std.proofs.lemmas.Bool.{eqb-true, eq-eqb}
use Rattle.std.proofs.lemmas.Slice.Eq.{bytes_eq-Decides}
use Rattle.answers.specs.Answers.{Names}
use Rattle.byte_view.specs.declared.flaws.Flaw.{Flaw}
use Rattle.elf_face.specs.Faults.{flaw_of}
use Rattle.elf_face.specs.declared.faults.FaceFault.{FaceFault}
use Rattle.elf_face.specs.declared.faults.FaceFault.TheVariants.{Flawed, NoMemory}
use Rattle.load_model.proofs.TwoWorlds.{same_bytes}
use Rattle.load_model.specs.Faces.{face_of, face_or_flaw, face_unless, first_flaw}
use Rattle.load_model.specs.declared.asks.Ask.{Ask}
use Rattle.load_model.specs.declared.faces.Face.{Face}
use Rattle.elf_rewrite.proofs.FaceFitsLemmas.{face_fits}
use Rattle.elf_rewrite.specs.FittingFace.{FitsFace, files_in}
use Rattle.elf_rewrite.specs.NewFile.{Fits, text_at}
use Rattle.elf_rewrite.specs.declared.change.Change.{Change}
use Rattle.object_rewriting.specs.Naming.{files_match_up, names_the_same, same_files, same_text, same_texts}

both : (a b : Bool) → (a && b) ≡ true → (a ≡ true) × (b ≡ true)
both true b e = (refl, e)
both false b e = absurd (cc)

joined : (a b : Bool) → a ≡ true → b ≡ true → (a && b) ≡ true
joined true b e h = h
joined false b e h = absurd (cc)

same_number : (m n : ℕ) → (m == n) ≡ true → m ≡ n
same_number m n h = eqb-true m n h

number_itself : (n : ℕ) → (n == n) ≡ true
number_itself n = eq-eqb n n refl

bytes_itself : (xs : List ℕ) → bytes_eq xs xs ≡ true
bytes_itself xs = (bytes_eq-Decides xs xs).1 refl

one_by_one : (xs ys : List (List ℕ)) → length xs ≡ length ys → list_all (λ p. bytes_eq p.0 p.1) (zip xs ys) ≡ true → xs ≡ ys
one_by_one [] [] e h = refl
one_by_one [] (y ∷ ys) e h = absurd (omega arith)
one_by_one (x ∷ xs) [] e h = absurd (omega arith)
one_by_one (x ∷ xs) (y ∷ ys) e h =
    let a = both (bytes_eq x y) (list_all (λ p. bytes_eq p.0 p.1) (zip xs ys)) h in
    let first : x ≡ y = same_bytes x y a.0 in
    let rest : xs ≡ ys = one_by_one xs ys (omega arith) a.1 in
    cc

texts_are : (xs ys : List (List ℕ)) → same_texts xs ys ≡ true → xs ≡ ys
texts_are xs ys h =
    let a = both (length xs == length ys) (list_all (λ p. bytes_eq p.0 p.1) (zip xs ys)) h in
    one_by_one xs ys (same_number (length xs) (length ys) a.0) a.1

files_one_by_one : (xs ys : List Ask) → length xs ≡ length ys → files_match_up xs ys ≡ true → files_in xs ≡ files_in ys
files_one_by_one [] [] e h = refl
files_one_by_one [] (y ∷ ys) e h = absurd (omega arith)
files_one_by_one (x ∷ xs) [] e h = absurd (omega arith)
files_one_by_one (x ∷ xs) (y ∷ ys) e h =
    let a = both (bytes_eq x.file y.file) (files_match_up xs ys) h in
    let first : x.file ≡ y.file = same_bytes x.file y.file a.0 in
    let rest : files_in xs ≡ files_in ys = files_one_by_one xs ys (omega arith) a.1 in
    cc

text_is : (x y : Option (List ℕ)) → same_text x y ≡ true → x ≡ y
text_is None None h = refl
text_is None (Some y) h = absurd (cc)
text_is (Some x) None h = absurd (cc)
text_is (Some x) (Some y) h = ap (λ t. Some t) (same_bytes x y h)

pairs_themselves : (xs : List (List ℕ)) → list_all (λ p. bytes_eq p.0 p.1) (zip xs xs) ≡ true
pairs_themselves [] = refl
pairs_themselves (x ∷ xs) = joined (bytes_eq x x) (list_all (λ p. bytes_eq p.0 p.1) (zip xs xs)) (bytes_itself x) (pairs_themselves xs)

texts_themselves : (xs : List (List ℕ)) → same_texts xs xs ≡ true
texts_themselves xs = joined (length xs == length xs) (list_all (λ p. bytes_eq p.0 p.1) (zip xs xs)) (number_itself (length xs)) (pairs_themselves xs)

files_themselves : (xs : List Ask) → files_match_up xs xs ≡ true
files_themselves [] = refl
files_themselves (x ∷ xs) = joined (bytes_eq x.file x.file) (files_match_up xs xs) (bytes_itself x.file) (files_themselves xs)

same_files_themselves : (xs : List Ask) → same_files xs xs ≡ true
same_files_themselves xs = joined (length xs == length xs) (files_match_up xs xs) (number_itself (length xs)) (files_themselves xs)

text_itself : (x : Option (List ℕ)) → same_text x x ≡ true
text_itself None = refl
text_itself (Some x) = bytes_itself x

-- each face names what it names
names_itself : (f : Face) → names_the_same f f ≡ true
names_itself f =
    let more = joined (same_text f.soname f.soname) (same_files f.asks f.asks) (text_itself f.soname) (same_files_themselves f.asks) in
    joined (same_texts f.needs f.needs) (same_text f.soname f.soname && same_files f.asks f.asks) (texts_themselves f.needs) more

-- what fits a face fits each other that names the same
fits_alike : (change : Change) (f g : Face) → names_the_same f g ≡ true → FitsFace change g → FitsFace change f
fits_alike change f g same h =
    let a = both (same_texts f.needs g.needs) _ same in
    let b = both (same_text f.soname g.soname) (same_files f.asks g.asks) a.1 in
    let n = both (length f.asks == length g.asks) (files_match_up f.asks g.asks) b.1 in
    let needs : f.needs ≡ g.needs = texts_are f.needs g.needs a.0 in
    let soname : f.soname ≡ g.soname = text_is f.soname g.soname b.0 in
    let count : length f.asks ≡ length g.asks = same_number (length f.asks) (length g.asks) n.0 in
    let files : files_in f.asks ≡ files_in g.asks = files_one_by_one f.asks g.asks count n.1 in
    record {
      needs = h.needs ∙ sym (ap (λ (l : List (List ℕ)). length l) needs);
      files = h.files ∙ sym count;
      alike = λ i j low high like. h.alike i j (omega (arith, count)) (omega (arith, count)) (subst (λ (l : List (List ℕ)). text_at l i ≡ text_at l j) files like);
      soname = λ e. ap (λ (o : Option (List ℕ)). is_some o) soname ∙ h.soname e;
      need_texts = h.need_texts;
      file_texts = h.file_texts;
      soname_text = h.soname_text;
      path_text = h.path_text;
    }

-- a change that fits a face fits each file that names the same
pub fits_file : (change : Change) (face : Face) (b : List ℕ) → FitsFace change face → names_the_same (face_of b) face ≡ true → Fits change b
fits_file change face b h same = face_fits change (face_of b) b refl (fits_alike change (face_of b) face same h)

has_face : (found : Option Flaw) (f face : Face) → face_unless found f ≡ Ok face → (found ≡ None) × (face ≡ f)
has_face None f face h = (refl, cc)
has_face (Some flaw) f face h = absurd (cc)

-- a file with a face has no flaw
pub with_face : (b : List ℕ) (face : Face) → face_or_flaw b ≡ Ok face → (first_flaw b ≡ None) × (face ≡ face_of b)
unfolding face_or_flaw
with_face b face h = has_face (first_flaw b) (face_of b) face h

-- a file that has a flaw, or does not name the same, does not have this face
pub flawed_is_other : (b : List ℕ) (face : Face) (flaw : Flaw) → first_flaw b ≡ Some flaw → face_or_flaw b ≡ Ok face → ⊥
flawed_is_other b face flaw e h = let none : first_flaw b ≡ None = (with_face b face h).0 in absurd (cc)

-- the same by the fault that was answered
pub fault_is_other : (b : List ℕ) (face : Face) (fault : FaceFault) (flaw : Flaw) → Names (flaw_of fault) (first_flaw b) → fault ≡ Flawed flaw → face_or_flaw b ≡ Ok face → ⊥
fault_is_other b face (Flawed f) flaw h e = flawed_is_other b face f h
fault_is_other b face NoMemory flaw h e = absurd (cc)

pub named_is_other : (b : List ℕ) (face : Face) → names_the_same (face_of b) face ≡ false → face_or_flaw b ≡ Ok face → ⊥
named_is_other b face e h =
    let is : face ≡ face_of b = (with_face b face h).1 in
    let same : names_the_same (face_of b) face ≡ true = subst (λ (f : Face). names_the_same (face_of b) f ≡ true) (sym is) (names_itself (face_of b)) in
    absurd (cc)
