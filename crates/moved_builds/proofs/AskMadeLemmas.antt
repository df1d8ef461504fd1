-- The asks of a file that is rewritten are those from here, with the files of the change.
use Rattle.std.proofs.Common.{◌≡◌, ◌∙◌, sym, ap, refl, subst, ℕ, zero, suc, ◌==◌, List, [], ◌∷◌, Bool, true, false, cond, Option, Some, arith, find, length, map, option_map, slice_get, zip}
use Rattle.std.specs.Option.{unwrap_or}
use Rattle.std.proofs.lemmas.Bool.{eq-eqb, eqb-true}
use Rattle.std.proofs.lemmas.List.{length-map}
use Rattle.std.proofs.lemmas.Option.{get_or_from_slice_get, slice_get_within}
use Rattle.byte_view.specs.DynamicFlaws.{has_bit}
use Rattle.byte_view.specs.declared.constants.TheConstants.{VER_FLG_WEAK}
use Rattle.elf_rewrite.specs.FittingFace.{FitsFace, files_in}
use Rattle.elf_rewrite.specs.NewFile.{text_at, wanted_of}
use Rattle.elf_rewrite.specs.NewTexts.{ask_files}
use Rattle.elf_rewrite.specs.Rewriting.{ask_file_in}
use Rattle.elf_rewrite.specs.declared.change.Change.{Change}
use Rattle.load_model.specs.Faces.{face_of}
use Rattle.load_model.specs.LoadList.{Object}
use Rattle.load_model.specs.VersionTables.{ask_needs_of, ask_of, asks_of, text_of, vernauxs, verneed_place, vn_file, vna_flags, vna_name}
use Rattle.load_model.specs.declared.asks.Ask.{Ask}
use Rattle.load_model.specs.declared.faces.Face.{Face}
use Rattle.load_model.proofs.AskedNeeds.{get_map, map_get}
use Rattle.object_rewriting.proofs.NamingLemmas.{with_face}
use Rattle.two_files.specs.Alike.{asks_with, face_with}
use Rattle.build_laws.proofs.BesideLemmas.{IsRewrittenBy}
use Rattle.build_laws.proofs.FaceLemmas.{new_face}

-- ---- the texts beside the first ask of a need

record FirstAsk (vs : List (ℕ × ℕ)) (olds news : List (List ℕ)) (n : ℕ) : Type 0 where
  place : ℕ
  need : ℕ × ℕ
  need_is : slice_get vs place ≡ Some need
  number : need.0 ≡ n
  pair : ask_file_in (map (λ (a : ℕ × ℕ). a.0) vs) olds news n ≡ Some (text_at olds place, text_at news place)

abbrev rest_of : List (ℕ × ℕ) → List (List ℕ) → List (List ℕ) → ℕ → Option (ℕ × (List ℕ × List ℕ))
rest_of vs olds news n = find (λ (p : ℕ × (List ℕ × List ℕ)). p.0 == n) (zip (map (λ (a : ℕ × ℕ). a.0) vs) (zip olds news))

first_by : (t : Bool) (v : ℕ × ℕ) (vs : List (ℕ × ℕ)) (x : List ℕ) (olds : List (List ℕ)) (y : List ℕ) (news : List (List ℕ)) (n k : ℕ) (a : ℕ × ℕ) → (v.0 == n) ≡ t → slice_get (v ∷ vs) k ≡ Some a → a.0 ≡ n → ((m : ℕ) → slice_get vs m ≡ Some a → FirstAsk vs olds news n) → FirstAsk (v ∷ vs) (x ∷ olds) (y ∷ news) n
first_by true v vs x olds y news n k a e h at rest = record {
  place = 0;
  need = v;
  need_is = refl;
  number = eqb-true v.0 n e;
  pair = ap (λ c. option_map (λ (p : ℕ × (List ℕ × List ℕ)). p.1) (cond c (Some (v.0, (x, y))) (rest_of vs olds news n))) e;
}
first_by false v vs x olds y news n zero a e h at rest =
    let same : v ≡ a = cc in
    let clash : true ≡ false = sym (eq-eqb v.0 n (ap (λ (z : ℕ × ℕ). z.0) same ∙ at)) ∙ e in
    cc
first_by false v vs x olds y news n (suc m) a e h at rest =
    let r = rest m h in
    record {
      place = suc r.place;
      need = r.need;
      need_is = r.need_is;
      number = r.number;
      pair = ap (λ c. option_map (λ (p : ℕ × (List ℕ × List ℕ)). p.1) (cond c (Some (v.0, (x, y))) (rest_of vs olds news n))) e ∙ r.pair;
    }

first_ask : (vs : List (ℕ × ℕ)) (olds news : List (List ℕ)) (n k : ℕ) (a : ℕ × ℕ) → length olds ≡ length vs → length news ≡ length vs → slice_get vs k ≡ Some a → a.0 ≡ n → FirstAsk vs olds news n
first_ask [] olds news n k a c d h at = cc
first_ask (v ∷ vs) [] news n k a c d h at = absurd (omega (arith, c))
first_ask (v ∷ vs) (x ∷ olds) [] n k a c d h at = absurd (omega (arith, d))
first_ask (v ∷ vs) (x ∷ olds) (y ∷ news) n k a c d h at = first_by (v.0 == n) v vs x olds y news n k a refl h at (λ m g. first_ask vs olds news n m a (omega (arith, c)) (omega (arith, d)) g at)

-- ---- the asks

pub record IsAskMade (change : Change) (asks : List Ask) (k : ℕ) (ask : Ask) : Type 0 where
  pub here : Ask
  pub here_is : slice_get asks k ≡ Some here
  pub name : ask.name ≡ here.name
  pub weak : ask.weak ≡ here.weak
  pub file : ask.file ≡ text_at change.files k

asks_are : (file : List ℕ) → (face_of file).asks ≡ asks_of file
unfolding face_of
asks_are file = refl

made_asks : (file : List ℕ) (change : Change) → (face_with file (wanted_of file change)).asks ≡ asks_with file (wanted_of file change).files
unfolding face_with
made_asks file change = refl

abbrev old_file : List ℕ → ℕ × ℕ → List ℕ
old_file file a = text_of file (vn_file file (verneed_place file a.0))

ask_there : (file : List ℕ) (i : ℕ) (a : ℕ × ℕ) → slice_get (vernauxs file) i ≡ Some a → slice_get (asks_of file) i ≡ Some (ask_of file (verneed_place file a.0) a.1)
unfolding asks_of
ask_there file i a h = map_get (λ (v : ℕ × ℕ). ask_of file (verneed_place file v.0) v.1) (vernauxs file) i a h

old_text : (file : List ℕ) (i : ℕ) (a : ℕ × ℕ) → slice_get (vernauxs file) i ≡ Some a → text_at (ask_files file) i ≡ old_file file a
old_text file i a h = get_or_from_slice_get (ask_files file) i (old_file file a) [] (map_get (λ (x : Ask). x.file) (asks_of file) i (ask_of file (verneed_place file a.0) a.1) (ask_there file i a h))

many_asks : (file : List ℕ) → length (asks_of file) ≡ length (vernauxs file)
unfolding asks_of
many_asks file = length-map (vernauxs file) (λ (v : ℕ × ℕ). ask_of file (verneed_place file v.0) v.1)

new_text : (file : List ℕ) (change : Change) (k : ℕ) (a : ℕ × ℕ) → FitsFace change (face_of file) → slice_get (vernauxs file) k ≡ Some a → (wanted_of file change).files a.0 ≡ text_at change.files k
unfolding ask_needs_of
new_text file change k a fits h =
    let asks = asks_are file in
    let many = many_asks file in
    let files = fits.files in
    let same_count = ap (λ (xs : List Ask). length xs) asks in
    let first = first_ask (vernauxs file) (ask_files file) change.files a.0 k a (length-map (asks_of file) (λ (x : Ask). x.file) ∙ many) (files ∙ same_count ∙ many) h refl in
    let within_first = slice_get_within (asks_of file) first.place (ask_of file (verneed_place file first.need.0) first.need.1) (ask_there file first.place first.need first.need_is) in
    let within = slice_get_within (asks_of file) k (ask_of file (verneed_place file a.0) a.1) (ask_there file k a h) in
    let olds : text_at (ask_files file) first.place ≡ text_at (ask_files file) k =
    old_text file first.place first.need first.need_is ∙ ap (λ n. text_of file (vn_file file (verneed_place file n))) first.number ∙ sym (old_text file k a h) in
    let in_face : text_at (files_in (face_of file).asks) first.place ≡ text_at (files_in (face_of file).asks) k =
    ap (λ (xs : List Ask). text_at (files_in xs) first.place) asks ∙ olds ∙ sym (ap (λ (xs : List Ask). text_at (files_in xs) k) asks) in
    ap (λ (o : Option (List ℕ × List ℕ)). unwrap_or (option_map (λ (p : List ℕ × List ℕ). p.1) o) (old_file file a)) first.pair
    ∙ fits.alike first.place k (omega (arith, within_first, same_count)) (omega (arith, within, same_count)) in_face

ask_in : (file : List ℕ) (change : Change) (k : ℕ) (ask : Ask) → FitsFace change (face_of file) → slice_get (asks_with file (wanted_of file change).files) k ≡ Some ask → IsAskMade change (asks_of file) k ask
unfolding asks_with
ask_in file change k ask fits h =
    let w = get_map (λ (a : ℕ × ℕ). record { file = (wanted_of file change).files a.0; name = text_of file (vna_name file a.1); weak = has_bit VER_FLG_WEAK (vna_flags file a.1) }) (vernauxs file) k ask h in
    record {
      here = ask_of file (verneed_place file w.0.0) w.0.1;
      here_is = ask_there file k w.0 w.1;
      name = ap (λ (x : Ask). x.name) w.2;
      weak = ap (λ (x : Ask). x.weak) w.2;
      file = ap (λ (x : Ask). x.file) w.2 ∙ new_text file change k w.0 fits w.1;
    }

pub ask_made : (change : Change) (o q : Object) (k : ℕ) (ask : Ask) → IsRewrittenBy change o q → slice_get q.face.asks k ≡ Some ask → IsAskMade change o.face.asks k ask
ask_made change o q k ask by h =
    let old = (with_face by.bytes o.face by.reads).1 in
    let asks : q.face.asks ≡ asks_with by.bytes (wanted_of by.bytes change).files = ap (λ (f : Face). f.asks) (new_face change o q by) ∙ made_asks by.bytes change in
    subst (λ xs. IsAskMade change xs k ask) (sym (ap (λ (f : Face). f.asks) old ∙ asks_are by.bytes))
    (ask_in by.bytes change k ask (subst (FitsFace change) old by.fits) (ap (λ xs. slice_get xs k) (sym asks) ∙ h))
