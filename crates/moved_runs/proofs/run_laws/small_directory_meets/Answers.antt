use Rattle.std.proofs.Common.{refl, ◌≡◌, ◌≢◌, ◌∙◌, sym, ap, subst, ℕ, zero, suc, ◌<◌, ◌∷◌, [], List, Bool, true, false, None, Some, Ok, arith, get_or, slice_get, ◌⊎◌, inl, inr, ◌==◌}
use Rattle.std.specs.Prelude.{All, IsUtf8, codes}
use Rattle.std.specs.Str.{bytes_eq}
use Rattle.std.proofs.lemmas.Cmp.{nat_list_eq_equiv}
use Rattle.std.proofs.lemmas.List.Elements.{All-cons}
use Rattle.std.proofs.lemmas.Str.{IsUtf8-from_is_utf8}
use Rattle.path_text.specs.FileName.{IsFileName}
use Rattle.path_text.specs.Path.{IsNormalPath, named_parts, path_fault, path_of, rooted}
use Rattle.path_text.proofs.NameLemmas.{IsFileName-from_test}
use Rattle.path_text.proofs.PathLemmas.{IsNormalPath-path_of}
use Rattle.load_model.specs.Candidates.{decision, first_decision, listed_candidates}
use Rattle.load_model.specs.Diamond.{asked_for}
use Rattle.load_model.specs.Joined.{joined}
use Rattle.load_model.specs.LoadList.{Object, Asked}
use Rattle.load_model.specs.Runs.{target_in}
use Rattle.load_model.specs.SameNames.{listed_decision}
use Rattle.load_model.specs.World.{file_at}
use Rattle.load_model.specs.declared.asks.Ask.{Ask}
use Rattle.load_model.specs.declared.runs.Bind.{Bind}
use Rattle.load_model.specs.declared.world.WorldFile.{WorldFile}
use Rattle.load_model.proofs.Texts.{text}
use Rattle.moved_runs.specs.Alike.{IsLookedUp, KeepsSymbols, is_written}
use Rattle.moved_runs.specs.Moved.{AreDistinctNames, NeverProgram, new_names}
use Rattle.moved_runs.specs.Placed.{HasPath, IsPlaced, IsUnder, Item, lib_place}
use Rattle.moved_runs.specs.Places.{IsHostFile, IsItem, IsMoved, IsWritten, LeadsToLibs}
use Rattle.moved_runs.specs.SmallDirectory.{app_here, app_item, app_there, file_of, host_here, host_setting, host_there, is_bundled, lib_here, lib_item, lib_there, name_of, objs_there, read_directory, small_faces, small_host, small_items, small_replay, small_run}
use Rattle.moved_runs.proofs.PlaceLemmas.{same_target}
use Rattle.moved_runs.proofs.RunPathLemmas.{first_leads}
use Rattle.moved_runs.proofs.run_laws.small_directory_meets.Goals as goal

abbrev place : List ℕ
place = codes "/apps"

path_lib : path_of (codes "/usr/lib") ≡ Ok (codes "/usr/lib")
unfolding path_fault named_parts rooted
path_lib = rw (text (codes "/usr/lib") refl) refl

path_place : path_of (codes "/apps") ≡ Ok (codes "/apps")
unfolding path_fault named_parts rooted
path_place = rw (text (codes "/apps") refl) refl

place_normal : IsNormalPath (codes "/apps")
place_normal = IsNormalPath-path_of (codes "/apps") (codes "/apps") path_place

dirs_normal : All IsNormalPath host_setting.dirs
dirs_normal = All-cons IsNormalPath (codes "/usr/lib") [] (IsNormalPath-path_of (codes "/usr/lib") (codes "/usr/lib") path_lib) (λ k d l. absurd (omega arith))

-- a statement of each of three objects
each_of : {A : Type 0} (P : ℕ → A → Type 0) (x y z : A) → P 0 x → P 1 y → P 2 z → (j : ℕ) (o : A) → slice_get (x ∷ y ∷ z ∷ []) j ≡ Some o → P j o
each_of P x y z a b c zero o g = let e : x ≡ o = cc in subst (P 0) e a
each_of P x y z a b c (suc zero) o g = let e : y ≡ o = cc in subst (P 1) e b
each_of P x y z a b c (suc (suc zero)) o g = let e : z ≡ o = cc in subst (P 2) e c
each_of P x y z a b c (suc (suc (suc j))) o g = cc

each_of_two : {A : Type 0} (P : ℕ → A → Type 0) (x y : A) → P 0 x → P 1 y → (j : ℕ) (o : A) → slice_get (x ∷ y ∷ []) j ≡ Some o → P j o
each_of_two P x y a b zero o g = let e : x ≡ o = cc in subst (P 0) e a
each_of_two P x y a b (suc zero) o g = let e : y ≡ o = cc in subst (P 1) e b
each_of_two P x y a b (suc (suc j)) o g = cc

each_of_four : {A : Type 0} (P : ℕ → A → Type 0) (x y z w : A) → P 0 x → P 1 y → P 2 z → P 3 w → (j : ℕ) (o : A) → slice_get (x ∷ y ∷ z ∷ w ∷ []) j ≡ Some o → P j o
each_of_four P x y z w a b c d zero o g = let e : x ≡ o = cc in subst (P 0) e a
each_of_four P x y z w a b c d (suc zero) o g = let e : y ≡ o = cc in subst (P 1) e b
each_of_four P x y z w a b c d (suc (suc zero)) o g = let e : z ≡ o = cc in subst (P 2) e c
each_of_four P x y z w a b c d (suc (suc (suc zero))) o g = let e : w ≡ o = cc in subst (P 3) e d
each_of_four P x y z w a b c d (suc (suc (suc (suc j)))) o g = cc

-- texts that a test tells apart
differ : (xs ys : List ℕ) → bytes_eq xs ys ≡ false → xs ≡ ys → ⊥
differ xs ys f e = let t : true ≡ false = sym (nat_list_eq_equiv.refl ys) ∙ ap (λ z. bytes_eq z ys) (sym e) ∙ f in cc

-- ---- the directory lies at the place

abbrev Lies : ℕ → Item → Type 0
Lies i item = (file : WorldFile) × (file_at small_host (joined (codes "/apps") item.path) ≡ Some file) × (file.bytes ≡ item.bytes)

abbrev Only : ℕ → WorldFile → Type 0
Only i file = (target : List ℕ) → file.path ≡ joined (codes "/apps") target → HasPath small_items target

only_app : Only 0 (file_of app_there 0)
only_app target e = (0, app_item, refl, same_target (codes "/apps") (codes "AppRun") target e)

only_lib : Only 1 (file_of lib_there 1)
only_lib target e = (1, lib_item, refl, same_target (codes "/apps") (codes "usr/lib/a") target e)

not_under : (target : List ℕ) → codes "/usr/lib/h" ≡ joined (codes "/apps") target → ⊥
not_under target e = let n : ◌≡◌ {A = ℕ} 117 97 = ap (λ xs. get_or xs 1 0) e in omega arith

lib_not_under : (target : List ℕ) → codes "/usr/lib" ≡ joined (codes "/apps") target → ⊥
lib_not_under target e = let n : ◌≡◌ {A = ℕ} 117 97 = ap (λ xs. get_or xs 1 0) e in omega arith

abbrev Own : WorldFile → WorldFile → Type 0
Own f g = IsUnder (codes "/apps") f.path → g.id ≡ f.id → g.path ≡ f.path

own_all : (i : ℕ) (f : WorldFile) → slice_get small_host i ≡ Some f → (j : ℕ) (g : WorldFile) → slice_get small_host j ≡ Some g → Own f g
own_all =
    each_of (λ i f. (j : ℕ) (g : WorldFile) → slice_get small_host j ≡ Some g → Own f g) (file_of app_there 0) (file_of lib_there 1) (file_of host_there 2)
    (each_of (λ j g. Own (file_of app_there 0) g) (file_of app_there 0) (file_of lib_there 1) (file_of host_there 2) (λ u e. refl) (λ u e. absurd (differ (codes "2") (codes "1") refl e)) (λ u e. absurd (differ (codes "3") (codes "1") refl e)))
    (each_of (λ j g. Own (file_of lib_there 1) g) (file_of app_there 0) (file_of lib_there 1) (file_of host_there 2) (λ u e. absurd (differ (codes "1") (codes "2") refl e)) (λ u e. refl) (λ u e. absurd (differ (codes "3") (codes "2") refl e)))
    (each_of (λ j g. Own (file_of host_there 2) g) (file_of app_there 0) (file_of lib_there 1) (file_of host_there 2) (λ u e. absurd (differ (codes "1") (codes "3") refl e)) (λ u e. absurd (differ (codes "2") (codes "3") refl e)) (λ u e. refl))

placed : IsPlaced small_host (codes "/apps") small_items
placed = record {
  lies = each_of_two Lies app_item lib_item (file_of app_there 0, refl, refl) (file_of lib_there 1, refl, refl);
  only = λ i file target g. each_of Only (file_of app_there 0) (file_of lib_there 1) (file_of host_there 2) only_app only_lib (λ t e. absurd (not_under t e)) i file g target;
  own = λ i j f g h k u e. own_all i f h j g k u e;
}

apart : (i : ℕ) (dir : List ℕ) → slice_get host_setting.dirs i ≡ Some dir → (dir ≢ codes "/apps") × (IsUnder (codes "/apps") dir → ⊥)
apart zero dir g =
    let e : codes "/usr/lib" ≡ dir = cc in
    (λ same. differ (codes "/usr/lib") (codes "/apps") refl (e ∙ same), λ u. lib_not_under u.0 (e ∙ u.1))
apart (suc i) dir g = cc

-- ---- names

never : NeverProgram small_run.log
never = each_of_four (λ m (a : Asked). 0 < a.target) (asked_for 0 (codes "a1") 1) (asked_for 0 (codes "h") 2) (asked_for 1 (codes "h") 2) (asked_for 0 (codes "a") 1) (omega arith) (omega arith) (omega arith) (omega arith)

-- a number of a library
lib_number : (j : ℕ) → 0 < j → j < 3 → (j ≡ 1) ⊎ (j ≡ 2)
lib_number zero some below = absurd (omega arith)
lib_number (suc zero) some below = inl refl
lib_number (suc (suc zero)) some below = inr refl
lib_number (suc (suc (suc j))) some below = absurd (omega arith)

names : (j : ℕ) → 0 < j → j < 3 → IsFileName (name_of j)
names j some below = elim (lib_number j some below) [
  | inl e ↦ subst (λ (k : ℕ). IsFileName (name_of k)) (sym e) (IsFileName-from_test (codes "a") refl)
  | inr e ↦ subst (λ (k : ℕ). IsFileName (name_of k)) (sym e) (IsFileName-from_test (codes "h") refl)
]

distinct : AreDistinctNames name_of 3
distinct i j si bi sj bj same = elim (lib_number i si bi) [
  | inl a ↦ elim (lib_number j sj bj) [
    | inl b ↦ a ∙ sym b
    | inr b ↦ absurd (differ (codes "a") (codes "h") refl (sym (ap name_of a) ∙ same ∙ ap name_of b))
  ]
  | inr a ↦ elim (lib_number j sj bj) [
    | inl b ↦ absurd (differ (codes "h") (codes "a") refl (sym (ap name_of a) ∙ same ∙ ap name_of b))
    | inr b ↦ a ∙ sym b
  ]
]

texts : (j : ℕ) → 0 < j → j < 3 → is_bundled j ≡ true → IsUtf8 (name_of j)
texts j some below b = elim (lib_number j some below) [
  | inl e ↦ subst (λ (k : ℕ). IsUtf8 (name_of k)) (sym e) (IsUtf8-from_is_utf8 (codes "a") (text (codes "a") refl))
  | inr e ↦ absurd (let no : false ≡ true = sym (ap is_bundled e) ∙ b in cc)
]

no_host_item : HasPath small_items (codes "usr/lib/h") → ⊥
no_host_item w = each_of_two (λ i (item : Item). item.path ≡ codes "usr/lib/h" → ⊥) app_item lib_item (differ (codes "AppRun") (codes "usr/lib/h") refl) (differ (codes "usr/lib/a") (codes "usr/lib/h") refl) w.0 w.1 w.2 w.3

off_list : (j : ℕ) → 0 < j → j < 3 → is_bundled j ≡ false → HasPath small_items (lib_place (name_of j)) → ⊥
off_list j some below b w = elim (lib_number j some below) [
  | inl e ↦ let no : true ≡ false = sym (ap is_bundled e) ∙ b in cc
  | inr e ↦ no_host_item (subst (λ (k : ℕ). HasPath small_items (lib_place (name_of k))) e w)
]

program_apart : (j : ℕ) → 0 < j → j < 3 → is_bundled j ≡ true → codes "AppRun" ≢ lib_place (name_of j)
program_apart j some below b e = let no : codes "AppRun" ≡ lib_place (name_of j) = e in cc

-- ---- objects

abbrev Leads : Object → Type 0
Leads q = LeadsToLibs read_directory host_setting small_host (codes "/apps") small_items q

app_leads : Leads app_there
app_leads = record {
  runpath = codes "$ORIGIN/usr/lib";
  runpath_is = refl;
  leads = λ name h. first_leads host_setting (codes "/apps") (codes "AppRun") name place_normal (IsFileName-from_test (codes "AppRun") refl) h;
}

id_is : (f g : WorldFile) (q : Object) → Some g ≡ Some f → g.id ≡ q.id → f.id ≡ q.id
id_is f g q e h = let s : g ≡ f = cc in ap (λ (x : WorldFile). x.id) (sym s) ∙ h

app_written : IsWritten read_directory host_setting small_host (codes "/apps") small_items name_of small_run.log (codes "AppRun") app_here app_there
unfolding target_in
app_written = record {
  item = record { number = 0; item = app_item; is_item = refl; path_is = refl; lies = refl; id = λ f e. id_is f (file_of app_there 0) app_there e refl; right = refl; seen = refl };
  needs = refl;
  rpath = refl;
  runpath = inr app_leads;
}

lib_written : IsWritten read_directory host_setting small_host (codes "/apps") small_items name_of small_run.log (codes "usr/lib/a") lib_here lib_there
unfolding target_in
lib_written = record {
  item = record { number = 1; item = lib_item; is_item = refl; path_is = refl; lies = refl; id = λ f e. id_is f (file_of lib_there 1) lib_there e refl; right = refl; seen = refl };
  needs = refl;
  rpath = refl;
  runpath = inl refl;
}

host_found : listed_decision read_directory host_setting small_host (codes "h") ≡ Some (Ok host_there)
unfolding first_decision decision listed_candidates path_fault named_parts rooted
host_found = rw (text (codes "/usr/lib/h") refl) refl

host_file : IsHostFile read_directory host_setting small_host (codes "/apps") small_items name_of small_run.log (codes "h") host_here host_there
unfolding target_in
host_file = record { found = host_found; needs = refl; run_path = record { rpath = refl; runpath = refl } }

program_is : (o q : Object) → slice_get small_run.objs 0 ≡ Some o → slice_get objs_there 0 ≡ Some q → IsWritten read_directory host_setting small_host (codes "/apps") small_items name_of small_run.log (codes "AppRun") o q × (q.face.soname ≡ None)
program_is o q g h =
    let e : app_here ≡ o = cc in
    let f : app_there ≡ q = cc in (
      subst (λ (x : Object). IsWritten read_directory host_setting small_host (codes "/apps") small_items name_of small_run.log (codes "AppRun") x q) e
          (subst (λ (x : Object). IsWritten read_directory host_setting small_host (codes "/apps") small_items name_of small_run.log (codes "AppRun") app_here x) f app_written),
      ap (λ (x : Object). x.face.soname) (sym f),
    )

bundled : (j : ℕ) (o q : Object) → 0 < j → is_bundled j ≡ true → slice_get small_run.objs j ≡ Some o → slice_get objs_there j ≡ Some q → IsWritten read_directory host_setting small_host (codes "/apps") small_items name_of small_run.log (lib_place (name_of j)) o q
bundled zero o q some b g h = cc
bundled (suc zero) o q some b g h =
    let e : lib_here ≡ o = cc in
    let f : lib_there ≡ q = cc in
    subst (λ (x : Object). IsWritten read_directory host_setting small_host (codes "/apps") small_items name_of small_run.log (codes "usr/lib/a") x q) e
    (subst (λ (x : Object). IsWritten read_directory host_setting small_host (codes "/apps") small_items name_of small_run.log (codes "usr/lib/a") lib_here x) f lib_written)
bundled (suc (suc zero)) o q some b g h = cc
bundled (suc (suc (suc j))) o q some b g h = cc

hosts : (j : ℕ) (o q : Object) → 0 < j → is_bundled j ≡ false → slice_get small_run.objs j ≡ Some o → slice_get objs_there j ≡ Some q → IsHostFile read_directory host_setting small_host (codes "/apps") small_items name_of small_run.log (name_of j) o q
hosts zero o q some b g h = absurd (omega arith)
hosts (suc zero) o q some b g h = cc
hosts (suc (suc zero)) o q some b g h =
    let e : host_here ≡ o = cc in
    let f : host_there ≡ q = cc in
    subst (λ (x : Object). IsHostFile read_directory host_setting small_host (codes "/apps") small_items name_of small_run.log (codes "h") x q) e
    (subst (λ (x : Object). IsHostFile read_directory host_setting small_host (codes "/apps") small_items name_of small_run.log (codes "h") host_here x) f host_file)
hosts (suc (suc (suc j))) o q some b g h = cc

host_two : (j : ℕ) (x : Object) → 0 < j → is_bundled j ≡ false → slice_get objs_there j ≡ Some x → j ≡ 2
host_two zero x some b g = absurd (omega arith)
host_two (suc zero) x some b g = cc
host_two (suc (suc zero)) x some b g = refl
host_two (suc (suc (suc j))) x some b g = cc

no_soname : (j : ℕ) (q : Object) → slice_get objs_there j ≡ Some q → q.face.soname ≡ None
no_soname = each_of (λ j (q : Object). q.face.soname ≡ None) app_there lib_there host_there refl refl refl

asked_by_app : (q : Object) → slice_get objs_there 0 ≡ Some q → Leads q
asked_by_app q g = let e : app_there ≡ q = cc in subst Leads e app_leads

askers : (m : ℕ) (a : Asked) → slice_get small_run.log m ≡ Some a → (q : Object) → is_bundled a.target ≡ true → slice_get objs_there a.request.by ≡ Some q → Leads q
askers =
    each_of_four (λ m (a : Asked). (q : Object) → is_bundled a.target ≡ true → slice_get objs_there a.request.by ≡ Some q → Leads q)
    (asked_for 0 (codes "a1") 1) (asked_for 0 (codes "h") 2) (asked_for 1 (codes "h") 2) (asked_for 0 (codes "a") 1)
    (λ q b g. asked_by_app q g) (λ q b g. absurd (let no : false ≡ true = b in cc)) (λ q b g. absurd (let no : false ≡ true = b in cc)) (λ q b g. asked_by_app q g)

pub returns-clause-moved : goal.returns-clause-moved
returns-clause-moved c = record {
  place_normal = place_normal;
  dirs_normal = dirs_normal;
  placed = placed;
  apart = apart;
  never = never;
  names = names;
  distinct = distinct;
  texts = texts;
  off_list = off_list;
  program_apart = program_apart;
  count = refl;
  program_is = program_is;
  bundled = bundled;
  hosts = hosts;
  host_ids = λ i j x y si sj bi bj g h e. host_two i x si bi g ∙ sym (host_two j y sj bj h);
  sonames = λ j q s some g e. absurd (let no : Some s ≡ None = sym e ∙ no_soname j q g in cc);
  askers = λ m a q g b h. askers m a g q b h;
}

-- ---- bindings and versions: nothing is asked

no_asks : (j : ℕ) (q : Object) → slice_get objs_there j ≡ Some q → q.face.asks ≡ []
no_asks = each_of (λ j (q : Object). q.face.asks ≡ []) app_there lib_there host_there refl refl refl

no_asks_here : (j : ℕ) (q : Object) → slice_get small_run.objs j ≡ Some q → q.face.asks ≡ []
no_asks_here = each_of (λ j (q : Object). q.face.asks ≡ []) app_here lib_here host_here refl refl refl

empty_at : (k : ℕ) (ask : Ask) → ◌≡◌ (slice_get [] k) (Some ask) → ⊥
empty_at k ask h = cc

no_bind : (number : ℕ) (b : Bind) → ◌≡◌ (slice_get [] number) (Some b) → ⊥
no_bind number b h = cc

none_asked : (asks : List Ask) (k : ℕ) (ask : Ask) → asks ≡ [] → slice_get asks k ≡ Some ask → ⊥
none_asked asks k ask e h = empty_at k ask (ap (λ (xs : List Ask). slice_get xs k) (sym e) ∙ h)

same_symbols : (j : ℕ) (o : Object) → slice_get small_run.objs j ≡ Some o → (q : Object) → slice_get objs_there j ≡ Some q → KeepsSymbols o.face q.face
same_symbols zero o g q h = let e : app_here ≡ o = cc in let f : app_there ≡ q = cc in subst (λ (x : Object). KeepsSymbols x.face q.face) e (subst (λ (x : Object). KeepsSymbols app_here.face x.face) f (record { symbolic = refl; syms = refl; versioned = refl; defs = refl }))
same_symbols (suc zero) o g q h = let e : lib_here ≡ o = cc in let f : lib_there ≡ q = cc in subst (λ (x : Object). KeepsSymbols x.face q.face) e (subst (λ (x : Object). KeepsSymbols lib_here.face x.face) f (record { symbolic = refl; syms = refl; versioned = refl; defs = refl }))
same_symbols (suc (suc zero)) o g q h = let e : host_here ≡ o = cc in let f : host_there ≡ q = cc in subst (λ (x : Object). KeepsSymbols x.face q.face) e (subst (λ (x : Object). KeepsSymbols host_here.face x.face) f (record { symbolic = refl; syms = refl; versioned = refl; defs = refl }))
same_symbols (suc (suc (suc j))) o g q h = cc

pub returns-clause-alike : goal.returns-clause-alike
returns-clause-alike c = record {
  symbols = λ j o q w g h. same_symbols j o g q h;
  asks = λ j k o q ask w g h e weak. absurd (none_asked q.face.asks k ask (no_asks j q h) e);
  versions = λ j k t o ask w g e weak file host. absurd (none_asked o.face.asks k ask (no_asks_here j o g) e);
  looks = λ b s k o q up looked w g h. absurd (no_bind up.number b up.stands);
  own_asks = λ j k q ask w h e weak. absurd (none_asked q.face.asks k ask (no_asks j q h) e);
}

pub returns-clause-opens : goal.returns-clause-opens
unfolding target_in
returns-clause-opens c = refl
