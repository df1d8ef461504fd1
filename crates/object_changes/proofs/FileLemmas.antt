-- Names that version files become, as they are told one after the other.
use Rattle.std.proofs.Common.{◌≡◌, ◌∙◌, sym, ap, ap₂, refl, subst, ℕ, List, [], ◌∷◌, ◌++◌, Bool, true, false, cond, ◌&&◌, Option, Some, None, Result, OnOk, is_some, map}
use Rattle.std.specs.Borrow.{Bor}
use Rattle.std.specs.List.{find}
use Rattle.std.specs.Map.{lookup}
use Rattle.std.specs.Option.{option_map, option_or, option_to_list}
use Rattle.std.specs.Str.{bytes_eq}
use Rattle.std.proofs.lemmas.Bool.{and_parts}
use Rattle.std.proofs.lemmas.List.{map-append}
use Rattle.std.proofs.lemmas.List.Folds.{find-append}
use Rattle.indexmap.specs.IndexMap.{IndexMap, get, insert_entry}
use Rattle.indexmap.proofs.CallerLemmas.{insert_entry-new}
use Rattle.lib_closure.specs.Objects.{Occurrence}
use Rattle.load_model.proofs.TwoWorlds.{same_bytes}
use Rattle.load_model.specs.declared.asks.Ask.{Ask}
use Rattle.object_changes.specs.Keeping.{kept_file}
use Rattle.object_changes.specs.NamedFiles.{AddsFiles, NamedFile, tells, told_name}
use Rattle.object_changes.specs.contracts.file_tables.AskedFilePartialEq.TheImpl as asked_files
use Rattle.object_changes.specs.declared.file_tables.AskedFile.{AskedFile}

map_or : {X Y : Type 0} (f : X → Y) (a b : Option X) → option_map f (option_or a b) ≡ option_or (option_map f a) (option_map f b)
map_or f None b = refl
map_or f (Some a) b = refl

or_assoc : {X : Type 0} (a b c : Option X) → option_or (option_or a b) c ≡ option_or a (option_or b c)
or_assoc None b c = refl
or_assoc (Some a) b c = refl

or_none : {X : Type 0} (a : Option X) → a ≡ option_or a None
or_none None = refl
or_none (Some a) = refl

or_there : {X : Type 0} (a b : Option X) → is_some a ≡ true → a ≡ option_or a b
or_there None b h = cc
or_there (Some a) b h = refl

pub told_append : (xs ys : List NamedFile) (asker file : List ℕ) → told_name (xs ++ ys) asker file ≡ option_or (told_name xs asker file) (told_name ys asker file)
told_append xs ys asker file =
    ap (option_map (λ (n : NamedFile). n.name)) (find-append (tells asker file) xs ys)
    ∙ map_or (λ (n : NamedFile). n.name) (find (tells asker file) xs) (find (tells asker file) ys)

pub adds_none : (a : List NamedFile) → AddsFiles a a []
adds_none a = λ asker file. or_none (told_name a asker file)

pub adds_more : (a b c m n : List NamedFile) → AddsFiles a b m → AddsFiles b c n → AddsFiles a c (m ++ n)
adds_more a b c m n h g = λ asker file.
    g asker file ∙ ap (λ o. option_or o (told_name n asker file)) (h asker file)
    ∙ or_assoc (told_name a asker file) (told_name m asker file) (told_name n asker file)
    ∙ ap (option_or (told_name a asker file)) (sym (told_append m n asker file))

pub adds_as : (a b m n : List NamedFile) → m ≡ n → AddsFiles a b m → AddsFiles a b n
adds_as a b m n e h = subst (λ l. AddsFiles a b l) e h

-- ---- one more

told_already : (table : List NamedFile) (e : NamedFile) (asker file : List ℕ) (b : Bool) → tells asker file e ≡ b → is_some (told_name table e.asker e.file) ≡ true → told_name table asker file ≡ option_or (told_name table asker file) (option_map (λ (n : NamedFile). n.name) (cond b (Some e) None))
told_already table e asker file false h there = or_none (told_name table asker file)
told_already table e asker file true h there =
    let parts = and_parts (bytes_eq asker e.asker) (bytes_eq file e.file) h in
    let one = same_bytes asker e.asker parts.0 in
    let other = same_bytes file e.file parts.1 in
    or_there (told_name table asker file) (Some e.name) (rw (one, other) there)

-- A name that was told already adds nothing.
adds_known : (table : List NamedFile) (e : NamedFile) → is_some (told_name table e.asker e.file) ≡ true → AddsFiles table table (e ∷ [])
adds_known table e there = λ asker file. told_already table e asker file (tells asker file e) refl there

adds_last : (table now : List NamedFile) (e : NamedFile) → now ≡ table ++ e ∷ [] → AddsFiles table now (e ∷ [])
adds_last table now e is = λ asker file. ap (λ l. told_name l asker file) is ∙ told_append table (e ∷ []) asker file

there_mapped : (o : Option (Bor (List ℕ))) (b : Bool) → is_some o ≡ b → is_some (option_map (λ (n : Bor (List ℕ)). n.now) o) ≡ b
there_mapped None b h = h
there_mapped (Some n) b h = h

pub known_there : (table : List NamedFile) (e : NamedFile) (found : Option (Bor (List ℕ))) → option_map (λ (n : Bor (List ℕ)). n.now) found ≡ told_name table e.asker e.file → is_some found ≡ true → AddsFiles table table (e ∷ [])
known_there table e found told there = adds_known table e (ap is_some (sym told) ∙ there_mapped found true there)

-- ---- in a map

told_step : (b : Bool) (e : AskedFile × Bor (List ℕ)) (later : Option (Bor (List ℕ))) (found : Option NamedFile) → option_map (λ (n : Bor (List ℕ)). n.now) later ≡ option_map (λ (n : NamedFile). n.name) found → option_map (λ (n : Bor (List ℕ)). n.now) (cond b (Some e.1) later) ≡ option_map (λ (n : NamedFile). n.name) (cond b (Some (kept_file e)) found)
told_step true e later found h = refl
told_step false e later found h = h

-- What a look-up finds is what was told.
pub looked_up : (q : AskedFile) (es : List (AskedFile × Bor (List ℕ))) → option_map (λ (n : Bor (List ℕ)). n.now) (lookup ((asked_files.ghosts).eq q) es) ≡ told_name (map kept_file es) q.asker.now q.file.now
looked_up q [] = refl
looked_up q (e ∷ es) = told_step ((asked_files.ghosts).eq q e.0) e (lookup ((asked_files.ghosts).eq q) es) (find (tells q.asker.now q.file.now) (map kept_file es)) (looked_up q es)

unknown_by : (o : Option (Bor (List ℕ))) → is_some (option_map (λ (n : Bor (List ℕ)). n.now) o) ≡ false → o ≡ None
unknown_by None h = refl
unknown_by (Some n) h = cc

entered : {S : Type 0} (m : IndexMap AskedFile (Bor (List ℕ)) S) (es : List (AskedFile × Bor (List ℕ))) (q : AskedFile) (name : Bor (List ℕ)) → is_some (told_name (map kept_file m.entries) q.asker.now q.file.now) ≡ false → es ≡ insert_entry (asked_files.ghosts).eq m.entries q name → map kept_file es ≡ map kept_file m.entries ++ kept_file (q, name) ∷ []
entered m es q name none is =
    let absent : get (asked_files.ghosts).eq m q ≡ None = unknown_by (get (asked_files.ghosts).eq m q) (ap is_some (looked_up q m.entries) ∙ none) in
    ap (map kept_file) (is ∙ insert_entry-new (asked_files.ghosts).eq m q name absent) ∙ map-append kept_file m.entries ((q, name) ∷ [])

pub known_after : {S : Type 0} (m : IndexMap AskedFile (Bor (List ℕ)) S) (es : List (AskedFile × Bor (List ℕ))) (q : AskedFile) (name : Bor (List ℕ)) (table : List NamedFile) (found : Option (Bor (List ℕ))) → map kept_file m.entries ≡ table → option_map (λ (n : Bor (List ℕ)). n.now) found ≡ told_name table q.asker.now q.file.now → is_some found ≡ false → es ≡ insert_entry (asked_files.ghosts).eq m.entries q name → AddsFiles table (map kept_file es) (kept_file (q, name) ∷ [])
known_after m es q name table found view told none is =
    let absent : is_some (told_name (map kept_file m.entries) q.asker.now q.file.now) ≡ false =
    ap (λ t. is_some (told_name t q.asker.now q.file.now)) view ∙ ap is_some (sym told) ∙ there_mapped found false none in
    adds_last table (map kept_file es) (kept_file (q, name)) (entered m es q name absent is ∙ ap (λ t. t ++ kept_file (q, name) ∷ []) view)

-- ---- the file of an ask

abbrev pub file_by : Occurrence → Ask → List ℕ → NamedFile
file_by o ask name = record { asker = o.obj.id; file = ask.file; name = name }

pub file_added : {X E : Type 0} (r : Result X E) (before after : List NamedFile) (o : Occurrence) (ask : Ask) (asker file name : List ℕ) (told : Option (List ℕ)) → asker ≡ o.obj.id → file ≡ ask.file → Some name ≡ told → OnOk r (AddsFiles before after (record { asker = asker; file = file; name = name } ∷ [])) → OnOk r (AddsFiles before after (option_to_list (option_map (file_by o ask) told)))
file_added r before after o ask asker file name told e f is h =
    let made : List ℕ → List ℕ → List NamedFile = λ x y. record { asker = x; file = y; name = name } ∷ [] in
    subst (λ l. OnOk r (AddsFiles before after l)) (ap₂ made e f ∙ ap (λ t. option_to_list (option_map (file_by o ask) t)) is) h

pub no_file_added : (table : List NamedFile) (o : Occurrence) (ask : Ask) (told : Option (List ℕ)) → None ≡ told → AddsFiles table table (option_to_list (option_map (file_by o ask) told))
no_file_added table o ask told is = adds_as table table [] (option_to_list (option_map (file_by o ask) told)) (ap (λ t. option_to_list (option_map (file_by o ask) t)) is) (adds_none table)
