-- One text more that may change
use Rattle.std.proofs.Common.{◌≡◌, ℕ, zero, suc, ◌+◌, ◌==◌, ◌<◌, Bool, true, false, List, [], ◌∷◌, ◌++◌, Option, length, map, drop, get_or, arith, refl, sym, ap, ◌∙◌, append_assoc, add-one}
use Rattle.std.specs.List.{filter}
use Rattle.std.specs.Str.{bytes_eq}
use Rattle.std.proofs.lemmas.List.{length-map}
use Rattle.std.proofs.Math.Seq.{drop-cons}
use Rattle.byte_view.specs.Dynamic.{dynamic_entries}
use Rattle.byte_view.specs.declared.constants.TheConstants.{DT_NEEDED, DT_RUNPATH, DT_SONAME}
use Rattle.byte_view.specs.declared.dynamic.Entry.{Entry}
use Rattle.load_model.specs.Faces.{named_text, needs_of}
use Rattle.load_model.specs.VersionTables.{asks_of, text_of}
use Rattle.load_model.specs.declared.asks.Ask.{Ask}
use Rattle.elf_rewrite.specs.NewFile.{Fits}
use Rattle.elf_rewrite.specs.NewTable.{need_values}
use Rattle.elf_rewrite.specs.NewTexts.{ask_files, changed, changed_name, changed_texts}
use Rattle.elf_rewrite.specs.declared.change.Change.{Change}

changed_first : (o n : List ℕ) (os ns : List (List ℕ)) → changed (o ∷ os) (n ∷ ns) ≡ changed (o ∷ []) (n ∷ []) ++ changed os ns
changed_first o n os ns = go (bytes_eq o n) refl
  where
    go : (b : Bool) → bytes_eq o n ≡ b → changed (o ∷ os) (n ∷ ns) ≡ changed (o ∷ []) (n ∷ []) ++ changed os ns
    go true e = rw e refl
    go false e = rw e refl

pub at_index : {X : Type 0} (xs : List X) (i : ℕ) (x : X) → i < length xs → x ≡ get_or xs i x → drop i xs ≡ x ∷ drop (i + 1) xs
at_index xs i x h e = drop-cons xs i x h ∙ rw (← e, add-one) refl

pub own_default : (xs : List ℕ) (i : ℕ) → i < length xs → get_or xs i 0 ≡ get_or xs i (get_or xs i 0)
own_default [] i h = absurd (omega arith)
own_default (x ∷ xs) zero h = refl
own_default (x ∷ xs) (suc i) h = own_default xs i (omega arith)

-- the texts so far with one more, and those that are left
pub changed_step : {X : Type 0} (f : X → List ℕ) (xs : List X) (ns : List (List ℕ)) (i : ℕ) (x : X) (n o : List ℕ) (texts after whole : List (List ℕ)) → i < length xs → i < length ns → x ≡ get_or xs i x → n ≡ get_or ns i n → o ≡ f x → texts ++ changed (map f (drop i xs)) (drop i ns) ≡ whole → after ≡ texts ++ changed (o ∷ []) (n ∷ []) → after ++ changed (map f (drop (i + 1) xs)) (drop (i + 1) ns) ≡ whole
changed_step f xs ns i x n o texts after whole hx hn ex en eo before step =
    let first : drop i xs ≡ x ∷ drop (i + 1) xs = at_index xs i x hx ex in
    let second : drop i ns ≡ n ∷ drop (i + 1) ns = at_index ns i n hn en in
    let both : changed (map f (drop i xs)) (drop i ns) ≡ changed (o ∷ []) (n ∷ []) ++ changed (map f (drop (i + 1) xs)) (drop (i + 1) ns) = rw (first, second, eo) (changed_first (f x) n (map f (drop (i + 1) xs)) (drop (i + 1) ns)) in
    rw step (append_assoc texts (changed (o ∷ []) (n ∷ [])) (changed (map f (drop (i + 1) xs)) (drop (i + 1) ns)) ∙ (ap (λ l. texts ++ l) (sym both) ∙ before))

joined : (n s r f t1 t2 t3 t4 : List (List ℕ)) → t1 ≡ n → t2 ≡ t1 ++ s → t3 ≡ t2 ++ r → t4 ≡ t3 ++ f → t4 ≡ n ++ (s ++ (r ++ f))
joined n s r f t1 t2 t3 t4 e1 e2 e3 e4 = rw (e4, e3, e2, e1) (simp append_assoc)

-- the needs by their string places
pub needs_listed : (b : List ℕ) → map (text_of b) (need_values (dynamic_entries b)) ≡ needs_of b
unfolding needs_of
needs_listed b = go (filter (λ e. e.tag == DT_NEEDED) (dynamic_entries b))
  where
    go : (xs : List Entry) → map (text_of b) (map (λ e. e.value) xs) ≡ map (λ e. text_of b e.value) xs
    go [] = refl
    go (x ∷ xs) = ap (λ l. text_of b x.value ∷ l) (go xs)

pub needs_counted : (b : List ℕ) (change : Change) → Fits change b → length (need_values (dynamic_entries b)) ≡ length change.needs
needs_counted b change fits = sym (length-map (need_values (dynamic_entries b)) (text_of b)) ∙ (ap length (needs_listed b) ∙ sym fits.needs)

pub files_counted : (b : List ℕ) (change : Change) → Fits change b → length (asks_of b) ≡ length change.files
files_counted b change fits = sym fits.files

-- all texts that change
pub all_changed : (b : List ℕ) (change : Change) (needs : List ℕ) (asks : List Ask) (soname runpath : Option (List ℕ)) (t1 t2 t3 t4 : List (List ℕ)) → needs ≡ need_values (dynamic_entries b) → asks ≡ asks_of b → soname ≡ named_text b DT_SONAME → runpath ≡ named_text b DT_RUNPATH → t1 ≡ changed (map (text_of b) needs) change.needs → t2 ≡ t1 ++ changed_name soname change.soname → t3 ≡ t2 ++ changed_name runpath change.runpath → t4 ≡ t3 ++ changed (map (λ a. a.file) asks) change.files → t4 ≡ changed_texts b change
unfolding changed_texts
all_changed b change needs asks soname runpath t1 t2 t3 t4 en ea es er e1 e2 e3 e4 =
    let old : map (text_of b) needs ≡ needs_of b = rw en (needs_listed b) in
    joined (changed (needs_of b) change.needs) (changed_name (named_text b DT_SONAME) change.soname) (changed_name (named_text b DT_RUNPATH) change.runpath) (changed (ask_files b) change.files) t1 t2 t3 t4
    (e1 ∙ ap (λ l. changed l change.needs) old)
    (e2 ∙ ap (λ o. t1 ++ changed_name o change.soname) es)
    (e3 ∙ ap (λ o. t2 ++ changed_name o change.runpath) er)
    (e4 ∙ ap (λ l. t3 ++ changed (map (λ a. a.file) l) change.files) ea)
