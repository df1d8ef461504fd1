-- A change that changes nothing leaves a file with the face that is wanted, and every other makes one
use Rattle.std.proofs.Common.{◌≡◌, ℕ, ◌≤◌, ◌||◌, Bool, true, false, cond, not, List, [], ◌∷◌, ◌++◌, Option, Some, None, is_some, length, map, refl, ap, sym, subst, ◌∙◌, arith, append-nil, w8, Fits as FitsIn, slice_index_or, Result, Ok, Err, IfOk}
use Rattle.std.specs.List.{filter, zip}
use Rattle.std.specs.Option.{option_map, unwrap_or}
use Rattle.std.specs.Str.{bytes_eq}
use Rattle.std.proofs.lemmas.List.Elements.{All-from_get_or}
use Rattle.answers.specs.Answers.{TellsBy}
use Rattle.byte_view.specs.Dynamic.{dynamic_entries}
use Rattle.byte_view.specs.DynamicFlaws.{has_tag}
use Rattle.byte_view.specs.Headers.{headers}
use Rattle.byte_view.specs.declared.constants.TheConstants.{DT_RPATH, DT_RUNPATH, DT_SONAME}
use Rattle.load_model.proofs.TwoWorlds.{same_bytes}
use Rattle.load_model.specs.Escaping.{AreBytes}
use Rattle.load_model.specs.Faces.{first_flaw, named_text, needs_of}
use Rattle.load_model.specs.VersionTables.{dynamic_value, text_of, verneed_place, vn_file}
use Rattle.two_files.specs.Alike.{IsRewritten, KeepsRanges, KeepsTags, KeepsTexts, SameBytes}
use Rattle.two_files.specs.Kept.{KeepsBytes, SameImage}
use Rattle.two_files.proofs.Entries.{tag_there}
use Rattle.two_files.proofs.Face.{new_face}
use Rattle.two_files.proofs.Image.{image_left}
use Rattle.two_files.proofs.Versions.{name_within}
use Rattle.strtab_grow.specs.Growth.{stands_in}
use Rattle.elf_rewrite.specs.NewFile.{Fits, IsNewFile, wanted_of}
use Rattle.elf_rewrite.specs.NewTexts.{changed, changed_name, changed_texts, is_done, is_dropped, removes, wants_segment}
use Rattle.elf_rewrite.specs.Patched.{range_of}
use Rattle.elf_rewrite.specs.Pieces.{Overlay, laid}
use Rattle.elf_rewrite.specs.Rewriting.{file_for, rewriting}
use Rattle.elf_rewrite.specs.Stops.{segment_stop, stop_named, stop_of}
use Rattle.elf_rewrite.specs.Ranges.{first_overlap}
use Rattle.elf_rewrite.specs.declared.change.Change.{Change}
use Rattle.elf_rewrite.specs.declared.change.RewriteStop.{RewriteStop}
use Rattle.elf_rewrite.proofs.NarrowLemmas.{narrow_new, no_texts}
use Rattle.elf_rewrite.proofs.Planned.{rewriting_none}
use Rattle.elf_rewrite.proofs.SegmentLemmas.{has_segment, no_stop}
use Rattle.elf_rewrite.proofs.TableLemmas.{has_versions, need_of}
use Rattle.elf_rewrite.proofs.TextLemmas.{file_known}
use Rattle.elf_rewrite.proofs.UnflawedLemmas.{unflawed_parts}
use Rattle.elf_rewrite.proofs.WidePartLemmas.{wide_new}

same_bytes_in : (b : List ℕ) (addr len : ℕ) → SameBytes b b (headers b) (headers b) addr len
same_bytes_in b addr len = record { parts = λ k n h. refl }

same_texts : (b : List ℕ) → KeepsTexts b b (headers b) (headers b) (dynamic_entries b) (dynamic_entries b)
same_texts b = record { size = omega arith; texts = λ at h. refl }

same_ranges : (b : List ℕ) → KeepsRanges (headers b) (headers b)
same_ranges b = record { keeps = λ addr len e. refl }

same_tags : (b : List ℕ) → KeepsTags (dynamic_entries b) (dynamic_entries b)
same_tags b = record { tags = λ tag e. refl }

-- texts of which none changes
none_changed : (olds news : List (List ℕ)) → length news ≡ length olds → changed olds news ≡ [] → olds ≡ news
none_changed [] [] e h = refl
none_changed [] (n ∷ news) e h = absurd (omega arith)
none_changed (o ∷ olds) [] e h = absurd (omega arith)
none_changed (o ∷ olds) (n ∷ news) e h = go (bytes_eq o n) refl h (none_changed olds news (omega arith))
  where
    go : (t : Bool) → bytes_eq o n ≡ t → map (λ (p : List ℕ × List ℕ). p.1) (cond (not t) ((o, n) ∷ filter (λ (p : List ℕ × List ℕ). not (bytes_eq p.0 p.1)) (zip olds news)) (filter (λ (p : List ℕ × List ℕ). not (bytes_eq p.0 p.1)) (zip olds news))) ≡ [] → (changed olds news ≡ [] → olds ≡ news) → o ∷ olds ≡ n ∷ news
    go true s h on = let same = same_bytes o n s in rw (same, on h) refl
    go false s h on = absurd (let some : length (n ∷ changed olds news) ≡ 0 = ap length h in omega arith)

name_unchanged : (old new : Option (List ℕ)) → changed_name old new ≡ [] → is_dropped old new ≡ false → old ≡ new
name_unchanged None None h d = refl
name_unchanged (Some o) None h d = absurd (cc)
name_unchanged None (Some n) h d = absurd (let some : length (n ∷ []) ≡ 0 = ap length h in omega arith)
name_unchanged (Some o) (Some n) h d = go (bytes_eq o n) refl h
  where
    go : (t : Bool) → bytes_eq o n ≡ t → cond t [] (n ∷ []) ≡ [] → Some o ≡ Some n
    go true s h = ap Some (same_bytes o n s)
    go false s h = absurd (let some : length (n ∷ []) ≡ 0 = ap length h in omega arith)

parts_none : (a b : List (List ℕ)) → a ++ b ≡ [] → (a ≡ []) × (b ≡ [])
parts_none [] b e = (refl, e)
parts_none (x ∷ a) b e = absurd (let some : length (x ∷ (a ++ b)) ≡ 0 = ap length e in omega arith)

either_off : (a b : Bool) → (a || b) ≡ false → (a ≡ false) × (b ≡ false)
either_off true b e = absurd (cc)
either_off false b e = (refl, e)

pub record IsUnchanged (b : List ℕ) (change : Change) : Type 0 where
  pub needs : needs_of b ≡ change.needs
  pub soname : named_text b DT_SONAME ≡ change.soname
  pub runpath : named_text b DT_RUNPATH ≡ change.runpath
  pub rpath : has_tag DT_RPATH (dynamic_entries b) ≡ false

unchanged : (b : List ℕ) (change : Change) → Fits change b → wants_segment b change ≡ false → removes b change ≡ false → IsUnchanged b change
unfolding changed_texts removes
unchanged b change fits still kept =
    let none = no_texts b change still in
    let first = parts_none (changed (needs_of b) change.needs) _ none in
    let second = parts_none (changed_name (named_text b DT_SONAME) change.soname) _ first.1 in
    let third = parts_none (changed_name (named_text b DT_RUNPATH) change.runpath) _ second.1 in
    let a = either_off (has_tag DT_RPATH (dynamic_entries b)) _ kept in
    let d = either_off (is_dropped (named_text b DT_SONAME) change.soname) (is_dropped (named_text b DT_RUNPATH) change.runpath) a.1 in
    record {
      needs = none_changed (needs_of b) change.needs fits.needs first.0;
      soname = name_unchanged (named_text b DT_SONAME) change.soname second.0 d.0;
      runpath = name_unchanged (named_text b DT_RUNPATH) change.runpath third.0 d.1;
      rpath = a.0;
    }

no_rpath : (b : List ℕ) → has_tag DT_RPATH (dynamic_entries b) ≡ false → named_text b DT_RPATH ≡ None
unfolding named_text
no_rpath b e = go (dynamic_value b DT_RPATH) (sym (tag_there DT_RPATH (dynamic_entries b)) ∙ e)
  where
    go : (o : Option ℕ) → is_some o ≡ false → option_map (text_of b) o ≡ None
    go None e = refl
    go (Some v) e = absurd (cc)

file_unchanged : (b : List ℕ) (change : Change) (k : ℕ) → Fits change b → wants_segment b change ≡ false → text_of b (vn_file b (verneed_place b k)) ≡ unwrap_or (option_map (λ p. p.1) (file_for b change k)) (text_of b (vn_file b (verneed_place b k)))
file_unchanged b change k fits still = go (file_for b change k) refl
  where
    go : (o : Option (List ℕ × List ℕ)) → file_for b change k ≡ o → text_of b (vn_file b (verneed_place b k)) ≡ unwrap_or (option_map (λ p. p.1) o) (text_of b (vn_file b (verneed_place b k)))
    go None e = refl
    go (Some p) e = step (bytes_eq p.0 p.1) refl
      where
        nothing : stands_in p.1 (changed_texts b change) ≡ true → changed_texts b change ≡ [] → text_of b (vn_file b (verneed_place b k)) ≡ p.1
        nothing stands none = absurd (let no : stands_in p.1 [] ≡ true = rw none at stands in cc)

        step : (t : Bool) → bytes_eq p.0 p.1 ≡ t → text_of b (vn_file b (verneed_place b k)) ≡ p.1
        step true s = sym ((file_known b change k p fits e).old) ∙ same_bytes p.0 p.1 s
        step false s = nothing ((file_known b change k p fits e).among s) (no_texts b change still)

is_itself : (b : List ℕ) (change : Change) → first_flaw b ≡ None → Fits change b → wants_segment b change ≡ false → removes b change ≡ false → IsRewritten b b (wanted_of b change)
is_itself b change e fits still kept =
    let fine = unflawed_parts b e in
    let u = unchanged b change fits still kept in
    let v = has_versions b fine.versions in
    record {
      headers_fine = fine.headers;
      dynamic_fine = fine.dynamic;
      names_fine = fine.names;
      symbols = record {
        longer = omega arith;
        ranges = same_ranges b;
        tags = same_tags b;
        texts = same_texts b;
        sections = refl;
        sysv = λ addr h. same_bytes_in b addr _;
        gnu = λ addr h. same_bytes_in b addr _;
        symbols = same_bytes_in b _ _;
      };
      versions = record {
        ranges = same_ranges b;
        tags = same_tags b;
        texts = same_texts b;
        indexes = λ h. same_bytes_in b _ _;
        definitions = λ k h. same_bytes_in b _ _;
        names = λ k h. same_bytes_in b _ _;
        needs = λ k h. same_bytes_in b _ _;
        links = λ k h. same_bytes_in b _ _;
        asked = λ k j h l. same_bytes_in b _ _;
        files = λ k h. (name_within b b (vn_file b (verneed_place b k)) (omega arith) (need_of b k v h).named).1;
      };
      machine = refl;
      interp = refl;
      needs = u.needs;
      soname = u.soname;
      rpath = no_rpath b u.rpath;
      runpath = u.runpath;
      files = λ k h. file_unchanged b change k fits still;
    }

laid_itself : (b : List ℕ) → laid b (record { old_len = length b; patches = []; added = [] }) ≡ b
unfolding laid
laid_itself b = append-nil b

done_new : (b : List ℕ) (change : Change) → first_flaw b ≡ None → Fits change b → wants_segment b change ≡ false → removes b change ≡ false → IsNewFile b change (laid b (rewriting b change))
done_new b change e fits still kept =
    let o : Overlay = record { old_len = length b; patches = []; added = [] } in
    let same : rewriting b change ≡ o = sym (rewriting_none b change still kept) in
    let file : laid b (rewriting b change) ≡ b = ap (λ (p : Overlay). laid b p) same ∙ laid_itself b in
    let face = new_face b b (wanted_of b change) e (is_itself b change e fits still kept) in
    let keeps : KeepsBytes b b (map range_of (rewriting b change).patches) = record { longer = omega arith; bytes = λ i h l. refl } in
    let image : SameImage b b (map range_of (rewriting b change).patches) = image_left b b (map range_of (rewriting b change).patches) (unflawed_parts b e).headers keeps refl in
    subst (λ (c : List ℕ). IsNewFile b change c) (sym file) (record { unflawed = face.0; face = face.1; texts = λ at h. refl; image = image })

-- the new file of a change that nothing stops
pub new_file : (b : List ℕ) (change : Change) → AreBytes b → first_flaw b ≡ None → Fits change b → stop_of b change ≡ None → IsNewFile b change (laid b (rewriting b change))
new_file b change bytes e fits none = go (wants_segment b change) refl (removes b change) refl
  where
    go : (w : Bool) → wants_segment b change ≡ w → (r : Bool) → removes b change ≡ r → IsNewFile b change (laid b (rewriting b change))
    go true w r d =
        let busy : is_done b change ≡ false = rw w refl in
        let n = no_stop b change none busy in
        wide_new b change (has_segment b change bytes e fits w n.0 (rw w at (n.1)))
    go false w true d =
        let busy : is_done b change ≡ false = rw (w, d) refl in
        narrow_new b change (record { bytes = bytes; unflawed = e; fits = fits; still = w; removed = d; apart = (no_stop b change none busy).0 })
    go false w false d = done_new b change e fits w d

-- the same of what was planned, by each way to it
pub are_bytes : (b : List ℕ) → ((i : ℕ) → FitsIn w8 (slice_index_or b i 0)) → AreBytes b
are_bytes b each = All-from_get_or (λ c. c ≤ 255) b 0 (λ i low. let fits = each i in omega arith)

pub planned_done : (b : List ℕ) (change : Change) (o : Overlay) → first_flaw b ≡ None → Fits change b → wants_segment b change ≡ false → removes b change ≡ false → o ≡ record { old_len = length b; patches = []; added = [] } → IsNewFile b change (laid b o)
planned_done b change o e fits still kept is =
    subst (λ (p : Overlay). IsNewFile b change (laid b p)) (sym (is ∙ rewriting_none b change still kept)) (done_new b change e fits still kept)

pub planned_narrow : (b : List ℕ) (change : Change) (o : Overlay) → AreBytes b → first_flaw b ≡ None → Fits change b → wants_segment b change ≡ false → removes b change ≡ true → first_overlap b ≡ None → o ≡ rewriting b change → IsNewFile b change (laid b o)
planned_narrow b change o bytes e fits still removed apart is =
    subst (λ (p : Overlay). IsNewFile b change (laid b p)) (sym is) (narrow_new b change (record { bytes = bytes; unflawed = e; fits = fits; still = still; removed = removed; apart = apart }))

pub planned_wide : (b : List ℕ) (change : Change) (r : Result Overlay RewriteStop) → AreBytes b → first_flaw b ≡ None → Fits change b → wants_segment b change ≡ true → first_overlap b ≡ None → TellsBy stop_named r (segment_stop b change) → IfOk r (λ o. o ≡ rewriting b change) → IfOk r (λ o. IsNewFile b change (laid b o))
planned_wide b change (Err stop) bytes e fits wants apart told is = tt
planned_wide b change (Ok o) bytes e fits wants apart told is =
    subst (λ (p : Overlay). IsNewFile b change (laid b p)) (sym is) (wide_new b change (has_segment b change bytes e fits wants apart told))
