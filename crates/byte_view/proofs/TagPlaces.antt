-- The first entry that is refused, or whose tag stood before, is the one that the recursion finds.
use Rattle.std.proofs.Common.{◌≡◌, ℕ, zero, suc, ◌<◌, ◌==◌, ◌&&◌, Bool, true, false, cond, List, [], ◌∷◌, ◌++◌, Option, Some, None, refl, sym, ap, subst, ◌∙◌, take, append_assoc, arith}
use Rattle.std.specs.Prelude.{◌||◌, nat_lt, slice_get}
use Rattle.std.proofs.lemmas.Bool.Decides.{nat_tests}
use Rattle.answers.specs.First.{first_some, some_where}
use Rattle.byte_view.specs.Checks.{flaw}
use Rattle.byte_view.specs.DynamicFlaws.{entry_flaw, has_tag, is_refused, is_repeated, is_single}
use Rattle.byte_view.specs.TagPlaces.{IsFine, IsFirstRefused, IsFirstRepeated, IsRefusedAt, IsRepeatedAt, NamesFirstEntry}
use Rattle.byte_view.specs.declared.dynamic.Entry.{Entry}
use Rattle.byte_view.specs.declared.flaws.Flaw.{Flaw}
use Rattle.byte_view.specs.declared.flaws.TheConstants.{REPEATED, TAG_REFUSED}

-- what is said of one entry behind others
abbrev said_by : Bool → Bool → ℕ → Option Flaw
said_by refused repeated tag = cond refused (Some (flaw TAG_REFUSED tag 0)) (cond repeated (Some (flaw REPEATED tag 0)) None)

abbrev said : List Entry → Entry → Option Flaw
said before e = said_by (is_refused e) (is_repeated before e) e.tag

-- what the recursion finds
abbrev Finds : List Entry → List Entry → Option Flaw → Type 0
Finds before rest None = (i : ℕ) (e : Entry) → slice_get rest i ≡ Some e → said (before ++ take i rest) e ≡ None
Finds before rest (Some f) = (i : ℕ) × ((e : Entry) × ((slice_get rest i ≡ Some e) × ((said (before ++ take i rest) e ≡ Some f) × ((k : ℕ) (d : Entry) → k < i → slice_get rest k ≡ Some d → said (before ++ take k rest) d ≡ None))))

nothing_more : (before : List Entry) → before ++ [] ≡ before
nothing_more [] = refl
nothing_more (x ∷ xs) = ap (λ (l : List Entry). x ∷ l) (nothing_more xs)

-- the entry in front says nothing
said_first : (before : List Entry) (e d : Entry) (rest : List Entry) → said before e ≡ None → slice_get (e ∷ rest) 0 ≡ Some d → said (before ++ take 0 (e ∷ rest)) d ≡ None
said_first before e d rest h there = let same : e ≡ d = cc in subst (λ (x : Entry). said (before ++ []) x ≡ None) same (rw (nothing_more before) h)

shifted : (before : List Entry) (e : Entry) (rest : List Entry) (i : ℕ) (d : Entry) (o : Option Flaw) → said ((before ++ (e ∷ [])) ++ take i rest) d ≡ o → said (before ++ take (suc i) (e ∷ rest)) d ≡ o
shifted before e rest i d o h = rw append_assoc at h

later : (before : List Entry) (e : Entry) (rest : List Entry) (o : Option Flaw) → said before e ≡ None → Finds (before ++ (e ∷ [])) rest o → Finds before (e ∷ rest) o
later before e rest None h f = go
  where
    go : (i : ℕ) (d : Entry) → slice_get (e ∷ rest) i ≡ Some d → said (before ++ take i (e ∷ rest)) d ≡ None
    go zero d there = said_first before e d rest h there
    go (suc i) d there = shifted before e rest i d None (f i d there)
later before e rest (Some g) h f =
    (suc f.0, (f.1.0, (f.1.1.0, (shifted before e rest f.0 f.1.0 (Some g) f.1.1.1.0, go))))
  where
    go : (k : ℕ) (d : Entry) → k < suc f.0 → slice_get (e ∷ rest) k ≡ Some d → said (before ++ take k (e ∷ rest)) d ≡ None
    go zero d l there = said_first before e d rest h there
    go (suc k) d l there = shifted before e rest k d None (f.1.1.1.1 k d (omega arith) there)

here : (before : List Entry) (e : Entry) (rest : List Entry) (g : Flaw) → said before e ≡ Some g → Finds before (e ∷ rest) (Some g)
here before e rest g h = (0, (e, (refl, (rw (nothing_more before) h, λ k d l there. absurd (omega arith)))))

found : (before rest : List Entry) → Finds before rest (entry_flaw before rest)
unfolding entry_flaw
found before [] = λ i e there. absurd (let c : None ≡ Some e = there in cc)
found before (e ∷ rest) = go (is_refused e) refl (is_repeated before e) refl (found (before ++ (e ∷ [])) rest)
  where
    go : (a : Bool) → is_refused e ≡ a → (b : Bool) → is_repeated before e ≡ b → Finds (before ++ (e ∷ [])) rest (entry_flaw (before ++ (e ∷ [])) rest) → Finds before (e ∷ rest) (first_some (some_where a (flaw TAG_REFUSED e.tag 0) ∷ some_where b (flaw REPEATED e.tag 0) ∷ entry_flaw (before ++ (e ∷ [])) rest ∷ []))
    go true h b k f = here before e rest (flaw TAG_REFUSED e.tag 0) (rw h refl)
    go false h true k f = here before e rest (flaw REPEATED e.tag 0) (rw (h, k) refl)
    go false h false k f = ends (entry_flaw (before ++ (e ∷ [])) rest) f
      where
        ends : (o : Option Flaw) → Finds (before ++ (e ∷ [])) rest o → Finds before (e ∷ rest) (first_some (o ∷ []))
        ends None f = later before e rest None (rw (h, k) refl) f
        ends (Some g) f = later before e rest (Some g) (rw (h, k) refl) f

-- what stands before, by its place
record IsBefore (tag : ℕ) (entries : List Entry) (i : ℕ) : Type 0 where
  pub place : ℕ
  pub earlier : Entry
  pub lower : place < i
  pub there : slice_get entries place ≡ Some earlier
  pub same : earlier.tag ≡ tag

one_before : (tag : ℕ) (x : Entry) (xs : List Entry) (i : ℕ) → IsBefore tag xs i → IsBefore tag (x ∷ xs) (suc i)
one_before tag x xs i b = record { place = suc b.place; earlier = b.earlier; lower = omega (arith, b.lower); there = b.there; same = b.same }

tag_before : (tag : ℕ) (entries : List Entry) (i : ℕ) → has_tag tag (take i entries) ≡ true → IsBefore tag entries i
tag_before tag entries zero h = absurd (cc)
tag_before tag [] (suc i) h = absurd (cc)
tag_before tag (x ∷ xs) (suc i) h = go (x.tag == tag) refl (tag_before tag xs i) h
  where
    go : (b : Bool) → (x.tag == tag) ≡ b → (has_tag tag (take i xs) ≡ true → IsBefore tag xs i) → (b || has_tag tag (take i xs)) ≡ true → IsBefore tag (x ∷ xs) (suc i)
    go true e more h = record { place = 0; earlier = x; lower = omega arith; there = refl; same = grind (arith, nat_tests) }
    go false e more h = one_before tag x xs i (more h)

before_tag : (tag : ℕ) (entries : List Entry) (i place : ℕ) (earlier : Entry) → place < i → slice_get entries place ≡ Some earlier → earlier.tag ≡ tag → has_tag tag (take i entries) ≡ true
before_tag tag entries zero place earlier lower there same = absurd (omega arith)
before_tag tag [] (suc i) place earlier lower there same = absurd (cc)
before_tag tag (x ∷ xs) (suc i) zero earlier lower there same =
    let it : x ≡ earlier = cc in
    let here : x.tag ≡ tag = ap (λ (e : Entry). e.tag) it ∙ same in
    grind (arith, nat_tests)
before_tag tag (x ∷ xs) (suc i) (suc place) earlier lower there same =
    let more : has_tag tag (take i xs) ≡ true = before_tag tag xs i place earlier (omega arith) there same in
    go (x.tag == tag) more
  where
    go : (b : Bool) → has_tag tag (take i xs) ≡ true → (b || has_tag tag (take i xs)) ≡ true
    go true h = refl
    go false h = h

-- what an entry says of itself, by its tests
not_both : (b : Bool) → b ≡ true → b ≡ false → ⊥
not_both b t f = cc

both : (a b : Bool) → (a && b) ≡ true → (a ≡ true) × (b ≡ true)
both true b h = (refl, h)
both false b h = absurd (cc)

neither : (a b : Bool) (tag : ℕ) → said_by a b tag ≡ None → (a ≡ false) × (b ≡ false)
neither true b tag h = absurd (cc)
neither false true tag h = absurd (cc)
neither false false tag h = (refl, refl)

abbrev code_in : Option Flaw → ℕ
code_in None = 0
code_in (Some f) = f.code

abbrev tag_in : Option Flaw → ℕ
tag_in None = 0
tag_in (Some f) = f.a

unlike : TAG_REFUSED ≡ REPEATED → ⊥
unlike e = omega arith

says_refused : (a b : Bool) (tag t : ℕ) → said_by a b tag ≡ Some (flaw TAG_REFUSED t 0) → (a ≡ true) × (tag ≡ t)
says_refused true b tag t h = (refl, ap tag_in h)
says_refused false true tag t h = absurd (unlike (sym (ap code_in h)))
says_refused false false tag t h = absurd (cc)

says_repeated : (a b : Bool) (tag t : ℕ) → said_by a b tag ≡ Some (flaw REPEATED t 0) → (a ≡ false) × ((b ≡ true) × (tag ≡ t))
says_repeated true b tag t h = absurd (unlike (ap code_in h))
says_repeated false true tag t h = (refl, (refl, ap tag_in h))
says_repeated false false tag t h = absurd (cc)

-- an entry of the table, behind those before it
is_repeated_there : (entries : List Entry) (i : ℕ) (e : Entry) → IsRepeatedAt entries i e → is_repeated (take i entries) e ≡ true
is_repeated_there entries i e r = rw (r.single, before_tag e.tag entries i r.place r.earlier r.lower r.earlier_there r.same) refl

is_fine : (entries : List Entry) (i : ℕ) (e : Entry) → (slice_get entries i ≡ Some e → said (take i entries) e ≡ None) → IsFine entries i e
is_fine entries i e silent = record {
  kept = λ r. not_both (is_refused e) r.refused (neither (is_refused e) (is_repeated (take i entries) e) e.tag (silent r.there)).0;
  once = λ r. not_both (is_repeated (take i entries) e) (is_repeated_there entries i e r) (neither (is_refused e) (is_repeated (take i entries) e) e.tag (silent r.there)).1;
}

repeated_at : (entries : List Entry) (i : ℕ) (e : Entry) → slice_get entries i ≡ Some e → is_repeated (take i entries) e ≡ true → IsRepeatedAt entries i e
repeated_at entries i e there k =
    let parts = both (is_single e.tag) (has_tag e.tag (take i entries)) k in
    let b : IsBefore e.tag entries i = tag_before e.tag entries i parts.1 in
    record { there = there; single = parts.0; place = b.place; earlier = b.earlier; lower = b.lower; earlier_there = b.there; same = b.same }

is_silent : (entries : List Entry) (i : ℕ) (e : Entry) → slice_get entries i ≡ Some e → IsFine entries i e → said (take i entries) e ≡ None
is_silent entries i e there fine = go (is_refused e) refl (is_repeated (take i entries) e) refl
  where
    go : (a : Bool) → is_refused e ≡ a → (b : Bool) → is_repeated (take i entries) e ≡ b → said_by a b e.tag ≡ None
    go true h b k = absurd (fine.kept (record { there = there; refused = h }))
    go false h true k = absurd (fine.once (repeated_at entries i e there k))
    go false h false k = refl

one_first : (m n : ℕ) → ¬ (m < n) → ¬ (n < m) → m ≡ n
one_first m n low high = go (nat_lt m n) refl (nat_lt n m) refl
  where
    go : (a : Bool) → nat_lt m n ≡ a → (b : Bool) → nat_lt n m ≡ b → m ≡ n
    go true e b f = absurd (low (grind (arith, nat_tests)))
    go false e true f = absurd (high (grind (arith, nat_tests)))
    go false e false f = grind (arith, nat_tests)

none_said : (f : Flaw) → None ≡ Some f → ⊥
none_said f e = cc

-- an entry that says something is the first that is not fine, where it is one
is_the_first : (entries : List Entry) (i place : ℕ) (e it : Entry) (f : Flaw) → slice_get entries i ≡ Some e → said (take i entries) e ≡ Some f → ((k : ℕ) (d : Entry) → k < i → slice_get entries k ≡ Some d → said (take k entries) d ≡ None) → slice_get entries place ≡ Some it → ¬ (IsFine entries place it) → ((k : ℕ) (d : Entry) → k < place → IsFine entries k d) → (i ≡ place) × (e ≡ it)
is_the_first entries i place e it f there says silent it_there bad first =
    let same : i ≡ place = one_first i place
    (λ l. let c : said (take i entries) e ≡ None = is_silent entries i e there (first i e l) in none_said f (sym c ∙ says))
    (λ l. bad (is_fine entries place it (λ h. silent place it l h))) in
    let alike : slice_get entries i ≡ slice_get entries place = ap (slice_get entries) same in
    (same, cc)

refused_is_bad : (entries : List Entry) (i : ℕ) (e : Entry) → IsRefusedAt entries i e → ¬ (IsFine entries i e)
refused_is_bad entries i e r fine = fine.kept r

repeated_is_bad : (entries : List Entry) (i : ℕ) (e : Entry) → IsRepeatedAt entries i e → ¬ (IsFine entries i e)
repeated_is_bad entries i e r fine = fine.once r

speaks : (entries : List Entry) (i : ℕ) (e : Entry) (f : Flaw) → slice_get entries i ≡ Some e → said (take i entries) e ≡ Some f → ¬ (IsFine entries i e)
speaks entries i e f there says fine = none_said f (sym (is_silent entries i e there fine) ∙ says)

says_so : (entries : List Entry) (i : ℕ) (e : Entry) → IsRefusedAt entries i e → said (take i entries) e ≡ Some (flaw TAG_REFUSED e.tag 0)
says_so entries i e r = rw r.refused refl

says_again : (entries : List Entry) (i : ℕ) (e : Entry) → IsRepeatedAt entries i e → ¬ (IsRefusedAt entries i e) → said (take i entries) e ≡ Some (flaw REPEATED e.tag 0)
says_again entries i e r kept = go (is_refused e) refl (is_repeated (take i entries) e) (is_repeated_there entries i e r)
  where
    go : (a : Bool) → is_refused e ≡ a → (b : Bool) → b ≡ true → said_by a b e.tag ≡ Some (flaw REPEATED e.tag 0)
    go true h b k = absurd (kept (record { there = r.there; refused = h }))
    go false h true k = refl
    go false h false k = absurd (cc)

-- two entries at one place say the same
meet : (entries : List Entry) (i place : ℕ) (e it : Entry) (g : Flaw) (code tag : ℕ) → said (take i entries) e ≡ Some g → (i ≡ place) × (e ≡ it) → said (take place entries) it ≡ Some (flaw code it.tag 0) → it.tag ≡ tag → Some g ≡ Some (flaw code tag 0)
meet entries i place e it g code tag says same it_says tagged =
    let front : take i entries ≡ take place entries = ap (λ (n : ℕ). take n entries) same.0 in
    let alike : said (take i entries) e ≡ said (take place entries) it = ap (λ (l : List Entry). said l e) front ∙ ap (said (take place entries)) same.1 in
    let named : Some (flaw code it.tag 0) ≡ Some (flaw code tag 0) = ap (λ (n : ℕ). Some (flaw code n 0)) tagged in
    sym says ∙ (alike ∙ (it_says ∙ named))

names : (entries : List Entry) (o : Option Flaw) → Finds [] entries o → NamesFirstEntry entries o
names entries None f = record {
  refused = λ tag. (λ e. absurd (cc), λ r. absurd (refused_is_bad entries r.place r.it r.here (is_fine entries r.place r.it (f r.place r.it))));
  repeated = λ tag. (λ e. absurd (cc), λ r. absurd (repeated_is_bad entries r.place r.it r.here (is_fine entries r.place r.it (f r.place r.it))));
  none = (λ e i d. is_fine entries i d (f i d), λ all. refl);
}
names entries (Some g) f = record {
  refused = λ tag. (to_refused tag, from_refused tag);
  repeated = λ tag. (to_repeated tag, from_repeated tag);
  none = (λ e. absurd (cc), λ all. absurd (speaks entries f.0 f.1.0 g f.1.1.0 f.1.1.1.0 (all f.0 f.1.0)));
}
  where
    fine_before : (k : ℕ) (d : Entry) → k < f.0 → IsFine entries k d
    fine_before k d l = is_fine entries k d (λ h. f.1.1.1.1 k d l h)

    to_refused : (tag : ℕ) → Some g ≡ Some (flaw TAG_REFUSED tag 0) → IsFirstRefused entries tag
    to_refused tag h =
        let s = says_refused (is_refused f.1.0) (is_repeated (take f.0 entries) f.1.0) f.1.0.tag tag (f.1.1.1.0 ∙ h) in
        record { place = f.0; it = f.1.0; here = record { there = f.1.1.0; refused = s.0 }; tagged = s.1; first = fine_before }

    to_repeated : (tag : ℕ) → Some g ≡ Some (flaw REPEATED tag 0) → IsFirstRepeated entries tag
    to_repeated tag h =
        let s = says_repeated (is_refused f.1.0) (is_repeated (take f.0 entries) f.1.0) f.1.0.tag tag (f.1.1.1.0 ∙ h) in
        record {
          place = f.0;
          it = f.1.0;
          here = repeated_at entries f.0 f.1.0 f.1.1.0 s.1.0;
          kept = λ r. not_both (is_refused f.1.0) r.refused s.0;
          tagged = s.1.1;
          first = fine_before;
        }

    from_refused : (tag : ℕ) → IsFirstRefused entries tag → Some g ≡ Some (flaw TAG_REFUSED tag 0)
    from_refused tag r =
        let same = is_the_first entries f.0 r.place f.1.0 r.it g f.1.1.0 f.1.1.1.0 f.1.1.1.1 r.here.there (refused_is_bad entries r.place r.it r.here) r.first in
        meet entries f.0 r.place f.1.0 r.it g TAG_REFUSED tag f.1.1.1.0 same (says_so entries r.place r.it r.here) r.tagged

    from_repeated : (tag : ℕ) → IsFirstRepeated entries tag → Some g ≡ Some (flaw REPEATED tag 0)
    from_repeated tag r =
        let same = is_the_first entries f.0 r.place f.1.0 r.it g f.1.1.0 f.1.1.1.0 f.1.1.1.1 r.here.there (repeated_is_bad entries r.place r.it r.here) r.first in
        meet entries f.0 r.place f.1.0 r.it g REPEATED tag f.1.1.1.0 same (says_again entries r.place r.it r.here r.kept) r.tagged

-- the first entry that is refused or repeated is the one that is named
pub entry_named_first : (entries : List Entry) → NamesFirstEntry entries (entry_flaw [] entries)
entry_named_first entries = names entries (entry_flaw [] entries) (found [] entries)
