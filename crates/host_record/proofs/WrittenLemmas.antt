-- The lines of a canonical record come in order, and say it.
use Rattle.std.proofs.Common.{◌≡◌, ◌∙◌, sym, ap, refl, ℕ, zero, suc, ◌+◌, ◌<◌, ◌≤◌, List, [], ◌∷◌, ◌++◌, true, false, Bool, cond, subst, append_assoc, append-nil, length, arith, map, length-append}
use Rattle.std.specs.Prelude.{not, ◌||◌, bytes_eq}
use Rattle.std.specs.List.{flat_map, AllByRecursion}
use Rattle.std.proofs.lemmas.List.{map-append, length-map}
use Rattle.std.proofs.lemmas.List.Elements.{All-nil}
use Rattle.std.proofs.lemmas.Slice.Eq.{bytes_eq-Decides}
use Rattle.load_model.specs.Escaping.{AreBytes}
use Rattle.host_record.specs.Lines.{IsPathBytes}
use Rattle.host_record.specs.Said.{may_follow, is_declared, lib_names, lib_number, with_need}
use Rattle.host_record.specs.Grammar.{Says, lib_name_at, look_line, library_lines, record_lines, record_text, version_line}
use Rattle.host_record.specs.Canonical.{AreDistinct, IsCanonical, IsLookOver, IsOfBytes, IsVersionOver, LibBytes, LookBytes, VersionBytes}
use Rattle.host_record.proofs.OrderLemmas.{Comes, Kind, comes_on, kind_comes}
use Rattle.host_record.specs.declared.lines.Line.TheVariants.{Interp, Declare, Need, Require, Ask, End}
use Rattle.host_record.specs.declared.lines.Lookup.{Lookup}
use Rattle.host_record.specs.declared.lines.Section.{Section}
use Rattle.host_record.specs.declared.lines.Section.TheVariants.{Target, Interps, Libs, Versions, Looks, Done}
use Rattle.host_record.specs.declared.records.Record.{Record}
use Rattle.host_record.specs.declared.records.RecLib.{RecLib}
use Rattle.host_record.specs.declared.records.RecVersion.{RecVersion}
use Rattle.host_record.specs.declared.records.Look.{Look}

-- ---- what was said so far of a record

abbrev at_interps : Record → List (List ℕ) → Record
at_interps r paths = record { machine = r.machine; interps = paths; libs = []; versions = []; looks = [] }

abbrev at_libs : Record → List RecLib → Record
at_libs r libs = record { machine = r.machine; interps = r.interps; libs = libs; versions = []; looks = [] }

abbrev at_versions : Record → List RecVersion → Record
at_versions r versions = record { machine = r.machine; interps = r.interps; libs = r.libs; versions = versions; looks = [] }

abbrev at_looks : Record → List Look → Record
at_looks r looks = record { machine = r.machine; interps = r.interps; libs = r.libs; versions = r.versions; looks = looks }

-- ---- sections behind which lines may come

record MayDeclare (section : Section) : Type 0 where
  pub declare : (name : List ℕ) → may_follow section (Declare name) ≡ true
  pub require : (lib version : List ℕ) → may_follow section (Require lib version) ≡ true
  pub ask : (lookup : Lookup) → may_follow section (Ask lookup) ≡ true
  pub last : may_follow section End ≡ true

record MayRequire (section : Section) : Type 0 where
  pub require : (lib version : List ℕ) → may_follow section (Require lib version) ≡ true
  pub ask : (lookup : Lookup) → may_follow section (Ask lookup) ≡ true
  pub last : may_follow section End ≡ true

record MayAsk (section : Section) : Type 0 where
  pub ask : (lookup : Lookup) → may_follow section (Ask lookup) ≡ true
  pub last : may_follow section End ≡ true

abbrev MayEnd : Section → Type 0
MayEnd section = may_follow section End ≡ true

-- ---- interpreters

interp_kind : (r : Record) → Kind Interp (at_interps r) Interps IsPathBytes
interp_kind r = record { stands = λ _. refl; follows = λ _. refl; fits = λ _ p. p; right = λ _ _ _. refl; adds = λ _ _ _. refl }

-- ---- libraries

-- the last library gets a need
need_last : (libs : List RecLib) (lib : RecLib) (need : List ℕ) → with_need (libs ++ lib ∷ []) need ≡ libs ++ record { name = lib.name; needs = lib.needs ++ need ∷ [] } ∷ []
need_last [] lib need = refl
need_last (a ∷ []) lib need = refl
need_last (a ∷ b ∷ libs) lib need = ap (λ ls. a ∷ ls) (need_last (b ∷ libs) lib need)

abbrev at_needs : Record → List RecLib → List ℕ → List (List ℕ) → Record
at_needs r before name needs = at_libs r (before ++ record { name = name; needs = needs } ∷ [])

need_kind : (r : Record) (before : List RecLib) (name : List ℕ) → Kind Need (at_needs r before name) Libs AreBytes
need_kind r before name = record {
  stands = λ _. refl;
  follows = λ _. refl;
  fits = λ _ p. p;
  right = λ _ _ _. refl;
  adds = λ had need _. ap (at_libs r) (need_last before (record { name = name; needs = had }) need);
}

not_declared : (b : Bool) → b ≡ false → not b ≡ true
not_declared true h = cc
not_declared false h = refl

libs_may : MayDeclare Libs
libs_may = record { declare = λ _. refl; require = λ _ _. refl; ask = λ _. refl; last = refl }

interps_may : MayDeclare Interps
interps_may = record { declare = λ _. refl; require = λ _ _. refl; ask = λ _. refl; last = refl }

one_lib : (section : Section) (r : Record) (before : List RecLib) (lib : RecLib) → MayDeclare section → LibBytes lib → is_declared (lib_names before) lib.name ≡ false → Comes section (at_libs r before) (library_lines lib) MayDeclare (at_libs r (before ++ lib ∷ []))
one_lib section r before lib m f n =
    let rest = kind_comes Need (at_needs r before lib.name) Libs AreBytes (need_kind r before lib.name) Libs MayDeclare [] lib.needs (λ _. libs_may) libs_may (λ _. refl) f.needs in
    record {
      each = (record { fits = f.name; follows = m.declare lib.name; right = not_declared (is_declared (lib_names before) lib.name) n }, rest.each);
      leads = rest.leads;
      tells = rest.tells;
    }

libs_come : (section : Section) (r : Record) (before libs : List RecLib) → MayDeclare section → AllByRecursion LibBytes libs → AreDistinct (lib_names before) (lib_names libs) → Comes section (at_libs r before) (flat_map library_lines libs) MayDeclare (at_libs r (before ++ libs))
libs_come section r before [] m f d = record { each = tt; leads = m; tells = ap (at_libs r) (sym (append-nil before)) }
libs_come section r before (lib ∷ libs) m f d =
    subst (λ (ls : List RecLib). Comes section (at_libs r before) (flat_map library_lines (lib ∷ libs)) MayDeclare (at_libs r ls)) (append_assoc before (lib ∷ []) libs)
    (comes_on section (at_libs r before) (at_libs r (before ++ lib ∷ [])) (at_libs r ((before ++ lib ∷ []) ++ libs)) (library_lines lib) (flat_map library_lines libs) MayDeclare MayDeclare
    (one_lib section r before lib m f.0 d.0)
    (λ s may. libs_come s r (before ++ lib ∷ []) libs may f.1 (subst (λ (ns : List (List ℕ)). AreDistinct ns (lib_names libs)) (sym (map-append (λ (l : RecLib). l.name) before (lib ∷ []))) d.1)))

-- ---- numbers of libraries

cons_cond : (b : Bool) (rest : Bool) → (b || rest) ≡ false → (b ≡ false) × (rest ≡ false)
cons_cond true rest h = cc
cons_cond false rest h = (refl, h)

either : (a b : Bool) → b ≡ true → (a || b) ≡ true
either true b h = refl
either false b h = h

-- a name that stands nowhere before has the number of those before
first_place : (names more : List (List ℕ)) (name : List ℕ) → is_declared names name ≡ false → lib_number (names ++ name ∷ more) name ≡ length names
first_place [] more name h = ap (λ b. cond (not b) (1 + lib_number more name) 0) ((bytes_eq-Decides name name).1 refl)
first_place (n ∷ names) more name h =
    let w = cons_cond (bytes_eq name n) (is_declared names name) h in
    ap (λ b. cond (not b) (1 + lib_number (names ++ name ∷ more) name) 0) w.0 ∙ (ap (λ k. 1 + k) (first_place names more name w.1) ∙ omega arith)

number_at : (before names : List (List ℕ)) (k : ℕ) → AreDistinct before names → k < length names → lib_number (before ++ names) (lib_name_at names k) ≡ length before + k
number_at before [] k d l = absurd (omega arith)
number_at before (n ∷ names) zero d l = first_place before names n d.0 ∙ omega arith
number_at before (n ∷ names) (suc k) d l =
    let w = number_at (before ++ n ∷ []) names k d.1 (omega arith) in
    let long = length-append before (n ∷ []) in
    ap (λ ns. lib_number ns (lib_name_at names k)) (sym (append_assoc before (n ∷ []) names)) ∙ (w ∙ omega arith)

named_at : (names : List (List ℕ)) (k : ℕ) → k < length names → is_declared names (lib_name_at names k) ≡ true
named_at [] k l = absurd (omega arith)
named_at (n ∷ names) zero l = ap (λ b. b || is_declared names n) ((bytes_eq-Decides n n).1 refl)
named_at (n ∷ names) (suc k) l = either (bytes_eq (lib_name_at names k) n) (is_declared names (lib_name_at names k)) (named_at names k (omega arith))

bytes_at : (libs : List RecLib) (k : ℕ) → AllByRecursion LibBytes libs → AreBytes (lib_name_at (lib_names libs) k)
bytes_at [] k f = All-nil (λ c. c ≤ 255)
bytes_at (lib ∷ libs) zero f = f.0.name
bytes_at (lib ∷ libs) (suc k) f = bytes_at libs k f.1

-- the number of a library in range is that of its name
number_back : (libs : List RecLib) (k : ℕ) → AreDistinct [] (lib_names libs) → k < length libs → lib_number (lib_names libs) (lib_name_at (lib_names libs) k) ≡ k
number_back libs k d l =
    let long = length-map libs (λ (x : RecLib). x.name) in
    let inside : k < length (lib_names libs) = subst (λ (n : ℕ). k < n) (sym long) l in
    number_at [] (lib_names libs) k d inside ∙ (let zeroed : 0 + k ≡ k = omega arith in zeroed)

declared_there : (libs : List RecLib) (k : ℕ) → k < length libs → is_declared (lib_names libs) (lib_name_at (lib_names libs) k) ≡ true
declared_there libs k l =
    let long = length-map libs (λ (x : RecLib). x.name) in
    named_at (lib_names libs) k (subst (λ (n : ℕ). k < n) (sym long) l)

-- ---- versions and looks

-- both facts of each
both : {X : Type 0} (P Q : X → Type 0) (xs : List X) → AllByRecursion P xs → AllByRecursion Q xs → AllByRecursion (λ x. P x × Q x) xs
both P Q [] p q = tt
both P Q (x ∷ xs) p q = ((p.0, q.0), both P Q xs p.1 q.1)

version_kind : (r : Record) → IsOfBytes r → IsCanonical r → Kind (version_line (lib_names r.libs)) (at_versions r) Versions (λ v. VersionBytes v × IsVersionOver r.libs v)
version_kind r b c = record {
  stands = λ _. refl;
  follows = λ _. refl;
  fits = λ v g. (bytes_at r.libs v.lib b.libs, g.0);
  right = λ _ v g. declared_there r.libs v.lib g.1;
  adds = λ had v g. ap (λ n. at_versions r (had ++ record { lib = n; version = v.version } ∷ [])) (number_back r.libs v.lib c.distinct g.1);
}

look_kind : (r : Record) → IsOfBytes r → IsCanonical r → Kind (look_line (lib_names r.libs)) (at_looks r) Looks (λ l. LookBytes l × IsLookOver r.libs l)
look_kind r b c = record {
  stands = λ _. refl;
  follows = λ _. refl;
  fits = λ l g. record { lib = bytes_at r.libs l.lib b.libs; name = g.0.name; version = g.0.version; answer = g.0.answer };
  right = λ _ l g. declared_there r.libs l.lib g.1;
  adds = λ had l g. ap (λ n. at_looks r (had ++ record { lib = n; name = l.name; version = l.version; call = l.call; answer = l.answer } ∷ [])) (number_back r.libs l.lib c.distinct g.1);
}

-- ---- all of them

end_comes : (r : Record) → IsCanonical r → (section : Section) → MayEnd section → Comes section (at_looks r r.looks) (End ∷ []) (λ s. s ≡ Done) r
end_comes r c section m = record { each = (record { fits = tt; follows = m; right = c.declared }, tt); leads = refl; tells = refl }

looks_come : (r : Record) → IsOfBytes r → IsCanonical r → (section : Section) → MayAsk section → Comes section (at_looks r []) (map (look_line (lib_names r.libs)) r.looks ++ End ∷ []) (λ s. s ≡ Done) r
looks_come r b c section m =
    comes_on section (at_looks r []) (at_looks r r.looks) r (map (look_line (lib_names r.libs)) r.looks) (End ∷ []) MayEnd (λ s. s ≡ Done)
    (kind_comes (look_line (lib_names r.libs)) (at_looks r) Looks (λ l. LookBytes l × IsLookOver r.libs l) (look_kind r b c) section MayEnd [] r.looks (λ _. m.last) refl (λ l. m.ask _)
    (both LookBytes (IsLookOver r.libs) r.looks b.looks c.looks))
    (end_comes r c)

versions_may : MayAsk Versions
versions_may = record { ask = λ _. refl; last = refl }

versions_come : (r : Record) → IsOfBytes r → IsCanonical r → (section : Section) → MayDeclare section → Comes section (at_versions r []) (map (version_line (lib_names r.libs)) r.versions ++ (map (look_line (lib_names r.libs)) r.looks ++ End ∷ [])) (λ s. s ≡ Done) r
versions_come r b c section m =
    comes_on section (at_versions r []) (at_versions r r.versions) r (map (version_line (lib_names r.libs)) r.versions) (map (look_line (lib_names r.libs)) r.looks ++ End ∷ []) MayAsk (λ s. s ≡ Done)
    (kind_comes (version_line (lib_names r.libs)) (at_versions r) Versions (λ v. VersionBytes v × IsVersionOver r.libs v) (version_kind r b c) section MayAsk [] r.versions (λ _. record { ask = m.ask; last = m.last }) versions_may (λ v. m.require _ _)
    (both VersionBytes (IsVersionOver r.libs) r.versions b.versions c.versions))
    (looks_come r b c)

rest_comes : (r : Record) → IsOfBytes r → IsCanonical r → (section : Section) → MayDeclare section → Comes section (at_libs r []) (flat_map library_lines r.libs ++ (map (version_line (lib_names r.libs)) r.versions ++ (map (look_line (lib_names r.libs)) r.looks ++ End ∷ []))) (λ s. s ≡ Done) r
rest_comes r b c section m =
    comes_on section (at_libs r []) (at_libs r r.libs) r (flat_map library_lines r.libs) (map (version_line (lib_names r.libs)) r.versions ++ (map (look_line (lib_names r.libs)) r.looks ++ End ∷ [])) MayDeclare (λ s. s ≡ Done)
    (libs_come section r [] r.libs m b.libs c.distinct)
    (versions_come r b c)

all_come : (r : Record) → IsOfBytes r → IsCanonical r → Comes Target (at_interps r []) (map Interp r.interps ++ (flat_map library_lines r.libs ++ (map (version_line (lib_names r.libs)) r.versions ++ (map (look_line (lib_names r.libs)) r.looks ++ End ∷ [])))) (λ s. s ≡ Done) r
all_come r b c =
    comes_on Target (at_interps r []) (at_interps r r.interps) r (map Interp r.interps) (flat_map library_lines r.libs ++ (map (version_line (lib_names r.libs)) r.versions ++ (map (look_line (lib_names r.libs)) r.looks ++ End ∷ []))) MayDeclare (λ s. s ≡ Done)
    (kind_comes Interp (at_interps r) Interps IsPathBytes (interp_kind r) Target MayDeclare [] r.interps (λ e. absurd (c.interps e)) interps_may (λ _. refl) b.interps)
    (rest_comes r b c)

pub written : (r : Record) → IsOfBytes r → IsCanonical r → Says (record_text r) r
written r b c =
    let all = all_come r b c in
    record {
      lines = record_lines r;
      each = (record { fits = tt; follows = refl; right = refl }, (record { fits = b.machine; follows = refl; right = refl }, all.each));
      last = all.leads;
      whole = refl;
      tells = all.tells;
    }
