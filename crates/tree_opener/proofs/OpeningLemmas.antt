-- What lies at a path, from what a probe answers and what is seen of the file.
use Rattle.std.proofs.Common.{ℕ, ◌≤◌, List, [], ◌∷◌, Bool, true, false, not, ◌&&◌, ◌==◌, ◌≡◌, refl, ap, sym, ◌∙◌, length, Option, Some, None, Result, Ok, Err, find, cond, eqb, nat_le, arith}
use Rattle.std.proofs.lemmas.Bool.{le-leb}
use Rattle.std.specs.List.{starts_with}
use Rattle.std.specs.Str.{bytes_eq}
use Rattle.answers.specs.First.{some_where}
use Rattle.byte_view.proofs.Loads.{none_first}
use Rattle.byte_view.specs.Checks.{flaw}
use Rattle.byte_view.specs.DynamicFlaws.{dynamic_flaw}
use Rattle.byte_view.specs.HeaderFlaws.{header_flaw, ident_flaw, not_elf, segment_flaw, short_header, too_big, word_flaw, wrong_class, wrong_ident_version, wrong_order, wrong_version}
use Rattle.byte_view.specs.Headers.{e_machine, ei_class, ei_data, headers}
use Rattle.byte_view.specs.declared.constants.TheConstants.{ELFCLASS64, ELFDATA2LSB, ELFMAG}
use Rattle.byte_view.specs.declared.flaws.TheConstants.{NOT_ELF}
use Rattle.elf_face.proofs.Within.{header_whole}
use Rattle.byte_view.specs.declared.flaws.Flaw.{Flaw}
use Rattle.load_model.proofs.TwoWorlds.{same_bytes}
use Rattle.load_model.specs.Faces.{face_of, face_or_flaw, face_unless, first_flaw, name_flaw}
use Rattle.load_model.specs.SymbolFlaws.{symbol_count, symbol_flaw}
use Rattle.load_model.specs.VersionFlaws.{version_flaw}
use Rattle.load_model.specs.World.{World, Absent as KindAbsent, Other, Object, Damaged, file_at, is_other, kind_of}
use Rattle.load_model.specs.declared.faces.Face.{Face}
use Rattle.load_model.specs.declared.world.WorldFile.{WorldFile}
use Rattle.ports.specs.Reading.{bytes_at, bytes_of, found_at, found_of}
use Rattle.ports.specs.declared.trees.Found.TheVariants.{Absent, File}
use Rattle.tree_opener.specs.Reading.{LiesAt, seen_in, seen_unless}
use Rattle.tree_opener.specs.declared.reading.Seen.{Seen}
use Rattle.tree_opener.specs.declared.reading.Seen.TheVariants.{ForAnother, Faced, Flawed}

found_in_rest : (path : List ℕ) (f file : WorldFile) (fs : List WorldFile) → (b : Bool) → bytes_eq f.path path ≡ b → (find (λ g. bytes_eq g.path path) fs ≡ Some file → file.path ≡ path) → cond b (Some f) (find (λ g. bytes_eq g.path path) fs) ≡ Some file → file.path ≡ path
found_in_rest path f file fs true e more h =
    let same : f ≡ file = cc in
    ap (λ x. x.path) (sym same) ∙ same_bytes f.path path e
found_in_rest path f file fs false e more h = more h

-- the file that is found lies at the path
found_path : (world : World) (path : List ℕ) (file : WorldFile) → find (λ f. bytes_eq f.path path) world ≡ Some file → file.path ≡ path
found_path [] path file h = cc
found_path (f ∷ fs) path file h = found_in_rest path f file fs (bytes_eq f.path path) refl (found_path fs path file) h

file_of_found : (world : World) (path id : List ℕ) (len : ℕ) (found : Option WorldFile) → file_at world path ≡ found → found_of found ≡ File id len → LiesAt world path id len
file_of_found world path id len None e h = absurd (cc)
file_of_found world path id len (Some f) e h =
    let id_is : f.id ≡ id = cc in
    let len_is : length f.bytes ≡ len = cc in
    record { file = f; lies = e; path_is = found_path world path f e; id_is = id_is; len_is = len_is }

-- a probe that answers a file
pub file_found : (world : World) (path id : List ℕ) (len : ℕ) → found_at world path ≡ File id len → LiesAt world path id len
file_found world path id len h = file_of_found world path id len (file_at world path) refl h

pub bytes_len : (world : World) (path id : List ℕ) (len : ℕ) → LiesAt world path id len → length (bytes_at world path) ≡ len
bytes_len world path id len h = ap length (ap bytes_of h.lies) ∙ h.len_is

nothing_in : (found : Option WorldFile) → found_of found ≡ Absent → found ≡ None
nothing_in None h = refl
nothing_in (Some f) h = absurd (cc)

-- a probe that answers nothing
pub nothing_found : (world : World) (path : List ℕ) → found_at world path ≡ Absent → file_at world path ≡ None
nothing_found world path h = nothing_in (file_at world path) h

-- the first bytes of a file with a face are those of an object, and so it is for its own machine
begins_right : (b : Bool) → some_where (not b) (flaw NOT_ELF 0 0) ≡ None → b ≡ true
begins_right true h = refl
begins_right false h = absurd (cc)

pub begins_as_elf : (file : List ℕ) → header_flaw file ≡ None → starts_with eqb file ELFMAG ≡ true
unfolding header_flaw ident_flaw
begins_as_elf file e =
    let ident = none_first (ident_flaw file) (word_flaw file ∷ segment_flaw (length file) (headers file) ∷ []) e in
    let big = none_first (too_big file) (not_elf file ∷ short_header file ∷ wrong_class file ∷ wrong_order file ∷ wrong_ident_version file ∷ wrong_version file ∷ []) ident.0 in
    let elf = none_first (not_elf file) (short_header file ∷ wrong_class file ∷ wrong_order file ∷ wrong_ident_version file ∷ wrong_version file ∷ []) big.1 in
    begins_right (starts_with eqb file ELFMAG) elf.0

no_header_flaw : (file : List ℕ) → first_flaw file ≡ None → header_flaw file ≡ None
unfolding first_flaw
no_header_flaw file e = (none_first (header_flaw file) (dynamic_flaw file ∷ symbol_flaw file ∷ version_flaw (symbol_count file) file ∷ name_flaw file ∷ []) e).0

face_parts : (file : List ℕ) (face : Face) (flaw : Option Flaw) → face_unless flaw (face_of file) ≡ Ok face → (flaw ≡ None) × (face ≡ face_of file)
face_parts file face None e = (refl, cc)
face_parts file face (Some f) e = absurd (cc)

not_other : (a b c d m : Bool) → a ≡ true → b ≡ true → (a && (b && not (c && (d && m)))) ≡ false → m ≡ true
not_other true true true true true e f h = refl
not_other true true true true false e f h = absurd (cc)
not_other true true true false m e f h = absurd (cc)
not_other true true false d m e f h = absurd (cc)
not_other true false c d m e f h = absurd (cc)
not_other false b c d m e f h = absurd (cc)

-- a file with a face that is not for another machine is for this one
machine_shown : (m : ℕ) (file : List ℕ) (face : Face) → is_other m file ≡ false → face_or_flaw file ≡ Ok face → (face.machine == m) ≡ true
unfolding face_or_flaw face_of
machine_shown m file face other e =
    let parts = face_parts file face (first_flaw file) e in
    let header : header_flaw file ≡ None = no_header_flaw file parts.0 in
    let whole : 64 ≤ length file = header_whole file header in
    let enough : nat_le 20 (length file) ≡ true = le-leb 20 (length file) (omega arith) in
    let machine : (e_machine file == m) ≡ true = not_other (nat_le 20 (length file)) (starts_with eqb file ELFMAG) (ei_class file == ELFCLASS64) (ei_data file == ELFDATA2LSB) (e_machine file == m) enough (begins_as_elf file header) other in
    ap (λ (f : Face). f.machine == m) parts.1 ∙ machine

other_seen : (m : ℕ) (b : Bool) (r : Result Face Flaw) → ((face : Face) → b ≡ false → r ≡ Ok face → (face.machine == m) ≡ true) → ForAnother ≡ seen_unless b m r → b ≡ true
other_seen m true r shown h = refl
other_seen m false (Ok face) shown h = let same : ForAnother ≡ Faced face = h ∙ ap (λ c. cond c (Faced face) ForAnother) (shown face refl refl) in absurd (cc)
other_seen m false (Err flaw) shown h = absurd (cc)

faced_of : (face other : Face) (c : Bool) → Faced face ≡ cond c (Faced other) ForAnother → face ≡ other
faced_of face other true h = cc
faced_of face other false h = absurd (cc)

faced_seen : (m : ℕ) (face : Face) (b : Bool) (r : Result Face Flaw) → Faced face ≡ seen_unless b m r → (b ≡ false) × (r ≡ Ok face)
faced_seen m face true r h = absurd (cc)
faced_seen m face false (Ok f) h = (refl, ap Ok (sym (faced_of face f (f.machine == m) h)))
faced_seen m face false (Err flaw) h = absurd (cc)

unflawed : (flaw : Flaw) (face : Face) (c : Bool) → Flawed flaw ≡ cond c (Faced face) ForAnother → ⊥
unflawed flaw face true h = absurd (cc)
unflawed flaw face false h = absurd (cc)

flawed_seen : (m : ℕ) (flaw : Flaw) (b : Bool) (r : Result Face Flaw) → Flawed flaw ≡ seen_unless b m r → (b ≡ false) × (r ≡ Err flaw)
flawed_seen m flaw true r h = absurd (cc)
flawed_seen m flaw false (Ok f) h = absurd (unflawed flaw f (f.machine == m) h)
flawed_seen m flaw false (Err f) h = (refl, cc)

seen_of_file : (m : ℕ) (world : World) (path id : List ℕ) (len : ℕ) (h : LiesAt world path id len) (seen : Seen) → seen ≡ seen_in m (bytes_at world path) → seen ≡ seen_unless (is_other m h.file.bytes) m (face_or_flaw h.file.bytes)
unfolding seen_in
seen_of_file m world path id len h seen e = e ∙ ap (λ l. seen_in m l) (ap bytes_of h.lies)

-- a file for another machine
pub kind_other : (m : ℕ) (world : World) (path id : List ℕ) (len : ℕ) → LiesAt world path id len → ForAnother ≡ seen_in m (bytes_at world path) → kind_of face_or_flaw m world path ≡ Other
kind_other m world path id len h e =
    let other : is_other m h.file.bytes ≡ true = other_seen m (is_other m h.file.bytes) (face_or_flaw h.file.bytes) (λ face b r. machine_shown m h.file.bytes face b r) (seen_of_file m world path id len h ForAnother e) in
    rw (h.lies, other) refl

-- an object, by its face
pub kind_object : (m : ℕ) (world : World) (path id : List ℕ) (len : ℕ) (h : LiesAt world path id len) (face : Face) → Faced face ≡ seen_in m (bytes_at world path) → kind_of face_or_flaw m world path ≡ Object h.file face
kind_object m world path id len h face e =
    let parts = faced_seen m face (is_other m h.file.bytes) (face_or_flaw h.file.bytes) (seen_of_file m world path id len h (Faced face) e) in
    rw (h.lies, parts.0, parts.1) refl

-- a damaged file, by its flaw
pub kind_damaged : (m : ℕ) (world : World) (path id : List ℕ) (len : ℕ) (h : LiesAt world path id len) (flaw : Flaw) → Flawed flaw ≡ seen_in m (bytes_at world path) → kind_of face_or_flaw m world path ≡ Damaged h.file flaw
kind_damaged m world path id len h flaw e =
    let parts = flawed_seen m flaw (is_other m h.file.bytes) (face_or_flaw h.file.bytes) (seen_of_file m world path id len h (Flawed flaw) e) in
    rw (h.lies, parts.0, parts.1) refl

-- nothing lies there
pub kind_absent : (m : ℕ) (world : World) (path : List ℕ) → file_at world path ≡ None → kind_of face_or_flaw m world path ≡ KindAbsent
kind_absent m world path h = rw h refl
