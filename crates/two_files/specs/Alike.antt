-- Two readings of memory that agree where it matters
use Rattle.std.specs.Prelude.{ℕ, ◌+◌, ◌*◌, ◌≤◌, ◌<◌, ◌≡◌, ◌==◌, Bool, true, false, List, [], ◌∷◌, Option, Some, None, length, is_some, map}
use Rattle.std.specs.List.{list_any}
use Rattle.byte_view.specs.Dynamic.{strings_of, strings_size, text_in, value_of}
use Rattle.byte_view.specs.Memory.{memory_bytes, range_in}
use Rattle.byte_view.specs.declared.constants.TheConstants.{VER_FLG_WEAK, DT_NEEDED, DT_SONAME, DT_RPATH, DT_RUNPATH, DT_STRTAB, DT_STRSZ, DT_HASH, DT_GNU_HASH}
use Rattle.byte_view.specs.declared.dynamic.Entry.{Entry}
use Rattle.byte_view.specs.declared.segments.Segment.{Segment}
use Rattle.byte_view.specs.Dynamic.{dynamic_entries}
use Rattle.byte_view.specs.Headers.{headers}
use Rattle.load_model.specs.VersionTables.{is_versioned, verdaux_of, verdef_count, verdef_place, vernaux_place, verneed_count, verneed_place, versym, vn_cnt, vn_file, text_of, vna_name, vna_flags, vernauxs}
use Rattle.load_model.specs.declared.asks.Ask.{Ask}
use Rattle.byte_view.specs.DynamicFlaws.{has_bit}
use Rattle.byte_view.specs.DynamicFlaws.{dynamic_flaw}
use Rattle.byte_view.specs.HeaderFlaws.{header_flaw}
use Rattle.byte_view.specs.Headers.{e_machine}
use Rattle.load_model.specs.Faces.{interp_of, is_symbolic, name_flaw, named_text, needs_of, syms_of}
use Rattle.load_model.specs.SymbolFlaws.{symbol_count}
use Rattle.load_model.specs.VersionTables.{definitions_of}
use Rattle.load_model.specs.declared.faces.Face.{Face}
use Rattle.load_model.specs.GnuTable.{gnu_size}
use Rattle.load_model.specs.SymbolCount.{section_count}
use Rattle.load_model.specs.SymbolFlaws.{count_by}
use Rattle.load_model.specs.SymbolTable.{symbols_at}
use Rattle.load_model.specs.SysvTable.{sysv_size}

-- the bytes at len addresses are the same in both
pub record SameBytes (b c : List ℕ) (bs cs : List Segment) (addr len : ℕ) : Type 0 where
  pub parts : (k n : ℕ) → k + n ≤ len → memory_bytes c cs (addr + k) n
      ≡ memory_bytes b bs (addr + k) n

-- what the first has from its file, the second has from the same places of its own
pub record KeepsRanges (bs cs : List Segment) : Type 0 where
  pub keeps : (addr len : ℕ) → is_some (range_in bs addr len) ≡ true → range_in cs addr len
      ≡ range_in bs addr len

-- the tags whose entries are changed
abbrev pub is_changed : ℕ → Bool
is_changed tag = list_any (λ t. t == tag) (DT_NEEDED ∷ DT_SONAME ∷ DT_RPATH ∷ DT_RUNPATH ∷ DT_STRTAB
    ∷ DT_STRSZ ∷ [])

-- each other tag has the value that it had
pub record KeepsTags (be ce : List Entry) : Type 0 where
  pub tags : (tag : ℕ) → is_changed tag ≡ false → value_of tag ce ≡ value_of tag be

-- the string table has grown, and each old place has its text
pub record KeepsTexts (b c : List ℕ) (bs cs : List Segment) (be ce : List Entry) : Type 0 where
  pub size : strings_size be ≤ strings_size ce
  pub texts : (at : ℕ) → at < strings_size be → text_in (strings_of c cs ce) at
      ≡ text_in (strings_of b bs be) at

-- symbols and hash tables are where they were
pub record KeepsSymbols (b c : List ℕ) (bs cs : List Segment) (be ce : List Entry) : Type 0 where
  pub longer : length b ≤ length c
  pub ranges : KeepsRanges bs cs
  pub tags : KeepsTags be ce
  pub texts : KeepsTexts b c bs cs be ce
  pub sections : section_count c ce ≡ section_count b be
  pub sysv : (addr : ℕ) → value_of DT_HASH be ≡ Some addr
      → SameBytes b c bs cs addr (sysv_size b bs addr)
  pub gnu : (addr : ℕ) → value_of DT_GNU_HASH be ≡ Some addr
      → SameBytes b c bs cs addr (gnu_size b bs addr)
  pub symbols : SameBytes b c bs cs (symbols_at be) (24 * count_by b bs be)

-- the same of two files
abbrev pub SameIn : List ℕ → List ℕ → ℕ → ℕ → Type 0
SameIn b c addr len = SameBytes b c (headers b) (headers c) addr len

-- version tables are where they were, and have the same words but for the files that versions are
-- needed of
pub record KeepsVersions (count : ℕ) (b c : List ℕ) : Type 0 where
  pub ranges : KeepsRanges (headers b) (headers c)
  pub tags : KeepsTags (dynamic_entries b) (dynamic_entries c)
  pub texts : KeepsTexts b c (headers b) (headers c) (dynamic_entries b) (dynamic_entries c)
  pub indexes : is_versioned b ≡ true → SameIn b c (versym b) (2 * count)
  pub definitions : (k : ℕ) → k < verdef_count b → SameIn b c (verdef_place b k) 20
  pub names : (k : ℕ) → k < verdef_count b → SameIn b c (verdaux_of b (verdef_place b k)) 8
  pub needs : (k : ℕ) → k < verneed_count b → SameIn b c (verneed_place b k) 4
  pub links : (k : ℕ) → k < verneed_count b → SameIn b c (verneed_place b k + 8) 8
  pub asked : (k j : ℕ) → k < verneed_count b → j < vn_cnt b (verneed_place b k)
      → SameIn b c (vernaux_place b (verneed_place b k) j) 16
  pub files : (k : ℕ) → k < verneed_count b → vn_file c (verneed_place b k) < strings_size
      (dynamic_entries c)

-- the asks of a file, with a text for each need in place of the file that it is of
unfoldable pub asks_with : List ℕ → (ℕ → List ℕ) → List Ask
asks_with b texts = map (λ a. record {
  file = texts a.0;
  name = text_of b (vna_name b a.1);
  weak = has_bit VER_FLG_WEAK (vna_flags b a.1);
}) (vernauxs b)

-- the texts that are wanted; for each need of versions, by its number, the file that it is to be of
pub record Wanted : Type 0 where
  pub needs : List (List ℕ)
  pub soname : Option (List ℕ)
  pub runpath : Option (List ℕ)
  pub files : ℕ → List ℕ

-- a file that keeps what another has, but for these texts
pub record IsRewritten (b c : List ℕ) (t : Wanted) : Type 0 where
  pub headers_fine : header_flaw c ≡ None
  pub dynamic_fine : dynamic_flaw c ≡ None
  pub names_fine : name_flaw c ≡ None
  pub symbols : KeepsSymbols b c (headers b) (headers c) (dynamic_entries b) (dynamic_entries c)
  pub versions : KeepsVersions (symbol_count b) b c
  pub machine : e_machine c ≡ e_machine b
  pub interp : interp_of c ≡ interp_of b
  pub needs : needs_of c ≡ t.needs
  pub soname : named_text c DT_SONAME ≡ t.soname
  pub rpath : named_text c DT_RPATH ≡ None
  pub runpath : named_text c DT_RUNPATH ≡ t.runpath
  pub files : (k : ℕ) → k < verneed_count b → text_of c (vn_file c (verneed_place b k)) ≡ t.files k

-- the face of a file with these texts
unfoldable pub face_with : List ℕ → Wanted → Face
face_with b t = record {
  machine = e_machine b;
  interp = interp_of b;
  soname = t.soname;
  needs = t.needs;
  rpath = None;
  runpath = t.runpath;
  symbolic = is_symbolic b;
  syms = syms_of b;
  versioned = is_versioned b;
  defs = definitions_of b;
  asks = asks_with b t.files;
}
