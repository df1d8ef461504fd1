-- What lines say, one after the other, and which line may come next.
use Rattle.std.specs.Prelude.{ℕ, List, [], ◌∷◌, ◌++◌, Bool, true, false, map, bytes_eq, not}
use Rattle.std.specs.List.{list_all, list_any, position_or_len}
use Rattle.host_record.specs.declared.lines.Line.{Line}
use Rattle.host_record.specs.declared.lines.Line.TheVariants.{Head, Machine, Interp, Declare, Need, Require, Ask, End}
use Rattle.host_record.specs.declared.lines.Section.{Section}
use Rattle.host_record.specs.declared.lines.Section.TheVariants.{Start, Title, Target, Interps, Libs, Versions, Looks, Done}
use Rattle.host_record.specs.declared.lines.Lookup.{Lookup}
use Rattle.host_record.specs.declared.records.Look.{Look}
use Rattle.host_record.specs.declared.records.RecLib.{RecLib}
use Rattle.host_record.specs.declared.records.Record.{Record}

-- The section that a line stands in.
abbrev pub section_of : Line → Section
section_of Head = Title
section_of (Machine m) = Target
section_of (Interp path) = Interps
section_of (Declare name) = Libs
section_of (Need name) = Libs
section_of (Require lib version) = Versions
section_of (Ask lookup) = Looks
section_of End = Done

-- Which line may come in or after a section.
abbrev pub may_follow : Section → Line → Bool
may_follow Start Head = true
may_follow Title (Machine m) = true
may_follow Target (Interp path) = true
may_follow Interps (Interp path) = true
may_follow Interps (Declare name) = true
may_follow Interps (Require lib version) = true
may_follow Interps (Ask lookup) = true
may_follow Interps End = true
may_follow Libs (Declare name) = true
may_follow Libs (Need name) = true
may_follow Libs (Require lib version) = true
may_follow Libs (Ask lookup) = true
may_follow Libs End = true
may_follow Versions (Require lib version) = true
may_follow Versions (Ask lookup) = true
may_follow Versions End = true
may_follow Looks (Ask lookup) = true
may_follow Looks End = true
may_follow section line = false

abbrev pub lib_names : List RecLib → List (List ℕ)
lib_names libs = map (λ lib. lib.name) libs

-- Whether a library of this name is declared.
abbrev pub is_declared : List (List ℕ) → List ℕ → Bool
is_declared names name = list_any (λ n. bytes_eq name n) names

-- The number of a library.
abbrev pub lib_number : List (List ℕ) → List ℕ → ℕ
lib_number names name = position_or_len (λ n. bytes_eq name n) names

-- The last library needs one more.
abbrev pub with_need : List RecLib → List ℕ → List RecLib
with_need [] need = []
with_need (lib ∷ []) need = record { name = lib.name; needs = lib.needs ++ need ∷ [] } ∷ []
with_need (lib ∷ next ∷ libs) need = lib ∷ with_need (next ∷ libs) need

abbrev pub nothing_said : Record
nothing_said = record { machine = 0; interps = []; libs = []; versions = []; looks = [] }

-- A look with the number of its library in place of the name.
abbrev pub numbered_look : ℕ → Lookup → Look
numbered_look number l = record {
  lib = number;
  name = l.name;
  version = l.version;
  call = l.call;
  answer = l.answer;
}

-- What a line adds to what those before it said.
abbrev pub said : Record → Line → Record
said r Head = r
said r (Machine m) = record r { machine = m }
said r (Interp path) = record r { interps = r.interps ++ path ∷ [] }
said r (Declare name) = record r { libs = r.libs ++ record { name = name; needs = [] } ∷ [] }
said r (Need name) = record r { libs = with_need r.libs name }
said r (Require lib version) = record r {
  versions = r.versions
      ++ record { lib = lib_number (lib_names r.libs) lib; version = version } ∷ [];
}
said r (Ask lookup) = record r {
  looks = r.looks ++ numbered_look (lib_number (lib_names r.libs) lookup.lib) lookup ∷ [];
}
said r End = r

-- Whether each need is the name of a library.
abbrev pub needs_declared : List RecLib → Bool
needs_declared libs = list_all (λ lib. list_all (is_declared (lib_names libs)) lib.needs) libs

-- A library is declared once, versions and looks are those of declared libraries, and at the end
-- each need is declared.
abbrev pub is_right : Record → Line → Bool
is_right r Head = true
is_right r (Machine m) = true
is_right r (Interp path) = true
is_right r (Declare name) = not (is_declared (lib_names r.libs) name)
is_right r (Need name) = true
is_right r (Require lib version) = is_declared (lib_names r.libs) lib
is_right r (Ask l) = is_declared (lib_names r.libs) l.lib
is_right r End = needs_declared r.libs
