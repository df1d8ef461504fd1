-- Records as a build makes them: each has one text, and is what its text says.
use Rattle.std.specs.Prelude.{◌≢◌, ◌≡◌, ◌≤◌, ◌<◌, ℕ, List, [], ◌∷◌, ◌++◌, AllPairs, true, false, length}
use Rattle.std.specs.List.{AllByRecursion}
use Rattle.std.specs.declared.cmp.Ordering.TheVariants.{Greater}
use Rattle.load_model.specs.Escaping.{AreBytes}
use Rattle.host_record.specs.Lines.{AnswerBytes, IsPathBytes, OptionBytes}
use Rattle.host_record.specs.Orders.{look_cmp, version_cmp}
use Rattle.host_record.specs.Said.{is_declared, lib_names, needs_declared}
use Rattle.host_record.specs.declared.records.Look.{Look}
use Rattle.host_record.specs.declared.records.RecLib.{RecLib}
use Rattle.host_record.specs.declared.records.RecVersion.{RecVersion}
use Rattle.host_record.specs.declared.records.Record.{Record}

-- ---- what is so of each record that code can have

pub record LibBytes (lib : RecLib) : Type 0 where
  pub name : AreBytes lib.name
  pub needs : AllByRecursion AreBytes lib.needs

abbrev pub VersionBytes : RecVersion → Type 0
VersionBytes v = AreBytes v.version

pub record LookBytes (look : Look) : Type 0 where
  pub name : AreBytes look.name
  pub version : OptionBytes look.version
  pub answer : AnswerBytes look.answer

-- The machine is a number of 16 bits, paths are in normal form, and names are bytes.
pub record IsOfBytes (r : Record) : Type 0 where
  pub machine : r.machine ≤ 65535
  pub interps : AllByRecursion IsPathBytes r.interps
  pub libs : AllByRecursion LibBytes r.libs
  pub versions : AllByRecursion VersionBytes r.versions
  pub looks : AllByRecursion LookBytes r.looks

-- ---- what a build sees to

-- No name stands twice, nor among those before.
abbrev pub AreDistinct : List (List ℕ) → List (List ℕ) → Type 0
AreDistinct before [] = Unit {0}
AreDistinct before (name ∷ names) =
    (is_declared before name ≡ false) × AreDistinct (before ++ name ∷ []) names

-- The numbers of libraries are those of declared ones.
abbrev pub IsVersionOver : List RecLib → RecVersion → Type 0
IsVersionOver libs v = v.lib < length libs

abbrev pub IsLookOver : List RecLib → Look → Type 0
IsLookOver libs look = look.lib < length libs

-- The later one is another, and comes no earlier in the order.
abbrev pub VersionsInOrder : RecVersion → RecVersion → Type 0
VersionsInOrder a b = (a ≢ b) × (version_cmp a b ≢ Greater)

abbrev pub LooksInOrder : Look → Look → Type 0
LooksInOrder a b = (a ≢ b) × (look_cmp a b ≢ Greater)

-- There is an interpreter; libraries have distinct names and each need is one of them; versions and
-- looks are those of libraries, distinct and in order.
pub record IsCanonical (r : Record) : Type 0 where
  pub interps : r.interps ≢ []
  pub distinct : AreDistinct [] (lib_names r.libs)
  pub declared : needs_declared r.libs ≡ true
  pub versions : AllByRecursion (IsVersionOver r.libs) r.versions
  pub version_order : AllPairs VersionsInOrder r.versions
  pub looks : AllByRecursion (IsLookOver r.libs) r.looks
  pub look_order : AllPairs LooksInOrder r.looks
