-- The version files that name loaded objects.
use Rattle.std.specs.Prelude.{ℕ, List, Bool, ◌≡◌, ◌&&◌, Option}
use Rattle.std.specs.List.{filter_map, find, flat_map}
use Rattle.std.specs.Option.{option_and_then, option_map, option_or, unwrap_or}
use Rattle.std.specs.Str.{bytes_eq}
use Rattle.lib_closure.specs.Objects.{Occurrence, all_objects, own_asks}
use Rattle.lib_closure.specs.declared.splits.Split.{Split}
use Rattle.load_model.specs.declared.asks.Ask.{Ask}
use Rattle.load_model.specs.declared.faces.Face.{Face}
use Rattle.load_model.specs.declared.runs.Run.{Run}
use Rattle.name_layout.specs.declared.layouts.Layout.{Layout}
use Rattle.object_changes.specs.Names.{name_beside}

-- A version file by which an object asks, and the name of what it names.
pub record NamedFile : Type 0 where
  pub asker : List ℕ
  pub file : List ℕ
  pub name : List ℕ

-- The name that the first of these tells.
abbrev pub tells : List ℕ → List ℕ → NamedFile → Bool
tells asker file named = bytes_eq asker named.asker && bytes_eq file named.file

abbrev pub told_name : List NamedFile → List ℕ → List ℕ → Option (List ℕ)
told_name named asker file = option_map (λ n. n.name) (find (tells asker file) named)

-- All names that are told after are those that were told before, and then these.
abbrev pub AddsFiles : List NamedFile → List NamedFile → List NamedFile → Type 0
AddsFiles before after more =
    (asker file : List ℕ) → told_name after asker file
    ≡ option_or (told_name before asker file) (told_name more asker file)

module _ (split : Split) (layout : Layout) where
  -- The name of the object that the file of an ask names, where it names one.
  abbrev pub asked_name : Occurrence → (Ask × Option ℕ) → Option (List ℕ)
  asked_name o asked = option_and_then (name_beside split layout o) asked.1

  abbrev pub named_file : Occurrence → (Ask × Option ℕ) → Option NamedFile
  named_file o asked =
      option_map (λ name. record { asker = o.obj.id; file = asked.0.file; name = name })
      (asked_name o asked)

  -- Those of an object where it stands, and of all objects, by program and load order.
  unfoldable pub files_named_at : Occurrence → List NamedFile
  files_named_at o = filter_map (named_file o) (own_asks o)

  unfoldable pub all_files_named : List Face → List Run → List NamedFile
  all_files_named faces runs = flat_map files_named_at (all_objects faces runs)
