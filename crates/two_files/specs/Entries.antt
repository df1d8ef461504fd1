-- The entries of the new dynamic table
use Rattle.std.specs.Prelude.{ℕ, ◌==◌, ◌∷◌, ◌++◌, cond, List, [], Option, Some, None, drop, slice_index}
use Rattle.byte_view.specs.Dynamic.{tagged}
use Rattle.byte_view.specs.DynamicFlaws.{has_tag}
use Rattle.byte_view.specs.declared.constants.TheConstants.{DT_NEEDED, DT_SONAME, DT_RPATH, DT_RUNPATH, DT_STRTAB, DT_STRSZ}
use Rattle.byte_view.specs.declared.dynamic.Entry.{Entry}

-- what names have as their string places, where they are wanted, and where the string table is
pub record Places : Type 0 where
  pub needs : List ℕ
  pub soname : Option ℕ
  pub runpath : Option ℕ
  pub strings_at : ℕ
  pub strings_size : ℕ

-- the entry with a tag, where there is a value for it
abbrev pub where_some : ℕ → Option ℕ → List Entry
where_some tag None = []
where_some tag (Some value) = tagged tag value ∷ []

-- the value of an entry that is no need, or none where it is dropped
abbrev pub new_value : Places → Entry → Option ℕ
new_value w e =
    cond (e.tag == DT_SONAME) w.soname (cond (e.tag == DT_RPATH) None
    (cond (e.tag == DT_RUNPATH) w.runpath
    (cond (e.tag == DT_STRTAB) (Some w.strings_at) (cond (e.tag == DT_STRSZ) (Some w.strings_size)
    (Some e.value)))))

-- each entry with its new value, the needs by turns
unfoldable pub rewritten : Places → List ℕ → List Entry → List Entry
rewritten w needs [] = []
rewritten w needs (e ∷ more) =
    cond (e.tag == DT_NEEDED) (tagged e.tag (slice_index needs 0)
    ∷ rewritten w (drop 1 needs) more) (where_some e.tag (new_value w e)
    ++ rewritten w needs more)

-- a run path that is wanted where there was none
abbrev pub added_path : Places → List Entry → List Entry
added_path w entries = cond (has_tag DT_RUNPATH entries) [] (where_some DT_RUNPATH w.runpath)

unfoldable pub new_entries : Places → List Entry → List Entry
new_entries w entries = rewritten w w.needs entries ++ added_path w entries
