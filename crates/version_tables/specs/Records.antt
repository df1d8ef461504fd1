-- The records that are kept of each table
use Rattle.std.specs.Prelude.{ℕ, List}
use Rattle.byte_view.specs.DynamicFlaws.{has_bit}
use Rattle.byte_view.specs.declared.constants.TheConstants.{VER_FLG_WEAK}
use Rattle.load_model.specs.VersionTables.{file_place, index_in, vd_aux, vd_cnt, vd_ndx, vd_next, vd_version, vda_name, verdaux_of, vn_aux, vn_cnt, vn_file, vn_next, vn_version, vna_flags, vna_name, vna_next, vna_other}
use Rattle.version_tables.specs.declared.asked.Asked.{Asked}
use Rattle.version_tables.specs.declared.definitions.Definition.{Definition}
use Rattle.version_tables.specs.declared.records.Verdaux.{Verdaux}
use Rattle.version_tables.specs.declared.records.Verdef.{Verdef}
use Rattle.version_tables.specs.declared.records.Vernaux.{Vernaux}
use Rattle.version_tables.specs.declared.records.Verneed.{Verneed}

-- the words of a record at an address, and its place in the file
unfoldable pub verdef_words : List ℕ → ℕ → Verdef
verdef_words file at = record {
  place = file_place file at 20;
  version = vd_version file at;
  ndx = vd_ndx file at;
  cnt = vd_cnt file at;
  aux = vd_aux file at;
  next = vd_next file at;
}

unfoldable pub verdaux_words : List ℕ → ℕ → Verdaux
verdaux_words file at = record {
  place = file_place file at 8;
  name = vda_name file at;
}

unfoldable pub verneed_words : List ℕ → ℕ → Verneed
verneed_words file at = record {
  place = file_place file at 16;
  version = vn_version file at;
  cnt = vn_cnt file at;
  file = vn_file file at;
  aux = vn_aux file at;
  next = vn_next file at;
}

unfoldable pub vernaux_words : List ℕ → ℕ → Vernaux
vernaux_words file at = record {
  place = file_place file at 16;
  flags = vna_flags file at;
  other = vna_other file at;
  name = vna_name file at;
  next = vna_next file at;
}

-- what is kept of a definition with its first Verdaux
unfoldable pub definition_at : List ℕ → ℕ → Definition
definition_at file at = record {
  index = index_in (vd_ndx file at);
  name = vda_name file (verdaux_of file at);
  place = file_place file at 20;
  aux_place = file_place file (verdaux_of file at) 8;
  next = vd_next file at;
}

-- what is kept of a Vernaux, which belongs to a Verneed of this number
unfoldable pub asked_at : List ℕ → ℕ → ℕ → ℕ → Asked
asked_at file number verneed at = record {
  need = number;
  file = vn_file file verneed;
  name = vna_name file at;
  index = index_in (vna_other file at);
  weak = has_bit VER_FLG_WEAK (vna_flags file at);
  place = file_place file at 16;
}

-- the same by the words of the two records
abbrev pub asked_with : ℕ → Verneed → Vernaux → Asked
asked_with number verneed vernaux = record {
  need = number;
  file = verneed.file;
  name = vernaux.name;
  index = index_in vernaux.other;
  weak = has_bit VER_FLG_WEAK vernaux.flags;
  place = vernaux.place;
}
