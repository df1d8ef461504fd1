-- A small program, computed.
use Rattle.std.proofs.Common.{◌≡◌, ℕ, List, [], ◌∷◌, Some, None, refl}
use Rattle.std.specs.Prelude.{codes}
use Rattle.std.specs.Int.Count.{ones}
use Rattle.byte_view.specs.DynamicFlaws.{dynamic_flaw, entry_flaw, missing_flaw, place_flaw, strings_flaw, table_flaw, tags_flaw}
use Rattle.load_model.specs.Faces.{interp_of}
use Rattle.load_model.specs.SymbolFlaws.{count_flaw, first_lost, hash_flaw, list_flaw, symbol_flaw, symbol_flaw_by}
use Rattle.load_model.specs.SysvTable.{chain, ends_in, is_in_chain, is_sysv_sound, sysv_lists, sysv_table}
use Rattle.load_model.specs.SymbolTable.{symbol_of, symbols_in}
use Rattle.load_model.specs.SymbolWords.{is_bindable}
use Rattle.load_model.specs.VersionFlaws as V
use Rattle.load_model.specs.VersionFlaws.{symbols_version_flaw, verdefs_flaw, verneeds_flaw, version_flaw}
use Rattle.load_model.specs.VersionTables.{definitions_of, indexed_names}
use Rattle.byte_view.specs.HeaderFlaws.{first_below, header_flaw, ident_flaw, segment_flaw, word_flaw}
use Rattle.byte_view.specs.Dynamic.{dynamic_entries, dynamic_table, entry_of, string_at, strings_of, table_of, entry_bytes}
use Rattle.byte_view.specs.Headers.{header_at, headers}
use Rattle.byte_view.specs.Memory.{memory_bytes, memory_in, range_in}
use Rattle.byte_view.specs.Numbers.{number_at, word_bytes}
use Rattle.byte_view.specs.declared.constants.TheConstants.{DT_RUNPATH}
use Rattle.load_model.specs.Faces.{named_text, needs_of}
use Rattle.load_model.specs.VersionTables.{ask_needs_of, asks_of, aux_places_of, def_places_of, file_place, file_words_of, memory_number, record_place, verdef_place, vernauxs, verneed_place}
use Rattle.load_model.specs.SymbolFlaws.{gnu_range, symbol_count, sysv_range}
use Rattle.load_model.specs.SymbolCount.{count_in, section_count}
use Rattle.load_model.specs.SysvTable.{sysv_place}
use Rattle.load_model.specs.TableWords.{word_in, words_in}
use Rattle.two_files.specs.Entries.{new_entries, rewritten}
use Rattle.elf_rewrite.specs.Pieces.{laid, length_of}
use Rattle.elf_rewrite.specs.Ranges.{first_overlap, first_pair, ranges_of, single_range}
use Rattle.elf_rewrite.specs.NewSegment.{segment_addr, segment_place}
use Rattle.elf_rewrite.specs.NewTable.{entries_in, text_places}
use Rattle.elf_rewrite.specs.NewTexts.{changed_texts, new_texts, removes}
use Rattle.elf_rewrite.specs.Rewriting.{file_patches, layout_of, new_headers, rewriting, segment_patches, segment_pieces}
use Rattle.elf_rewrite.specs.Stops.{segment_stop, stop_of}
use Rattle.elf_rewrite.specs.Words.{header_bytes}
use Rattle.elf_rewrite.specs.declared.change.Change.{Change}
use Rattle.elf_rewrite.specs.declared.change.RewriteStop.TheVariants.{TableOverlap}

app : List ℕ
app = 127 ∷ 69 ∷ 76 ∷ 70 ∷ 2 ∷ 1 ∷ 1 ∷ 0 ∷ 0 ∷ 0 ∷ 0 ∷ 0 ∷ 0 ∷ 0 ∷ 0 ∷ 0 ∷ 3 ∷ 0 ∷ 62 ∷ 0 ∷ 1 ∷ 0 ∷ 0 ∷ 0 ∷ 0 ∷ 0 ∷ 0 ∷ 0 ∷ 0 ∷ 0 ∷ 0 ∷ 0 ∷ 64 ∷ 0 ∷ 0 ∷ 0 ∷ 0 ∷ 0 ∷ 0 ∷ 0 ∷ 0 ∷ 0 ∷ 0 ∷ 0 ∷ 0 ∷ 0 ∷ 0 ∷ 0 ∷ 0 ∷ 0 ∷ 0 ∷ 0 ∷ 64 ∷ 0 ∷ 56 ∷ 0 ∷ 4 ∷ 0 ∷ 0 ∷ 0 ∷ 0 ∷ 0 ∷ 0 ∷ 0 ∷ 6 ∷ 0 ∷ 0 ∷ 0 ∷ 4 ∷ 0 ∷ 0 ∷ 0 ∷ 64 ∷ 0 ∷ 0 ∷ 0 ∷ 0 ∷ 0 ∷ 0 ∷ 0 ∷ 64 ∷ 0 ∷ 0 ∷ 0 ∷ 0 ∷ 0 ∷ 0 ∷ 0 ∷ 64 ∷ 0 ∷ 0 ∷ 0 ∷ 0 ∷ 0 ∷ 0 ∷ 0 ∷ 224 ∷ 0 ∷ 0 ∷ 0 ∷ 0 ∷ 0 ∷ 0 ∷ 0 ∷ 224 ∷ 0 ∷ 0 ∷ 0 ∷ 0 ∷ 0 ∷ 0 ∷ 0 ∷ 8 ∷ 0 ∷ 0 ∷ 0 ∷ 0 ∷ 0 ∷ 0 ∷ 0 ∷ 3 ∷ 0 ∷ 0 ∷ 0 ∷ 4 ∷ 0 ∷ 0 ∷ 0 ∷ 32 ∷ 1 ∷ 0 ∷ 0 ∷ 0 ∷ 0 ∷ 0 ∷ 0 ∷ 32 ∷ 1 ∷ 0 ∷ 0 ∷ 0 ∷ 0 ∷ 0 ∷ 0 ∷ 32 ∷ 1 ∷ 0 ∷ 0 ∷ 0 ∷ 0 ∷ 0 ∷ 0 ∷ 28 ∷ 0 ∷ 0 ∷ 0 ∷ 0 ∷ 0 ∷ 0 ∷ 0 ∷ 28 ∷ 0 ∷ 0 ∷ 0 ∷ 0 ∷ 0 ∷ 0 ∷ 0 ∷ 1 ∷ 0 ∷ 0 ∷ 0 ∷ 0 ∷ 0 ∷ 0 ∷ 0 ∷ 1 ∷ 0 ∷ 0 ∷ 0 ∷ 6 ∷ 0 ∷ 0 ∷ 0 ∷ 0 ∷ 0 ∷ 0 ∷ 0 ∷ 0 ∷ 0 ∷ 0 ∷ 0 ∷ 0 ∷ 0 ∷ 0 ∷ 0 ∷ 0 ∷ 0 ∷ 0 ∷ 0 ∷ 0 ∷ 0 ∷ 0 ∷ 0 ∷ 0 ∷ 0 ∷ 0 ∷ 0 ∷ 0 ∷ 2 ∷ 0 ∷ 0 ∷ 0 ∷ 0 ∷ 0 ∷ 0 ∷ 0 ∷ 2 ∷ 0 ∷ 0 ∷ 0 ∷ 0 ∷ 0 ∷ 0 ∷ 0 ∷ 16 ∷ 0 ∷ 0 ∷ 0 ∷ 0 ∷ 0 ∷ 0 ∷ 2 ∷ 0 ∷ 0 ∷ 0 ∷ 6 ∷ 0 ∷ 0 ∷ 0 ∷ 128 ∷ 1 ∷ 0 ∷ 0 ∷ 0 ∷ 0 ∷ 0 ∷ 0 ∷ 128 ∷ 1 ∷ 0 ∷ 0 ∷ 0 ∷ 0 ∷ 0 ∷ 0 ∷ 128 ∷ 1 ∷ 0 ∷ 0 ∷ 0 ∷ 0 ∷ 0 ∷ 0 ∷ 128 ∷ 0 ∷ 0 ∷ 0 ∷ 0 ∷ 0 ∷ 0 ∷ 0 ∷ 128 ∷ 0 ∷ 0 ∷ 0 ∷ 0 ∷ 0 ∷ 0 ∷ 0 ∷ 8 ∷ 0 ∷ 0 ∷ 0 ∷ 0 ∷ 0 ∷ 0 ∷ 0 ∷ 47 ∷ 108 ∷ 105 ∷ 98 ∷ 54 ∷ 52 ∷ 47 ∷ 108 ∷ 100 ∷ 45 ∷ 108 ∷ 105 ∷ 110 ∷ 117 ∷ 120 ∷ 45 ∷ 120 ∷ 56 ∷ 54 ∷ 45 ∷ 54 ∷ 52 ∷ 46 ∷ 115 ∷ 111 ∷ 46 ∷ 50 ∷ 0 ∷ 0 ∷ 0 ∷ 0 ∷ 0 ∷ 0 ∷ 108 ∷ 105 ∷ 98 ∷ 113 ∷ 46 ∷ 115 ∷ 111 ∷ 46 ∷ 49 ∷ 0 ∷ 108 ∷ 105 ∷ 98 ∷ 99 ∷ 46 ∷ 115 ∷ 111 ∷ 46 ∷ 54 ∷ 0 ∷ 0 ∷ 0 ∷ 0 ∷ 0 ∷ 0 ∷ 0 ∷ 0 ∷ 0 ∷ 0 ∷ 0 ∷ 0 ∷ 0 ∷ 0 ∷ 0 ∷ 0 ∷ 0 ∷ 0 ∷ 0 ∷ 0 ∷ 0 ∷ 0 ∷ 0 ∷ 0 ∷ 0 ∷ 0 ∷ 0 ∷ 0 ∷ 1 ∷ 0 ∷ 0 ∷ 0 ∷ 1 ∷ 0 ∷ 0 ∷ 0 ∷ 0 ∷ 0 ∷ 0 ∷ 0 ∷ 0 ∷ 0 ∷ 0 ∷ 0 ∷ 1 ∷ 0 ∷ 0 ∷ 0 ∷ 0 ∷ 0 ∷ 0 ∷ 0 ∷ 1 ∷ 0 ∷ 0 ∷ 0 ∷ 0 ∷ 0 ∷ 0 ∷ 0 ∷ 1 ∷ 0 ∷ 0 ∷ 0 ∷ 0 ∷ 0 ∷ 0 ∷ 0 ∷ 11 ∷ 0 ∷ 0 ∷ 0 ∷ 0 ∷ 0 ∷ 0 ∷ 0 ∷ 4 ∷ 0 ∷ 0 ∷ 0 ∷ 0 ∷ 0 ∷ 0 ∷ 0 ∷ 112 ∷ 1 ∷ 0 ∷ 0 ∷ 0 ∷ 0 ∷ 0 ∷ 0 ∷ 5 ∷ 0 ∷ 0 ∷ 0 ∷ 0 ∷ 0 ∷ 0 ∷ 0 ∷ 64 ∷ 1 ∷ 0 ∷ 0 ∷ 0 ∷ 0 ∷ 0 ∷ 0 ∷ 6 ∷ 0 ∷ 0 ∷ 0 ∷ 0 ∷ 0 ∷ 0 ∷ 0 ∷ 88 ∷ 1 ∷ 0 ∷ 0 ∷ 0 ∷ 0 ∷ 0 ∷ 0 ∷ 10 ∷ 0 ∷ 0 ∷ 0 ∷ 0 ∷ 0 ∷ 0 ∷ 0 ∷ 21 ∷ 0 ∷ 0 ∷ 0 ∷ 0 ∷ 0 ∷ 0 ∷ 0 ∷ 11 ∷ 0 ∷ 0 ∷ 0 ∷ 0 ∷ 0 ∷ 0 ∷ 0 ∷ 24 ∷ 0 ∷ 0 ∷ 0 ∷ 0 ∷ 0 ∷ 0 ∷ 0 ∷ 0 ∷ 0 ∷ 0 ∷ 0 ∷ 0 ∷ 0 ∷ 0 ∷ 0 ∷ 0 ∷ 0 ∷ 0 ∷ 0 ∷ 0 ∷ 0 ∷ 0 ∷ 0 ∷ []

spare : List ℕ
spare = 127 ∷ 69 ∷ 76 ∷ 70 ∷ 2 ∷ 1 ∷ 1 ∷ 0 ∷ 0 ∷ 0 ∷ 0 ∷ 0 ∷ 0 ∷ 0 ∷ 0 ∷ 0 ∷ 3 ∷ 0 ∷ 62 ∷ 0 ∷ 1 ∷ 0 ∷ 0 ∷ 0 ∷ 0 ∷ 0 ∷ 0 ∷ 0 ∷ 0 ∷ 0 ∷ 0 ∷ 0 ∷ 64 ∷ 0 ∷ 0 ∷ 0 ∷ 0 ∷ 0 ∷ 0 ∷ 0 ∷ 0 ∷ 0 ∷ 0 ∷ 0 ∷ 0 ∷ 0 ∷ 0 ∷ 0 ∷ 0 ∷ 0 ∷ 0 ∷ 0 ∷ 64 ∷ 0 ∷ 56 ∷ 0 ∷ 4 ∷ 0 ∷ 0 ∷ 0 ∷ 0 ∷ 0 ∷ 0 ∷ 0 ∷ 6 ∷ 0 ∷ 0 ∷ 0 ∷ 4 ∷ 0 ∷ 0 ∷ 0 ∷ 64 ∷ 0 ∷ 0 ∷ 0 ∷ 0 ∷ 0 ∷ 0 ∷ 0 ∷ 64 ∷ 0 ∷ 0 ∷ 0 ∷ 0 ∷ 0 ∷ 0 ∷ 0 ∷ 64 ∷ 0 ∷ 0 ∷ 0 ∷ 0 ∷ 0 ∷ 0 ∷ 0 ∷ 224 ∷ 0 ∷ 0 ∷ 0 ∷ 0 ∷ 0 ∷ 0 ∷ 0 ∷ 224 ∷ 0 ∷ 0 ∷ 0 ∷ 0 ∷ 0 ∷ 0 ∷ 0 ∷ 8 ∷ 0 ∷ 0 ∷ 0 ∷ 0 ∷ 0 ∷ 0 ∷ 0 ∷ 3 ∷ 0 ∷ 0 ∷ 0 ∷ 4 ∷ 0 ∷ 0 ∷ 0 ∷ 32 ∷ 1 ∷ 0 ∷ 0 ∷ 0 ∷ 0 ∷ 0 ∷ 0 ∷ 32 ∷ 1 ∷ 0 ∷ 0 ∷ 0 ∷ 0 ∷ 0 ∷ 0 ∷ 32 ∷ 1 ∷ 0 ∷ 0 ∷ 0 ∷ 0 ∷ 0 ∷ 0 ∷ 28 ∷ 0 ∷ 0 ∷ 0 ∷ 0 ∷ 0 ∷ 0 ∷ 0 ∷ 28 ∷ 0 ∷ 0 ∷ 0 ∷ 0 ∷ 0 ∷ 0 ∷ 0 ∷ 1 ∷ 0 ∷ 0 ∷ 0 ∷ 0 ∷ 0 ∷ 0 ∷ 0 ∷ 1 ∷ 0 ∷ 0 ∷ 0 ∷ 6 ∷ 0 ∷ 0 ∷ 0 ∷ 0 ∷ 0 ∷ 0 ∷ 0 ∷ 0 ∷ 0 ∷ 0 ∷ 0 ∷ 0 ∷ 0 ∷ 0 ∷ 0 ∷ 0 ∷ 0 ∷ 0 ∷ 0 ∷ 0 ∷ 0 ∷ 0 ∷ 0 ∷ 0 ∷ 0 ∷ 0 ∷ 0 ∷ 16 ∷ 2 ∷ 0 ∷ 0 ∷ 0 ∷ 0 ∷ 0 ∷ 0 ∷ 16 ∷ 2 ∷ 0 ∷ 0 ∷ 0 ∷ 0 ∷ 0 ∷ 0 ∷ 0 ∷ 16 ∷ 0 ∷ 0 ∷ 0 ∷ 0 ∷ 0 ∷ 0 ∷ 2 ∷ 0 ∷ 0 ∷ 0 ∷ 6 ∷ 0 ∷ 0 ∷ 0 ∷ 128 ∷ 1 ∷ 0 ∷ 0 ∷ 0 ∷ 0 ∷ 0 ∷ 0 ∷ 128 ∷ 1 ∷ 0 ∷ 0 ∷ 0 ∷ 0 ∷ 0 ∷ 0 ∷ 128 ∷ 1 ∷ 0 ∷ 0 ∷ 0 ∷ 0 ∷ 0 ∷ 0 ∷ 144 ∷ 0 ∷ 0 ∷ 0 ∷ 0 ∷ 0 ∷ 0 ∷ 0 ∷ 144 ∷ 0 ∷ 0 ∷ 0 ∷ 0 ∷ 0 ∷ 0 ∷ 0 ∷ 8 ∷ 0 ∷ 0 ∷ 0 ∷ 0 ∷ 0 ∷ 0 ∷ 0 ∷ 47 ∷ 108 ∷ 105 ∷ 98 ∷ 54 ∷ 52 ∷ 47 ∷ 108 ∷ 100 ∷ 45 ∷ 108 ∷ 105 ∷ 110 ∷ 117 ∷ 120 ∷ 45 ∷ 120 ∷ 56 ∷ 54 ∷ 45 ∷ 54 ∷ 52 ∷ 46 ∷ 115 ∷ 111 ∷ 46 ∷ 50 ∷ 0 ∷ 0 ∷ 0 ∷ 0 ∷ 0 ∷ 0 ∷ 108 ∷ 105 ∷ 98 ∷ 113 ∷ 46 ∷ 115 ∷ 111 ∷ 46 ∷ 49 ∷ 0 ∷ 108 ∷ 105 ∷ 98 ∷ 99 ∷ 46 ∷ 115 ∷ 111 ∷ 46 ∷ 54 ∷ 0 ∷ 0 ∷ 0 ∷ 0 ∷ 0 ∷ 0 ∷ 0 ∷ 0 ∷ 0 ∷ 0 ∷ 0 ∷ 0 ∷ 0 ∷ 0 ∷ 0 ∷ 0 ∷ 0 ∷ 0 ∷ 0 ∷ 0 ∷ 0 ∷ 0 ∷ 0 ∷ 0 ∷ 0 ∷ 0 ∷ 0 ∷ 0 ∷ 1 ∷ 0 ∷ 0 ∷ 0 ∷ 1 ∷ 0 ∷ 0 ∷ 0 ∷ 0 ∷ 0 ∷ 0 ∷ 0 ∷ 0 ∷ 0 ∷ 0 ∷ 0 ∷ 1 ∷ 0 ∷ 0 ∷ 0 ∷ 0 ∷ 0 ∷ 0 ∷ 0 ∷ 1 ∷ 0 ∷ 0 ∷ 0 ∷ 0 ∷ 0 ∷ 0 ∷ 0 ∷ 1 ∷ 0 ∷ 0 ∷ 0 ∷ 0 ∷ 0 ∷ 0 ∷ 0 ∷ 11 ∷ 0 ∷ 0 ∷ 0 ∷ 0 ∷ 0 ∷ 0 ∷ 0 ∷ 4 ∷ 0 ∷ 0 ∷ 0 ∷ 0 ∷ 0 ∷ 0 ∷ 0 ∷ 112 ∷ 1 ∷ 0 ∷ 0 ∷ 0 ∷ 0 ∷ 0 ∷ 0 ∷ 5 ∷ 0 ∷ 0 ∷ 0 ∷ 0 ∷ 0 ∷ 0 ∷ 0 ∷ 64 ∷ 1 ∷ 0 ∷ 0 ∷ 0 ∷ 0 ∷ 0 ∷ 0 ∷ 6 ∷ 0 ∷ 0 ∷ 0 ∷ 0 ∷ 0 ∷ 0 ∷ 0 ∷ 88 ∷ 1 ∷ 0 ∷ 0 ∷ 0 ∷ 0 ∷ 0 ∷ 0 ∷ 10 ∷ 0 ∷ 0 ∷ 0 ∷ 0 ∷ 0 ∷ 0 ∷ 0 ∷ 21 ∷ 0 ∷ 0 ∷ 0 ∷ 0 ∷ 0 ∷ 0 ∷ 0 ∷ 11 ∷ 0 ∷ 0 ∷ 0 ∷ 0 ∷ 0 ∷ 0 ∷ 0 ∷ 24 ∷ 0 ∷ 0 ∷ 0 ∷ 0 ∷ 0 ∷ 0 ∷ 0 ∷ 0 ∷ 0 ∷ 0 ∷ 0 ∷ 0 ∷ 0 ∷ 0 ∷ 0 ∷ 0 ∷ 0 ∷ 0 ∷ 0 ∷ 0 ∷ 0 ∷ 0 ∷ 0 ∷ 0 ∷ 0 ∷ 0 ∷ 0 ∷ 0 ∷ 0 ∷ 0 ∷ 0 ∷ 0 ∷ 0 ∷ 0 ∷ 0 ∷ 0 ∷ 0 ∷ 0 ∷ 0 ∷ []

shared : List ℕ
shared = 127 ∷ 69 ∷ 76 ∷ 70 ∷ 2 ∷ 1 ∷ 1 ∷ 0 ∷ 0 ∷ 0 ∷ 0 ∷ 0 ∷ 0 ∷ 0 ∷ 0 ∷ 0 ∷ 3 ∷ 0 ∷ 62 ∷ 0 ∷ 1 ∷ 0 ∷ 0 ∷ 0 ∷ 0 ∷ 0 ∷ 0 ∷ 0 ∷ 0 ∷ 0 ∷ 0 ∷ 0 ∷ 64 ∷ 0 ∷ 0 ∷ 0 ∷ 0 ∷ 0 ∷ 0 ∷ 0 ∷ 0 ∷ 0 ∷ 0 ∷ 0 ∷ 0 ∷ 0 ∷ 0 ∷ 0 ∷ 0 ∷ 0 ∷ 0 ∷ 0 ∷ 64 ∷ 0 ∷ 56 ∷ 0 ∷ 4 ∷ 0 ∷ 0 ∷ 0 ∷ 0 ∷ 0 ∷ 0 ∷ 0 ∷ 6 ∷ 0 ∷ 0 ∷ 0 ∷ 4 ∷ 0 ∷ 0 ∷ 0 ∷ 64 ∷ 0 ∷ 0 ∷ 0 ∷ 0 ∷ 0 ∷ 0 ∷ 0 ∷ 64 ∷ 0 ∷ 0 ∷ 0 ∷ 0 ∷ 0 ∷ 0 ∷ 0 ∷ 64 ∷ 0 ∷ 0 ∷ 0 ∷ 0 ∷ 0 ∷ 0 ∷ 0 ∷ 224 ∷ 0 ∷ 0 ∷ 0 ∷ 0 ∷ 0 ∷ 0 ∷ 0 ∷ 224 ∷ 0 ∷ 0 ∷ 0 ∷ 0 ∷ 0 ∷ 0 ∷ 0 ∷ 8 ∷ 0 ∷ 0 ∷ 0 ∷ 0 ∷ 0 ∷ 0 ∷ 0 ∷ 3 ∷ 0 ∷ 0 ∷ 0 ∷ 4 ∷ 0 ∷ 0 ∷ 0 ∷ 32 ∷ 1 ∷ 0 ∷ 0 ∷ 0 ∷ 0 ∷ 0 ∷ 0 ∷ 32 ∷ 1 ∷ 0 ∷ 0 ∷ 0 ∷ 0 ∷ 0 ∷ 0 ∷ 32 ∷ 1 ∷ 0 ∷ 0 ∷ 0 ∷ 0 ∷ 0 ∷ 0 ∷ 28 ∷ 0 ∷ 0 ∷ 0 ∷ 0 ∷ 0 ∷ 0 ∷ 0 ∷ 28 ∷ 0 ∷ 0 ∷ 0 ∷ 0 ∷ 0 ∷ 0 ∷ 0 ∷ 1 ∷ 0 ∷ 0 ∷ 0 ∷ 0 ∷ 0 ∷ 0 ∷ 0 ∷ 1 ∷ 0 ∷ 0 ∷ 0 ∷ 6 ∷ 0 ∷ 0 ∷ 0 ∷ 0 ∷ 0 ∷ 0 ∷ 0 ∷ 0 ∷ 0 ∷ 0 ∷ 0 ∷ 0 ∷ 0 ∷ 0 ∷ 0 ∷ 0 ∷ 0 ∷ 0 ∷ 0 ∷ 0 ∷ 0 ∷ 0 ∷ 0 ∷ 0 ∷ 0 ∷ 0 ∷ 0 ∷ 0 ∷ 2 ∷ 0 ∷ 0 ∷ 0 ∷ 0 ∷ 0 ∷ 0 ∷ 0 ∷ 2 ∷ 0 ∷ 0 ∷ 0 ∷ 0 ∷ 0 ∷ 0 ∷ 0 ∷ 16 ∷ 0 ∷ 0 ∷ 0 ∷ 0 ∷ 0 ∷ 0 ∷ 2 ∷ 0 ∷ 0 ∷ 0 ∷ 6 ∷ 0 ∷ 0 ∷ 0 ∷ 128 ∷ 1 ∷ 0 ∷ 0 ∷ 0 ∷ 0 ∷ 0 ∷ 0 ∷ 128 ∷ 1 ∷ 0 ∷ 0 ∷ 0 ∷ 0 ∷ 0 ∷ 0 ∷ 128 ∷ 1 ∷ 0 ∷ 0 ∷ 0 ∷ 0 ∷ 0 ∷ 0 ∷ 128 ∷ 0 ∷ 0 ∷ 0 ∷ 0 ∷ 0 ∷ 0 ∷ 0 ∷ 128 ∷ 0 ∷ 0 ∷ 0 ∷ 0 ∷ 0 ∷ 0 ∷ 0 ∷ 8 ∷ 0 ∷ 0 ∷ 0 ∷ 0 ∷ 0 ∷ 0 ∷ 0 ∷ 47 ∷ 108 ∷ 105 ∷ 98 ∷ 54 ∷ 52 ∷ 47 ∷ 108 ∷ 100 ∷ 45 ∷ 108 ∷ 105 ∷ 110 ∷ 117 ∷ 120 ∷ 45 ∷ 120 ∷ 56 ∷ 54 ∷ 45 ∷ 54 ∷ 52 ∷ 46 ∷ 115 ∷ 111 ∷ 46 ∷ 50 ∷ 0 ∷ 0 ∷ 0 ∷ 0 ∷ 0 ∷ 0 ∷ 108 ∷ 105 ∷ 98 ∷ 113 ∷ 46 ∷ 115 ∷ 111 ∷ 46 ∷ 49 ∷ 0 ∷ 108 ∷ 105 ∷ 98 ∷ 99 ∷ 46 ∷ 115 ∷ 111 ∷ 46 ∷ 54 ∷ 0 ∷ 0 ∷ 0 ∷ 0 ∷ 0 ∷ 0 ∷ 0 ∷ 0 ∷ 0 ∷ 0 ∷ 0 ∷ 0 ∷ 0 ∷ 0 ∷ 0 ∷ 0 ∷ 0 ∷ 0 ∷ 0 ∷ 0 ∷ 0 ∷ 0 ∷ 0 ∷ 0 ∷ 0 ∷ 0 ∷ 0 ∷ 0 ∷ 1 ∷ 0 ∷ 0 ∷ 0 ∷ 1 ∷ 0 ∷ 0 ∷ 0 ∷ 0 ∷ 0 ∷ 0 ∷ 0 ∷ 0 ∷ 0 ∷ 0 ∷ 0 ∷ 1 ∷ 0 ∷ 0 ∷ 0 ∷ 0 ∷ 0 ∷ 0 ∷ 0 ∷ 1 ∷ 0 ∷ 0 ∷ 0 ∷ 0 ∷ 0 ∷ 0 ∷ 0 ∷ 1 ∷ 0 ∷ 0 ∷ 0 ∷ 0 ∷ 0 ∷ 0 ∷ 0 ∷ 11 ∷ 0 ∷ 0 ∷ 0 ∷ 0 ∷ 0 ∷ 0 ∷ 0 ∷ 4 ∷ 0 ∷ 0 ∷ 0 ∷ 0 ∷ 0 ∷ 0 ∷ 0 ∷ 112 ∷ 1 ∷ 0 ∷ 0 ∷ 0 ∷ 0 ∷ 0 ∷ 0 ∷ 5 ∷ 0 ∷ 0 ∷ 0 ∷ 0 ∷ 0 ∷ 0 ∷ 0 ∷ 64 ∷ 1 ∷ 0 ∷ 0 ∷ 0 ∷ 0 ∷ 0 ∷ 0 ∷ 6 ∷ 0 ∷ 0 ∷ 0 ∷ 0 ∷ 0 ∷ 0 ∷ 0 ∷ 128 ∷ 1 ∷ 0 ∷ 0 ∷ 0 ∷ 0 ∷ 0 ∷ 0 ∷ 10 ∷ 0 ∷ 0 ∷ 0 ∷ 0 ∷ 0 ∷ 0 ∷ 0 ∷ 21 ∷ 0 ∷ 0 ∷ 0 ∷ 0 ∷ 0 ∷ 0 ∷ 0 ∷ 11 ∷ 0 ∷ 0 ∷ 0 ∷ 0 ∷ 0 ∷ 0 ∷ 0 ∷ 24 ∷ 0 ∷ 0 ∷ 0 ∷ 0 ∷ 0 ∷ 0 ∷ 0 ∷ 0 ∷ 0 ∷ 0 ∷ 0 ∷ 0 ∷ 0 ∷ 0 ∷ 0 ∷ 0 ∷ 0 ∷ 0 ∷ 0 ∷ 0 ∷ 0 ∷ 0 ∷ 0 ∷ []

abbrev wanted : Change
wanted = record {
  needs = codes "libq.so.1" ∷ codes "libc.so.6" ∷ [];
  soname = None;
  runpath = Some (codes "$ORIGIN/usr/lib");
  files = [];
}

texts : new_texts app wanted ≡ codes "$ORIGIN/usr/lib" ∷ []
unfolding app spare shared ones dynamic_entries dynamic_table entry_of string_at strings_of table_of header_at headers memory_bytes memory_in range_in number_at named_text needs_of ask_needs_of asks_of aux_places_of def_places_of file_place file_words_of memory_number record_place verdef_place vernauxs verneed_place gnu_range symbol_count sysv_range count_in section_count sysv_place word_in words_in new_entries rewritten laid first_overlap first_pair ranges_of single_range entries_in file_patches new_headers changed_texts text_places removes rewriting segment_addr layout_of segment_patches segment_pieces segment_place segment_stop stop_of entry_bytes header_bytes word_bytes
texts = refl

place : segment_place app ≡ 4096
unfolding app spare shared ones dynamic_entries dynamic_table entry_of string_at strings_of table_of header_at headers memory_bytes memory_in range_in number_at named_text needs_of ask_needs_of asks_of aux_places_of def_places_of file_place file_words_of memory_number record_place verdef_place vernauxs verneed_place gnu_range symbol_count sysv_range count_in section_count sysv_place word_in words_in new_entries rewritten laid first_overlap first_pair ranges_of single_range entries_in file_patches new_headers changed_texts text_places removes rewriting segment_addr layout_of segment_patches segment_pieces segment_place segment_stop stop_of entry_bytes header_bytes word_bytes
place = refl

no_stop : stop_of app wanted ≡ None
unfolding app spare shared ones dynamic_entries dynamic_table entry_of string_at strings_of table_of header_at headers memory_bytes memory_in range_in number_at named_text needs_of ask_needs_of asks_of aux_places_of def_places_of file_place file_words_of memory_number record_place verdef_place vernauxs verneed_place gnu_range symbol_count sysv_range count_in section_count sysv_place word_in words_in new_entries rewritten laid first_overlap first_pair ranges_of single_range entries_in file_patches new_headers changed_texts text_places removes rewriting segment_addr layout_of segment_patches segment_pieces segment_place segment_stop stop_of entry_bytes header_bytes word_bytes
no_stop = refl

long : length_of (rewriting app wanted) ≡ 4560
unfolding app spare shared ones dynamic_entries dynamic_table entry_of string_at strings_of table_of header_at headers memory_bytes memory_in range_in number_at named_text needs_of ask_needs_of asks_of aux_places_of def_places_of file_place file_words_of memory_number record_place verdef_place vernauxs verneed_place gnu_range symbol_count sysv_range count_in section_count sysv_place word_in words_in new_entries rewritten laid first_overlap first_pair ranges_of single_range entries_in file_patches new_headers changed_texts text_places removes rewriting segment_addr layout_of segment_patches segment_pieces segment_place segment_stop stop_of entry_bytes header_bytes word_bytes
long = refl

long_spare : length_of (rewriting spare wanted) ≡ 4413
unfolding app spare shared ones dynamic_entries dynamic_table entry_of string_at strings_of table_of header_at headers memory_bytes memory_in range_in number_at named_text needs_of ask_needs_of asks_of aux_places_of def_places_of file_place file_words_of memory_number record_place verdef_place vernauxs verneed_place gnu_range symbol_count sysv_range count_in section_count sysv_place word_in words_in new_entries rewritten laid first_overlap first_pair ranges_of single_range entries_in file_patches new_headers changed_texts text_places removes rewriting segment_addr layout_of segment_patches segment_pieces segment_place segment_stop stop_of entry_bytes header_bytes word_bytes
long_spare = refl

overlap : stop_of shared wanted ≡ Some (TableOverlap 4 6)
unfolding app spare shared ones dynamic_entries dynamic_table entry_of string_at strings_of table_of header_at headers memory_bytes memory_in range_in number_at named_text needs_of ask_needs_of asks_of aux_places_of def_places_of file_place file_words_of memory_number record_place verdef_place vernauxs verneed_place gnu_range symbol_count sysv_range count_in section_count sysv_place word_in words_in new_entries rewritten laid first_overlap first_pair ranges_of single_range entries_in file_patches new_headers changed_texts text_places removes rewriting segment_addr layout_of segment_patches segment_pieces segment_place segment_stop stop_of entry_bytes header_bytes word_bytes
overlap = refl

new_headers_fine : header_flaw (laid app (rewriting app wanted)) ≡ None
unfolding app spare shared ones dynamic_entries dynamic_table entry_of string_at strings_of table_of header_at headers memory_bytes memory_in range_in number_at named_text needs_of ask_needs_of asks_of aux_places_of def_places_of file_place file_words_of memory_number record_place verdef_place vernauxs verneed_place gnu_range symbol_count sysv_range count_in section_count sysv_place word_in words_in new_entries rewritten laid first_overlap first_pair ranges_of single_range entries_in file_patches new_headers changed_texts text_places removes rewriting segment_addr layout_of segment_patches segment_pieces segment_place segment_stop stop_of entry_bytes header_bytes word_bytes ident_flaw word_flaw segment_flaw first_below header_flaw
new_headers_fine = refl

new_path : named_text (laid app (rewriting app wanted)) DT_RUNPATH ≡ Some (codes "$ORIGIN/usr/lib")
unfolding app spare shared ones dynamic_entries dynamic_table entry_of string_at strings_of table_of header_at headers memory_bytes memory_in range_in number_at named_text needs_of ask_needs_of asks_of aux_places_of def_places_of file_place file_words_of memory_number record_place verdef_place vernauxs verneed_place gnu_range symbol_count sysv_range count_in section_count sysv_place word_in words_in new_entries rewritten laid first_overlap first_pair ranges_of single_range entries_in file_patches new_headers changed_texts text_places removes rewriting segment_addr layout_of segment_patches segment_pieces segment_place segment_stop stop_of entry_bytes header_bytes word_bytes
new_path = refl

new_needs : needs_of (laid app (rewriting app wanted)) ≡ codes "libq.so.1" ∷ codes "libc.so.6" ∷ []
unfolding app spare shared ones dynamic_entries dynamic_table entry_of string_at strings_of table_of header_at headers memory_bytes memory_in range_in number_at named_text needs_of ask_needs_of asks_of aux_places_of def_places_of file_place file_words_of memory_number record_place verdef_place vernauxs verneed_place gnu_range symbol_count sysv_range count_in section_count sysv_place word_in words_in new_entries rewritten laid first_overlap first_pair ranges_of single_range entries_in file_patches new_headers changed_texts text_places removes rewriting segment_addr layout_of segment_patches segment_pieces segment_place segment_stop stop_of entry_bytes header_bytes word_bytes
new_needs = refl

new_dynamic_fine : dynamic_flaw (laid app (rewriting app wanted)) ≡ None
unfolding app spare shared ones dynamic_entries dynamic_table entry_of string_at strings_of table_of header_at headers memory_bytes memory_in range_in number_at named_text needs_of ask_needs_of asks_of aux_places_of def_places_of file_place file_words_of memory_number record_place verdef_place vernauxs verneed_place gnu_range symbol_count sysv_range count_in section_count sysv_place word_in words_in new_entries rewritten laid first_overlap first_pair ranges_of single_range entries_in file_patches new_headers changed_texts text_places removes rewriting segment_addr layout_of segment_patches segment_pieces segment_place segment_stop stop_of entry_bytes header_bytes word_bytes ident_flaw word_flaw segment_flaw first_below header_flaw dynamic_flaw place_flaw tags_flaw strings_flaw table_flaw entry_flaw missing_flaw symbol_flaw symbol_flaw_by hash_flaw count_flaw list_flaw first_lost sysv_table is_sysv_sound ends_in sysv_lists is_in_chain chain symbols_in symbol_of is_bindable version_flaw verdefs_flaw verneeds_flaw symbols_version_flaw V.index_flaw interp_of definitions_of indexed_names
new_dynamic_fine = refl

new_symbols_fine : symbol_flaw (laid app (rewriting app wanted)) ≡ None
unfolding app spare shared ones dynamic_entries dynamic_table entry_of string_at strings_of table_of header_at headers memory_bytes memory_in range_in number_at named_text needs_of ask_needs_of asks_of aux_places_of def_places_of file_place file_words_of memory_number record_place verdef_place vernauxs verneed_place gnu_range symbol_count sysv_range count_in section_count sysv_place word_in words_in new_entries rewritten laid first_overlap first_pair ranges_of single_range entries_in file_patches new_headers changed_texts text_places removes rewriting segment_addr layout_of segment_patches segment_pieces segment_place segment_stop stop_of entry_bytes header_bytes word_bytes ident_flaw word_flaw segment_flaw first_below header_flaw dynamic_flaw place_flaw tags_flaw strings_flaw table_flaw entry_flaw missing_flaw symbol_flaw symbol_flaw_by hash_flaw count_flaw list_flaw first_lost sysv_table is_sysv_sound ends_in sysv_lists is_in_chain chain symbols_in symbol_of is_bindable version_flaw verdefs_flaw verneeds_flaw symbols_version_flaw V.index_flaw interp_of definitions_of indexed_names
new_symbols_fine = refl

new_versions_fine : version_flaw 1 (laid app (rewriting app wanted)) ≡ None
unfolding app spare shared ones dynamic_entries dynamic_table entry_of string_at strings_of table_of header_at headers memory_bytes memory_in range_in number_at named_text needs_of ask_needs_of asks_of aux_places_of def_places_of file_place file_words_of memory_number record_place verdef_place vernauxs verneed_place gnu_range symbol_count sysv_range count_in section_count sysv_place word_in words_in new_entries rewritten laid first_overlap first_pair ranges_of single_range entries_in file_patches new_headers changed_texts text_places removes rewriting segment_addr layout_of segment_patches segment_pieces segment_place segment_stop stop_of entry_bytes header_bytes word_bytes ident_flaw word_flaw segment_flaw first_below header_flaw dynamic_flaw place_flaw tags_flaw strings_flaw table_flaw entry_flaw missing_flaw symbol_flaw symbol_flaw_by hash_flaw count_flaw list_flaw first_lost sysv_table is_sysv_sound ends_in sysv_lists is_in_chain chain symbols_in symbol_of is_bindable version_flaw verdefs_flaw verneeds_flaw symbols_version_flaw V.index_flaw interp_of definitions_of indexed_names
new_versions_fine = refl

old_path : interp_of (laid app (rewriting app wanted)) ≡ Some (codes "/lib64/ld-linux-x86-64.so.2")
unfolding app spare shared ones dynamic_entries dynamic_table entry_of string_at strings_of table_of header_at headers memory_bytes memory_in range_in number_at named_text needs_of ask_needs_of asks_of aux_places_of def_places_of file_place file_words_of memory_number record_place verdef_place vernauxs verneed_place gnu_range symbol_count sysv_range count_in section_count sysv_place word_in words_in new_entries rewritten laid first_overlap first_pair ranges_of single_range entries_in file_patches new_headers changed_texts text_places removes rewriting segment_addr layout_of segment_patches segment_pieces segment_place segment_stop stop_of entry_bytes header_bytes word_bytes ident_flaw word_flaw segment_flaw first_below header_flaw dynamic_flaw place_flaw tags_flaw strings_flaw table_flaw entry_flaw missing_flaw symbol_flaw symbol_flaw_by hash_flaw count_flaw list_flaw first_lost sysv_table is_sysv_sound ends_in sysv_lists is_in_chain chain symbols_in symbol_of is_bindable version_flaw verdefs_flaw verneeds_flaw symbols_version_flaw V.index_flaw interp_of definitions_of indexed_names
old_path = refl
