-- Asks beside the objects that their files name.
use Rattle.std.proofs.Common.{◌≡◌, ◌∙◌, ap, sym, refl, ℕ, List, [], ◌∷◌, cond, false, true, length, map}
use Rattle.std.specs.Prelude.{Option, Some, None, is_none, is_some}
use Rattle.std.specs.List.{cons_option, filter_map}
use Rattle.std.proofs.lemmas.List.{length-map}
use Rattle.load_model.specs.Runs.{face_at}
use Rattle.load_model.specs.VersionCheck.{asks_in, version_file_of}
use Rattle.load_model.specs.declared.asks.Ask.{Ask}
use Rattle.load_model.specs.declared.faces.Face.{Face}
use Rattle.load_model.specs.declared.runs.Run.{Run}
use Rattle.host_list.specs.Recording.{asked_version, host_at, versions_by}
use Rattle.version_files.specs.Files.{files_at}
use Rattle.host_list.specs.Versions.{versions_beside}

-- the asks of an object beside its files
pub beside_named : (faces : List Face) (run : Run) (numbers : List (Option ℕ)) (j : ℕ) (asks : List Ask) → versions_beside numbers asks (map (λ ask. version_file_of faces run j ask.file) asks) ≡ filter_map (asked_version faces numbers run j) asks
unfolding versions_beside
beside_named faces run numbers j [] = refl
beside_named faces run numbers j (ask ∷ asks) = ap (cons_option (asked_version faces numbers run j ask)) (beside_named faces run numbers j asks)

-- what an object asks that is no host library
pub asked_there : (faces : List Face) (run : Run) (numbers : List (Option ℕ)) (j : ℕ) (face : Face) (files : List (Option ℕ)) → is_none (host_at numbers j) ≡ true → face_at faces run j ≡ Some face → files ≡ files_at faces run j → versions_beside numbers face.asks files ≡ versions_by faces numbers run j
unfolding versions_by
asked_there faces run numbers j face files n e f =
    let same : files ≡ map (λ ask. version_file_of faces run j ask.file) face.asks = f ∙ ap (λ o. map (λ (ask : Ask). version_file_of faces run j ask.file) (asks_in o)) e in
    ap (versions_beside numbers face.asks) same
    ∙ (beside_named faces run numbers j face.asks
    ∙ (sym (ap (λ o. filter_map (asked_version faces numbers run j) (asks_in o)) e)
    ∙ sym (ap (λ b. cond b (filter_map (asked_version faces numbers run j) (asks_in (face_at faces run j))) []) n)))

pub named_count : (faces : List Face) (run : Run) (j : ℕ) (face : Face) (files : List (Option ℕ)) → face_at faces run j ≡ Some face → files ≡ files_at faces run j → length files ≡ length face.asks
named_count faces run j face files e f =
    ap length f ∙ (ap (λ o. length (map (λ (ask : Ask). version_file_of faces run j ask.file) (asks_in o))) e ∙ length-map face.asks (λ ask. version_file_of faces run j ask.file))

pub none_there : {X : Type 0} (o : Option X) → is_some o ≡ false → is_none o ≡ true
none_there None h = refl
none_there (Some x) h = cc
