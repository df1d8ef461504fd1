-- Host libraries of one key, and how many objects the lists have.
use Rattle.std.proofs.Common.{◌≡◌, ◌∙◌, sym, ap, refl, subst, ℕ, ◌+◌, ◌^◌, ◌<◌, List, [], ◌∷◌, ◌++◌, All, false, cond, Option, Some, None, bytes_eq, drop, get_or, length, map, slice_get, take, arith}
use Rattle.std.specs.List.{find, list_any, position}
use Rattle.std.specs.Option.{option_and_then, option_map}
use Rattle.std.proofs.lemmas.List.{length-map, length-take-le, map-append}
use Rattle.std.proofs.lemmas.Option.{get_or_from_slice_get, slice_get-get_or, slice_get-map, slice_get_read, slice_get_within}
use Rattle.answers.specs.First.{first_some}
use Rattle.indexmap.specs.IndexSet.{insert_key}
use Rattle.load_model.proofs.Places.{slice_get_front}
use Rattle.load_model.specs.Runs.{IsRunOver}
use Rattle.load_model.specs.declared.faces.Face.{Face}
use Rattle.load_model.specs.declared.runs.Run.{Run}
use Rattle.lib_closure.specs.Build.{list_of, lists_over}
use Rattle.lib_closure.specs.Clashes.{beside_earlier, clash_of_hosts, have_one_key}
use Rattle.lib_closure.specs.Objects.{Occurrence, key_held, path_held}
use Rattle.lib_closure.specs.Seen.{standing}
use Rattle.lib_closure.specs.declared.seen.LoadList.{LoadList}
use Rattle.lib_closure.specs.declared.seen.Seen.{Seen}
use Rattle.lib_closure.specs.declared.stops.ClosureStop.{ClosureStop}
use Rattle.lib_closure.specs.declared.stops.ClosureStop.TheVariants.{HostNameClash}
use Rattle.text_sets.proofs.MappedLemmas.{find-position, position-map}
use Rattle.text_sets.proofs.FoundLemmas.{none_any, position_within}
use Rattle.lib_closure.proofs.PlaceLemmas.{drop_read, none_then, some_then}
use Rattle.version_files.proofs.TakenLemmas.{take_next}

-- The one found among those before is that at the place of the key.
found_at : (faces : List Face) (runs : List Run) (names : List (List ℕ)) (before : List Occurrence) (o : Occurrence) (keys : List (List ℕ)) (place : Option ℕ) → keys ≡ map key_held before → place ≡ position (bytes_eq (key_held o)) keys → find (have_one_key faces runs names o) before ≡ option_and_then (slice_get before) place
found_at faces runs names before o keys place k h =
    find-position (have_one_key faces runs names o) before
    ∙ ap (option_and_then (slice_get before)) (sym (h ∙ ap (position (bytes_eq (key_held o))) k ∙ position-map (bytes_eq (key_held o)) key_held before))

clash_by : (faces : List Face) (runs : List Run) (names : List (List ℕ)) (before : List Occurrence) (o : Occurrence) (found : Option Occurrence) → find (have_one_key faces runs names o) before ≡ found → clash_of_hosts faces runs names (before, o) ≡ option_map (λ a. HostNameClash (key_held o) (path_held a) (path_held o)) found
clash_by faces runs names before o found h = ap (option_map (λ (a : Occurrence). HostNameClash (key_held o) (path_held a) (path_held o))) h

length_before : (hosts : List Seen) (i : ℕ) → i < length hosts → length (map key_held (map standing (take i hosts))) ≡ i
length_before hosts i less = length-map (map standing (take i hosts)) key_held ∙ length-map (take i hosts) standing ∙ length-take-le i hosts (omega arith)

-- What is there of a host at a place before.
there : (hosts : List Seen) (i p : ℕ) (y : Seen) → i < length hosts → p < i → y ≡ get_or hosts p y → slice_get (map standing (take i hosts)) p ≡ Some (standing y)
there hosts i p y less below r =
    slice_get-map standing (take i hosts) p
    ∙ ap (option_map standing) (slice_get_front i hosts p y below (slice_get_read hosts (length hosts) p y refl (omega arith) r))

next_beside : (hosts : List Seen) (i : ℕ) (x : Seen) → i < length hosts → x ≡ get_or hosts i x → beside_earlier (map standing (take i hosts)) (map standing (drop i hosts)) ≡ (map standing (take i hosts), standing x) ∷ beside_earlier (map standing (take (i + 1) hosts)) (map standing (drop (i + 1) hosts))
next_beside hosts i x less r =
    ap (λ l. beside_earlier (map standing (take i hosts)) (map standing l)) (drop_read hosts i x less r)
    ∙ ap (λ l. (map standing (take i hosts), standing x) ∷ beside_earlier l (map standing (drop (i + 1) hosts)))
    (sym (ap (map standing) (take_next hosts i x less r) ∙ map-append standing (take i hosts) (x ∷ [])))

-- A host with the key of one before it is the first clash.
pub clashes_here : (faces : List Face) (runs : List Run) (names : List (List ℕ)) (hosts : List Seen) (i p : ℕ) (x y : Seen) (keys : List (List ℕ)) (whole : Option ClosureStop) → i < length hosts → x ≡ get_or hosts i x → y ≡ get_or hosts p y → keys ≡ map key_held (map standing (take i hosts)) → Some p ≡ position (bytes_eq (key_held (standing x))) keys → first_some (map (clash_of_hosts faces runs names) (beside_earlier (map standing (take i hosts)) (map standing (drop i hosts)))) ≡ whole → Some (HostNameClash (key_held (standing x)) (path_held (standing y)) (path_held (standing x))) ≡ whole
clashes_here faces runs names hosts i p x y keys whole less rx ry k h inv =
    let below : p < i = let w = position_within (bytes_eq (key_held (standing x))) keys p (sym h) in let n = ap length k ∙ length_before hosts i less in omega arith in
    let before : List Occurrence = map standing (take i hosts) in
    let found : find (have_one_key faces runs names (standing x)) before ≡ Some (standing y) = found_at faces runs names before (standing x) keys (Some p) k h ∙ there hosts i p y less below ry in
    sym (ap (λ l. first_some (map (clash_of_hosts faces runs names) l)) (next_beside hosts i x less rx)
    ∙ some_then (clash_of_hosts faces runs names (before, standing x)) (HostNameClash (key_held (standing x)) (path_held (standing y)) (path_held (standing x))) (map (clash_of_hosts faces runs names) (beside_earlier (map standing (take (i + 1) hosts)) (map standing (drop (i + 1) hosts)))) (clash_by faces runs names before (standing x) (Some (standing y)) found))
    ∙ inv

-- One whose key is new is passed over.
pub clashes_passed : (faces : List Face) (runs : List Run) (names : List (List ℕ)) (hosts : List Seen) (i : ℕ) (x : Seen) (keys : List (List ℕ)) (whole : Option ClosureStop) → i < length hosts → x ≡ get_or hosts i x → keys ≡ map key_held (map standing (take i hosts)) → None ≡ position (bytes_eq (key_held (standing x))) keys → first_some (map (clash_of_hosts faces runs names) (beside_earlier (map standing (take i hosts)) (map standing (drop i hosts)))) ≡ whole → first_some (map (clash_of_hosts faces runs names) (beside_earlier (map standing (take (i + 1) hosts)) (map standing (drop (i + 1) hosts)))) ≡ whole
clashes_passed faces runs names hosts i x keys whole less rx k h inv =
    let before : List Occurrence = map standing (take i hosts) in
    sym (ap (λ l. first_some (map (clash_of_hosts faces runs names) l)) (next_beside hosts i x less rx)
    ∙ none_then (clash_of_hosts faces runs names (before, standing x)) (map (clash_of_hosts faces runs names) (beside_earlier (map standing (take (i + 1) hosts)) (map standing (drop (i + 1) hosts)))) (clash_by faces runs names before (standing x) None (found_at faces runs names before (standing x) keys None k h)))
    ∙ inv

pub keys_next : (hosts : List Seen) (i : ℕ) (x : Seen) (keys now : List (List ℕ)) → i < length hosts → x ≡ get_or hosts i x → keys ≡ map key_held (map standing (take i hosts)) → None ≡ position (bytes_eq (key_held (standing x))) keys → now ≡ insert_key bytes_eq keys (key_held (standing x)) → now ≡ map key_held (map standing (take (i + 1) hosts))
keys_next hosts i x keys now less rx k h e =
    let new : list_any (bytes_eq (key_held (standing x))) keys ≡ false = none_any (bytes_eq (key_held (standing x))) keys (find-position (bytes_eq (key_held (standing x))) keys ∙ ap (option_and_then (slice_get keys)) (sym h)) in
    e ∙ ap (λ b. cond b keys (keys ++ key_held (standing x) ∷ [])) new ∙ ap (λ ks. ks ++ key_held (standing x) ∷ []) k
    ∙ sym (ap (λ l. map key_held (map standing l)) (take_next hosts i x less rx) ∙ ap (map key_held) (map-append standing (take i hosts) (x ∷ [])) ∙ map-append key_held (map standing (take i hosts)) (standing x ∷ []))

-- ---- how many objects

few_by : (faces : List Face) (runs : List Run) (k : ℕ) (list : LoadList) (run : Option Run) → All (IsRunOver faces) runs → slice_get runs k ≡ run → option_map (λ r. (faces, r)) run ≡ Some (list_of list) → length list.run.now.objs < 2 ^ 32
few_by faces runs k list None all h e = cc
few_by faces runs k list (Some run) all h e =
    let pair : (faces, run) ≡ list_of list = cc in
    let same : run ≡ list.run.now = ap (λ p. p.1) pair in
    let at : get_or runs k run ≡ run = get_or_from_slice_get runs k run run h in
    let few : length (get_or runs k run).objs < 2 ^ 32 = (all k run (slice_get_within runs k run h)).few in
    subst (λ (r : Run). length r.objs < 2 ^ 32) (at ∙ same) few

pub all_few : (faces : List Face) (runs : List Run) (lists items : List LoadList) → All (IsRunOver faces) runs → map list_of lists ≡ lists_over faces runs → items ≡ lists → All (λ (list : LoadList). length list.run.now.objs < 2 ^ 32) items
all_few faces runs lists items all h e k d less =
    let list : LoadList = get_or items k d in
    let at : slice_get (map list_of items) k ≡ Some (list_of list) = slice_get-map list_of items k ∙ ap (option_map list_of) (slice_get-get_or items k d less) in
    few_by faces runs k list (slice_get runs k) all refl (sym (slice_get-map (λ run. (faces, run)) runs k) ∙ ap (λ l. slice_get l k) (sym h) ∙ ap (λ l. slice_get (map list_of l) k) (sym e) ∙ at)
