-- Names that are added one after the other.
use Rattle.std.proofs.Common.{◌≡◌, ◌∙◌, sym, ap, ap₂, refl, ℕ, zero, suc, ◌+◌, ◌<◌, ◌≤◌, List, [], ◌∷◌, ◌++◌, All, Option, Some, None, get_or, length, map, min, slice_get, subst, take, zip, arith}
use Rattle.std.specs.List.{enumerate_from, flat_map}
use Rattle.std.proofs.lemmas.List.{append-nil, length-take-le, map-append, take_all}
use Rattle.std.proofs.lemmas.List.Concat.{flat_map-append}
use Rattle.std.proofs.lemmas.Option.{get_or_from_slice_get, slice_get_within}
use Rattle.std.proofs.lemmas.Slice.Zip.{length-zip}
use Rattle.load_model.specs.LoadList.{up_to}
use Rattle.load_model.specs.Runs.{AreBelow, IsRunOver, face_at}
use Rattle.load_model.specs.VersionCheck.{needs_in, phase_at, soname_in, version_file_of}
use Rattle.load_model.specs.declared.faces.Face.{Face}
use Rattle.load_model.specs.declared.runs.Run.{Run}
use Rattle.std.specs.Option.{option_to_list, unwrap_or}
use Rattle.version_files.proofs.VersionFileLemmas.{AllSound, IsSound, known_first}
use Rattle.version_files.specs.Known.{KnownName, all_known, first_known_by, known_by, known_from, known_soname, needs_known, opens_known, sonames_known}
use Rattle.load_model.specs.LoadList.{lesser_of}
use Rattle.version_files.specs.Telling.{AddsNames, told}
use Rattle.version_files.specs.declared.known.KnownNames.{KnownNames}
use Rattle.version_files.proofs.KnownLemmas.{first_known_by-append, lesser_of-assoc, lesser_of-none}
use Rattle.version_files.proofs.TakenLemmas.{take_next}

pub adds_none : (k : KnownNames) → AddsNames k k []
adds_none k = λ phase name. sym (lesser_of-none (told k phase name))

pub adds_more : (a b c : KnownNames) (xs ys : List KnownName) → AddsNames a b xs → AddsNames b c ys → AddsNames a c (xs ++ ys)
adds_more a b c xs ys h g = λ phase name.
    g phase name ∙ ap (λ o. lesser_of o (first_known_by phase name ys)) (h phase name)
    ∙ lesser_of-assoc (told a phase name) (first_known_by phase name xs) (first_known_by phase name ys)
    ∙ ap (lesser_of (told a phase name)) (sym (first_known_by-append phase name xs ys))

pub adds_one : (b c : KnownNames) (x : KnownName) → ((phase : ℕ) (name : List ℕ) → told c phase name ≡ lesser_of (told b phase name) (known_by phase name x)) → AddsNames b c (x ∷ [])
adds_one b c x h = λ phase name. h phase name ∙ ap (lesser_of (told b phase name)) (sym (lesser_of-none (known_by phase name x)))

pub adds_as : (a c : KnownNames) (xs ys : List KnownName) → xs ≡ ys → AddsNames a c xs → AddsNames a c ys
adds_as a c xs ys e h = λ phase name. h phase name ∙ ap (λ l. lesser_of (told a phase name) (first_known_by phase name l)) e

-- ---- by numbers

flat_number : {Y : Type 0} (g : ℕ → List Y) (n : ℕ) → flat_map g (up_to n) ++ g n ≡ flat_map g (up_to (n + 1))
unfolding up_to
flat_number g n =
    let up : n + 1 ≡ suc n = omega arith in
    sym (ap (λ m. flat_map g (up_to m)) up ∙ flat_map-append g (up_to n) (n ∷ []) ∙ ap (λ ys. flat_map g (up_to n) ++ ys) (append-nil (g n)))

pub adds_number : (a b c : KnownNames) (g : ℕ → List KnownName) (n : ℕ) → AddsNames a b (flat_map g (up_to n)) → AddsNames b c (g n) → AddsNames a c (flat_map g (up_to (n + 1)))
adds_number a b c g n h e = adds_as a c (flat_map g (up_to n) ++ g n) (flat_map g (up_to (n + 1))) (flat_number g n) (adds_more a b c (flat_map g (up_to n)) (g n) h e)

pub adds_no_number : (k : KnownNames) (g : ℕ → List KnownName) → AddsNames k k (flat_map g (up_to 0))
unfolding up_to
adds_no_number k g = adds_none k

-- ---- requests

zip_at : {A B : Type 0} (xs : List A) (ys : List B) (i : ℕ) (x : A) (y : B) → slice_get xs i ≡ Some x → slice_get ys i ≡ Some y → slice_get (zip xs ys) i ≡ Some (x, y)
zip_at [] ys i x y h g = cc
zip_at (a ∷ xs) [] i x y h g = cc
zip_at (a ∷ xs) (b ∷ ys) zero x y h g = let e : a ≡ x = cc in let f : b ≡ y = cc in ap₂ (λ p q. Some (p, q)) e f
zip_at (a ∷ xs) (b ∷ ys) (suc i) x y h g = zip_at xs ys i x y h g

pub take_at : {X : Type 0} (zs : List X) (i : ℕ) (z : X) → slice_get zs i ≡ Some z → take (i + 1) zs ≡ take i zs ++ z ∷ []
take_at zs i z h = take_next zs i z (slice_get_within zs i z h) (sym (get_or_from_slice_get zs i z z h))

pub adds_request : (a b c : KnownNames) (f : (List ℕ × ℕ) → KnownName) (xs : List (List ℕ)) (ys : List ℕ) (i : ℕ) (x : List ℕ) (y : ℕ) → slice_get xs i ≡ Some x → slice_get ys i ≡ Some y → AddsNames a b (map f (take i (zip xs ys))) → AddsNames b c (f (x, y) ∷ []) → AddsNames a c (map f (take (i + 1) (zip xs ys)))
adds_request a b c f xs ys i x y h g were one =
    adds_as a c (map f (take i (zip xs ys)) ++ f (x, y) ∷ []) (map f (take (i + 1) (zip xs ys)))
    (sym (ap (map f) (take_at (zip xs ys) i (x, y) (zip_at xs ys i x y h g)) ∙ map-append f (take i (zip xs ys)) ((x, y) ∷ [])))
    (adds_more a b c (map f (take i (zip xs ys))) (f (x, y) ∷ []) were one)

pub all_taken : (xs : List (List ℕ)) (ys : List ℕ) (i : ℕ) → min (length xs) (length ys) ≤ i → take i (zip xs ys) ≡ zip xs ys
all_taken xs ys i h = take_all i (zip xs ys) (let e = length-zip xs ys in omega (arith, e))

numbered_more : (m : ℕ) (ws : List (List ℕ × ℕ)) (z : List ℕ × ℕ) → enumerate_from m (ws ++ z ∷ []) ≡ enumerate_from m ws ++ (m + length ws, z) ∷ []
numbered_more m [] z = ap (λ n. (n, z) ∷ []) (let e : m ≡ m + 0 = omega arith in e)
numbered_more m (w ∷ ws) z =
    ap (λ l. (m, w) ∷ l) (numbered_more (m + 1) ws z ∙ ap (λ n. enumerate_from (m + 1) ws ++ (n, z) ∷ []) (let e : (m + 1) + length ws ≡ m + suc (length ws) = omega arith in e))

pub adds_opened : (a b c : KnownNames) (f : (ℕ × (List ℕ × ℕ)) → KnownName) (xs : List (List ℕ)) (ys : List ℕ) (i : ℕ) (x : List ℕ) (y : ℕ) → slice_get xs i ≡ Some x → slice_get ys i ≡ Some y → AddsNames a b (map f (enumerate_from 0 (take i (zip xs ys)))) → AddsNames b c (f (i, (x, y)) ∷ []) → AddsNames a c (map f (enumerate_from 0 (take (i + 1) (zip xs ys))))
adds_opened a b c f xs ys i x y h g were one =
    let at = zip_at xs ys i x y h g in
    let len : 0 + length (take i (zip xs ys)) ≡ i = let within = slice_get_within (zip xs ys) i (x, y) at in let l = length-take-le i (zip xs ys) (omega arith) in omega (arith, l) in
    adds_as a c (map f (enumerate_from 0 (take i (zip xs ys))) ++ f (i, (x, y)) ∷ []) (map f (enumerate_from 0 (take (i + 1) (zip xs ys))))
    (sym (ap (λ l. map f (enumerate_from 0 l)) (take_at (zip xs ys) i (x, y) at) ∙ ap (map f) (numbered_more 0 (take i (zip xs ys)) (x, y) ∙ ap (λ n. enumerate_from 0 (take i (zip xs ys)) ++ (n, (x, y)) ∷ []) len)
    ∙ map-append f (enumerate_from 0 (take i (zip xs ys))) ((i, (x, y)) ∷ [])))
    (adds_more a b c (map f (enumerate_from 0 (take i (zip xs ys)))) (f (i, (x, y)) ∷ []) were one)

pub adds_known : (b c : KnownNames) (name : List ℕ) (target since since' : ℕ) → since ≡ since' → ((phase : ℕ) (n : List ℕ) → told c phase n ≡ lesser_of (told b phase n) (known_by phase n (record { name = name; target = target; since = since }))) → AddsNames b c (record { name = name; target = target; since = since' } ∷ [])
adds_known b c name target since since' e h =
    adds_one b c (record { name = name; target = target; since = since' })
    (λ phase n. h phase n ∙ ap (λ s. lesser_of (told b phase n) (known_by phase n (record { name = name; target = target; since = s }))) e)

pub needs_are : (faces : List Face) (run : Run) (j phase : ℕ) (face : Face) (needs : List (List ℕ)) (targets : List ℕ) → face_at faces run j ≡ Some face → needs ≡ face.needs → targets ≡ unwrap_or (slice_get run.targets j) [] → phase ≡ phase_at run j → map (known_from run phase) (zip needs targets) ≡ needs_known faces run j
needs_are faces run j phase face needs targets at n t p =
    ap (λ q. map (known_from run q) (zip needs targets)) p
    ∙ ap (λ ns. map (known_from run (phase_at run j)) (zip ns targets)) (n ∙ sym (ap needs_in at))
    ∙ ap (λ ts. map (known_from run (phase_at run j)) (zip (needs_in (face_at faces run j)) ts)) t

-- ---- all of them, by objects

pub map_number : {Y : Type 0} (g : ℕ → Y) (n : ℕ) (was now : List Y) (y : Y) → was ≡ map g (up_to n) → now ≡ was ++ y ∷ [] → y ≡ g n → now ≡ map g (up_to (n + 1))
unfolding up_to
map_number g n was now y h e k =
    let up : n + 1 ≡ suc n = omega arith in
    e ∙ ap₂ (λ l z. l ++ z ∷ []) h k ∙ sym (ap (λ m. map g (up_to m)) up ∙ map-append g (up_to n) (n ∷ []))

pub no_number : {Y : Type 0} (g : ℕ → Y) → [] ≡ map g (up_to 0)
unfolding up_to
no_number g = refl

-- ---- they are sound

all_sound-append : (run : Run) (xs ys : List KnownName) → AllSound run xs → AllSound run ys → AllSound run (xs ++ ys)
all_sound-append run [] ys h g = g
all_sound-append run (x ∷ xs) ys h g = (h.0, all_sound-append run xs ys h.1 g)

flat_sound : (run : Run) (g : ℕ → List KnownName) (n : ℕ) → ((j : ℕ) → j < n → AllSound run (g j)) → AllSound run (flat_map g (up_to n))
unfolding up_to
flat_sound run g zero h = tt
flat_sound run g (suc n) h =
    subst (AllSound run) (sym (flat_map-append g (up_to n) (n ∷ []) ∙ ap (λ ys. flat_map g (up_to n) ++ ys) (append-nil (g n))))
    (all_sound-append run (flat_map g (up_to n)) (g n) (flat_sound run g n (λ j less. h j (omega arith))) (h n (omega arith)))

request_sound : (run : Run) (phase : ℕ) (a : List ℕ × ℕ) → a.1 < length run.objs → IsSound run (known_from run phase a)
request_sound run phase a h = record { within = h; loaded = omega arith }

requests_sound : (run : Run) (phase : ℕ) (names : List (List ℕ)) (targets : List ℕ) → AreBelow (length run.objs) targets → AllSound run (map (known_from run phase) (zip names targets))
requests_sound run phase [] targets h = tt
requests_sound run phase (n ∷ ns) [] h = tt
requests_sound run phase (n ∷ ns) (t ∷ ts) h = (request_sound run phase (n, t) (h 0 t (omega arith)), requests_sound run phase ns ts (λ k d less. h (suc k) d (omega arith)))

opens_sound : (run : Run) (m : ℕ) (names : List (List ℕ)) (targets : List ℕ) → AreBelow (length run.objs) targets → AllSound run (map (λ numbered. known_from run (numbered.0 + 1) numbered.1) (enumerate_from m (zip names targets)))
opens_sound run m [] targets h = tt
opens_sound run m (n ∷ ns) [] h = tt
opens_sound run m (n ∷ ns) (t ∷ ts) h = (request_sound run (m + 1) (n, t) (h 0 t (omega arith)), opens_sound run (m + 1) ns ts (λ k d less. h (suc k) d (omega arith)))

soname_sound : (run : Run) (j : ℕ) (soname : Option (List ℕ)) → j < length run.objs → AllSound run (map (known_soname run j) (option_to_list soname))
soname_sound run j None h = tt
soname_sound run j (Some s) h = (record { within = h; loaded = omega arith }, tt)

targets_below : (run : Run) (j : ℕ) (ts : Option (List ℕ)) → All (AreBelow (length run.objs)) run.targets → slice_get run.targets j ≡ ts → AreBelow (length run.objs) (unwrap_or ts [])
targets_below run j None h e = λ k d less. absurd (omega arith)
targets_below run j (Some ts) h e =
    subst (AreBelow (length run.objs)) (get_or_from_slice_get run.targets j ts ts e) (h j ts (slice_get_within run.targets j ts e))

pub all_sound : (faces : List Face) (run : Run) → IsRunOver faces run → AllSound run (all_known faces run)
unfolding all_known
all_sound faces run over =
    all_sound-append run (flat_map (sonames_known faces run) (up_to (length run.objs))) (flat_map (needs_known faces run) (up_to (length run.objs)) ++ opens_known run)
    (flat_sound run (sonames_known faces run) (length run.objs) (λ j less. soname_sound run j (soname_in (face_at faces run j)) less))
    (all_sound-append run (flat_map (needs_known faces run) (up_to (length run.objs))) (opens_known run)
    (flat_sound run (needs_known faces run) (length run.objs) (λ j less. requests_sound run (phase_at run j) (needs_in (face_at faces run j)) (unwrap_or (slice_get run.targets j) []) (targets_below run j (slice_get run.targets j) over.targets refl)))
    (opens_sound run 0 run.opens run.roots over.roots))

pub file_told : (faces : List Face) (run : Run) (known : KnownNames) (j phase : ℕ) (file : List ℕ) (found : Option ℕ) → IsRunOver faces run → ((p : ℕ) (name : List ℕ) → told known p name ≡ first_known_by p name (all_known faces run)) → phase ≡ phase_at run j → found ≡ told known phase file → found ≡ version_file_of faces run j file
unfolding version_file_of
file_told faces run known j phase file found over all p h =
    h ∙ ap (λ q. told known q file) p ∙ all (phase_at run j) file ∙ known_first faces run (phase_at run j) file (all_sound faces run over)

pub all_told : (k0 k1 k2 k3 : KnownNames) (xs ys zs : List KnownName) → ((phase : ℕ) (name : List ℕ) → told k0 phase name ≡ None) → AddsNames k0 k1 xs → AddsNames k1 k2 ys → AddsNames k2 k3 zs → (phase : ℕ) (name : List ℕ) → told k3 phase name ≡ first_known_by phase name (xs ++ (ys ++ zs))
all_told k0 k1 k2 k3 xs ys zs none h g f phase name =
    adds_more k0 k1 k3 xs (ys ++ zs) h (adds_more k1 k2 k3 ys zs g f) phase name
    ∙ ap (λ o. lesser_of o (first_known_by phase name (xs ++ (ys ++ zs)))) (none phase name)

pub map_read : {X Y : Type 0} (f : X → Y) (xs : List X) (i : ℕ) (x : X) (was now : List Y) (y : Y) → i < length xs → x ≡ get_or xs i x → was ≡ map f (take i xs) → now ≡ was ++ y ∷ [] → y ≡ f x → now ≡ map f (take (i + 1) xs)
map_read f xs i x was now y less r h e k =
    e ∙ ap₂ (λ l z. l ++ z ∷ []) h k ∙ sym (ap (map f) (take_next xs i x less r) ∙ map-append f (take i xs) (x ∷ []))
