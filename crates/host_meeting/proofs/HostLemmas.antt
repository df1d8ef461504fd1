-- What an opener that only grew tells of a host.
use Rattle.std.proofs.Common.{◌≡◌, ◌≢◌, ◌∙◌, sym, ap, refl, ℕ, ◌<◌, List, [], ◌∷◌, All, false, Option, Some, None, is_none, length, map, slice_get, arith}
use Rattle.std.specs.List.{Contains}
use Rattle.std.specs.Option.{option_map}
use Rattle.answers.specs.First.{some_where}
use Rattle.byte_view.specs.declared.flaws.Flaw.{Flaw}
use Rattle.lib_closure.proofs.ContainedLemmas.{here, is_there, later, place_of}
use Rattle.load_model.specs.Faces.{face_or_flaw}
use Rattle.load_model.specs.Opening.{IsPlace, OnlyGrew, OpenerView}
use Rattle.load_model.specs.World.{World, Kind, Absent, file_at, kind_of, kind_of_file}
use Rattle.load_model.specs.declared.faces.Face.{Face}
use Rattle.load_model.specs.declared.setting.Setting.{Setting}
use Rattle.load_model.specs.declared.world.WorldFile.{WorldFile}
use Rattle.load_model.proofs.Places.{slice_get-take}
use Rattle.load_requests.proofs.AskingPlaces.{all_at}
use Rattle.host_list.specs.Meeting.{interp_difference}
use Rattle.host_list.specs.declared.differences.Difference.{Difference}
use Rattle.host_list.specs.declared.differences.Difference.TheVariants.{NoInterp}
use Rattle.host_record.specs.declared.records.Record.{Record}
use Rattle.host_meeting.specs.Files.{object_at}
use Rattle.host_meeting.specs.Hosts.{IsHost}
use Rattle.host_meeting.specs.Missing.{IsMiss}
use Rattle.host_meeting.specs.declared.found.FoundLib.{FoundLib}
use Rattle.host_meeting.specs.declared.misses.Miss.{Miss}
use Rattle.host_meeting.specs.declared.misses.Miss.TheVariants.{Differs, Read, NoMemory}

pub host_on : (b0 b1 : OpenerView) (dirs : List (List ℕ)) (setting : Setting) (world : World) → OnlyGrew b0 b1 → IsHost b0.told b0.machine dirs setting world → IsHost b1.told b1.machine dirs setting world
host_on b0 b1 dirs setting world grew host = record {
  world_is = grew.world ∙ host.world_is;
  machine_is = host.machine_is ∙ sym grew.machine;
  dirs_are = host.dirs_are;
}

-- A miss that comes later is one of the whole.
pub miss_on : (b0 b1 b2 : OpenerView) (dirs : List (List ℕ)) (D E : Setting → World → Option Difference) (m : Miss) → OnlyGrew b0 b1 → ((setting : Setting) (world : World) (d : Difference) → IsHost b0.told b0.machine dirs setting world → Some d ≡ D setting world → Some d ≡ E setting world) → IsMiss b1 b2 dirs D m → IsMiss b0 b2 dirs E m
miss_on b0 b1 b2 dirs D E (Differs d) grew f h = λ setting world host. f setting world d host (h setting world (host_on b0 b1 dirs setting world grew host))
miss_on b0 b1 b2 dirs D E Read grew f h = let less = grew.faults in omega (arith, h, less)
miss_on b0 b1 b2 dirs D E NoMemory grew f h = tt

-- ---- interpreters

there : (machine : ℕ) (file : Option WorldFile) (kind : Kind Face Flaw) → kind_of_file face_or_flaw machine file ≡ kind → kind ≢ Absent → is_none file ≡ false
there machine None kind e other = absurd (other (sym e))
there machine (Some file) kind e other = refl

-- A path that is not absent is a file.
pub interp_found : (machine : ℕ) (setting : Setting) (world : World) (r : Record) (path : List ℕ) (kind : Kind Face Flaw) → kind_of face_or_flaw machine world path ≡ kind → kind ≢ Absent → None ≡ interp_difference face_or_flaw setting world r path
interp_found machine setting world r path kind e other =
    sym (ap (λ b. some_where b (NoInterp path)) (there machine (file_at world path) kind e other))

-- ---- faces in a table that only grew

map_same : {X Y : Type 0} (f g : X → Y) (xs : List X) → ((x : X) → Contains xs x → f x ≡ g x) → map f xs ≡ map g xs
map_same f g [] h = refl
map_same f g (x ∷ xs) h = ap (λ y. y ∷ map f xs) (h x (here x xs)) ∙ ap (λ ys. g x ∷ ys) (map_same f g xs (λ y c. h y (later x y xs c)))

module _ (before after : OpenerView) (grew : OnlyGrew before after) where
  object_still : (f : FoundLib) → f.face < length before.faces → object_at before.faces f ≡ object_at after.faces f
  object_still f less =
      let t = is_there before.faces f.face less in
      let stays : slice_get after.faces f.face ≡ Some t.it = (slice_get-take (length before.faces) after.faces f.face t.it (ap (λ l. slice_get l f.face) grew.faces ∙ t.is)).1 in
      ap (option_map (λ (face : Face). record { path = f.path; id = f.id; face = face })) (t.is ∙ sym stays)

  pub objects_still : (found : List FoundLib) → All (λ (f : FoundLib). IsPlace before f.face) found → map (object_at before.faces) found ≡ map (object_at after.faces) found
  objects_still found places =
      map_same (object_at before.faces) (object_at after.faces) found
      (λ f c. object_still f (all_at (λ (h : FoundLib). IsPlace before h.face) found c.0 f places (place_of found f c)))
