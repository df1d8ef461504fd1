-- The record of a build from a source is canonical, and of bytes.
use Rattle.std.proofs.Common.{◌≡◌, ◌∙◌, sym, ap, refl, subst, ℕ, suc, ◌<◌, List, [], ◌∷◌, All, Some, bytes_eq, length, slice_get, arith}
use Rattle.std.specs.List.{AllByRecursion, Contains}
use Rattle.std.proofs.lemmas.List.Elements.{All-contains}
use Rattle.std.proofs.lemmas.Option.{slice_get_within}
use Rattle.app_config.specs.declared.config.Config.{Config}
use Rattle.app_config.specs.Ready.{IsNameText}
use Rattle.build_laws.specs.Sources.{IsSource}
use Rattle.build_laws.proofs.OverLemmas.{runs_over}
use Rattle.build_plan.specs.Building.{Building, IsBuilding, starts_of}
use Rattle.build_runs.specs.BuildRuns.{IsFileIn, IsRunFor, face_places, places_in}
use Rattle.build_runs.proofs.FileLemmas.{file_of_object}
use Rattle.build_runs.proofs.ZipLemmas.{zip_count}
use Rattle.build_texts.specs.Texts.{first_face, machine_in, record_in}
use Rattle.host_list.specs.Recording.{IsRecordOf}
use Rattle.host_list.proofs.CanonicalLemmas.{canonical}
use Rattle.host_list.proofs.ClosingLemmas.{closed_split, split_interps}
use Rattle.host_record.specs.Canonical.{IsCanonical, IsOfBytes}
use Rattle.lib_closure.specs.declared.splits.HostLib.{HostLib}
use Rattle.lib_closure.proofs.ContainedLemmas.{at_place, of_any, of_flat_map, of_map, place_of}
use Rattle.lib_closure.proofs.NumberLemmas.{number_at}
use Rattle.lib_closure.proofs.SplitLemmas.{members_stand}
use Rattle.load_model.proofs.TwoWorlds.{same_bytes}
use Rattle.load_model.specs.Escaping.{AreBytes}
use Rattle.load_model.specs.LoadList.{up_to}
use Rattle.load_model.specs.Runs.{IsRunOver, face_at}
use Rattle.load_model.specs.World.{World, file_at}
use Rattle.load_model.specs.declared.faces.Face.{Face}
use Rattle.load_model.specs.declared.runs.Obj.{Obj}
use Rattle.load_model.specs.declared.runs.Run.{Run}
use Rattle.load_model.specs.declared.world.WorldFile.{WorldFile}
use Rattle.load_requests.proofs.AskingPlaces.{all_at}
use Rattle.moved_runs.proofs.SearchLemmas.{find_at}
use Rattle.read_records.proofs.FaceBytesLemmas.{FaceBytes, face_bytes}
use Rattle.read_records.proofs.RecordBytesLemmas.{record_bytes}
use Rattle.read_records.proofs.TextBytesLemmas.{text_bytes}

each_at : {X : Type 0} (P : X → Type 0) (xs : List X) → ((k : ℕ) (x : X) → slice_get xs k ≡ Some x → P x) → AllByRecursion P xs
each_at P [] h = tt
each_at P (x ∷ xs) h = (h 0 x refl, each_at P xs (λ k y g. h (suc k) y g))

each_in : {X : Type 0} (P : X → Type 0) (xs : List X) → ((x : X) → Contains xs x → P x) → AllByRecursion P xs
each_in P xs h = each_at P xs (λ k x g. h x (at_place xs k x g))

-- ---- the record is that of the runs

machine_first : (faces : List Face) (runs : List Run) (run : Run) (face : Face) → slice_get runs 0 ≡ Some run → face_at faces run 0 ≡ Some face → machine_in (first_face faces runs) ≡ face.machine
machine_first faces [] run face h seen = cc
machine_first faces (first ∷ runs) run face h seen =
    let same : first ≡ run = cc in
    ap (λ (r : Run). machine_in (face_at faces r 0)) same ∙ ap machine_in seen

pub record_of_runs : (b : Building) → IsRecordOf b.faces b.runs b.split (record_in b)
unfolding record_in
record_of_runs b = record {
  machine = machine_first b.faces b.runs;
  interps = refl;
  libs = refl;
  versions = refl;
  looks = refl;
}

-- ---- a build

module _ (world : World) (config : Config) (b : Building) (builds : IsBuilding world config b) where
  over : All (IsRunOver b.faces) b.runs
  over = runs_over config.setting world b.faces (starts_of config) b.runs builds.runs.each

  some_run : 0 < length b.runs
  some_run = let count = zip_count (IsRunFor config.setting world b.faces) (starts_of config) b.runs builds.runs.each in omega (arith, count)

  pub record_canonical : IsCanonical (record_in b)
  record_canonical =
      canonical b.faces b.runs b.split (record_in b) some_run
      (split_interps b.faces b.runs config.names b.split over builds.plan.split)
      (closed_split b.faces b.runs config.names b.split over builds.plan.split) (record_of_runs b)

-- ---- a build from a source

module _ (world : World) (config : Config) (b : Building) (source : IsSource world config) (builds : IsBuilding world config b) where
  -- Each face is read of a file of bytes.
  file_bytes : (path : List ℕ) (file : WorldFile) → file_at world path ≡ Some file → AreBytes file.bytes
  file_bytes path file lies =
      let w = find_at path world file lies in
      all_at (λ (f : WorldFile). AreBytes f.bytes) world w.0 file source.bytes w.1

  of_file : (k : ℕ) (face : Face) (x : Obj) → x.face ≡ k → slice_get b.faces k ≡ Some face → IsFileIn world b.faces x → FaceBytes face
  of_file k face x at h f =
      let both : Some f.face ≡ Some face = sym f.stands ∙ ap (slice_get b.faces) at ∙ h in
      let one : f.face ≡ face = cc in
      subst FaceBytes one (face_bytes f.file.bytes f.face (file_bytes x.path f.file f.lies) f.reads)

  face_seen : (k : ℕ) (face : Face) → slice_get b.faces k ≡ Some face → FaceBytes face
  face_seen k face h =
      let less = slice_get_within b.faces k face h in
      let c : Contains (face_places b.runs) k = subst (λ ns. Contains ns k) (sym builds.runs.in_order) (at_place (up_to (length b.faces)) k k (number_at (length b.faces) k less)) in
      let w = of_flat_map (λ (r : Run). places_in r.objs) b.runs k c in
      let x = of_map (λ (y : Obj). y.face) w.from.objs k w.is in
      of_file k face x.from x.is h (file_of_object config.setting world (starts_of config) b.faces b.runs w.there.0 x.there.0 w.from x.from builds.runs (place_of b.runs w.from w.there) (place_of w.from.objs x.from x.there))

  -- The names of host libraries are on the list of the configuration.
  host_bytes : (host : HostLib) → Contains b.split.hosts host → AreBytes host.name
  host_bytes host c =
      let is = (members_stand b.faces b.runs config.names b.split builds.plan.split).hosts host c in
      let on = of_any (λ n. bytes_eq n host.name) config.names is.listed in
      let text = All-contains IsNameText config.names on.it source.names on.there in
      subst AreBytes (same_bytes on.it host.name on.passes) (text_bytes on.it text.1)

  pub record_of_bytes : IsOfBytes (record_in b)
  record_of_bytes = record_bytes b (each_at FaceBytes b.faces face_seen) (each_in (λ (h : HostLib). AreBytes h.name) b.split.hosts host_bytes)
