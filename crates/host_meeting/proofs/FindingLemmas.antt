-- What the search of a library in the listed directories says of a host.
use Rattle.std.proofs.Common.{◌≡◌, ◌∙◌, sym, ap, ℕ, List, Option, Some, Result, Ok, Err, get_or}
use Rattle.std.specs.Option.{option_map}
use Rattle.load_model.specs.Candidates.{first_decision, listed_candidates}
use Rattle.load_model.specs.Faces.{face_or_flaw}
use Rattle.load_model.specs.LoadList.{Object}
use Rattle.load_model.specs.Opening.{OpenerView}
use Rattle.load_model.specs.World.{World}
use Rattle.load_model.specs.declared.faces.Face.{Face}
use Rattle.load_model.specs.declared.opening.OpenFault.{OpenFault}
use Rattle.load_model.specs.declared.opening.OpenFault.TheVariants.{Read, Damaged, NoMemory}
use Rattle.load_model.specs.declared.refusals.LoadRefusal.{LoadRefusal}
use Rattle.load_model.specs.declared.setting.Setting.{Setting}
use Rattle.search_paths.specs.Searching.{IsAnswer}
use Rattle.search_paths.specs.declared.hits.Hit.TheVariants.{Found, Missing}
use Rattle.search_paths.specs.declared.hits.SearchStop.TheVariants.{Open}
use Rattle.host_list.specs.Meeting.{file_difference, lib_difference, lib_object, object_difference, object_in}
use Rattle.host_list.specs.declared.differences.Difference.{Difference}
use Rattle.host_list.specs.declared.differences.Difference.TheVariants.{NoLib}
use Rattle.host_record.specs.declared.records.RecLib.{RecLib}
use Rattle.host_record.specs.declared.records.Record.{Record}
use Rattle.host_meeting.specs.Files.{object_at}
use Rattle.host_meeting.specs.Hosts.{IsHost}
use Rattle.host_meeting.specs.Missing.{IsMiss, miss_by}
use Rattle.host_meeting.specs.declared.misses.Miss.TheVariants.{Differs}
use Rattle.host_meeting.proofs.FileLemmas.{read_at}

module _ (b0 b1 : OpenerView) (dirs : List (List ℕ)) (r : Record) (lib : RecLib) where
  abbrev pub Decided : World → Option (Result Object LoadRefusal) → Type 0
  Decided world decided =
      (setting : Setting) → setting.machine ≡ b0.machine → setting.dirs ≡ dirs
      → first_decision face_or_flaw setting world (listed_candidates setting lib.name) ≡ decided

  pub found_object : (path id : List ℕ) (place : ℕ) (setting : Setting) (world : World) → IsAnswer Decided b0 b1 (Ok (Found path id place)) → IsHost b0.told b0.machine dirs setting world → lib_object face_or_flaw setting world r lib.name ≡ object_at b1.faces (record { path = path; id = id; face = place })
  found_object path id place setting world h host =
      let k = h.1 world host.world_is in
      ap (object_in face_or_flaw setting world r) (k.found setting host.machine_is host.dirs_are)
      ∙ sym (ap (option_map (λ (face : Face). record { path = path; id = id; face = face })) k.stands)

  pub found_difference : (path id : List ℕ) (place : ℕ) (face : Face) (d : Option Difference) (setting : Setting) (world : World) → IsAnswer Decided b0 b1 (Ok (Found path id place)) → face ≡ get_or b1.faces place face → d ≡ object_difference face_or_flaw setting world r lib face → IsHost b0.told b0.machine dirs setting world → d ≡ lib_difference face_or_flaw setting world r lib
  found_difference path id place face d setting world h at is host =
      let k = h.1 world host.world_is in
      let stands : Some k.face ≡ Some face = sym k.stands ∙ read_at b1.faces place face h.0 at in
      let same : k.face ≡ face = cc in
      is ∙ sym (ap (file_difference face_or_flaw setting world r lib) (k.found setting host.machine_is host.dirs_are) ∙ ap (object_difference face_or_flaw setting world r lib) same)

  pub missing : IsAnswer Decided b0 b1 (Ok Missing) → IsMiss b0 b1 dirs (λ setting world. lib_difference face_or_flaw setting world r lib) (Differs (NoLib lib.name))
  missing h = λ setting world host. sym (ap (file_difference face_or_flaw setting world r lib) (h world host.world_is setting host.machine_is host.dirs_are))

  pub fault : (f : OpenFault) → IsAnswer Decided b0 b1 (Err (Open f)) → IsMiss b0 b1 dirs (λ setting world. lib_difference face_or_flaw setting world r lib) (miss_by f)
  fault Read h = h
  fault (Damaged path flaw) h = λ setting world host. sym (ap (file_difference face_or_flaw setting world r lib) (h world host.world_is setting host.machine_is host.dirs_are))
  fault NoMemory h = tt
