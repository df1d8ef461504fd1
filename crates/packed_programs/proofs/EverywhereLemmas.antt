-- The programs of a package run everywhere, from the laws of builds at a place.
use Rattle.std.proofs.Common.{ℕ, zero, suc, ◌<◌, arith, List, [], ◌∷◌, ◌≡◌, ◌∙◌, inl, inr, refl, ap, sym, subst, Option, Some, None, codes, length, map, slice_get}
use Rattle.std.specs.Prelude.{All, ◌⊎◌}
use Rattle.std.specs.List.{AllZip, Contains}
use Rattle.app_config.specs.declared.config.Config.{Config}
use Rattle.app_config.specs.declared.config.Program.{Program}
use Rattle.appdir_build.specs.Outcome.{IsPackage, Package}
use Rattle.build_laws.specs.BuiltRuns.{IsRunIn}
use Rattle.build_laws.specs.Renaming.{IsProgramOf, as_items, as_placed, is_bundled_in, name_in}
use Rattle.build_laws.specs.Sources.{IsSource}
use Rattle.build_laws.proofs.ImageLemmas.{memory_kept}
use Rattle.build_plan.specs.Building.{Building, start_of, starts_of}
use Rattle.build_runs.specs.BuildRuns.{IsRunFor}
use Rattle.build_runs.specs.declared.programs.Start.{Start}
use Rattle.build_texts.specs.Places.{program_places, tool_place}
use Rattle.build_texts.specs.Texts.{record_in}
use Rattle.host_checks.specs.Hosting.{MeetsRecord, host_setting, record_path, record_place}
use Rattle.host_list.specs.Meeting.{HostMeets}
use Rattle.host_record.specs.Grammar.{Says}
use Rattle.host_record.specs.declared.records.Record.{Record}
use Rattle.lib_closure.proofs.ContainedLemmas.{at_place, place_of}
use Rattle.load_model.specs.Faces.{face_or_flaw}
use Rattle.load_model.specs.Joined.{joined}
use Rattle.load_model.specs.LoadList.{Object}
use Rattle.load_model.specs.Runs.{IsRunOver}
use Rattle.load_model.specs.World.{World, file_at}
use Rattle.load_model.specs.declared.runs.Run.{Run}
use Rattle.load_model.specs.declared.setting.Setting.{Setting}
use Rattle.load_model.specs.declared.world.WorldFile.{WorldFile}
use Rattle.load_model.proofs.AskedNeeds.{get_map}
use Rattle.load_model.proofs.OneRun.{there as stands_there}
use Rattle.moved_builds.specs.Homes.{IsHome}
use Rattle.moved_builds.proofs.InterpreterLemmas.{interpreter_there}
use Rattle.moved_builds.proofs.LawLemmas.{list_there, moved_ends, moved_here, opens_only, package_moved, recorded, run_in, same_there}
use Rattle.moved_runs.specs.OpenedThere.{MayBeOpened}
use Rattle.moved_runs.specs.Placed.{Item, lib_place}
use Rattle.moved_runs.specs.Places.{IsItem}
use Rattle.object_changes.proofs.StandingLemmas.{all_at}
use Rattle.ports.specs.declared.folders.MemFile.{MemFile}
use Rattle.packed_programs.specs.Everywhere.{AreImagesKept, IsHostFor, IsOfDirectory, IsOnRecord, IsPackedAt, IsReadOf, IsSourceWith, ProgramRuns, RunsOnHost, RunsThere}
use Rattle.packed_programs.proofs.MachineLemmas.{record_machine_of}
use Rattle.packed_programs.proofs.SourceLemmas.{met_with}
use Rattle.packed_programs.proofs.SpokenLemmas.{speaks_of_names}
use Rattle.path_text.specs.Path.{IsNormalPath}
use Rattle.read_records.proofs.FileLemmas.{bytes_are}

-- ---- what is opened

own_file : (files : List MemFile) (host : World) (setting : Setting) (place path : List ℕ) (q : Object) → IsItem face_or_flaw setting host place (as_items files) path q → IsOfDirectory files place (joined place path)
own_file files host setting place path q is =
    let w = get_map as_placed files is.number is.item is.is_item in
    let same : w.0.path ≡ path = sym (ap (λ (i : Item). i.path) w.2) ∙ is.path_is in
    (w.0, at_place files is.number w.0 w.1, ap (joined place) (sym same))

-- ---- one program

module _ (world : World) (config : Config) (made : Package) (number : ℕ) (start : Start) (run : Run) (path : List ℕ) (ready : IsPackage world config made) (from : IsSource world config) (is : IsProgramOf config ready.building number start run path) where
  abbrev b : Building
  b = ready.building

  abbrev here : IsRunIn world config b number start run path
  here = run_in world config made number start run path ready from is

  module _ (host : World) (setting : Setting) (place : List ℕ) (home : IsHome host config b setting place made.files) where
    abbrev objs : List Object
    objs = here.plays.loads.loaded.objs

    abbrev objs_there : List Object
    objs_there = (moved_here world config made number start run path ready from is host setting place home).objs

    own_or_recorded : (opened : List ℕ) → MayBeOpened face_or_flaw setting host place (name_in b run) (is_bundled_in b run) (length run.objs) path opened → IsOfDirectory made.files place opened ⊎ IsOnRecord b setting opened
    own_or_recorded opened may =
        let moved = package_moved world config made number start run path ready from is host setting place home in
        let count = here.plays.loads.run_is.count in
        let size = moved.count in
        elim may [
          | inl program ↦
              let some = (all_at (IsRunOver b.faces) b.runs number run here.over is.runs).program in
              let o = stands_there objs 0 (omega (arith, count, some)) in
              let q = stands_there objs_there 0 (omega (arith, count, size, some)) in
              inl (subst (IsOfDirectory made.files place) (sym program) (own_file made.files host setting place path q.0 (moved.program_is o.0 q.0 o.1 q.1).0.item))
          | inr other ↦
              elim other [
                | inl lib ↦
                    let below = lib.below in
                    let o = stands_there objs lib.number (omega (arith, count, below)) in
                    let q = stands_there objs_there lib.number (omega (arith, count, size, below)) in
                    inl (subst (IsOfDirectory made.files place) (sym lib.path_is) (own_file made.files host setting place (lib_place (name_in b run lib.number)) q.0 (moved.bundled lib.number o.0 q.0 lib.some lib.bundled o.1 q.1).item))
                | inr found ↦
                    let x = stands_there run.objs found.number found.below in
                    inr (
                      name_in b run found.number,
                      found.listed.dir,
                      recorded world config made number start run path ready from is found.number x.0 found.some x.1 found.of_host,
                      at_place setting.dirs found.listed.number found.listed.dir found.listed.listed,
                      found.listed.joined_is,
                    )
              ]
        ]

    pub runs_there : RunsThere config b made.files host setting place start run path
    runs_there =
        let inter = interpreter_there world config b number start run path here setting host home.meets in
        record {
          loaded = moved_here world config made number start run path ready from is host setting place home;
          ends = moved_ends world config made number start run path ready from is host setting place home;
          loads = list_there world config made number start run path ready from is host setting place home;
          opens = λ opened h. own_or_recorded opened
              (opens_only world config made number start run path ready from is host setting place home
              (moved_here world config made number start run path ready from is host setting place home)
              (moved_ends world config made number start run path ready from is host setting place home) opened
              (list_there world config made number start run path ready from is host setting place home) h);
          interp = inter.0;
          interp_is = inter.1;
          interp_listed = inter.2;
          interp_lies = (inter.3, inter.4);
          same = same_there world config made number start run path ready from is host setting place home;
        }

-- ---- each start has a run and a place

beside : {X Y : Type 0} (P : X → Y → Type 0) (xs : List X) (ys : List Y) → AllZip P xs ys → (k : ℕ) (x : X) → slice_get xs k ≡ Some x → (y : Y) × (slice_get ys k ≡ Some y)
beside P [] [] h k x e = cc
beside P [] (y ∷ ys) h k x e = absurd h
beside P (z ∷ xs) [] h k x e = absurd h
beside P (z ∷ xs) (y ∷ ys) h zero x e = (y, refl)
beside P (z ∷ xs) (y ∷ ys) h (suc k) x e = beside P xs ys h.1 k x e

mapped_beside : {A B C : Type 0} (f : A → B) (g : A → C) (xs : List A) (k : ℕ) (y : B) → slice_get (map f xs) k ≡ Some y → (z : C) × (slice_get (map g xs) k ≡ Some z)
mapped_beside f g [] k y e = cc
mapped_beside f g (x ∷ xs) zero y e = (g x, refl)
mapped_beside f g (x ∷ xs) (suc k) y e = mapped_beside f g xs k y e

placed : (config : Config) (number : ℕ) (start : Start) → slice_get (starts_of config) number ≡ Some start → (path : List ℕ) × (slice_get (program_places config) number ≡ Some path)
unfolding program_places
placed config zero start h = (codes "AppRun", refl)
placed config (suc number) start h = mapped_beside start_of tool_place config.tools number start h

program_of : (world : World) (config : Config) (made : Package) (ready : IsPackage world config made) (number : ℕ) (start : Start) → slice_get (starts_of config) number ≡ Some start → (run : Run) × (path : List ℕ) × IsProgramOf config ready.building number start run path
program_of world config made ready number start h =
    let r = beside (IsRunFor config.setting world ready.building.faces) (starts_of config) ready.building.runs ready.builds.runs.each number start h in
    let p = placed config number start h in
    (r.0, p.0, record { starts = h; runs = r.1; lies = p.1 })

-- ---- the record that is read

-- What is read of the files of a package is the record of the build.
abbrev pub IsReadAgain : (world : World) (config : Config) (made : Package) → IsPackage world config made → Type 0
IsReadAgain world config made ready = (file : MemFile) → Contains made.files file → file.path ≡ record_place → (r : Record) → Says file.bytes r → r ≡ record_in ready.building

module _ (world : World) (config : Config) (made : Package) (ready : IsPackage world config made) (from : IsSource world config) (again : IsReadAgain world config made ready) where
  home_of : (host : World) (setting : Setting) (place : List ℕ) → IsHostFor host config setting place made.files → IsHome host config ready.building setting place made.files
  home_of host setting place on =
      let is : on.demands ≡ record_in ready.building = again on.read.file on.read.among on.read.lies on.demands on.read.says in
      record {
        place_normal = on.place_normal;
        dirs_normal = on.dirs_normal;
        machine = on.machine;
        placed = on.lies.placed;
        apart = on.lies.apart;
        meets = subst (HostMeets face_or_flaw setting host) is on.meets;
      }

  -- the world of the build meets the record, also with the directory in it
  pub source_home : (host : World) (place : List ℕ) → IsSourceWith host config world place made.files → IsHome host config ready.building config.setting place made.files
  source_home host place on =
      let first = program_of world config made ready 0 (start_of config.main) refl in
      let here = run_in world config made 0 (start_of config.main) first.0 first.1 ready from first.2 in
      let speaks = speaks_of_names world config ready.building (start_of config.main) first.0 first.1 here in
      record {
        place_normal = on.place_normal;
        dirs_normal = from.dirs;
        machine = refl;
        placed = on.lies.placed;
        apart = on.lies.apart;
        meets = subst (λ w. HostMeets face_or_flaw config.setting w (record_in ready.building)) (sym on.world_is)
            (met_with world on.added place config.setting (record_in ready.building) speaks on.place_normal from.dirs on.lies.apart on.at_place ready.meets);
      }

  pub program_runs : (number : ℕ) (start : Start) → slice_get (starts_of config) number ≡ Some start → ProgramRuns world config ready.building made.files number start
  program_runs number start h =
      let p = program_of world config made ready number start h in
      record {
        run = p.0;
        path = p.1;
        is = p.2;
        plays = (run_in world config made number start p.0 p.1 ready from p.2).plays;
        there = λ host setting place on. runs_there world config made number start p.0 p.1 ready from p.2 host setting place (home_of host setting place on);
        beside = λ host place on. runs_there world config made number start p.0 p.1 ready from p.2 host config.setting place (source_home host place on);
      }

  pub images_kept : AreImagesKept world ready.building
  images_kept =
      let main = start_of config.main in
      let p = program_of world config made ready 0 main refl in
      memory_kept world config ready.building 0 main p.0 p.1 (run_in world config made 0 main p.0 p.1 ready from p.2) ready.written

  -- ---- a host that was checked

  module _ (host : World) (place : List ℕ) (dirs : List (List ℕ)) (normal : IsNormalPath place) (paths : All IsNormalPath dirs) (lies : IsPackedAt host place dirs made.files) (meets : MeetsRecord host place dirs) (record_file : Contains (map (λ (file : MemFile). file.path) made.files) record_place) where
    -- the file of the record that lies there has the bytes of that of the package
    demanded : meets.demands ≡ record_in ready.building
    demanded =
        let w = get_map (λ (f : MemFile). f.path) made.files record_file.0 record_place (place_of (map (λ (f : MemFile). f.path) made.files) record_place record_file) in
        let i = get_placed made.files record_file.0 w.0 w.1 in
        let there = lies.placed.lies record_file.0 (as_placed w.0) i in
        let path_is : w.0.path ≡ record_place = sym w.2 in
        let same : there.0 ≡ meets.lies.file = one_file (file_at host (record_path place)) there.0 meets.lies.file (ap (λ p. file_at host (joined place p)) (sym path_is) ∙ there.1) meets.lies.lies in
        let bytes : meets.lies.file.bytes ≡ w.0.bytes = ap (λ (f : WorldFile). f.bytes) (sym same) ∙ there.2 in
        again w.0 (at_place made.files record_file.0 w.0 w.1) path_is meets.demands (subst (λ text. Says text meets.demands) bytes meets.lies.says)
      where
        get_placed : (files : List MemFile) (k : ℕ) (file : MemFile) → slice_get files k ≡ Some file → slice_get (as_items files) k ≡ Some (as_placed file)
        get_placed [] k file h = cc
        get_placed (f ∷ files) zero file h = let is : f ≡ file = cc in ap (λ x. Some (as_placed x)) is
        get_placed (f ∷ files) (suc k) file h = get_placed files k file h

        one_file : (o : Option WorldFile) (f g : WorldFile) → o ≡ Some f → o ≡ Some g → f ≡ g
        one_file o f g p q = cc

    checked_home : IsHome host config ready.building (host_setting (record_in ready.building) dirs) place made.files
    checked_home =
        let first = program_of world config made ready 0 (start_of config.main) refl in
        record {
          place_normal = normal;
          dirs_normal = paths;
          machine = record_machine_of world config ready.building (start_of config.main) first.0 first.1 (run_in world config made 0 (start_of config.main) first.0 first.1 ready from first.2);
          placed = lies.placed;
          apart = lies.apart;
          meets = subst (λ r. HostMeets face_or_flaw (host_setting r dirs) host r) demanded meets.meets;
        }

    pub checked_host_runs : (number : ℕ) (start : Start) → slice_get (starts_of config) number ≡ Some start → RunsOnHost config ready.building made.files host dirs place number start
    checked_host_runs number start h =
        let p = program_of world config made ready number start h in
        record {
          run = p.0;
          path = p.1;
          is = p.2;
          runs = runs_there world config made number start p.0 p.1 ready from p.2 host (host_setting (record_in ready.building) dirs) place checked_home;
        }
