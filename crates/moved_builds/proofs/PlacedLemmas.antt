-- The objects of a run of a build at a place of another world, each in the place of one from here.
use Rattle.std.proofs.Common.{◌≡◌, ◌∙◌, sym, ap, refl, subst, ℕ, zero, suc, ◌+◌, ◌<◌, ◌||◌, List, All, Bool, true, false, cond, Option, Some, None, Ok, length, map, slice_get, arith, inl, inr}
use Rattle.std.specs.Prelude.{◌⊎◌, codes}
use Rattle.std.specs.List.{Contains, enumerate_from, flat_map}
use Rattle.std.specs.Option.{option_map, unwrap_or}
use Rattle.std.proofs.lemmas.Bool.{ne_eqb}
use Rattle.std.proofs.lemmas.List.{length-map}
use Rattle.std.proofs.lemmas.List.Elements.{All-contains}
use Rattle.std.proofs.lemmas.List.FromFn.{length-enumerate_from}
use Rattle.answers.specs.First.{some_where}
use Rattle.app_config.specs.declared.config.Config.{Config}
use Rattle.app_config.specs.declared.config.Program.{Program}
use Rattle.appdir_build.specs.Files.{files_of, lib_file, program_file}
use Rattle.appdir_build.specs.Objects.{first_unwritten}
use Rattle.build_plan.specs.Building.{Building}
use Rattle.build_runs.specs.declared.programs.Start.{Start}
use Rattle.build_texts.specs.Places.{program_places, tool_place}
use Rattle.build_texts.specs.Texts.{record_in}
use Rattle.elf_rewrite.specs.NewFile.{wanted_of}
use Rattle.elf_rewrite.specs.declared.change.Change.{Change}
use Rattle.host_list.specs.Recording.{recorded_lib}
use Rattle.host_record.specs.declared.records.RecLib.{RecLib}
use Rattle.lib_closure.specs.Objects.{Occurrence}
use Rattle.lib_closure.specs.Splits.{member_of}
use Rattle.lib_closure.specs.declared.splits.Member.{Member}
use Rattle.lib_closure.proofs.ContainedLemmas.{at_place, in_map}
use Rattle.lib_closure.proofs.SplitLemmas.{members_stand}
use Rattle.load_model.specs.Candidates.{At, candidate_in, decision}
use Rattle.load_model.specs.Faces.{face_or_flaw}
use Rattle.load_model.specs.Joined.{joined}
use Rattle.load_model.specs.LoadList.{Loaded, Object}
use Rattle.load_model.specs.RunPaths.{Folder, items_of}
use Rattle.load_model.specs.SameNames.{HasNoRunPath, found_instead, listed_decision}
use Rattle.load_model.specs.World.{World, is_other}
use Rattle.load_model.specs.declared.faces.Face.{Face}
use Rattle.load_model.specs.declared.runs.Run.{Run}
use Rattle.load_model.specs.declared.setting.Setting.{Setting}
use Rattle.load_model.specs.VersionCheck.{needs_in}
use Rattle.load_model.proofs.AskedNeeds.{get_map}
use Rattle.moved_runs.specs.Placed.{lib_folder, lib_place}
use Rattle.moved_runs.specs.Places.{IsHostFile, IsItem, IsWritten, LeadsToLibs}
use Rattle.moved_runs.proofs.ListLemmas.{numbered_out}
use Rattle.moved_runs.proofs.RunPathLemmas.{first_leads, lib_leads, other_leads}
use Rattle.object_changes.specs.Changing.{change_of_lib, change_of_program, has_bundled_need, has_bundled_root, new_needs, new_soname, run_path_of_libs}
use Rattle.object_changes.specs.Names.{new_name_of}
use Rattle.object_changes.specs.NamedFiles.{all_files_named}
use Rattle.object_changes.proofs.ChangeLemmas.{path_at}
use Rattle.object_changes.proofs.StandingLemmas.{all_at}
use Rattle.object_rewriting.proofs.RewrittenLemmas.{rewritten_face}
use Rattle.path_text.specs.FileName.{IsFileName}
use Rattle.path_text.specs.Path.{IsNormalPath, folder_of}
use Rattle.path_text.proofs.NameLemmas.{IsFileName-from_test}
use Rattle.ports.specs.declared.folders.MemFile.{MemFile}
use Rattle.two_files.specs.Alike.{face_with}
use Rattle.build_laws.specs.BuiltRuns.{IsRunIn}
use Rattle.moved_builds.specs.Homes.{IsHome}
use Rattle.build_laws.specs.Renaming.{as_items, is_bundled_in, name_in}
use Rattle.build_laws.proofs.BesideLemmas.{IsHostThere, IsLibThere, IsProgramThere, IsRewrittenBy, object_for, object_lying, object_listed, objects_for}
use Rattle.build_laws.proofs.FaceLemmas.{new_right, new_texts}
use Rattle.build_laws.proofs.FilesLemmas.{right_obj, same_face}
use Rattle.build_laws.proofs.GoingLemmas.{IsFirst, Stands, first_named, host_named, own_named, stands}
use Rattle.met_hosts.specs.Libraries.{HasLibrary}
use Rattle.met_hosts.proofs.HostLemmas.{has_file}
use Rattle.moved_builds.proofs.LyingLemmas.{lib_lies, lies_at, program_lies}
use Rattle.build_laws.proofs.NamesLemmas.{IsHostOf, IsLibAt, IsLibOf, host_name, host_of, layout_named, lib_of}
use Rattle.build_laws.proofs.RunInLemmas.{run_there}
use Rattle.build_laws.proofs.WrittenLemmas.{IsLibMade, IsMadeOf, IsProgramMade, lib_made, program_made}

-- ---- the texts of changes

pub program_texts : (b : Building) (p : List ℕ) (o : Occurrence) → ((change_of_program b.split b.layout p o).needs ≡ new_needs b.split b.layout o) × ((change_of_program b.split b.layout p o).soname ≡ None) × ((change_of_program b.split b.layout p o).runpath ≡ some_where (has_bundled_need b.split b.layout o || has_bundled_root b.split b.layout o) p)
unfolding change_of_program
program_texts b p o = (refl, refl, refl)

pub record_libs : (b : Building) → (record_in b).libs ≡ map (recorded_lib b.faces) b.split.hosts
unfolding record_in
record_libs b = refl

chosen : (c : Bool) (p : List ℕ) (r : Option (List ℕ)) → r ≡ some_where c p → (r ≡ None) ⊎ (r ≡ Some p)
chosen true p r h = inr h
chosen false p r h = inl h

pub chosen_so : (c : Bool) (p : List ℕ) (r : Option (List ℕ)) → r ≡ some_where c p → c ≡ true → r ≡ Some p
chosen_so true p r h e = h
chosen_so false p r h e = cc

pub lib_texts : (b : Building) (o : Occurrence) → ((change_of_lib b.split b.layout (all_files_named b.split b.layout b.faces b.runs) o).needs ≡ new_needs b.split b.layout o) × ((change_of_lib b.split b.layout (all_files_named b.split b.layout b.faces b.runs) o).soname ≡ option_map (new_soname b.split b.layout o) o.face.soname) × ((change_of_lib b.split b.layout (all_files_named b.split b.layout b.faces b.runs) o).runpath ≡ some_where (has_bundled_need b.split b.layout o) run_path_of_libs)
unfolding change_of_lib
lib_texts b o = (refl, refl, refl)

-- ---- where run paths lead

program_place_cases : (config : Config) (number : ℕ) (path : List ℕ) → slice_get (program_places config) number ≡ Some path → ((path ≡ codes "AppRun") × (path_at number ≡ codes "$ORIGIN/usr/lib")) ⊎ ((tool : Program) × Contains config.tools tool × (path ≡ tool_place tool) × (path_at number ≡ codes "$ORIGIN/../lib"))
unfolding program_places
program_place_cases config zero path h = let one : codes "AppRun" ≡ path = cc in inl (sym one, refl)
program_place_cases config (suc k) path h =
    let w = get_map tool_place config.tools k path h in
    inr (w.0, at_place config.tools k w.0 w.1, w.2, ap (λ c. cond c (codes "$ORIGIN/usr/lib") (codes "$ORIGIN/../lib")) (ne_eqb (suc k) 0 (λ e. absurd (omega arith))))

module _ (setting : Setting) (world : World) (place : List ℕ) (files : List MemFile) where
  leads_by : (q : Object) (target runs : List ℕ) → q.path ≡ joined place target → q.face.runpath ≡ Some runs → ((name : List ℕ) → IsFileName name → flat_map (candidate_in name) (items_of setting (folder_of (joined place target)) runs) ≡ candidate_in name (Folder (lib_folder place))) → LeadsToLibs face_or_flaw setting world place (as_items files) q
  leads_by q target runs lies has leads = record {
    runpath = runs;
    runpath_is = has;
    leads = λ name h. ap (λ p. flat_map (candidate_in name) (items_of setting (folder_of p) runs)) lies ∙ leads name h;
  }

  -- The run path of a program leads to the folder of libraries from where it lies.
  pub program_leads : (config : Config) (number : ℕ) (path : List ℕ) (q : Object) → All (λ (tool : Program). IsFileName tool.name) config.tools → IsNormalPath place → slice_get (program_places config) number ≡ Some path → q.path ≡ joined place path → q.face.runpath ≡ Some (path_at number) → LeadsToLibs face_or_flaw setting world place (as_items files) q
  program_leads config number path q tools normal lies stands has =
      elim (program_place_cases config number path lies) [
        | inl w ↦
            leads_by q (codes "AppRun") (codes "$ORIGIN/usr/lib") (stands ∙ ap (joined place) w.0) (has ∙ ap (λ p. Some p) w.1)
            (λ name h. first_leads setting place (codes "AppRun") name normal (IsFileName-from_test (codes "AppRun") refl) h)
        | inr w ↦
            let named : IsFileName w.0.name = All-contains (λ (tool : Program). IsFileName tool.name) config.tools w.0 tools w.1 in
            leads_by q (tool_place w.0) (codes "$ORIGIN/../lib") (stands ∙ ap (joined place) w.2) (has ∙ ap (λ p. Some p) w.3)
            (λ name h. other_leads setting place w.0.name name normal named h)
      ]

renamed_so : (b : Building) (o : Occurrence) (id name : List ℕ) (soname : Option (List ℕ)) (s : List ℕ) → o.obj.id ≡ id → new_name_of b.split b.layout id ≡ Some name → option_map (new_soname b.split b.layout o) soname ≡ Some s → s ≡ name
renamed_so b o id name None s same known h = cc
renamed_so b o id name (Some t) s same known h =
    let one : new_soname b.split b.layout o t ≡ s = cc in
    sym one ∙ ap (λ i. unwrap_or (new_name_of b.split b.layout i) t) same ∙ ap (λ n. unwrap_or n t) known

-- ---- the objects there

module _ (world : World) (config : Config) (b : Building) (number : ℕ) (start : Start) (run : Run) (path : List ℕ) (at : IsRunIn world config b number start run path) (written : first_unwritten world b ≡ None) (setting : Setting) (there : World) (place : List ℕ) (home : IsHome there config b setting place (files_of world config b)) where
  abbrev loaded : Loaded
  loaded = at.plays.loads.loaded

  abbrev files : List MemFile
  files = files_of world config b

  abbrev pub objs_there : List Object
  objs_there = objects_for setting there place path b run loaded.objs

  there_at : (j : ℕ) (o q : Object) → slice_get loaded.objs j ≡ Some o → slice_get objs_there j ≡ Some q → q ≡ object_for setting there place path b run j o
  unfolding objects_for
  there_at j o q ho hq =
      let w = get_map (λ (p : ℕ × Object). object_for setting there place path b run p.0 p.1) (enumerate_from 0 loaded.objs) j q hq in
      let n = numbered_out 0 loaded.objs j w.0 w.1 in
      let both : Some w.0.1 ≡ Some o = sym n.1 ∙ ho in
      let one : w.0.1 ≡ o = cc in
      let num : w.0.0 ≡ j = n.0 ∙ (let z : 0 + j ≡ j = omega arith in z) in
      w.2 ∙ ap (λ k. object_for setting there place path b run k w.0.1) num ∙ ap (object_for setting there place path b run j) one

  pub there_count : length objs_there ≡ length loaded.objs
  unfolding objects_for
  there_count = length-map (enumerate_from 0 loaded.objs) (λ (p : ℕ × Object). object_for setting there place path b run p.0 p.1) ∙ length-enumerate_from 0 loaded.objs

  lib_for : (j : ℕ) (o : Object) → 0 < j → is_bundled_in b run j ≡ true → object_for setting there place path b run j o ≡ object_lying setting there place path b run (lib_place (name_in b run j)) o
  lib_for zero o some is = absurd (omega (arith, some))
  lib_for (suc j) o some is = ap (λ c. cond c (object_lying setting there place path b run (lib_place (name_in b run (suc j))) o) (object_listed setting there place path b run (name_in b run (suc j)) o)) is

  host_for : (j : ℕ) (o : Object) → 0 < j → is_bundled_in b run j ≡ false → object_for setting there place path b run j o ≡ object_listed setting there place path b run (name_in b run j) o
  host_for zero o some is = absurd (omega (arith, some))
  host_for (suc j) o some is = ap (λ c. cond c (object_lying setting there place path b run (lib_place (name_in b run (suc j))) o) (object_listed setting there place path b run (name_in b run (suc j)) o)) is

  -- A file of the directory, in the place of an object from here.
  pub record IsThere (target : List ℕ) (change : Change) (o q : Object) : Type 0 where
    pub item : IsItem face_or_flaw setting there place (as_items files) target q
    pub by : IsRewrittenBy change o q

  there_by : (target : List ℕ) (change : Change) (o q : Object) (file : MemFile) → file.path ≡ target → Contains files file → IsMadeOf config.setting.machine change o.face file.bytes → q ≡ object_lying setting there place path b run target o → IsThere target change o q
  there_by target change o q file path_is c m is =
      let face : Face = face_with m.bytes (wanted_of m.bytes change) in
      let seen = rewritten_face m.bytes file.bytes change o.face m.are_bytes m.reads m.fits m.made_is in
      let first : Object = record { path = target; id = target; face = face } in
      let by : IsRewrittenBy change o first = record { bytes = m.bytes; are_bytes = m.are_bytes; reads = m.reads; fits = m.fits; made = file.bytes; made_is = m.made_is; seen = seen } in
      let right = new_right config.setting.machine change o first by m.right in
      let found = lies_at setting there place files home.placed file face c (ap (λ k. is_other k file.bytes) home.machine ∙ right) seen in
      let same : q ≡ found.it = is ∙ ap (found_instead o) (ap (λ p. decision face_or_flaw setting there (At (joined place p))) (sym path_is) ∙ found.decides) in
      record {
        item = subst (λ x. IsItem face_or_flaw setting there place (as_items files) target x) (sym same) (subst (λ p. IsItem face_or_flaw setting there place (as_items files) p found.it) path_is found.item);
        by = record { bytes = m.bytes; are_bytes = m.are_bytes; reads = m.reads; fits = m.fits; made = file.bytes; made_is = m.made_is; seen = seen ∙ ap (λ (f : Face). Ok f) (sym found.seen ∙ ap (λ (x : Object). x.face) (sym same)) };
      }

  -- ---- the program

  pub record IsProgramPlaced (o q : Object) : Type 0 where
    pub made : IsProgramMade world config b number start run path at written o
    pub lies : IsThere path (change_of_program b.split b.layout (path_at number) made.stands) o q

  pub program_placed : (o q : Object) → slice_get loaded.objs 0 ≡ Some o → slice_get objs_there 0 ≡ Some q → IsProgramPlaced o q
  program_placed o q ho hq =
      let m = program_made world config b number start run path at written o ho in
      let object : Member × Change = (member_of m.stands, change_of_program b.split b.layout (path_at number) m.stands) in
      record {
        made = m;
        lies = there_by path (change_of_program b.split b.layout (path_at number) m.stands) o q (program_file world (path, object)) refl
            (program_lies world config b number path object at.is.lies m.object) m.made (there_at 0 o q ho hq);
      }

  -- ---- bundled libraries

  pub record IsLibPlaced (j : ℕ) (o q : Object) : Type 0 where
    pub stands_here : Stands world config b number start run path at j o
    pub lib : IsLibOf b run j stands_here.obj
    pub made : IsLibMade world config b number start run path at written o lib.lib.place
    pub lies : IsThere (lib_place (name_in b run j)) (change_of_lib b.split b.layout (all_files_named b.split b.layout b.faces b.runs) made.first) o q

  pub lib_placed : (j : ℕ) (o q : Object) → 0 < j → is_bundled_in b run j ≡ true → slice_get loaded.objs j ≡ Some o → slice_get objs_there j ≡ Some q → IsLibPlaced j o q
  lib_placed j o q some is ho hq =
      let s = stands world config b number start run path at j o ho in
      let lib = lib_of world config b number start run path at j s.obj some s.obj_is is in
      let m = lib_made world config b number start run path at written j o s.obj ho s.obj_is s.id s.face lib.lib in
      let change = change_of_lib b.split b.layout (all_files_named b.split b.layout b.faces b.runs) m.first in
      let object : Member × Change = (member_of m.first, change) in
      record {
        stands_here = s;
        lib = lib;
        made = m;
        lies = there_by (lib_place (name_in b run j)) change o q (lib_file world (lib.lib.name, object)) (ap lib_place (sym lib.name))
            (lib_lies world config b lib.lib.place lib.lib.name object lib.lib.named m.object) m.made (there_at j o q ho hq ∙ lib_for j o some is);
      }

  pub first_place : (j : ℕ) (o q : Object) (p : IsLibPlaced j o q) → IsFirst world config b number start run path at j o p.made.first
  first_place j o q p = record {
    found = p.made.found;
    first_there = p.made.first_there;
    seen = p.made.seen;
    lib = subst (IsLibAt b) p.stands_here.id p.lib.lib;
  }

  -- ---- host libraries

  pub record IsHostPlaced (j : ℕ) (o q : Object) : Type 0 where
    pub stands_here : Stands world config b number start run path at j o
    pub host : IsHostOf b run j stands_here.obj
    pub face : slice_get b.faces host.host.host.face ≡ Some o.face
    pub file : HasLibrary setting there (recorded_lib b.faces host.host.host)
    pub same : q ≡ file.it

  host_face : (j : ℕ) (o : Object) (s : Stands world config b number start run path at j o) (w : IsHostOf b run j s.obj) → slice_get b.faces w.host.host.face ≡ Some o.face
  host_face j o s w =
      let h = (members_stand b.faces b.runs config.names b.split at.builds.plan.split).hosts w.host.host (at_place b.split.hosts w.host.place w.host.host w.host.host_is) in
      let u = right_obj world config b number start run path at h.stands.run h.stands.obj h.stands.run_is (at_place h.stands.run.objs h.stands.number h.stands.obj h.stands.object) in
      let v = right_obj world config b number start run path at run s.obj (run_there world config b number start run path at) (at_place run.objs j s.obj s.obj_is) in
      let seen = same_face world config b number start run path at h.stands.obj s.obj u v (h.stands.id_is ∙ w.host.id_is) in
      let both : Some v.seen ≡ Some o.face = sym v.stands ∙ s.face in
      let one : v.seen ≡ o.face = cc in
      ap (slice_get b.faces) (sym h.stands.place) ∙ u.stands ∙ ap (λ (f : Face). Some f) (seen ∙ one)

  pub host_placed : (j : ℕ) (o q : Object) → 0 < j → is_bundled_in b run j ≡ false → slice_get loaded.objs j ≡ Some o → slice_get objs_there j ≡ Some q → IsHostPlaced j o q
  host_placed j o q some is ho hq =
      let s = stands world config b number start run path at j o ho in
      let w = host_of world config b number start run path at j s.obj some s.obj_is is in
      let lib : RecLib = recorded_lib b.faces w.host.host in
      let c : Contains (record_in b).libs lib = subst (λ ls. Contains ls lib) (sym (record_libs b)) (in_map (recorded_lib b.faces) b.split.hosts w.host.host (at_place b.split.hosts w.host.place w.host.host w.host.host_is)) in
      let named = (host_name world config b number start run path at w.host.place w.host.host w.host.host_is).0 in
      let f = has_file setting there home.dirs_normal (record_in b) home.meets lib c named in
      record {
        stands_here = s;
        host = w;
        face = host_face j o s w;
        file = f;
        same = there_at j o q ho hq ∙ host_for j o some is ∙ ap (found_instead o) (ap (listed_decision face_or_flaw setting there) w.name ∙ f.found);
      }

  -- ---- what is known of each

  pub as_program : (o q : Object) → slice_get loaded.objs 0 ≡ Some o → slice_get objs_there 0 ≡ Some q → IsProgramThere b run o q
  as_program o q ho hq =
      let p = program_placed o q ho hq in
      record { run_path = path_at number; stands = p.made.stands; at = p.made.stands_at; by = p.lies.by }

  pub as_lib : (j : ℕ) (o q : Object) → 0 < j → is_bundled_in b run j ≡ true → slice_get loaded.objs j ≡ Some o → slice_get objs_there j ≡ Some q → IsLibThere b run j o q
  as_lib j o q some is ho hq =
      let p = lib_placed j o q some is ho hq in
      record { stands = p.stands_here.it; at = p.stands_here.there; first = p.made.first; found = p.made.found; by = p.lies.by }

  pub as_host : (j : ℕ) (o q : Object) → 0 < j → is_bundled_in b run j ≡ false → slice_get loaded.objs j ≡ Some o → slice_get objs_there j ≡ Some q → IsHostThere b run setting there j o q
  as_host j o q some is ho hq =
      let p = host_placed j o q some is ho hq in
      record {
        number = p.host.host.place;
        host = p.host.host.host;
        stands = p.host.host.host_is;
        id = p.host.host.id_is ∙ p.stands_here.id;
        face = p.face;
        name = p.host.name;
        found = p.file.found ∙ ap (λ (x : Object). Some (Ok x)) (sym p.same);
      }

  -- ---- written files

  pub program_written : (o q : Object) → slice_get loaded.objs 0 ≡ Some o → slice_get objs_there 0 ≡ Some q → IsWritten face_or_flaw setting there place (as_items files) (name_in b run) loaded.log path o q × (q.face.soname ≡ None)
  program_written o q ho hq =
      let p = program_placed o q ho hq in
      let s = stands world config b number start run path at 0 o ho in
      let both : Some p.made.stands ≡ Some s.it = sym p.made.stands_at ∙ s.there in
      let one : p.made.stands ≡ s.it = cc in
      let texts = new_texts (change_of_program b.split b.layout (path_at number) p.made.stands) o q p.lies.by in
      let of_change = program_texts b (path_at number) p.made.stands in (
        record {
          item = p.lies.item;
          needs = texts.needs ∙ of_change.0 ∙ ap (new_needs b.split b.layout) one ∙ own_named world config b number start run path at 0 o s ho;
          rpath = texts.rpath;
          runpath =
              elim (chosen (has_bundled_need b.split b.layout p.made.stands || has_bundled_root b.split b.layout p.made.stands) (path_at number) q.face.runpath (texts.runpath ∙ of_change.2)) [
                | inl e ↦ inl e
                | inr e ↦ inr (program_leads setting there place files config number path q at.source.tools home.place_normal at.is.lies p.lies.item.lies e)
              ];
        },
        texts.soname ∙ of_change.1,
      )

  pub libs_lead : (j : ℕ) (o q : Object) (p : IsLibPlaced j o q) → q.face.runpath ≡ Some run_path_of_libs → LeadsToLibs face_or_flaw setting there place (as_items files) q
  libs_lead j o q p e =
      let named : IsFileName (name_in b run j) = subst IsFileName (sym p.lib.name) (all_at IsFileName b.layout.libs p.lib.lib.place p.lib.lib.name (layout_named world config b number start run path at) p.lib.lib.named) in
      leads_by setting there place files q (lib_place (name_in b run j)) (codes "$ORIGIN") p.lies.item.lies e (λ name h. lib_leads setting place (name_in b run j) name home.place_normal named h)

  pub lib_written : (j : ℕ) (o q : Object) → 0 < j → is_bundled_in b run j ≡ true → slice_get loaded.objs j ≡ Some o → slice_get objs_there j ≡ Some q → IsWritten face_or_flaw setting there place (as_items files) (name_in b run) loaded.log (lib_place (name_in b run j)) o q
  lib_written j o q some is ho hq =
      let p = lib_placed j o q some is ho hq in
      let texts = new_texts (change_of_lib b.split b.layout (all_files_named b.split b.layout b.faces b.runs) p.made.first) o q p.lies.by in
      let of_change = lib_texts b p.made.first in
      record {
        item = p.lies.item;
        needs = texts.needs ∙ of_change.0 ∙ first_named world config b number start run path at j o p.made.first p.stands_here (first_place j o q p) ho;
        rpath = texts.rpath;
        runpath =
            elim (chosen (has_bundled_need b.split b.layout p.made.first) run_path_of_libs q.face.runpath (texts.runpath ∙ of_change.2)) [
              | inl e ↦ inl e
              | inr e ↦ inr (libs_lead j o q p e)
            ];
      }

  pub lib_soname : (j : ℕ) (o q : Object) (p : IsLibPlaced j o q) (s : List ℕ) → q.face.soname ≡ Some s → s ≡ name_in b run j
  lib_soname j o q p s e =
      let texts = new_texts (change_of_lib b.split b.layout (all_files_named b.split b.layout b.faces b.runs) p.made.first) o q p.lies.by in
      let of_change = lib_texts b p.made.first in
      renamed_so b p.made.first p.stands_here.obj.id p.lib.lib.name p.made.first.face.soname s (p.made.same ∙ sym p.stands_here.id) p.lib.lib.known (sym of_change.1 ∙ sym texts.soname ∙ e) ∙ sym p.lib.name

  -- ---- host libraries are found

  pub host_file : (j : ℕ) (o q : Object) → 0 < j → is_bundled_in b run j ≡ false → slice_get loaded.objs j ≡ Some o → slice_get objs_there j ≡ Some q → IsHostFile face_or_flaw setting there place (as_items files) (name_in b run) loaded.log (name_in b run j) o q
  host_file j o q some is ho hq =
      let p = host_placed j o q some is ho hq in
      record {
        found = ap (listed_decision face_or_flaw setting there) p.host.name ∙ p.file.found ∙ ap (λ (x : Object). Some (Ok x)) (sym p.same);
        needs = ap (λ (x : Object). x.face.needs) p.same ∙ p.file.needs ∙ ap needs_in p.face ∙ sym (host_named world config b number start run path at j o p.stands_here p.host ho);
        run_path = subst HasNoRunPath (sym p.same) p.file.run_path;
      }

  pub host_soname : (j : ℕ) (o q : Object) (p : IsHostPlaced j o q) (s : List ℕ) → q.face.soname ≡ Some s → s ≡ name_in b run j
  host_soname j o q p s e = p.file.soname s (ap (λ (x : Object). x.face.soname) (sym p.same) ∙ e) ∙ sym p.host.name
