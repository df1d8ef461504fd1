-- The asks of what is written are those from here, by the names of the objects that they went to.
use Rattle.std.proofs.Common.{◌≡◌, ◌∙◌, sym, ap, refl, subst, ℕ, ◌<◌, List, [], true, false, Some, map, slice_get, inl, inr}
use Rattle.std.specs.List.{Contains}
use Rattle.std.specs.Option.{unwrap_or}
use Rattle.std.proofs.lemmas.Option.{get_or_from_slice_get}
use Rattle.app_config.specs.declared.config.Config.{Config}
use Rattle.build_plan.specs.Building.{Building}
use Rattle.build_runs.specs.declared.programs.Start.{Start}
use Rattle.elf_rewrite.specs.NewFile.{text_at}
use Rattle.lib_closure.specs.Objects.{Occurrence, occurrence_at, own_asks}
use Rattle.lib_closure.specs.SplitLaws.{IsLibId}
use Rattle.lib_closure.proofs.PlacedLemmas.{Comes, FirstOf, Occurs, first_in_all, in_all, occurs, of_all}
use Rattle.load_model.specs.LoadList.{Loaded, Object}
use Rattle.load_model.specs.VersionCheck.{version_file_of}
use Rattle.load_model.specs.World.{World}
use Rattle.load_model.specs.declared.asks.Ask.{Ask}
use Rattle.load_model.specs.declared.faces.Face.{Face}
use Rattle.load_model.specs.declared.runs.Obj.{Obj}
use Rattle.load_model.specs.declared.runs.Run.{Run}
use Rattle.load_model.proofs.AskedNeeds.{map_get}
use Rattle.moved_runs.specs.Alike.{IsSameAsk, is_written}
use Rattle.object_changes.specs.Changing.{change_of_lib, change_of_program, first_told, own_file, own_files, told_files}
use Rattle.object_changes.specs.NamedFiles.{NamedFile, all_files_named, told_name}
use Rattle.build_laws.specs.BuiltRuns.{IsRunIn}
use Rattle.build_laws.specs.Renaming.{is_bundled_in, name_in}
use Rattle.moved_builds.proofs.AskMadeLemmas.{ask_made}
use Rattle.moved_builds.proofs.AskedFileLemmas.{IsFileNamed, beside_named, file_named, named_in, not_program, one_face, own_ask_at}
use Rattle.build_laws.proofs.BesideLemmas.{IsLibThere, IsProgramThere}
use Rattle.met_hosts.proofs.HostNumberLemmas.{lib_id}
use Rattle.build_laws.proofs.RunInLemmas.{obj_here, run_there}
use Rattle.moved_builds.proofs.SymbolsKeptLemmas.{written_cases}
use Rattle.moved_builds.proofs.ToldFileLemmas.{first_place, told_there}

-- ---- the files of a change

program_files : (b : Building) (run_path : List ℕ) (p : Occurrence) → (change_of_program b.split b.layout run_path p).files ≡ own_files b.split b.layout p
unfolding change_of_program
program_files b run_path p = refl

lib_files : (b : Building) (named : List NamedFile) (p : Occurrence) → (change_of_lib b.split b.layout named p).files ≡ told_files named p
unfolding change_of_lib
lib_files b named p = refl

own_text : (b : Building) (r : Run) (j k t : ℕ) (p : Occurrence) (ask : Ask) → Occurs b.faces r j p → slice_get p.face.asks k ≡ Some ask → version_file_of b.faces r j ask.file ≡ Some t → (w : IsFileNamed b p r t) → text_at (own_files b.split b.layout p) k ≡ w.name
unfolding own_files
own_text b r j k t p ask is a file w =
    let asked : slice_get (own_asks p) k ≡ Some (ask, Some t) = own_ask_at b.faces r j k p ask is a ∙ ap (λ o. Some (ask, o)) file in
    let at : slice_get (map (own_file b.split b.layout p) (own_asks p)) k ≡ Some w.name =
    map_get (own_file b.split b.layout p) (own_asks p) k (ask, Some t) asked ∙ ap (λ o. Some (unwrap_or o ask.file)) (beside_named b p r t w) in
    get_or_from_slice_get (map (own_file b.split b.layout p) (own_asks p)) k w.name [] at

told_text : (named : List NamedFile) (p : Occurrence) (k : ℕ) (ask : Ask) (name : List ℕ) → slice_get p.face.asks k ≡ Some ask → told_name named p.obj.id ask.file ≡ Some name → text_at (told_files named p) k ≡ name
unfolding told_files
told_text named p k ask name a told =
    let at : slice_get (map (first_told named p) p.face.asks) k ≡ Some name = map_get (first_told named p) p.face.asks k ask a ∙ ap (λ o. Some (unwrap_or o ask.file)) told in
    get_or_from_slice_get (map (first_told named p) p.face.asks) k name [] at

-- ---- the law

module _ (world : World) (config : Config) (b : Building) (number : ℕ) (start : Start) (run : Run) (path : List ℕ) (at : IsRunIn world config b number start run path) where
  abbrev loaded : Loaded
  loaded = at.plays.loads.loaded

  among : Contains b.runs run
  among = run_there world config b number start run path at

  -- Where an object of the load list stands.
  record IsThere (j : ℕ) (o : Object) (p : Occurrence) : Type 0 where
    is : Occurs b.faces run j p
    face : p.face ≡ o.face
    id : p.obj.id ≡ o.id

  stands_for : (j : ℕ) (o : Object) (p : Occurrence) → slice_get loaded.objs j ≡ Some o → occurrence_at b.faces run j ≡ Some p → IsThere j o p
  stands_for j o p h e =
      let x = obj_here world config b number start run path at j o h in
      let is = occurs b.faces run j p e in
      let both : Some p.obj ≡ Some x.obj = sym is.obj ∙ x.stands in
      let same : p.obj ≡ x.obj = cc in
      let faces : Some p.face ≡ Some o.face = sym is.face ∙ ap (λ (y : Obj). slice_get b.faces y.face) same ∙ x.face in
      let face : p.face ≡ o.face = cc in
      record { is = is; face = face; id = ap (λ (y : Obj). y.id) same ∙ x.id }

  abbrev IsAsked : ℕ → ℕ → Object → Ask → Type 0
  IsAsked j k o ask = (here : Ask) × (slice_get o.face.asks k ≡ Some here) × IsSameAsk b.faces run (name_in b run) j here ask

  program_asks : (k : ℕ) (o q : Object) (ask : Ask) → slice_get loaded.objs 0 ≡ Some o → IsProgramThere b run o q → slice_get q.face.asks k ≡ Some ask → IsAsked 0 k o ask
  program_asks k o q ask h w a =
      let made = ask_made (change_of_program b.split b.layout w.run_path w.stands) o q k ask w.by a in
      let p = stands_for 0 o w.stands h w.at in
      let here_is : slice_get w.stands.face.asks k ≡ Some made.here = ap (λ (f : Face). slice_get f.asks k) p.face ∙ made.here_is in (
        made.here,
        made.here_is,
        record {
          name = made.name;
          weak = made.weak;
          file = λ t f.
              let n = file_named world config b number start run path at run 0 k t w.stands made.here among p.is here_is f in (
                not_program world config b number start run path at t n.obj n.stands n.library,
                made.file ∙ ap (λ fs. text_at fs k) (program_files b w.run_path w.stands) ∙ own_text b run 0 k t w.stands made.here p.is here_is f n ∙ sym (named_in b w.stands run t n),
              );
        },
      )

  lib_asks : (j k : ℕ) (o q : Object) (ask : Ask) → is_bundled_in b run j ≡ true → slice_get loaded.objs j ≡ Some o → IsLibThere b run j o q → slice_get q.face.asks k ≡ Some ask → ask.weak ≡ false → IsAsked j k o ask
  lib_asks j k o q ask lib h w a weak =
      let named : List NamedFile = all_files_named b.split b.layout b.faces b.runs in
      let made = ask_made (change_of_lib b.split b.layout named w.first) o q k ask w.by a in
      let p = stands_for j o w.stands h w.at in
      let x = obj_here world config b number start run path at j o h in
      let id : IsLibId b.split o.id = subst (IsLibId b.split) x.id (lib_id b config.names at.builds.plan.split at.over run among j x.obj lib x.stands) in
      let first : FirstOf b.faces b.runs o.id = first_place b o.id w.first w.found in
      let here : Comes b.faces b.runs w.stands = record { run = run; there = among; number = j; at = w.at } in
      let face : w.first.face ≡ o.face = one_face world config b number start run path at w.first w.stands (of_all b.faces b.runs w.first (first_in_all b.faces b.runs w.first first.there)) here (first.same ∙ sym p.id) ∙ p.face in
      let first_is : slice_get w.first.face.asks k ≡ Some made.here = ap (λ (f : Face). slice_get f.asks k) face ∙ made.here_is in
      let here_is : slice_get w.stands.face.asks k ≡ Some made.here = ap (λ (f : Face). slice_get f.asks k) p.face ∙ made.here_is in (
        made.here,
        made.here_is,
        record {
          name = made.name;
          weak = made.weak;
          file = λ t f.
              let n = file_named world config b number start run path at run j k t w.stands made.here among p.is here_is f in
              let told = told_there world config b number start run path at o.id id first k made.here first_is (sym made.weak ∙ weak) w.stands here t (in_all b.faces b.runs run j w.stands among w.at) p.id here_is f n in (
                not_program world config b number start run path at t n.obj n.stands n.library,
                made.file ∙ ap (λ fs. text_at fs k) (lib_files b named w.first) ∙ told_text named w.first k made.here n.name first_is (ap (λ i. told_name named i made.here.file) first.same ∙ told) ∙ sym (named_in b w.stands run t n),
              );
        },
      )

  module _ (objs_there : List Object) (program_there : (o q : Object) → slice_get loaded.objs 0 ≡ Some o → slice_get objs_there 0 ≡ Some q → IsProgramThere b run o q) (libs_there : (j : ℕ) (o q : Object) → 0 < j → is_bundled_in b run j ≡ true → slice_get loaded.objs j ≡ Some o → slice_get objs_there j ≡ Some q → IsLibThere b run j o q) where
    pub asks_there : (j k : ℕ) (o q : Object) (ask : Ask) → is_written (is_bundled_in b run) j ≡ true → slice_get loaded.objs j ≡ Some o → slice_get objs_there j ≡ Some q → slice_get q.face.asks k ≡ Some ask → ask.weak ≡ false → (here : Ask) × (slice_get o.face.asks k ≡ Some here) × IsSameAsk b.faces run (name_in b run) j here ask
    asks_there j k o q ask written h g a weak =
        elim (written_cases (is_bundled_in b run) j written) [
          | inl first ↦
              let here : slice_get loaded.objs 0 ≡ Some o = ap (slice_get loaded.objs) (sym first) ∙ h in
              let there : slice_get objs_there 0 ≡ Some q = ap (slice_get objs_there) (sym first) ∙ g in
              subst (λ n. IsAsked n k o ask) (sym first) (program_asks k o q ask here (program_there o q here there) a)
          | inr lib ↦ lib_asks j k o q ask lib.1 h (libs_there j o q lib.0 lib.1 h g) a weak
        ]
