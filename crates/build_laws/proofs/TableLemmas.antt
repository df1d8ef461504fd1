-- The faces of a build are read of files of the world, so their names are texts, and those of the
-- libraries too.
use Rattle.std.proofs.Common.{◌≡◌, ◌∙◌, sym, ap, subst, ℕ, ◌==◌, List, All, true, false, Option, Some, None, Ok, get_or, length, slice_get, arith}
use Rattle.std.specs.Prelude.{IfSome, IsUtf8, not}
use Rattle.std.specs.List.{Contains}
use Rattle.std.specs.Str.{is_utf8}
use Rattle.std.proofs.lemmas.Bool.{and_from, and_parts, ne_eqb, not_from_false}
use Rattle.std.proofs.lemmas.List.Elements.{All-contains}
use Rattle.std.proofs.lemmas.List.Folds.{list_any_none}
use Rattle.std.proofs.lemmas.Option.{slice_get-get_or, slice_get_within}
use Rattle.std.proofs.lemmas.Str.{IsUtf8-from_is_utf8, is_utf8-from_IsUtf8}
use Rattle.app_config.specs.declared.config.Config.{Config}
use Rattle.build_plan.specs.Building.{Building, starts_of}
use Rattle.build_runs.specs.BuildRuns.{IsFileIn, face_places, places_in}
use Rattle.build_runs.specs.declared.programs.Start.{Start}
use Rattle.build_runs.proofs.FileLemmas.{file_of_object}
use Rattle.elf_rewrite.specs.NewFile.{is_name_text}
use Rattle.lib_closure.specs.declared.splits.HostLib.{HostLib}
use Rattle.lib_closure.specs.declared.splits.Member.{Member}
use Rattle.lib_closure.proofs.ContainedLemmas.{all_of, at_place, of_flat_map, of_map, place_of}
use Rattle.lib_closure.proofs.NumberLemmas.{number_at}
use Rattle.lib_closure.proofs.SplitLemmas.{members_stand}
use Rattle.load_model.specs.Faces.{face_or_flaw}
use Rattle.load_model.specs.LoadList.{up_to}
use Rattle.load_model.specs.World.{World, file_at}
use Rattle.load_model.specs.declared.faces.Face.{Face}
use Rattle.load_model.specs.declared.runs.Obj.{Obj}
use Rattle.load_model.specs.declared.runs.Run.{Run}
use Rattle.load_model.specs.declared.world.WorldFile.{WorldFile}
use Rattle.moved_runs.proofs.SearchLemmas.{find_at}
use Rattle.name_layout.specs.Laws.{HaveTextKeys}
use Rattle.object_changes.specs.Fitting.{AreFitting, AreNameTexts, HasNameTexts}
use Rattle.object_changes.specs.Changing.{changes_of}
use Rattle.object_changes.proofs.FittingLemmas.{all_fit}
use Rattle.object_changes.proofs.StandingLemmas.{all_at}
use Rattle.object_rewriting.proofs.NamingLemmas.{with_face}
use Rattle.path_text.specs.FileName.{IsFileName}
use Rattle.path_text.specs.Path.{IsNormalPath, has_nul}
use Rattle.tree_opener.specs.Names.{HasTextNames, is_name_or_none}
use Rattle.tree_opener.proofs.NameTextLemmas.{text_names}
use Rattle.build_laws.specs.BuiltRuns.{IsRunIn}
use Rattle.build_laws.proofs.NamesLemmas.{host_name, layout_named, layout_texts}

-- A name that a file can be given has no zero byte.
no_nul : (name : List ℕ) → IsFileName name → has_nul name ≡ false
no_nul name h = list_any_none (λ c. c == 0) name (λ i d less. ne_eqb (get_or name i d) 0 (λ e. let low = (h.bytes i d less).2 in omega (arith, low, e)))

name_text : (name : List ℕ) → IsFileName name → IsUtf8 name → is_name_text name ≡ true
name_text name h t = and_from (is_utf8 name) (not (has_nul name)) (is_utf8-from_IsUtf8 name t) (not_from_false (has_nul name) (no_nul name h))

text_if_any : (text : Option (List ℕ)) → is_name_or_none text ≡ true → IfSome text IsUtf8
text_if_any None h = tt
text_if_any (Some t) h = IsUtf8-from_is_utf8 t (and_parts (is_utf8 t) (not (has_nul t)) h).0

module _ (world : World) (config : Config) (b : Building) (number : ℕ) (start : Start) (run : Run) (path : List ℕ) (at : IsRunIn world config b number start run path) where
  file_of : (r : Run) (x : Obj) → Contains b.runs r → Contains r.objs x → IsFileIn world b.faces x
  file_of r x c d = file_of_object config.setting world (starts_of config) b.faces b.runs c.0 d.0 r x at.builds.runs (place_of b.runs r c) (place_of r.objs x d)

  -- Each face is read of a file.
  face_read : (k : ℕ) (face : Face) → slice_get b.faces k ≡ Some face → (bytes : List ℕ) × (face_or_flaw bytes ≡ Ok face)
  face_read k face h =
      let less = slice_get_within b.faces k face h in
      let c : Contains (face_places b.runs) k = subst (λ ns. Contains ns k) (sym at.builds.runs.in_order) (at_place (up_to (length b.faces)) k k (number_at (length b.faces) k less)) in
      let w = of_flat_map (λ (r : Run). places_in r.objs) b.runs k c in
      let x = of_map (λ (y : Obj). y.face) w.from.objs k w.is in
      let f = file_of w.from x.from w.there x.there in
      let both : Some f.face ≡ Some face = sym f.stands ∙ ap (slice_get b.faces) x.is ∙ h in
      let one : f.face ≡ face = cc in
      (f.file.bytes, f.reads ∙ ap (λ (g : Face). Ok g) one)

  names_of_face : (k : ℕ) (face : Face) → slice_get b.faces k ≡ Some face → HasTextNames face
  names_of_face k face h =
      let w = face_read k face h in
      let is = with_face w.0 face w.1 in
      subst HasTextNames (sym is.1) (text_names w.0 is.0)

  faces_texts : All HasNameTexts b.faces
  faces_texts = λ k d less. let f = names_of_face k (get_or b.faces k d) (slice_get-get_or b.faces k d less) in record { needs = f.needs; soname = f.soname; files = f.files }

  -- ---- keys are texts

  path_normal : (p : List ℕ) (f : WorldFile) → file_at world p ≡ Some f → IsNormalPath p
  path_normal p f lies =
      let w = find_at p world f lies in
      subst IsNormalPath w.2 (all_at (λ (g : WorldFile). IsNormalPath g.path) world w.0 f at.source.world_is.paths w.1)

  lib_path : (i : ℕ) (lib : Member) → slice_get b.split.libs i ≡ Some lib → IsNormalPath lib.path
  lib_path i lib h =
      let s = (members_stand b.faces b.runs config.names b.split at.builds.plan.split).libs lib (at_place b.split.libs i lib h) in
      let f = file_of s.run s.obj s.run_is (at_place s.run.objs s.number s.obj s.object) in
      subst IsNormalPath s.path_is (path_normal s.obj.path f.file f.lies)

  pub text_keys : HaveTextKeys b.faces b.split
  text_keys = record {
    sonames = λ k d less. text_if_any (get_or b.faces k d).soname (names_of_face k (get_or b.faces k d) (slice_get-get_or b.faces k d less)).soname;
    paths = λ k d less. lib_path k (get_or b.split.libs k d) (slice_get-get_or b.split.libs k d less);
  }

  pub names_are_texts : All IsUtf8 b.layout.libs
  names_are_texts = layout_texts world config b number start run path at text_keys

  -- ---- changes fit

  layout_text : (name : List ℕ) → Contains b.layout.libs name → is_name_text name ≡ true
  layout_text name c =
      name_text name (All-contains IsFileName b.layout.libs name (layout_named world config b number start run path at) c) (All-contains IsUtf8 b.layout.libs name names_are_texts c)

  host_text : (host : HostLib) → Contains b.split.hosts host → is_name_text host.name ≡ true
  host_text host c =
      let named = host_name world config b number start run path at c.0 host (place_of b.split.hosts host c) in
      name_text host.name named.0 named.1

  name_texts : AreNameTexts b.faces b.split b.layout
  name_texts = record {
    faces_texts = faces_texts;
    keys = all_of (λ (host : HostLib). is_name_text host.name) b.split.hosts host_text;
    names = all_of is_name_text b.layout.libs layout_text;
  }

  pub fitting : AreFitting b.faces b.split (changes_of b.faces b.runs b.split b.layout)
  fitting = all_fit b.faces b.runs config.names b.split b.layout at.over at.builds.plan.split name_texts
