-- What a moved program opens at a place.
use Rattle.std.proofs.Common.{◌≡◌, ◌∙◌, sym, ap, ℕ, zero, suc, ◌<◌, List, [], ◌∷◌, ◌++◌, Bool, cond, Some, None, Result, length, map, take, slice_get, arith, subst, ◌⊎◌, inl, inr}
use Rattle.std.specs.Prelude.{All}
use Rattle.byte_view.specs.declared.flaws.Flaw.{Flaw}
use Rattle.path_text.specs.FileName.{IsFileName}
use Rattle.path_text.specs.Path.{IsNormalPath}
use Rattle.load_model.specs.Candidates.{Candidate, At, IsOpenedIn, candidates, listed_candidates, loader_in, opened_among, opened_by}
use Rattle.load_model.specs.Deciding.{IsUpToDeciding}
use Rattle.load_model.specs.Joined.{joined}
use Rattle.load_model.specs.LoadList.{Object, Request, Asked, Found, Loaded, count_after}
use Rattle.load_model.specs.Loads.{IsLoadList, goes_to}
use Rattle.load_model.specs.SameNames.{IsListedUpTo}
use Rattle.load_model.specs.World.{World, Absent, Other, Object as IsObject, file_at, is_other, kind_of, kind_of_file, kind_of_read}
use Rattle.load_model.specs.declared.faces.Face.{Face}
use Rattle.load_model.specs.declared.setting.Setting.{Setting}
use Rattle.load_model.specs.declared.world.WorldFile.{WorldFile}
use Rattle.load_model.proofs.DecidingLemmas.{opened_up, run_searched, up_opened}
use Rattle.load_model.proofs.History.{IsHistory, count_at, target_count}
use Rattle.load_model.proofs.ListedLemmas.{at_mapped, listed_cases, mapped_at}
use Rattle.load_model.proofs.LoadLists.{forget, history}
use Rattle.load_model.proofs.OneRun.{there}
use Rattle.load_model.proofs.Places.{slice_get-take, slice_get_front}
use Rattle.std.proofs.lemmas.List.{take-map}
use Rattle.moved_runs.specs.Moved.{all_renamed, renamed}
use Rattle.moved_runs.specs.OpenedThere.{IsHostPath, IsLibPath, MayBeOpened}
use Rattle.moved_runs.specs.Placed.{HasPath, Item, lib_place}
use Rattle.moved_runs.specs.Places.{IsItem, IsMoved}
use Rattle.moved_runs.proofs.MovedLemmas.{count_renamed, renamed_entry}
use Rattle.moved_runs.proofs.MovingLemmas.{each_there, no_rpath, runpath_cases}
use Rattle.moved_runs.proofs.SearchLemmas.{bare_candidates, led_candidates, lib_candidate, lib_candidate_cases, nothing_at}

module _ (read : List ℕ → Result Face Flaw) (setting : Setting) (world : World) where
  up_to_listed : (name path : List ℕ) → IsUpToDeciding read setting world (map (λ dir. At (joined dir name)) setting.dirs) path → IsListedUpTo read setting world name path
  up_to_listed name path w =
      let at = mapped_at (λ dir. At (joined dir name)) setting.dirs w.number (At path) w.stands in
      record {
        number = w.number;
        dir = at.0;
        listed = at.1;
        joined_is = cc (at.2);
        present = w.present;
        before = λ i d less g. w.before i (At (joined d name)) less (at_mapped (λ dir. At (joined dir name)) setting.dirs i d g);
      }

  listed_up_to : (name path : List ℕ) → All IsNormalPath setting.dirs → IsFileName name → IsUpToDeciding read setting world (listed_candidates setting name) path → IsListedUpTo read setting world name path
  listed_up_to name path d h w =
      elim (listed_cases setting name d h) [
        | inl e ↦ up_to_listed name path (subst (λ (cs : List Candidate). IsUpToDeciding read setting world cs path) e w)
        | inr e ↦ absurd (let none : None ≡ Some (At path) = ap (λ (cs : List Candidate). slice_get cs w.number) (sym e) ∙ w.stands in cc)
      ]

  one_path : (p path : List ℕ) (k : ℕ) → slice_get (p ∷ []) k ≡ Some path → path ≡ p
  one_path p path zero h = let e : p ≡ path = cc in sym e
  one_path p path (suc k) h = cc

  -- a search does not get past a file that is found
  only_found : (p path : List ℕ) (cs : List Candidate) (file : WorldFile) (face : Face) → kind_of read setting.machine world p ≡ IsObject file face → IsUpToDeciding read setting world (At p ∷ cs) path → path ≡ p
  unfolding opened_among
  only_found p path cs file face kind w =
      let o = up_opened read setting world (At p ∷ cs) path w in
      one_path p path o.0 (ap (λ k. slice_get (opened_by read setting world p k (opened_among read setting world cs)) o.0) (sym kind) ∙ o.1)

  -- and passes over a path where nothing lies
  past_absent : (p path : List ℕ) (cs : List Candidate) → kind_of read setting.machine world p ≡ Absent → IsUpToDeciding read setting world (At p ∷ cs) path → IsUpToDeciding read setting world cs path
  unfolding opened_among
  past_absent p path cs kind w =
      let o = up_opened read setting world (At p ∷ cs) path w in
      opened_up read setting world cs o.0 path (ap (λ k. slice_get (opened_by read setting world p k (opened_among read setting world cs)) o.0) (sym kind) ∙ o.1)

module _ (read : List ℕ → Result Face Flaw) (setting : Setting) (world : World) (place : List ℕ) (items : List Item) (name_of : ℕ → List ℕ) (is_bundled : ℕ → Bool) (program : List ℕ) (run : Loaded) (objs_there : List Object) (moved : IsMoved read setting world place items name_of is_bundled program run objs_there) where
  item_kind : (path : List ℕ) (q : Object) → IsItem read setting world place items path q → (file : WorldFile) × (kind_of read setting.machine world (joined place path) ≡ IsObject file q.face)
  item_kind path q is =
      let w = moved.placed.lies is.number is.item is.is_item in
      let lies : file_at world (joined place path) ≡ Some w.0 = ap (λ p. file_at world (joined place p)) (sym is.path_is) ∙ w.1 in (
        w.0,
        ap (kind_of_file read setting.machine) lies
            ∙ ap (λ b. cond b Other (kind_of_read read w.0 (read w.0.bytes))) (ap (is_other setting.machine) w.2 ∙ is.right)
            ∙ ap (kind_of_read read w.0) (ap read w.2 ∙ is.seen),
      )

  absent_kind : (target : List ℕ) → (HasPath items target → ⊥) → kind_of read setting.machine world (joined place target) ≡ Absent
  absent_kind target none = ap (kind_of_file read setting.machine) (nothing_at read setting world place items moved.place_normal moved.placed target none)

  below : (j : ℕ) (q : Object) → slice_get objs_there j ≡ Some q → j < length objs_there → j < length run.objs
  below j q g b = let size = moved.count in omega arith

  -- what the search for a new name opens
  search_opens : (c : ℕ) (m : ℕ) (a : Asked) (log : List Asked) (path : List ℕ) (q : Object) → slice_get run.log m ≡ Some a → a.request.by < c → a.request.by < length objs_there → slice_get objs_there a.target ≡ Some q → a.target < length objs_there → 0 < a.target → IsUpToDeciding read setting world (candidates setting (take c objs_there) (loader_in log) (renamed name_of a).request) path → IsLibPath read setting world place name_of is_bundled (length run.objs) path ⊎ IsHostPath read setting world place name_of is_bundled (length run.objs) path
  search_opens c m a log path q g by within gq inside some w =
      let x = there objs_there a.request.by within in
      let asker : slice_get (take c objs_there) a.request.by ≡ Some x.0 = slice_get_front c objs_there a.request.by x.0 by x.1 in
      let bare : (k : ℕ) (y : Object) → slice_get (take c objs_there) k ≡ Some y → y.face.rpath ≡ None = λ k y h. no_rpath read setting world place items name_of is_bundled program run objs_there moved k y (slice_get-take c objs_there k y h).1 in
      let n : List ℕ = name_of a.target in
      let bt : a.target < length run.objs = below a.target q gq inside in
      let file_name : IsFileName (name_of a.target) = moved.names a.target some bt in
      let r : Request = (renamed name_of a).request in
      elim (each_there read setting world place items name_of is_bundled program run objs_there moved a.target q gq) [
        | inl d ↦
            elim d.path_is [
              | inl z ↦ let e = z.0 in absurd (omega arith)
              | inr b ↦
                  let leads = moved.askers m a x.0 g b.1 x.1 in
                  let item : IsItem read setting world place items (lib_place (name_of a.target)) q = subst (λ (p : List ℕ). IsItem read setting world place items p q) b.2 d.written.item in
                  let kind = item_kind (lib_place (name_of a.target)) q item in
                  let cs : candidates setting (take c objs_there) (loader_in log) r ≡ At (joined place (lib_place (name_of a.target))) ∷ listed_candidates setting (name_of a.target) =
                  led_candidates setting (take c objs_there) (loader_in log) bare read world place items r x.0 asker file_name leads
                  ∙ ap (λ ds. ds ++ listed_candidates setting (name_of a.target)) (lib_candidate read setting world place items moved.place_normal moved.placed (name_of a.target) file_name (moved.texts a.target some bt b.1)) in
                  inl (record {
                    number = a.target;
                    some = some;
                    below = bt;
                    bundled = b.1;
                    path_is = only_found read setting world (joined place (lib_place (name_of a.target))) path (listed_candidates setting (name_of a.target)) kind.0 q.face kind.1 (subst (λ (ds : List Candidate). IsUpToDeciding read setting world ds path) cs w);
                  })
            ]
        | inr h ↦
            let listed : IsUpToDeciding read setting world (listed_candidates setting (name_of a.target)) path =
            elim (runpath_cases read setting world place items name_of is_bundled program run objs_there moved a.request.by x.0 x.1) [
              | inl none ↦ subst (λ (ds : List Candidate). IsUpToDeciding read setting world ds path) (bare_candidates setting (take c objs_there) (loader_in log) bare r x.0 asker file_name none) w
              | inr leads ↦
                  let led = subst (λ (ds : List Candidate). IsUpToDeciding read setting world ds path) (led_candidates setting (take c objs_there) (loader_in log) bare read world place items r x.0 asker file_name leads) w in
                  elim (lib_candidate_cases read setting world place items moved.place_normal moved.placed (name_of a.target) file_name) [
                    | inl e ↦
                        past_absent read setting world (joined place (lib_place (name_of a.target))) path (listed_candidates setting (name_of a.target))
                        (absent_kind (lib_place (name_of a.target)) (moved.off_list a.target some bt h.not_bundled))
                        (subst (λ (ds : List Candidate). IsUpToDeciding read setting world (ds ++ listed_candidates setting (name_of a.target)) path) e led)
                    | inr e ↦ subst (λ (ds : List Candidate). IsUpToDeciding read setting world (ds ++ listed_candidates setting (name_of a.target)) path) e led
                  ]
            ] in
            inr (record { number = a.target; some = some; below = bt; of_host = h.not_bundled; listed = listed_up_to read setting world (name_of a.target) path moved.dirs_normal file_name listed })
      ]

  module _ {X : Type 0} (answer : List Object → List Asked → Request → Result Found X) (hist : IsHistory answer run.objs run.log) where
    pub opens_only : (path : List ℕ) → IsOpenedIn read setting world (joined place program) (record { objs = objs_there; log = all_renamed name_of run.log }) path → MayBeOpened read setting world place name_of is_bundled (length run.objs) program path
    opens_only path opened =
        elim (run_searched read setting world (joined place program) (record { objs = objs_there; log = all_renamed name_of run.log }) path opened) [
          | inl e ↦ inl e
          | inr s ↦
              let v = renamed_entry name_of run.log s.number s.asked s.stands in
              let asker : v.0.request.by < count_after (take s.number run.log) = (hist.answered s.number v.0 v.1).asker in
              let same : count_after (take s.number (all_renamed name_of run.log)) ≡ count_after (take s.number run.log) = ap count_after (take-map (λ a. renamed name_of a) s.number run.log) ∙ count_renamed name_of 1 (take s.number run.log) in
              let most = count_at run.log s.number in
              let whole = hist.whole in
              let inside = target_count run.log s.number v.0 v.1 in
              let size = moved.count in
              let q = there objs_there v.0.target (omega arith) in
              let reached = subst (λ (b : Asked). IsUpToDeciding read setting world (candidates setting (take (count_after (take s.number (all_renamed name_of run.log))) objs_there) (loader_in (take s.number (all_renamed name_of run.log))) b.request) path) v.2 s.searched.reached in
              inr (search_opens (count_after (take s.number (all_renamed name_of run.log))) s.number v.0 (take s.number (all_renamed name_of run.log)) path q.0 v.1 (omega arith) (omega arith) q.1 (omega arith) (moved.never s.number v.0 v.1) reached)
        ]

pub moved_opens : (read : List ℕ → Result Face Flaw) (setting setting_there : Setting) (here there_world : World) (path : List ℕ) (opens : List (List ℕ)) (loaded : Loaded) (ends : List Loaded) (place : List ℕ) (items : List Item) (name_of : ℕ → List ℕ) (is_bundled : ℕ → Bool) (program : List ℕ) (objs_there : List Object) → IsLoadList read setting here path opens loaded ends → IsMoved read setting_there there_world place items name_of is_bundled program loaded objs_there → (p : List ℕ) → IsOpenedIn read setting_there there_world (joined place program) (record { objs = objs_there; log = all_renamed name_of loaded.log }) p → MayBeOpened read setting_there there_world place name_of is_bundled (length loaded.objs) program p
moved_opens read setting setting_there here there_world path opens loaded ends place items name_of is_bundled program objs_there list moved p opened =
    opens_only read setting_there there_world place items name_of is_bundled program loaded objs_there moved (goes_to read setting here path)
    (history read setting here path list.program opens loaded (forget read setting here path list.program opens loaded ends list.run)) p opened
