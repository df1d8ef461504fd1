-- A configuration comes to one thing in a world.
use Rattle.std.proofs.Common.{◌≡◌, ◌∙◌, sym, ap, refl, subst, ℕ, zero, suc, ◌+◌, ◌<◌, ◌≤◌, arith, List, [], ◌∷◌, ◌++◌, Bool, true, false, Option, Some, None, Result, Ok, Err, length, take, inl, inr}
use Rattle.std.proofs.lemmas.List.{take_all}
use Rattle.std.proofs.lemmas.Bool.{cases_lt}
use Rattle.app_config.specs.declared.config.Config.{Config}
use Rattle.build_plan.specs.Building.{Building, IsBuilding, starts_of}
use Rattle.build_plan.specs.Deciding.{HasClash, OfRuns}
use Rattle.build_runs.proofs.LawLemmas.{at_most_one_build, runs_or_stop}
use Rattle.build_texts.specs.Texts.{record_in}
use Rattle.extra_files.proofs.LawLemmas.{one_extra_fault}
use Rattle.host_list.specs.Meeting.{first_difference}
use Rattle.lib_closure.specs.Splits.{split_of}
use Rattle.lib_closure.specs.declared.splits.Member.{Member}
use Rattle.lib_closure.specs.declared.splits.Split.{Split}
use Rattle.lib_closure.proofs.ContainedLemmas.{is_there}
use Rattle.load_model.specs.Faces.{face_or_flaw}
use Rattle.load_model.specs.World.{World}
use Rattle.load_model.specs.declared.faces.Face.{Face}
use Rattle.load_model.specs.declared.runs.Run.{Run}
use Rattle.name_layout.specs.Layouts.{AreNames, HasName, IsFirstFree, candidate_name, first_name_stop, given_names, is_free, member_key, opened_name}
use Rattle.name_layout.specs.declared.layouts.Layout.{Layout}
use Rattle.refusals.specs.declared.refusal.Refusal.{Refusal}
use Rattle.refusals.specs.declared.refusal.Refusal.TheVariants.{Config as Configuration, Load, Split as RefusesSplit, Names, Rewrite, Files, Folder}
use Rattle.appdir_build.specs.Objects.{first_unwritten}
use Rattle.appdir_build.specs.Outcome.{IsNoHost, Outcome, Package, SourceMeets, listing_stop}
use Rattle.appdir_build.proofs.FirstLemmas.{one_more}

-- ---- names

not_both : (b : Bool) → b ≡ true → b ≡ false → ⊥
not_both true e f = cc
not_both false e f = cc

not_earlier : (names taken : List (List ℕ)) (key one other : List ℕ) (a : IsFirstFree names taken key one) (b : IsFirstFree names taken key other) → a.number < b.number → ⊥
not_earlier names taken key one other a b less =
    not_both (is_free names taken one) a.free (subst (λ n. is_free names taken n ≡ false) (sym a.spelled) (b.before a.number less))

-- At most one name is the first that is free.
first_free_one : (names taken : List (List ℕ)) (key one other : List ℕ) → IsFirstFree names taken key one → IsFirstFree names taken key other → one ≡ other
first_free_one names taken key one other a b = go (same a.number b.number (not_earlier names taken key one other a b) (not_earlier names taken key other one b a))
  where
    same : (m n : ℕ) → (m < n → ⊥) → (n < m → ⊥) → m ≡ n
    same m n f g = elim (cases_lt m n) [ inl less ↦ absurd (f less) | inr more ↦ elim (cases_lt n m) [ inl less ↦ absurd (g less) | inr rest ↦ omega (arith, more, rest) ] ]

    go : a.number ≡ b.number → one ≡ other
    go e = a.spelled ∙ (ap (candidate_name key) e ∙ sym b.spelled)

module _ (faces : List Face) (runs : List Run) (split : Split) (names : List (List ℕ)) where
  name_one : (taken : List (List ℕ)) (lib : Member) (one other : List ℕ) (opened : Option (List ℕ)) → HasName faces runs split names taken lib one opened → HasName faces runs split names taken lib other opened → one ≡ other
  name_one taken lib one other None a b = first_free_one names taken (member_key faces lib) one other a b
  name_one taken lib one other (Some opened) a b = a ∙ sym b

  fronts_one : (ls ms : List (List ℕ)) → AreNames faces runs split names ls → AreNames faces runs split names ms → (n : ℕ) → n ≤ length split.libs → take n ls ≡ take n ms
  fronts_one ls ms a b zero h = refl
  fronts_one ls ms a b (suc n) h =
      let counts = a.count in
      let others = b.count in
      let before = fronts_one ls ms a b n (omega (arith, h)) in
      let lib = is_there split.libs n (omega (arith, h)) in
      let one = is_there ls n (omega (arith, h, counts)) in
      let other = is_there ms n (omega (arith, h, others)) in
      let given = given_names runs split in
      let same = name_one (given ++ take n ls) lib.it one.it other.it (opened_name runs lib.it) (a.each n lib.it one.it lib.is one.is)
      (subst (λ front. HasName faces runs split names (given ++ front) lib.it other.it (opened_name runs lib.it)) (sym before) (b.each n lib.it other.it lib.is other.is)) in
      let up : suc n ≡ n + 1 = omega arith in
      ap (λ k. take k ls) up ∙ (one_more ls n one.it one.is ∙ (ap (λ x. take n ls ++ (x ∷ [])) same ∙ (ap (λ t. t ++ (other.it ∷ [])) before ∙ (sym (one_more ms n other.it other.is) ∙ ap (λ k. take k ms) (sym up)))))

  -- The libraries of a split have at most one layout.
  pub names_are_one : (ls ms : List (List ℕ)) → AreNames faces runs split names ls → AreNames faces runs split names ms → ls ≡ ms
  names_are_one ls ms a b =
      let counts = a.count in
      let others = b.count in
      sym (take_all (length split.libs) ls (omega (arith, counts))) ∙ (fronts_one ls ms a b (length split.libs) (omega arith) ∙ take_all (length split.libs) ms (omega (arith, others)))

-- ---- buildings

ok_same : {A E : Type 0} (r s : Result A E) (a b : A) → r ≡ Ok a → s ≡ Ok b → r ≡ s → a ≡ b
ok_same r s a b e f g = cc

layout_same : (one other : Layout) → one.libs ≡ other.libs → one ≡ other
layout_same one other e = ap (λ (libs : List (List ℕ)). record { libs = libs }) e

building_by : (a b : Building) → a.faces ≡ b.faces → a.runs ≡ b.runs → a.split ≡ b.split → a.layout ≡ b.layout → a ≡ b
building_by a b e f g h =
    ap (λ x. record { faces = x; runs = a.runs; split = a.split; layout = a.layout }) e
    ∙ (ap (λ x. record { faces = b.faces; runs = x; split = a.split; layout = a.layout }) f
    ∙ (ap (λ x. record { faces = b.faces; runs = b.runs; split = x; layout = a.layout }) g
    ∙ ap (λ x. record { faces = b.faces; runs = b.runs; split = b.split; layout = x }) h))

-- What is decided in a world is one.
pub one_building : (world : World) (config : Config) (a b : Building) → IsBuilding world config a → IsBuilding world config b → a ≡ b
one_building world config a b one other =
    let same = at_most_one_build config.setting world (starts_of config) a.faces b.faces a.runs b.runs one.runs other.runs in
    let split = ok_same (split_of a.faces a.runs config.names) (split_of b.faces b.runs config.names) a.split b.split one.plan.split other.plan.split (ap (λ f. split_of f a.runs config.names) same.0 ∙ ap (λ r. split_of b.faces r config.names) same.1) in
    let layout = names_are_one b.faces b.runs b.split config.names a.layout.libs b.layout.libs
    (subst (λ s. AreNames b.faces b.runs s config.names a.layout.libs) split (subst (λ r. AreNames b.faces r a.split config.names a.layout.libs) same.1 (subst (λ f. AreNames f a.runs a.split config.names a.layout.libs) same.0 one.plan.layout))) other.plan.layout in
    building_by a b same.0 same.1 split (layout_same a.layout b.layout layout)

-- ---- outcomes

none_some : {A : Type 0} (o : Option A) (a : A) → o ≡ None → o ≡ Some a → ⊥
none_some o a e f = cc

ok_err : {A E : Type 0} (r s : Result A E) (a : A) (x : E) → r ≡ Ok a → s ≡ Err x → r ≡ s → ⊥
ok_err r s a x e f g = cc

no_clash : (world : World) (config : Config) (made : Package) (refusal : Refusal) → Outcome world config (Ok made) → OfRuns world config (HasClash config.names refusal) → ⊥
no_clash world config made refusal p r =
    let b = p.building in
    let same = at_most_one_build config.setting world (starts_of config) b.faces r.faces b.runs r.runs p.builds.runs r.loads in
    ok_err (split_of b.faces b.runs config.names) (split_of r.faces r.runs config.names) b.split r.are_such.clash p.builds.plan.split r.are_such.clashes (ap (λ f. split_of f b.runs config.names) same.0 ∙ ap (λ t. split_of r.faces t config.names) same.1)

is_host : (world : World) (config : Config) (made : Package) (refusal : Refusal) → Outcome world config (Ok made) → IsNoHost world config refusal → ⊥
is_host world config made refusal p r =
    none_some (first_difference face_or_flaw config.setting world (record_in r.building)) r.difference
    (subst (SourceMeets world config) (one_building world config p.building r.building p.builds r.builds) p.meets) r.differs

pub at_most_one_outcome : (world : World) (config : Config) (made : Package) (refusal : Refusal) → Outcome world config (Ok made) → Outcome world config (Err refusal) → ⊥
at_most_one_outcome world config made (Configuration refusal) p r = r
at_most_one_outcome world config made (Load refusal) p r = runs_or_stop config.setting world (starts_of config) p.building.faces p.building.runs refusal p.builds.runs r
at_most_one_outcome world config made (RefusesSplit refusal) p r =
    elim r [ inl clash ↦ no_clash world config made (RefusesSplit refusal) p clash | inr none ↦ is_host world config made (RefusesSplit refusal) p none ]
at_most_one_outcome world config made (Names refusal) p r =
    let b = p.building in
    let such = r.are_such in
    let same = at_most_one_build config.setting world (starts_of config) b.faces r.faces b.runs r.runs p.builds.runs r.loads in
    let split = ok_same (split_of b.faces b.runs config.names) (split_of r.faces r.runs config.names) b.split such.split p.builds.plan.split such.splits (ap (λ f. split_of f b.runs config.names) same.0 ∙ ap (λ t. split_of r.faces t config.names) same.1) in
    none_some (first_name_stop r.faces r.runs such.split config.names) such.stop
    (subst (λ s. first_name_stop r.faces r.runs s config.names ≡ None) split (subst (λ t. first_name_stop r.faces t b.split config.names ≡ None) same.1 (subst (λ f. first_name_stop f b.runs b.split config.names ≡ None) same.0 p.builds.plan.named))) such.stops
at_most_one_outcome world config made (Rewrite refusal) p r =
    none_some (first_unwritten world r.building) _ (subst (λ b. first_unwritten world b ≡ None) (one_building world config p.building r.building p.builds r.builds) p.written) r.stops
at_most_one_outcome world config made (Files refusal) p r =
    elim r [
      | inl faulty ↦ none_some (Some refusal) refusal (one_extra_fault world config (Some refusal) None faulty.faulty p.furnished) refl
      | inr none ↦ none_some (listing_stop world config none.building) none.stop (subst (λ b. listing_stop world config b ≡ None) (one_building world config p.building none.building p.builds none.builds) p.listed) none.stops
    ]
at_most_one_outcome world config made (Folder refusal) p r = r
