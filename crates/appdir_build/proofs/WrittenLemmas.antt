-- The main program and the libraries, one after the other.
use Rattle.std.proofs.Common.{◌≡◌, ◌∙◌, sym, ap, refl, subst, ℕ, suc, ◌+◌, ◌<◌, ◌≤◌, arith, List, [], ◌∷◌, ◌++◌, All, true, false, Bool, Option, Some, None, Result, Ok, Err, length, map, slice_get, take}
use Rattle.std.specs.List.{zip}
use Rattle.std.proofs.lemmas.List.{take_all}
use Rattle.std.proofs.lemmas.List.Elements.{All-push}
use Rattle.std.proofs.lemmas.Option.{slice_get-map}
use Rattle.std.specs.Option.{option_map}
use Rattle.answers.specs.First.{first_some}
use Rattle.appdir_files.specs.Writing.{AreFilesOf, IsFileOf}
use Rattle.appdir_files.specs.declared.items.Body.{Body}
use Rattle.appdir_files.specs.declared.items.Item.{Item}
use Rattle.build_plan.specs.Deciding.{building_of}
use Rattle.build_plan.specs.declared.plans.Plan.{Plan}
use Rattle.build_plan.specs.declared.stops.BuildStop.TheVariants.{Refused}
use Rattle.app_config.specs.declared.config.Config.{Config}
use Rattle.build_texts.specs.Places.{lib_place, program_places}
use Rattle.elf_rewrite.specs.declared.change.Change.{Change}
use Rattle.lib_closure.specs.declared.splits.Member.{Member}
use Rattle.lib_closure.proofs.ContainedLemmas.{is_there}
use Rattle.load_model.specs.World.{World}
use Rattle.load_model.specs.declared.faces.Face.{Face}
use Rattle.object_changes.specs.Fitting.{FitMembers}
use Rattle.object_changes.specs.declared.changes.Changes.{Changes}
use Rattle.refusals.specs.declared.refusal.Refusal.{Refusal}
use Rattle.extra_files.specs.Extras.{file_with}
use Rattle.appdir_build.specs.Files.{files_of_programs, lib_file, lib_files, program_file}
use Rattle.appdir_build.specs.Objects.{first_unwritten, lib_objects, new_bytes_of, program_objects, stop_at}
use Rattle.appdir_build.specs.Writing.{AreFacedIn, AreFirstOf, AreItemsFor, AreObjectsIn, AreWritable, AreWritten, IsBodyFor, IsFaced, IsItemFor, IsPrepared, file_for, files_in, pairs_in}
use Rattle.appdir_build.specs.declared.writing.Objects.{Objects}
use Rattle.appdir_build.proofs.FirstLemmas.{get_zip, none_before, none_more, some_before, stops_there, zip_more}
use Rattle.appdir_build.proofs.PreparedLemmas.{IsSeen, faced, lib_stands, program_stands, seen_within}

-- ---- lists side by side

zip_shorter : {A B : Type 0} (xs : List A) (ys : List B) → length (zip xs ys) ≤ length xs
zip_shorter [] ys = omega arith
zip_shorter (x ∷ xs) [] = omega arith
zip_shorter (x ∷ xs) (y ∷ ys) = let rest = zip_shorter xs ys in omega (arith, rest)

whole_zip : {A B : Type 0} (xs : List A) (ys : List B) (n : ℕ) → length xs ≡ n → take n (zip xs ys) ≡ zip xs ys
whole_zip xs ys n e = let less = zip_shorter xs ys in take_all n (zip xs ys) (omega (arith, less, e))

map_length : {A B : Type 0} (f : A → B) (xs : List A) → length (map f xs) ≡ length xs
map_length f [] = refl
map_length f (x ∷ xs) = ap suc (map_length f xs)

whole_map : {A B C : Type 0} (f : (A × B) → C) (xs : List A) (ys : List B) (n : ℕ) → length xs ≡ n → take n (map f (zip xs ys)) ≡ map f (zip xs ys)
whole_map f xs ys n e =
    let less = zip_shorter xs ys in
    let same = map_length f (zip xs ys) in
    take_all n (map f (zip xs ys)) (omega (arith, less, e, same))

-- ---- items

item_of : (world : World) (object : Member × Change) (executable : Bool) (path : List ℕ) (body : Body) (item : Item) → item ≡ record { path = path; executable = executable; body = body } → IsBodyFor world object (Ok body) → IsItemFor world object (file_with executable path (new_bytes_of world object)) (Ok item)
item_of world object executable path body item e h =
    subst (λ i. IsItemFor world object (file_with executable path (new_bytes_of world object)) (Ok i)) (sym e) (h.0, record { path = refl; mark = refl; bytes = h.1 })

some_one : {X : Type 0} (o : Option X) (a b : X) → o ≡ Some a → o ≡ Some b → a ≡ b
some_one o a b e f = cc

-- ---- objects at their places

module _ (world : World) (objects : Objects) (w : AreWritable objects) where
  pub record ObjectAt (number : ℕ) : Type 0 where
    pub object : Member × Change
    pub place : List ℕ
    pub stands : slice_get (pairs_in objects) number ≡ Some object
    pub placed : slice_get objects.places.now number ≡ Some place
    pub file : slice_get (files_in world objects) number ≡ Some (file_for world objects (place, object))

  file_at_place : (number : ℕ) (place : List ℕ) (o : Member × Change) → slice_get objects.places.now number ≡ Some place → slice_get (pairs_in objects) number ≡ Some o → slice_get (files_in world objects) number ≡ Some (file_for world objects (place, o))
  file_at_place number place o h g =
      slice_get-map (file_for world objects) (zip objects.places.now (pairs_in objects)) number
      ∙ ap (option_map (file_for world objects)) (get_zip objects.places.now (pairs_in objects) number place o h g)

  object_at : (number : ℕ) → number < length objects.members.now → ObjectAt number
  object_at number less =
      let counts = w.fits.count in
      let placed = w.placed in
      let m = is_there objects.members.now number less in
      let c = is_there objects.changes.now number (omega (arith, less, counts)) in
      let n = is_there objects.places.now number (omega (arith, less, placed)) in
      let at = get_zip objects.members.now objects.changes.now number m.it c.it m.is c.is in
      record {
        object = (m.it, c.it);
        place = n.it;
        stands = at;
        placed = n.is;
        file = file_at_place number n.it (m.it, c.it) n.is at;
      }

  abbrev pub IsMade : ℕ → Result Item Refusal → Type 0
  IsMade number outcome = (object : Member × Change) (place : List ℕ) → slice_get (pairs_in objects) number ≡ Some object → slice_get objects.places.now number ≡ Some place → IsItemFor world object (file_for world objects (place, object)) outcome

  pub more_written : (number : ℕ) (items more : List Item) (item : Item) → number < length objects.members.now → more ≡ items ++ (item ∷ []) → AreFirstOf world objects number items → IsMade number (Ok item) → AreFirstOf world objects (number + 1) more
  more_written number items more item less e before made =
      let at = object_at number less in
      let is = made at.object at.place at.stands at.placed in
      subst (λ l. AreFirstOf world objects (number + 1) l) (sym e) (
        none_more (stop_at world) (pairs_in objects) number at.object before.0 at.stands is.0,
        zip_more (IsFileOf (Some world)) items (files_in world objects) number item (file_for world objects (at.place, at.object)) before.1 at.file is.1,
      )

  pub stops_all : (number : ℕ) (items : List Item) (refusal : Refusal) → number < length objects.members.now → AreFirstOf world objects number items → IsMade number (Err refusal) → AreItemsFor world (pairs_in objects) (files_in world objects) (Err refusal)
  stops_all number items refusal less before made =
      let at = object_at number less in
      stops_there (stop_at world) (pairs_in objects) number at.object (Refused refusal) before.0 at.stands (made at.object at.place at.stands at.placed)

  all_pairs : take (length objects.members.now) (pairs_in objects) ≡ pairs_in objects
  all_pairs = whole_zip objects.members.now objects.changes.now (length objects.members.now) refl

  all_files : take (length objects.members.now) (files_in world objects) ≡ files_in world objects
  all_files = whole_map (file_for world objects) objects.places.now (pairs_in objects) (length objects.members.now) w.placed

  pub written_all : (number : ℕ) (items : List Item) → number ≡ length objects.members.now → AreFirstOf world objects number items → AreItemsFor world (pairs_in objects) (files_in world objects) (Ok items)
  written_all number items e h =
      let all = subst (λ n. AreFirstOf world objects n items) e h in
      (subst (λ l. first_some (map (stop_at world) l) ≡ None) all_pairs all.0, subst (λ l. AreFilesOf (Some world) items l) all_files all.1)

  -- ---- one of them

  pub one_made : (number : ℕ) (member : Member) (change : Change) (face : Face) (place : List ℕ) (body : Body) (item : Item) → IsSeen objects.faces.now objects.members.now objects.changes.now number member change face → slice_get objects.places.now number ≡ Some place → item ≡ record { path = place; executable = objects.executable; body = body } → (IsFaced world member.path face → IsBodyFor world (member, change) (Ok body)) → AreFacedIn world objects → IsMade number (Ok item)
  one_made number member change face place body item seen placed e made faced object given stands at =
      let is = made (faced number member face seen.member_is seen.face_is) in
      let one = some_one (slice_get (pairs_in objects) number) (member, change) object (get_zip objects.members.now objects.changes.now number member change seen.member_is seen.change_is) stands in
      let two = some_one (slice_get objects.places.now number) place given placed at in
      subst (λ n. IsItemFor world object (file_for world objects (n, object)) (Ok item)) two
      (subst (λ o. IsItemFor world o (file_for world objects (place, o)) (Ok item)) one (item_of world (member, change) objects.executable place body item e is))

  pub one_stops : (number : ℕ) (member : Member) (change : Change) (face : Face) (refusal : Refusal) → IsSeen objects.faces.now objects.members.now objects.changes.now number member change face → (IsFaced world member.path face → IsBodyFor world (member, change) (Err refusal)) → AreFacedIn world objects → IsMade number (Err refusal)
  one_stops number member change face refusal seen made faced object given stands at =
      let is = made (faced number member face seen.member_is seen.face_is) in
      let one = some_one (slice_get (pairs_in objects) number) (member, change) object (get_zip objects.members.now objects.changes.now number member change seen.member_is seen.change_is) stands in
      subst (λ o. stop_at world o ≡ Some (Refused refusal)) one is

-- ---- programs and libraries

files_placed : (world : World) (names : List (List ℕ)) (objects : List (Member × Change)) → map (λ (placed : List ℕ × (Member × Change)). file_with false placed.0 (new_bytes_of world placed.1)) (zip (map lib_place names) objects) ≡ map (lib_file world) (zip names objects)
files_placed world [] objects = refl
files_placed world (name ∷ names) [] = refl
files_placed world (name ∷ names) (o ∷ objects) = ap (λ t. lib_file world (name, o) ∷ t) (files_placed world names objects)

-- The objects are the bundled libraries, or the programs, with their changes and places.
pub record AreLibs (plan : Plan) (changes : Changes) (objects : Objects) : Type 0 where
  pub faces : objects.faces.now ≡ plan.loads.table.faces
  pub members : objects.members.now ≡ plan.split.libs
  pub changes_are : objects.changes.now ≡ changes.libs
  pub places : objects.places.now ≡ map lib_place plan.layout.libs
  pub mark : objects.executable ≡ false

pub record ArePrograms (plan : Plan) (changes : Changes) (config : Config) (objects : Objects) : Type 0 where
  pub faces : objects.faces.now ≡ plan.loads.table.faces
  pub members : objects.members.now ≡ plan.split.programs
  pub changes_are : objects.changes.now ≡ changes.programs
  pub places : objects.places.now ≡ program_places config
  pub mark : objects.executable ≡ true
  pub counted : length (program_places config) ≡ length plan.split.programs

module _ (world : World) (plan : Plan) (changes : Changes) (p : IsPrepared plan changes) where
  libs_pairs : (objects : Objects) → AreLibs plan changes objects → pairs_in objects ≡ lib_objects (building_of plan)
  unfolding lib_objects
  libs_pairs objects is =
      ap (λ ms. zip ms objects.changes.now) is.members
      ∙ (ap (zip plan.split.libs) is.changes_are ∙ ap (λ (all : Changes). zip plan.split.libs all.libs) p.changes_are)

  libs_files : (objects : Objects) → AreLibs plan changes objects → files_in world objects ≡ lib_files world (building_of plan)
  unfolding lib_files
  libs_files objects is =
      ap (λ mark. map (λ (placed : List ℕ × (Member × Change)). file_with mark placed.0 (new_bytes_of world placed.1)) (zip objects.places.now (pairs_in objects))) is.mark
      ∙ (ap (λ places. map (λ (placed : List ℕ × (Member × Change)). file_with false placed.0 (new_bytes_of world placed.1)) (zip places (pairs_in objects))) is.places
      ∙ (ap (λ os. map (λ (placed : List ℕ × (Member × Change)). file_with false placed.0 (new_bytes_of world placed.1)) (zip (map lib_place plan.layout.libs) os)) (libs_pairs objects is)
      ∙ files_placed world plan.layout.libs (lib_objects (building_of plan))))

  pub libs_made : (objects : Objects) (outcome : Result (List Item) Refusal) → AreLibs plan changes objects → AreItemsFor world (pairs_in objects) (files_in world objects) outcome → AreItemsFor world (lib_objects (building_of plan)) (lib_files world (building_of plan)) outcome
  libs_made objects outcome is h =
      subst (λ files. AreItemsFor world (lib_objects (building_of plan)) files outcome) (libs_files objects is)
      (subst (λ os. AreItemsFor world os (files_in world objects) outcome) (libs_pairs objects is) h)

  pub libs_writable : (objects : Objects) → AreLibs plan changes objects → AreWritable objects
  libs_writable objects is =
      let named = p.named in
      let count = ap length is.members in
      let placed = ap length is.places ∙ map_length lib_place plan.layout.libs in
      record {
        fits = subst (λ fs. FitMembers fs objects.members.now objects.changes.now) (sym is.faces) (subst (λ ms. FitMembers plan.loads.table.faces ms objects.changes.now) (sym is.members) (subst (FitMembers plan.loads.table.faces plan.split.libs) (sym is.changes_are) p.fits.libs));
        placed = omega (arith, named, count, placed);
        seen = λ n m h. subst (λ fs. m.face < length fs) (sym is.faces) (seen_within plan m (lib_stands plan changes p n m (subst (λ ms. slice_get ms n ≡ Some m) is.members h)));
      }

  pub libs_faced : (objects : Objects) → AreLibs plan changes objects → AreObjectsIn world plan → AreFacedIn world objects
  libs_faced objects is there n m face h g =
      faced world plan m.id m.path m.face face there (lib_stands plan changes p n m (subst (λ ms. slice_get ms n ≡ Some m) is.members h)) (subst (λ fs. slice_get fs m.face ≡ Some face) is.faces g)

  programs_pairs : (config : Config) (objects : Objects) → ArePrograms plan changes config objects → pairs_in objects ≡ program_objects (building_of plan)
  unfolding program_objects
  programs_pairs config objects is =
      ap (λ ms. zip ms objects.changes.now) is.members
      ∙ (ap (zip plan.split.programs) is.changes_are ∙ ap (λ (all : Changes). zip plan.split.programs all.programs) p.changes_are)

  programs_files : (config : Config) (objects : Objects) → ArePrograms plan changes config objects → files_in world objects ≡ files_of_programs world config (building_of plan)
  unfolding files_of_programs
  programs_files config objects is =
      ap (λ mark. map (λ (placed : List ℕ × (Member × Change)). file_with mark placed.0 (new_bytes_of world placed.1)) (zip objects.places.now (pairs_in objects))) is.mark
      ∙ (ap (λ places. map (program_file world) (zip places (pairs_in objects))) is.places
      ∙ ap (λ os. map (program_file world) (zip (program_places config) os)) (programs_pairs config objects is))

  pub programs_made : (config : Config) (objects : Objects) (outcome : Result (List Item) Refusal) → ArePrograms plan changes config objects → AreItemsFor world (pairs_in objects) (files_in world objects) outcome → AreItemsFor world (program_objects (building_of plan)) (files_of_programs world config (building_of plan)) outcome
  programs_made config objects outcome is h =
      subst (λ files. AreItemsFor world (program_objects (building_of plan)) files outcome) (programs_files config objects is)
      (subst (λ os. AreItemsFor world os (files_in world objects) outcome) (programs_pairs config objects is) h)

  pub programs_writable : (config : Config) (objects : Objects) → ArePrograms plan changes config objects → AreWritable objects
  programs_writable config objects is =
      let counted = is.counted in
      let count = ap length is.members in
      let placed = ap length is.places in
      record {
        fits = subst (λ fs. FitMembers fs objects.members.now objects.changes.now) (sym is.faces) (subst (λ ms. FitMembers plan.loads.table.faces ms objects.changes.now) (sym is.members) (subst (FitMembers plan.loads.table.faces plan.split.programs) (sym is.changes_are) p.fits.programs));
        placed = omega (arith, counted, count, placed);
        seen = λ n m h. subst (λ fs. m.face < length fs) (sym is.faces) (seen_within plan m (program_stands plan changes p n m (subst (λ ms. slice_get ms n ≡ Some m) is.members h)));
      }

  pub programs_faced : (config : Config) (objects : Objects) → ArePrograms plan changes config objects → AreObjectsIn world plan → AreFacedIn world objects
  programs_faced config objects is there n m face h g =
      faced world plan m.id m.path m.face face there (program_stands plan changes p n m (subst (λ ms. slice_get ms n ≡ Some m) is.members h)) (subst (λ fs. slice_get fs m.face ≡ Some face) is.faces g)

-- ---- the whole

abbrev pub ProgramsIn : World → Config → Plan → Result (List Item) Refusal → Type 0
ProgramsIn world config plan outcome = AreItemsFor world (program_objects (building_of plan)) (files_of_programs world config (building_of plan)) outcome

abbrev pub LibsIn : World → Plan → Result (List Item) Refusal → Type 0
LibsIn world plan outcome = AreItemsFor world (lib_objects (building_of plan)) (lib_files world (building_of plan)) outcome

pub programs_unwritten : (world : World) (config : Config) (plan : Plan) (refusal : Refusal) → ProgramsIn world config plan (Err refusal) → first_unwritten world (building_of plan) ≡ Some (Refused refusal)
unfolding first_unwritten
programs_unwritten world config plan refusal h = some_before (stop_at world) (program_objects (building_of plan)) (lib_objects (building_of plan)) (Refused refusal) h

pub libs_unwritten : (world : World) (config : Config) (plan : Plan) (programs : List Item) (refusal : Refusal) → ProgramsIn world config plan (Ok programs) → LibsIn world plan (Err refusal) → first_unwritten world (building_of plan) ≡ Some (Refused refusal)
unfolding first_unwritten
libs_unwritten world config plan programs refusal m h = none_before (stop_at world) (program_objects (building_of plan)) (lib_objects (building_of plan)) m.0 ∙ h

pub all_written : (world : World) (config : Config) (plan : Plan) (programs libs : List Item) → ProgramsIn world config plan (Ok programs) → LibsIn world plan (Ok libs) → AreWritten world config plan (record { programs = programs; libs = libs })
unfolding first_unwritten
all_written world config plan programs libs m h = record { all = none_before (stop_at world) (program_objects (building_of plan)) (lib_objects (building_of plan)) m.0 ∙ h.0; programs = m.1; libs = h.1 }

pub all_pushed : {X : Type 0} (P : X → Type 0) (xs more : List X) (x : X) → more ≡ xs ++ (x ∷ []) → All P xs → P x → All P more
all_pushed P xs more x e h one = subst (λ l. All P l) (sym e) (All-push P xs x h one)
