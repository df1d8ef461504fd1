-- The program alone.
use Rattle.std.proofs.Common.{◌≡◌, ◌∙◌, sym, ap, refl, subst, ℕ, zero, suc, ◌<◌, ◌≤◌, List, [], ◌∷◌, ◌++◌, Some, Ok, Err, All, length, slice_get, arith}
use Rattle.std.specs.Str.{bytes_eq}
use Rattle.std.proofs.lemmas.Option.{slice_get_within}
use Rattle.load_model.specs.Faces.{face_or_flaw}
use Rattle.load_model.specs.LoadList.{Object, is_named}
use Rattle.load_model.specs.Loads.{program_at, program_by}
use Rattle.load_model.specs.Opening.{IsOpened, OnlyGrew, OpenerView}
use Rattle.load_model.specs.Runs.{AreBelow, AreObjects, loader_of}
use Rattle.load_model.specs.World.{World, Kind, kind_of, Absent, Other, Object as IsObject, Damaged as IsDamaged}
use Rattle.load_model.specs.declared.faces.Face.{Face}
use Rattle.load_model.specs.declared.limits.TheConstants.{MOST_OBJECTS}
use Rattle.load_model.specs.declared.opening.Opened.TheVariants.{Absent as OpensNothing, Other as OpensOther, Object as OpensObject}
use Rattle.load_model.specs.declared.opening.OpenFault.{OpenFault}
use Rattle.load_model.specs.declared.opening.OpenFault.TheVariants.{Read, Damaged as OpensDamaged, NoMemory as OpensNoMemory}
use Rattle.load_model.specs.declared.refusals.LoadRefusal.TheVariants.{Damaged}
use Rattle.load_model.specs.declared.runs.Obj.{Obj}
use Rattle.load_model.specs.declared.setting.Setting.{Setting}
use Rattle.load_model.specs.declared.world.WorldFile.{WorldFile}
use Rattle.search_paths.specs.declared.hits.SearchStop.TheVariants.{Open}
use Rattle.load_requests.specs.Asking.{IsPushed}
use Rattle.load_requests.specs.Known.{IsLearnt, first_known}
use Rattle.load_requests.specs.Standing.{IsSafe, IsStarted, Stands}
use Rattle.load_requests.specs.declared.loading.Loading.{Loading}
use Rattle.load_requests.specs.declared.stops.LoadStop.TheVariants.{NoProgram as StartsNothing, Search}
use Rattle.load_requests.proofs.AskingPlaces.{all_from}
use Rattle.load_requests.proofs.AskingSteps.{ids_added}
use Rattle.load_requests.proofs.KnownLemmas.{learnt_within}

by_kind : (setting : Setting) (machine : ℕ) (world : World) (path : List ℕ) (kind : Kind Face _) → setting.machine ≡ machine → kind_of face_or_flaw machine world path ≡ kind → program_at face_or_flaw setting world path ≡ program_by face_or_flaw setting world path kind
unfolding program_at
by_kind setting machine world path kind m is =
    ap (program_by face_or_flaw setting world path) (ap (λ n. kind_of face_or_flaw n world path) m ∙ is)

object_program : (setting : Setting) (machine : ℕ) (world : World) (path id : List ℕ) (file : WorldFile) (found face : Face) → setting.machine ≡ machine → kind_of face_or_flaw machine world path ≡ IsObject file found → id ≡ file.id → found ≡ face → program_at face_or_flaw setting world path ≡ Ok (record { path = path; id = id; face = face })
object_program setting machine world path id file found face m is same one =
    by_kind setting machine world path (IsObject file found) m is ∙ ap (λ f. Ok (record { path = path; id = file.id; face = f })) one ∙ ap (λ i. Ok (record { path = path; id = i; face = face })) (sym same)

one_face : (faces : List Face) (place : ℕ) (found face : Face) → slice_get faces place ≡ Some found → slice_get faces place ≡ Some face → found ≡ face
one_face faces place found face g h = let e = sym g ∙ h in cc

no_read : (path : List ℕ) {A : Type 0} → StartsNothing path ≡ Search (Open Read) → A
no_read path e = cc

-- ---- the program and its object

-- an object is pushed where there is none
pub record IsBegun (face : Face) (x : Obj) (s : Loading) : Type 0 where
  pub objs : s.objs ≡ x ∷ []
  pub known : IsLearnt (is_named face.soname) 0 [] s.known
  pub ids : IsLearnt (bytes_eq x.id) 0 [] s.ids
  pub targets : s.targets ≡ []
  pub phase : s.phase ≡ 0

pub begun : (face : Face) (x : Obj) (none s : Loading) → none.objs ≡ [] → none.known ≡ [] → none.ids ≡ [] → none.targets ≡ [] → none.phase ≡ 0 → IsPushed face x none s → IsBegun face x s
begun face x none s objs known ids targets phase pushed = record {
  objs = pushed.objs ∙ ap (λ l. l ++ x ∷ []) objs;
  known = subst (λ l. IsLearnt (is_named face.soname) 0 l s.known) known (subst (λ l. IsLearnt (is_named face.soname) (length l) none.known s.known) objs pushed.known);
  ids = subst (λ l. IsLearnt (bytes_eq x.id) 0 l s.ids) ids (subst (λ l. IsLearnt (bytes_eq x.id) (length l) none.ids s.ids) objs pushed.ids);
  targets = pushed.targets ∙ targets;
  phase = pushed.phase ∙ phase;
}

module _ (faces : List Face) (path id : List ℕ) (place : ℕ) (face : Face) (at : slice_get faces place ≡ Some face) where
  abbrev program : Object
  program = record { path = path; id = id; face = face }

  abbrev alone : Obj
  alone = record { path = path; id = id; face = place; loader = 0; phase = 0 }

  first_is : (j : ℕ) (x : Obj) (o : Object) → slice_get (alone ∷ []) j ≡ Some x → slice_get (program ∷ []) j ≡ Some o → (o.path ≡ x.path) × (o.id ≡ x.id) × (slice_get faces x.face ≡ Some o.face)
  first_is zero x o g h =
      let e : alone ≡ x = cc in
      let p : program ≡ o = cc in
      (ap (λ (q : Object). q.path) (sym p) ∙ ap (λ (q : Obj). q.path) e, ap (λ (q : Object). q.id) (sym p) ∙ ap (λ (q : Obj). q.id) e, ap (λ (q : Obj). slice_get faces q.face) (sym e) ∙ at ∙ ap (λ (q : Object). Some q.face) p)
  first_is (suc j) x o g h = cc

  first_loader : (j : ℕ) (x : Obj) → slice_get (alone ∷ []) j ≡ Some x → x.loader ≡ loader_of [] j
  first_loader zero x g = let e : alone ≡ x = cc in ap (λ (q : Obj). q.loader) (sym e)
  first_loader (suc j) x g = cc

  pub alone_stands : (s : Loading) → IsBegun face alone s → Stands faces s (record { objs = program ∷ []; log = [] })
  alone_stands s begun = record {
    objects = subst (λ os. AreObjects faces os (program ∷ [])) (sym begun.objs) (record { count = refl; each = first_is });
    names = begun.known;
    loaders = λ j x g. first_loader j x (ap (λ l. slice_get l j) (sym begun.objs) ∙ g);
    within = λ k d b. absurd (omega (arith, b));
    brought = λ j pos b. absurd (omega (arith, pos, b));
  }

  own_loader : (j : ℕ) (x : Obj) → slice_get (alone ∷ []) j ≡ Some x → (j ≡ 0) × (alone ≡ x)
  own_loader zero x g = (refl, cc)
  own_loader (suc j) x g = cc

  pub alone_safe : (s : Loading) → IsBegun face alone s → IsSafe faces s
  alone_safe s begun = record {
    program = subst (λ l. 0 < length l) (sym begun.objs) (omega arith);
    few = subst (λ l. length l ≤ MOST_OBJECTS) (sym begun.objs) (omega arith);
    known = subst (λ l. (n : List ℕ) (j : ℕ) → first_known n s.known ≡ Some j → j < length l) (sym begun.objs) (learnt_within (is_named face.soname) 0 1 [] s.known begun.known (omega arith) (λ n j e. cc));
    ids = ids_added [] s.objs alone [] s.ids begun.objs begun.ids (λ i. refl);
    faces_within = subst (λ l. All (λ x. x.face < length faces) l) (sym begun.objs) (all_from (λ x. x.face < length faces) (alone ∷ []) (λ j x g. subst (λ (y : Obj). y.face < length faces) (own_loader j x g).1 (slice_get_within faces place face at)));
    own = λ x g. sym (ap (λ (q : Obj). q.loader) (own_loader 0 x (ap (λ l. slice_get l 0) (sym begun.objs) ∙ g)).1);
    smaller = λ j x pos g. absurd (let z = (own_loader j x (ap (λ l. slice_get l j) (sym begun.objs) ∙ g)).0 in omega (arith, pos, z));
    phases = subst (λ p. All (λ x. x.phase ≤ p) s.objs) (sym begun.phase) (subst (λ l. All (λ x. x.phase ≤ 0) l) (sym begun.objs) (all_from (λ x. x.phase ≤ 0) (alone ∷ []) (λ j x g. subst (λ (y : Obj). y.phase ≤ 0) (own_loader j x g).1 (omega arith))));
    walked = subst (λ l. length l ≤ length s.objs) (sym begun.targets) (omega arith);
    targets = subst (λ l. All (AreBelow (length s.objs)) l) (sym begun.targets) (λ k d b. absurd (omega (arith, b)));
    counts = λ k x f ts gx gf gt. absurd (let none : slice_get [] k ≡ Some ts = ap (λ l. slice_get l k) (sym begun.targets) ∙ gt in cc);
  }

module _ (setting : Setting) (before after : OpenerView) (path : List ℕ) (m : setting.machine ≡ before.machine) where
  pub starts_absent : IsOpened before after path (Ok OpensNothing) → IsStarted setting before after path (Err (StartsNothing path))
  starts_absent h = (λ world told. by_kind setting before.machine world path Absent m (h world told), λ e. no_read path e)

  pub starts_other : IsOpened before after path (Ok OpensOther) → IsStarted setting before after path (Err (StartsNothing path))
  starts_other h = (λ world told. by_kind setting before.machine world path Other m (h world told), λ e. no_read path e)

  pub starts_not : (fault : OpenFault) → IsOpened before after path (Err fault) → IsStarted setting before after path (Err (Search (Open fault)))
  starts_not Read h = (λ world told. tt, λ e. h)
  starts_not (OpensDamaged named flaw) h = (
    λ world told. let d = h.1 world told in
        by_kind setting before.machine world path (IsDamaged d.file flaw) m d.kind ∙ ap (λ p. Err (Damaged p flaw)) (sym h.0),
    λ e. cc,
  )
  starts_not OpensNoMemory h = (λ world told. tt, λ e. cc)

  pub starts_object : (id : List ℕ) (place : ℕ) (face : Face) → OnlyGrew before after → IsOpened before after path (Ok (OpensObject id place)) → slice_get after.faces place ≡ Some face → (s : Loading) → IsBegun face (record { path = path; id = id; face = place; loader = 0; phase = 0 }) s → IsStarted setting before after path (Ok s)
  starts_object id place face grew opened at s begun = (
    record { path = path; id = id; face = face },
    refl,
    alone_stands after.faces path id place face at s begun,
    λ world told. let is = opened.1 world told in object_program setting after.machine world path id is.file is.face face (m ∙ sym grew.machine) is.kind is.id_is (one_face after.faces place is.face face is.stands at),
  )
