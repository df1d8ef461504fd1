-- What stands over a table of faces stands over one that only grew.
use Rattle.std.proofs.Common.{◌≡◌, ◌∙◌, sym, ap, ℕ, ◌<◌, ◌≤◌, List, Some, length, take, slice_get, arith}
use Rattle.load_model.specs.LoadList.{Loaded, Object}
use Rattle.load_model.specs.Opening.{OnlyGrew, OpenerView}
use Rattle.load_model.specs.Runs.{AreObjects}
use Rattle.load_model.specs.declared.faces.Face.{Face}
use Rattle.load_model.specs.declared.runs.Obj.{Obj}
use Rattle.load_requests.specs.Standing.{IsSafe, Stands}
use Rattle.load_requests.specs.declared.loading.Loading.{Loading}
use Rattle.load_requests.proofs.AskingPlaces.{all_at, all_more, front_get, within_get}

module _ (before after : List Face) (faces : take (length before) after ≡ before) (longer : length before ≤ length after) where
  -- a face keeps its place
  pub face_stays : (i : ℕ) (face : Face) → slice_get before i ≡ Some face → slice_get after i ≡ Some face
  face_stays i face g = front_get (length before) after i face (ap (λ l. slice_get l i) faces ∙ g)

  pub objects_over : (objs : List Obj) (objects : List Object) → AreObjects before objs objects → AreObjects after objs objects
  objects_over objs objects are = record {
    count = are.count;
    each = λ j x o g w. let e = are.each j x o g w in (e.0, e.1, face_stays x.face o.face e.2);
  }

  pub stands_over : (s : Loading) (loaded : Loaded) → Stands before s loaded → Stands after s loaded
  stands_over s loaded st = record {
    objects = objects_over s.objs loaded.objs st.objects;
    names = st.names;
    loaders = st.loaders;
    within = st.within;
    brought = st.brought;
  }

  same_face : (x : Obj) (face found : Face) → slice_get before x.face ≡ Some found → slice_get after x.face ≡ Some face → found ≡ face
  same_face x face found g w = let e = sym (face_stays x.face found g) ∙ w in cc

  pub safe_over : (s : Loading) → IsSafe before s → IsSafe after s
  safe_over s safe = record {
    program = safe.program;
    few = safe.few;
    known = safe.known;
    ids = safe.ids;
    faces_within = all_more (λ x. x.face < length before) (λ x. x.face < length after) s.objs (λ x b. omega (arith, b, longer)) safe.faces_within;
    own = safe.own;
    smaller = safe.smaller;
    phases = safe.phases;
    walked = safe.walked;
    targets = safe.targets;
    counts = λ k x face ts gx gf gt.
        let has = within_get before x.face (all_at (λ y. y.face < length before) s.objs k x safe.faces_within gx) in
        safe.counts k x has.0 ts gx has.1 gt ∙ ap (λ (f : Face). length f.needs) (same_face x face has.0 has.1 gf);
  }

pub stands_grown : (before after : OpenerView) (s : Loading) (loaded : Loaded) → OnlyGrew before after → Stands before.faces s loaded → Stands after.faces s loaded
stands_grown before after s loaded grew st = stands_over before.faces after.faces grew.faces grew.longer s loaded st

pub safe_grown : (before after : OpenerView) (s : Loading) → OnlyGrew before after → IsSafe before.faces s → IsSafe after.faces s
safe_grown before after s grew safe = safe_over before.faces after.faces grew.faces grew.longer s safe
