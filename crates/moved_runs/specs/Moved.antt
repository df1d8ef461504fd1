-- The same program in another place, where each object has a name by which it is asked for there,
-- and each need is renamed to the name of the object that it went to. 'Here' is where the load list
-- is known, 'there' the other place.
use Rattle.std.specs.Prelude.{ℕ, List, true, ◌≡◌, ◌<◌, Some, None, Ok, length, take, map, slice_get}
use Rattle.std.specs.Str.{bytes_eq}
use Rattle.load_model.specs.LoadList.{Object, Asked, Loaded, Search, count_after}
use Rattle.load_model.specs.Runs.{target_in}

-- No request goes to the program.
abbrev pub NeverProgram : List Asked → Type 0
NeverProgram log = (m : ℕ) (a : Asked) → slice_get log m ≡ Some a → 0 < a.target

module _ (name_of : ℕ → List ℕ) where
  -- Objects other than the program have distinct names.
  abbrev pub AreDistinctNames : ℕ → Type 0
  AreDistinctNames count =
      (i j : ℕ) → 0 < i → i < count → 0 < j → j < count → name_of i ≡ name_of j → i ≡ j

  -- A request asks for the name of its target.
  abbrev pub renamed : Asked → Asked
  renamed a = record {
    request = record { by = a.request.by; name = name_of a.target };
    target = a.target;
  }

  abbrev pub all_renamed : List Asked → List Asked
  all_renamed log = map renamed log

  -- The new name of a need or of an opened name.
  abbrev pub new_name : List Asked → List ℕ → List ℕ
  new_name log n = name_of (target_in log n)

  abbrev pub new_names : List Asked → List (List ℕ) → List (List ℕ)
  new_names log ns = map (new_name log) ns

  -- What is loaded and asked there where so much is loaded and asked here.
  abbrev pub loaded_there : List Object → Loaded → Loaded
  loaded_there objs_there s =
      record { objs = take (length s.objs) objs_there; log = all_renamed s.log }

  -- Objects there in the place of those of a run, as the search there finds them.
  pub record AreMoved {X : Type 0} (there : Search X) (run : Loaded) (objs_there : List Object) :
      Type 0 where
    -- so that no name has to be known for the program there
    pub never : NeverProgram run.log
    -- so that a name tells its object
    pub distinct : AreDistinctNames (length run.objs)
    -- one for each object
    pub count : length objs_there ≡ length run.objs
    -- each need is the name of the object that it went to
    pub needs : (j : ℕ) (o q : Object) → slice_get run.objs j ≡ Some o
        → slice_get objs_there j ≡ Some q → q.face.needs ≡ new_names run.log o.face.needs
    -- the program has no soname, and another object none but its name
    pub program : (q : Object) → slice_get objs_there 0 ≡ Some q → q.face.soname ≡ None
    pub sonames : (j : ℕ) (q : Object) (s : List ℕ) → 0 < j → slice_get objs_there j ≡ Some q
        → q.face.soname ≡ Some s → s ≡ name_of j
    -- they are different files
    pub ids : (i j : ℕ) (x y : Object) → slice_get objs_there i ≡ Some x
        → slice_get objs_there j ≡ Some y → bytes_eq x.id y.id ≡ true → i ≡ j
    -- where a request brought an object here, the search there, at that point, finds its object
    pub found : (m : ℕ) (a : Asked) (q : Object) → slice_get run.log m ≡ Some a
        → count_after (take m run.log) ≡ a.target → slice_get objs_there a.target ≡ Some q
        → there (take a.target objs_there) (all_renamed (take m run.log)) (renamed a).request ≡ Ok q
