use Rattle.std.proofs.Common.{refl, ◌≡◌, ◌≢◌, ◌∙◌, sym, ap, subst, ℕ, zero, suc, ◌<◌, ◌∷◌, [], List, true, None, Some, Ok, arith, take, slice_get}
use Rattle.std.specs.Prelude.{All, codes}
use Rattle.std.specs.Str.{is_utf8}
use Rattle.std.proofs.lemmas.List.Elements.{All-cons}
use Rattle.path_text.specs.FileName.{IsFileName}
use Rattle.path_text.specs.Path.{IsNormalPath, named_parts, path_fault, path_of, rooted}
use Rattle.path_text.proofs.NameLemmas.{IsFileName-from_test}
use Rattle.path_text.proofs.PathLemmas.{IsNormalPath-path_of}
use Rattle.load_model.specs.Candidates.{candidates, loader_chain, decision, first_decision, listed_candidates, loader_in, path_search, refused_text, search_items}
use Rattle.load_model.specs.Diamond.{asked_for, plain_face}
use Rattle.load_model.specs.LoadList.{Object, Asked, Brought, IsAnswered, count_from, found_for}
use Rattle.load_model.specs.Loads.{goes_to, program_at}
use Rattle.load_model.specs.SameNames.{HasNoRunPath, HasObject, key_of}
use Rattle.load_model.specs.SmallHost.{host_setting, read_small, small_copy, small_file, small_host, small_program, small_run, small_setting, small_world}
use Rattle.load_model.specs.declared.world.WorldFile.{WorldFile}
use Rattle.load_model.proofs.Texts.{text}
use Rattle.load_model.proofs.search_laws.small_host_loads_alike.Goals as goal

library : Object
library = record { path = codes "/lib/a"; id = codes "a"; face = plain_face None [] }

library_there : Object
library_there = record { path = codes "/usr/lib/a"; id = codes "other"; face = plain_face None [] }

text_here : is_utf8 (codes "/lib/a") ≡ true
text_here = text (codes "/lib/a") refl

text_local : is_utf8 (codes "/usr/local/lib/a") ≡ true
text_local = text (codes "/usr/local/lib/a") refl

text_there : is_utf8 (codes "/usr/lib/a") ≡ true
text_there = text (codes "/usr/lib/a") refl

asked_a : IsAnswered (goes_to read_small small_setting small_world small_file.path) small_run.objs [] (asked_for 0 (codes "a") 1)
unfolding count_from library goes_to found_for path_search candidates loader_chain decision first_decision loader_in refused_text search_items named_parts path_fault rooted
asked_a = record { asker = omega arith; found = Brought library; found_is = rw text_here refl; target = (refl, refl) }

answered : (m : ℕ) (a : Asked) → slice_get small_run.log m ≡ Some a → IsAnswered (goes_to read_small small_setting small_world small_file.path) small_run.objs (take m small_run.log) a
answered zero a g = let e : asked_for 0 (codes "a") 1 ≡ a = cc in subst (IsAnswered (goes_to read_small small_setting small_world small_file.path) small_run.objs []) e asked_a
answered (suc m) a g = cc

pub returns-clause-list : goal.returns-clause-list
unfolding program_at count_from
returns-clause-list c = record {
  program = small_program;
  starts = refl;
  run = (record { objs = refl; more = asked_for 0 (codes "a") 1 ∷ []; log = refl; asked = refl; answered = answered; whole = refl }, refl);
}

first_is : (P : Object → Type 0) (o : Object) → P (small_program) → slice_get small_run.objs 0 ≡ Some o → P o
first_is P o p g = let e : small_program ≡ o = cc in subst P e p

named : (m : ℕ) (a : Asked) → slice_get small_run.log m ≡ Some a → IsFileName a.request.name
named zero a g = let e : asked_for 0 (codes "a") 1 ≡ a = cc in subst (λ (x : Asked). IsFileName x.request.name) e (IsFileName-from_test (codes "a") refl)
named (suc m) a g = cc

abbrev Goes : Asked → Type 0
Goes a = (o : Object) × (slice_get small_run.objs a.target ≡ Some o) × (0 < a.target) × (key_of o ≡ a.request.name)

goes_a : Goes (asked_for 0 (codes "a") 1)
unfolding library key_of named_parts
goes_a = (library, refl, omega arith, refl)

goes : (m : ℕ) (a : Asked) → slice_get small_run.log m ≡ Some a → Goes a
goes zero a g = let e : asked_for 0 (codes "a") 1 ≡ a = cc in subst Goes e goes_a
goes (suc m) a g = cc

pub returns-clause-by_names : goal.returns-clause-by_names
returns-clause-by_names c = record {
  soname = λ o g. first_is (λ x. x.face.soname ≡ None) o refl g;
  run_path = λ o g. first_is HasNoRunPath o (record { rpath = refl; runpath = refl }) g;
  goes = record { by_key = goes };
  names = named;
}

path_local : path_of (codes "/usr/local/lib") ≡ Ok (codes "/usr/local/lib")
unfolding path_fault named_parts rooted
path_local = rw (text (codes "/usr/local/lib") refl) refl

path_lib : path_of (codes "/usr/lib") ≡ Ok (codes "/usr/lib")
unfolding path_fault named_parts rooted
path_lib = rw (text (codes "/usr/lib") refl) refl

path_place : path_of (codes "/apps") ≡ Ok (codes "/apps")
unfolding path_fault named_parts rooted
path_place = rw (text (codes "/apps") refl) refl

normal_dirs : All IsNormalPath host_setting.dirs
normal_dirs =
    All-cons IsNormalPath (codes "/usr/local/lib") (codes "/usr/lib" ∷ []) (IsNormalPath-path_of (codes "/usr/local/lib") (codes "/usr/local/lib") path_local)
    (All-cons IsNormalPath (codes "/usr/lib") [] (IsNormalPath-path_of (codes "/usr/lib") (codes "/usr/lib") path_lib) (λ k d l. absurd (omega arith)))

other_id : codes "other" ≡ codes "copy" → ⊥
other_id e = cc

own : (i : ℕ) (f : WorldFile) → slice_get small_host i ≡ Some f → f.id ≡ small_copy.id → f.path ≡ small_copy.path
own zero f g same = let e : small_copy ≡ f = cc in ap (λ (x : WorldFile). x.path) (sym e)
own (suc zero) f g same =
    let e : record { path = codes "/usr/lib/a"; id = codes "other"; bytes = 2 ∷ [] } ≡ f = cc in
    absurd (other_id (ap (λ (x : WorldFile). x.id) e ∙ same))
own (suc (suc i)) f g same = cc

apart : (i : ℕ) (dir : List ℕ) → slice_get host_setting.dirs i ≡ Some dir → dir ≢ (codes "/apps")
apart zero dir g same = let e : codes "/usr/local/lib" ≡ dir = cc in let no : codes "/usr/local/lib" ≡ (codes "/apps") = e ∙ same in cc
apart (suc zero) dir g same = let e : codes "/usr/lib" ≡ dir = cc in let no : codes "/usr/lib" ≡ (codes "/apps") = e ∙ same in cc
apart (suc (suc i)) dir g same = cc

has_a : HasObject read_small host_setting small_host library
unfolding library library_there key_of named_parts path_fault rooted first_decision decision listed_candidates
has_a = record {
  there = library_there;
  found = rw (text_local, text_there) refl;
  needs = refl;
  soname = λ s h. absurd (let no : None ≡ Some s = h in cc);
  run_path = record { rpath = refl; runpath = refl };
}

files : (j : ℕ) (o : Object) → 0 < j → slice_get small_run.objs j ≡ Some o → HasObject read_small host_setting small_host o
unfolding library
files zero o some g = absurd (omega arith)
files (suc zero) o some g = let e : library ≡ o = cc in subst (HasObject read_small host_setting small_host) e has_a
files (suc (suc j)) o some g = cc

one_other : (i : ℕ) (x : Object) → 0 < i → slice_get small_run.objs i ≡ Some x → i ≡ 1
one_other zero x some g = absurd (omega arith)
one_other (suc zero) x some g = refl
one_other (suc (suc i)) x some g = cc

pub returns-clause-carried : goal.returns-clause-carried
returns-clause-carried c = record {
  dirs_normal = normal_dirs;
  place_normal = IsNormalPath-path_of (codes "/apps") (codes "/apps") path_place;
  name_is = IsFileName-from_test (codes "AppRun") refl;
  lies = refl;
  bytes = refl;
  own = own;
  apart = apart;
  files = files;
  ids = λ i j x y p q some_i some_j g h _ _ _. one_other i x some_i g ∙ sym (one_other j y some_j h);
}
