-- The bytes of an object by its change, from what its file is.
use Rattle.std.proofs.Common.{◌≡◌, ◌∙◌, sym, ap, refl, subst, ℕ, true, List, Option, Some, None, Result, Ok, Err}
use Rattle.answers.specs.First.{value_unless}
use Rattle.appdir_files.specs.Writing.{IsBytesOf}
use Rattle.appdir_files.specs.declared.items.Body.{Body}
use Rattle.elf_rewrite.specs.NewTexts.{is_done}
use Rattle.elf_rewrite.specs.Pieces.{laid}
use Rattle.elf_rewrite.specs.Rewriting.{rewriting}
use Rattle.elf_rewrite.specs.Stops.{stop_of}
use Rattle.elf_rewrite.specs.declared.change.Change.{Change}
use Rattle.elf_rewrite.specs.declared.change.RewriteStop.{RewriteStop}
use Rattle.lib_closure.specs.declared.splits.Member.{Member}
use Rattle.load_model.specs.Faces.{face_of, face_or_flaw, face_unless, first_flaw}
use Rattle.load_model.specs.World.{World, file_at}
use Rattle.load_model.specs.declared.faces.Face.{Face}
use Rattle.load_model.specs.declared.world.WorldFile.{WorldFile}
use Rattle.byte_view.specs.declared.flaws.Flaw.{Flaw}
use Rattle.object_changes.specs.Unchanged.{is_unchanged}
use Rattle.object_changes.proofs.UnchangedLemmas.{unchanged_done, unchanged_same}
use Rattle.object_rewriting.specs.Rewritten.{rewritten}
use Rattle.ports.specs.Reading.{bytes_at, bytes_of}
use Rattle.refusals.specs.declared.refusal.Refusal.{Refusal}
use Rattle.appdir_build.specs.Objects.{bytes_in, new_file_of, stop_in}
use Rattle.appdir_build.specs.Writing.{IsBodyFor, IsCopyOf, IsFaced}

face_seen : (o : Option Flaw) (seen face : Face) → face_unless o seen ≡ Ok face → face ≡ seen
face_seen None seen face h = cc
face_seen (Some flaw) seen face h = cc

face_is : (b : List ℕ) (face : Face) → face_or_flaw b ≡ Ok face → face ≡ face_of b
unfolding face_or_flaw
face_is b face h = face_seen (first_flaw b) (face_of b) face h

done_goes : (b : List ℕ) (change : Change) → is_done b change ≡ true → stop_of b change ≡ None
unfolding stop_of
done_goes b change e = rw e refl

-- A file whose face a change leaves as it is is rewritten to itself.
same_bytes : (b : List ℕ) (face : Face) (change : Change) → face_or_flaw b ≡ Ok face → is_unchanged face change ≡ true → rewritten b change ≡ Ok b
unfolding rewritten
same_bytes b face change seen h =
    let is = face_is b face seen in
    ap (λ o. value_unless o (laid b (rewriting b change))) (done_goes b change (unchanged_done b face change is h))
    ∙ ap (λ (t : List ℕ). Ok t) (unchanged_same b face change is h)

bytes_there : (world : World) (path : List ℕ) (file : WorldFile) → file_at world path ≡ Some file → bytes_at world path ≡ file.bytes
bytes_there world path file e = ap bytes_of e

pub read_there : (world : World) (path : List ℕ) (face : Face) → IsFaced world path face → face_or_flaw (bytes_at world path) ≡ Ok face
read_there world path face is = ap face_or_flaw (bytes_there world path is.file is.lies) ∙ is.faced

-- The new file of an object as it lies.
pub unchanged_file : (world : World) (member : Member) (face : Face) (change : Change) → IsFaced world member.path face → is_unchanged face change ≡ true → new_file_of world (member, change) ≡ Ok (bytes_at world member.path)
unchanged_file world member face change is h = same_bytes (bytes_at world member.path) face change (read_there world member.path face is) h

pub made : (world : World) (object : Member × Change) (body : Body) (bytes : List ℕ) → new_file_of world object ≡ Ok bytes → IsBytesOf (Some world) body bytes → IsBodyFor world object (Ok body)
made world object body bytes e h =
    (ap (stop_in object.0.path) e, subst (IsBytesOf (Some world) body) (sym (ap bytes_in e)) h)

-- The file of a path with a face, rewritten.
pub rewritten_there : (world : World) (member : Member) (face : Face) (change : Change) (answer : Result (List ℕ) RewriteStop) (is : IsFaced world member.path face) → rewritten is.file.bytes change ≡ answer → new_file_of world (member, change) ≡ answer
rewritten_there world member face change answer is e = ap (λ b. rewritten b change) (bytes_there world member.path is.file is.lies) ∙ e

-- A copy of a file that stays as it is has the bytes of its change.
pub copied : (world : World) (member : Member) (face : Face) (change : Change) (outcome : Result Body Refusal) → is_unchanged face change ≡ true → IsFaced world member.path face → IsCopyOf world member.path outcome → IsBodyFor world (member, change) outcome
copied world member face change (Ok body) same is h = made world (member, change) body (bytes_at world member.path) (unchanged_file world member face change is same) h
copied world member face change (Err refusal) same is h = absurd h
