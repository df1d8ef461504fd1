use Rattle.std.proofs.Common.{◌≡◌, ◌∙◌, ◌∷◌, ◌||◌, [], sym, Option, Some, None}
use Rattle.std.specs.Option.{is_some, option_map}
use Rattle.answers.specs.First.{first_some, some_where}
use Rattle.load_model.specs.Faces.{face_or_flaw}
use Rattle.load_model.specs.World.{World}
use Rattle.load_model.specs.declared.faces.Face.{Face}
use Rattle.load_model.specs.declared.setting.Setting.{Setting}
use Rattle.host_list.specs.Meeting.{first_differing, object_difference, soname_difference}
use Rattle.host_list.specs.declared.differences.Difference.{Difference}
use Rattle.host_list.specs.declared.differences.Difference.TheVariants.{HasRunPath, NeedsDiffer}
use Rattle.host_record.specs.declared.records.RecLib.{RecLib}
use Rattle.host_record.specs.declared.records.Record.{Record as Recorded}
use Rattle.host_meeting.proofs.FirstLemmas.{here, next, ok_more}
use Rattle.host_meeting.proofs.libs.object_difference.Goals as goal

abbrev run_path : RecLib → Face → Option Difference
run_path lib face = some_where (is_some face.rpath || is_some face.runpath) (HasRunPath lib.name)

abbrev needs : RecLib → Face → Option Difference
needs lib face = option_map (NeedsDiffer lib.name) (first_differing lib.needs face.needs)

pub returns-in-Some : goal.returns-in-Some
returns-in-Some c setting world r =
    let lib = c.args.lib.now in
    let face = c.args.face.now in
    here (soname_difference face_or_flaw setting world r lib.name face.soname) c.in-Some.difference (run_path lib face ∷ needs lib face ∷ []) (sym c.in-Some.is ∙ c.in_ok-difference.ensures setting world r)

pub returns-in-Some-2 : goal.returns-in-Some-2
returns-in-Some-2 c setting world r =
    let lib = c.args.lib.now in
    let face = c.args.face.now in
    next (soname_difference face_or_flaw setting world r lib.name face.soname) (run_path lib face ∷ needs lib face ∷ []) _ (sym c.in_default.is ∙ c.in_ok-difference.ensures setting world r)
    (here (run_path lib face) c.in-Some-2.difference (needs lib face ∷ []) (sym c.in-Some-2.is ∙ c.in_ok-difference-2.ensures))

pub returns : goal.returns
returns c =
    let lib = c.args.lib.now in
    let face = c.args.face.now in
    ok_more c.needs_difference.result (λ found. found ≡ needs lib face) (λ found. (setting : Setting) (world : World) (r : Recorded) → found ≡ object_difference face_or_flaw setting world r lib face)
    (λ d h setting world r. next (soname_difference face_or_flaw setting world r lib.name face.soname) (run_path lib face ∷ needs lib face ∷ []) d (sym c.in_default.is ∙ c.in_ok-difference.ensures setting world r)
    (next (run_path lib face) (needs lib face ∷ []) d (sym c.in_default-2.is ∙ c.in_ok-difference-2.ensures) (last (needs lib face) d h)))
    c.needs_difference.ensures
  where
    last : (o d : Option Difference) → d ≡ o → d ≡ first_some (o ∷ [])
    last None d h = h
    last (Some x) d h = h
