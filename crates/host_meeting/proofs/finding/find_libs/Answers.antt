use Rattle.std.proofs.Common.{◌≡◌, ◌∙◌, ◌∷◌, ◌++◌, [], All, ap, sym, subst, length, map, arith}
use Rattle.std.proofs.lemmas.List.{length-append, take_all}
use Rattle.answers.specs.First.{first_some}
use Rattle.load_model.specs.Faces.{face_or_flaw}
use Rattle.load_model.specs.Opening.{IsPlace}
use Rattle.load_requests.proofs.AskingPlaces.{all_more, all_push}
use Rattle.load_order.proofs.WalkingAsks.{grew_on}
use Rattle.host_list.specs.Meeting.{lib_difference, lib_object}
use Rattle.host_record.specs.declared.records.RecLib.{RecLib}
use Rattle.host_meeting.specs.Files.{object_at}
use Rattle.host_meeting.specs.declared.found.FoundLib.{FoundLib}
use Rattle.host_meeting.proofs.FileLemmas.{mapped_next}
use Rattle.host_meeting.proofs.FirstLemmas.{found, over, passed}
use Rattle.host_meeting.proofs.HostLemmas.{host_on, miss_on, objects_still}
use Rattle.host_meeting.proofs.finding.find_libs.Goals as goal

pub loop-lib-preserved : goal.loop-lib-preserved
loop-lib-preserved g c =
    let b0 = g.P.Opener.seen c.args.opener.now in
    let b1 = g.P.Opener.seen c.loop-lib.opener in
    let b2 = g.P.Opener.seen c.find_lib.new.opener in
    let grew = c.find_lib.ensures.grew in
    let longer = grew.longer in
    let count = c.loop-lib.invariant.count in
    let more : c.push.new.self ≡ c.loop-lib.found ++ c.in-Ok.file ∷ [] = c.in_ok-push-in-Ok.ensures.ok in
    let one = length-append c.loop-lib.found (c.in-Ok.file ∷ []) in
    let total = ap length more in
    record {
      places = subst (λ l. All (λ (f : FoundLib). IsPlace b2 f.face) l) (sym more)
          (all_push (λ (f : FoundLib). IsPlace b2 f.face) c.loop-lib.found c.in-Ok.file (all_more (λ (f : FoundLib). IsPlace b1 f.face) (λ (f : FoundLib). IsPlace b2 f.face) c.loop-lib.found (λ f h. omega (arith, h, longer)) c.loop-lib.invariant.places) c.in-Ok.ensures.place);
      count = omega (arith, total, one, count);
      found = λ setting world host. sym (mapped_next (object_at b2.faces) (λ (lib : RecLib). lib_object face_or_flaw setting world c.args.rec.now lib.name) c.loop-lib.found c.push.new.self c.in-Ok.file c.as_slice-lib-items.result.now c.loop-lib.lib-index c.lib-item.result c.loop-lib-test.true c.lib-item.is
          (sym (c.loop-lib.invariant.found setting world host ∙ objects_still b1 b2 grew c.loop-lib.found c.loop-lib.invariant.places))
          (sym (c.in-Ok.ensures.found setting world (host_on b0 b1 c.args.dirs.now setting world c.loop-lib.invariant.grew host))) more);
      right = λ setting world host. passed (lib_difference face_or_flaw setting world c.args.rec.now) c.as_slice-lib-items.result.now c.loop-lib.lib-index (first_some (map (lib_difference face_or_flaw setting world c.args.rec.now) c.args.rec.now.libs)) c.lib-item.result c.loop-lib-test.true c.lib-item.is
          (c.in-Ok.ensures.right setting world (host_on b0 b1 c.args.dirs.now setting world c.loop-lib.invariant.grew host)) (c.loop-lib.invariant.right setting world host);
      grew = grew_on b0 b1 b2 c.loop-lib.invariant.grew grew;
    }

pub returns-in-Err-clause-miss : goal.returns-in-Err-clause-miss
returns-in-Err-clause-miss g c =
    miss_on (g.P.Opener.seen c.args.opener.now) (g.P.Opener.seen c.loop-lib.opener) (g.P.Opener.seen c.find_lib.new.opener) c.args.dirs.now
    (λ setting world. lib_difference face_or_flaw setting world c.args.rec.now c.lib-item.result) (λ setting world. first_some (map (lib_difference face_or_flaw setting world c.args.rec.now) c.args.rec.now.libs))
    c.in-Err.miss c.loop-lib.invariant.grew
    (λ setting world d host e. found (lib_difference face_or_flaw setting world c.args.rec.now) c.as_slice-lib-items.result.now c.loop-lib.lib-index (first_some (map (lib_difference face_or_flaw setting world c.args.rec.now) c.args.rec.now.libs)) c.lib-item.result d c.loop-lib-test.true c.lib-item.is e (c.loop-lib.invariant.right setting world host))
    c.in-Err.ensures.miss

pub returns-clause-found : goal.returns-clause-found
returns-clause-found g c setting world host =
    ap (map (λ (lib : RecLib). lib_object face_or_flaw setting world c.args.rec.now lib.name)) (sym c.as_slice-lib-items.ensures ∙ sym (take_all c.loop-lib.lib-index c.as_slice-lib-items.result.now c.loop-lib-test.false))
    ∙ c.loop-lib.invariant.found setting world host

pub returns-clause-right : goal.returns-clause-right
returns-clause-right g c setting world host =
    over (lib_difference face_or_flaw setting world c.args.rec.now) c.as_slice-lib-items.result.now c.loop-lib.lib-index (first_some (map (lib_difference face_or_flaw setting world c.args.rec.now) c.args.rec.now.libs)) c.loop-lib-test.false (c.loop-lib.invariant.right setting world host)
