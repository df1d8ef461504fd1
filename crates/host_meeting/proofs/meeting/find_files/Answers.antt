use Rattle.std.proofs.Common.{◌≡◌, ◌++◌, map, None, Some, List, Option}
use Rattle.answers.specs.First.{first_some}
use Rattle.load_model.specs.Faces.{face_or_flaw}
use Rattle.load_model.specs.World.{World}
use Rattle.load_model.specs.declared.setting.Setting.{Setting}
use Rattle.load_order.proofs.WalkingAsks.{grew_not}
use Rattle.host_list.specs.Meeting.{interp_difference, lib_difference, lib_object}
use Rattle.host_list.specs.declared.differences.Difference.{Difference}
use Rattle.host_record.specs.declared.records.Record.{Record}
use Rattle.host_meeting.specs.Files.{object_at}
use Rattle.host_meeting.specs.Hosts.{OnHost}
use Rattle.host_meeting.specs.Missing.{IsMiss, TellsOf}
use Rattle.host_meeting.proofs.FirstLemmas.{err_more, leads, ok_more, past}
use Rattle.host_meeting.proofs.HostLemmas.{host_on, miss_on}
use Rattle.host_meeting.proofs.meeting.find_files.Goals as goal

abbrev interps : Record → Setting → World → List (Option Difference)
interps r setting world = map (interp_difference face_or_flaw setting world r) r.interps

abbrev libs : Record → Setting → World → List (Option Difference)
libs r setting world = map (lib_difference face_or_flaw setting world r) r.libs

pub returns-in-Err-clause-miss : goal.returns-in-Err-clause-miss
returns-in-Err-clause-miss g c =
    let r = c.args.rec.now in
    let b0 = g.P.Opener.seen c.args.opener.now in
    miss_on b0 b0 (g.P.Opener.seen c.find_interps.new.opener) c.args.dirs.now (λ setting world. first_some (interps r setting world)) (λ setting world. first_some (interps r setting world ++ libs r setting world)) c.in-Err.miss (grew_not b0)
    (λ setting world d host e. leads (interps r setting world) (libs r setting world) d e) c.in-Err.ensures.miss

pub returns-clause-found : goal.returns-clause-found
returns-clause-found g c =
    let r = c.args.rec.now in
    let b0 = g.P.Opener.seen c.args.opener.now in
    let b1 = g.P.Opener.seen c.find_interps.new.opener in
    let b2 = g.P.Opener.seen c.find_libs.new.opener in
    ok_more c.find_libs.result
    (λ found. OnHost b1.told b1.machine c.args.dirs.now (λ setting world. map (λ lib. lib_object face_or_flaw setting world r lib.name) r.libs ≡ map (object_at b2.faces) found))
    (λ found. OnHost b0.told b0.machine c.args.dirs.now (λ setting world. map (λ lib. lib_object face_or_flaw setting world r lib.name) r.libs ≡ map (object_at b2.faces) found))
    (λ x h setting world host. h setting world (host_on b0 b1 c.args.dirs.now setting world c.find_interps.ensures.grew host)) c.find_libs.ensures.found

pub returns-clause-right : goal.returns-clause-right
returns-clause-right g c =
    let r = c.args.rec.now in
    let b0 = g.P.Opener.seen c.args.opener.now in
    let b1 = g.P.Opener.seen c.find_interps.new.opener in
    ok_more c.find_libs.result (λ found. TellsOf b1 c.args.dirs.now (λ setting world. first_some (libs r setting world)) None) (λ found. TellsOf b0 c.args.dirs.now (λ setting world. first_some (interps r setting world ++ libs r setting world)) None)
    (λ x h setting world host. past (interps r setting world) (libs r setting world) None (c.in_default.ensures.met setting world host) (h setting world (host_on b0 b1 c.args.dirs.now setting world c.find_interps.ensures.grew host))) c.find_libs.ensures.right

pub returns-clause-miss : goal.returns-clause-miss
returns-clause-miss g c =
    let r = c.args.rec.now in
    let b0 = g.P.Opener.seen c.args.opener.now in
    let b1 = g.P.Opener.seen c.find_interps.new.opener in
    let b2 = g.P.Opener.seen c.find_libs.new.opener in
    err_more c.find_libs.result (IsMiss b1 b2 c.args.dirs.now (λ setting world. first_some (libs r setting world))) (IsMiss b0 b2 c.args.dirs.now (λ setting world. first_some (interps r setting world ++ libs r setting world)))
    (λ m h. miss_on b0 b1 b2 c.args.dirs.now (λ setting world. first_some (libs r setting world)) (λ setting world. first_some (interps r setting world ++ libs r setting world)) m c.find_interps.ensures.grew
    (λ setting world d host e. past (interps r setting world) (libs r setting world) (Some d) (c.in_default.ensures.met setting world host) e) h) c.find_libs.ensures.miss
