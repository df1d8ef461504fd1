use Rattle.std.proofs.Common.{◌≡◌, All, drop, length, map, take}
use Rattle.answers.specs.First.{first_some}
use Rattle.load_model.specs.Faces.{face_or_flaw}
use Rattle.load_model.specs.Opening.{IsPlace, OnlyGrew}
use Rattle.host_list.specs.Meeting.{lib_difference, lib_object}
use Rattle.host_meeting.specs.Files.{object_at}
use Rattle.host_meeting.specs.Hosts.{OnHost}
use Rattle.host_meeting.specs.declared.found.FoundLib.{FoundLib}
use Rattle.host_meeting.proofs.finding.find_libs.Given as goal

-- the libraries so far have these files, and what is left comes to what all comes to
abbrev pub invariant-loop-lib : goal.invariant-loop-lib
invariant-loop-lib g l = record {
  places : All (λ (f : FoundLib). IsPlace (g.P.Opener.seen l.opener) f.face) l.found;
  count : length l.found ≡ l.lib-index;
  found : OnHost (g.P.Opener.seen l.initial.opener).told (g.P.Opener.seen l.initial.opener).machine l.dirs (λ setting world. map (λ lib. lib_object face_or_flaw setting world l.rec lib.name) (take l.lib-index l.lib-items) ≡ map (object_at (g.P.Opener.seen l.opener).faces) l.found);
  right : OnHost (g.P.Opener.seen l.initial.opener).told (g.P.Opener.seen l.initial.opener).machine l.dirs (λ setting world. first_some (map (lib_difference face_or_flaw setting world l.rec) (drop l.lib-index l.lib-items)) ≡ first_some (map (lib_difference face_or_flaw setting world l.rec) l.rec.libs));
  grew : OnlyGrew (g.P.Opener.seen l.initial.opener) (g.P.Opener.seen l.opener);
}
