use Rattle.std.proofs.Common.{◌∙◌, ap, sym, get_or, Some, None}
use Rattle.host_meeting.proofs.FindingLemmas.{found_difference, found_object}
use Rattle.host_meeting.proofs.finding.find_lib.Goals as goal

pub returns-in-Some-clause-miss : goal.returns-in-Some-clause-miss
returns-in-Some-clause-miss g c setting world host =
    found_difference (g.P.Opener.seen c.args.opener.now) (g.P.Opener.seen c.search_dirs.new.opener) c.args.dirs.now c.args.rec.now c.args.lib.now c.in-Ok-Found.path c.in-Ok-Found.id c.in-Ok-Found.face c.index-faces-face.result (Some c.in-Some.difference) setting world
    (rw c.in-Ok-Found.field-0-is at c.in-Ok-Found.ensures.answer) (c.index-faces-face.is ∙ ap (λ l. get_or l c.in-Ok-Found.face c.index-faces-face.result) c.faces.ensures.table)
    (sym c.in-Some.is ∙ c.in_ok-difference-in-Ok-Found.ensures setting world c.args.rec.now) host

pub returns-in-Ok-Found-clause-found : goal.returns-in-Ok-Found-clause-found
returns-in-Ok-Found-clause-found g c setting world host =
    found_object (g.P.Opener.seen c.args.opener.now) (g.P.Opener.seen c.search_dirs.new.opener) c.args.dirs.now c.args.rec.now c.args.lib.now c.in-Ok-Found.path c.in-Ok-Found.id c.in-Ok-Found.face setting world
    (rw c.in-Ok-Found.field-0-is at c.in-Ok-Found.ensures.answer) host

pub returns-in-Ok-Found-clause-right : goal.returns-in-Ok-Found-clause-right
returns-in-Ok-Found-clause-right g c setting world host =
    found_difference (g.P.Opener.seen c.args.opener.now) (g.P.Opener.seen c.search_dirs.new.opener) c.args.dirs.now c.args.rec.now c.args.lib.now c.in-Ok-Found.path c.in-Ok-Found.id c.in-Ok-Found.face c.index-faces-face.result None setting world
    (rw c.in-Ok-Found.field-0-is at c.in-Ok-Found.ensures.answer) (c.index-faces-face.is ∙ ap (λ l. get_or l c.in-Ok-Found.face c.index-faces-face.result) c.faces.ensures.table)
    (sym c.in_default.is ∙ c.in_ok-difference-in-Ok-Found.ensures setting world c.args.rec.now) host
