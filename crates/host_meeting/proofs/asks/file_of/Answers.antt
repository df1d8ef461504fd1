use Rattle.std.proofs.Common.{◌∙◌, sym, arith}
use Rattle.std.proofs.lemmas.Option.{slice_get_within}
use Rattle.host_meeting.proofs.FileLemmas.{named_at, not_named, of_name, read_at}
use Rattle.host_meeting.proofs.asks.file_of.Goals as goal

pub returns-in-Some : goal.returns-in-Some
returns-in-Some c setting world has =
    let n = named_at c.args.libs.now.rec.now.libs c.args.name.now c.in-Some.place (sym c.place.ensures ∙ c.in-Some.is) in
    let less = slice_get_within c.args.libs.now.rec.now.libs c.in-Some.place n.lib n.stands in
    let count = c.requires in
    of_name c.args.libs.now.rec.now c.args.files.now setting world has c.args.name.now c.in-Some.place n.lib c.index-files-place.result n.stands n.is
    (read_at c.args.files.now c.in-Some.place c.index-files-place.result (omega (arith, less, count)) c.index-files-place.is)

pub returns-in-None : goal.returns-in-None
returns-in-None c = not_named c.args.libs.now.rec.now.libs c.args.name.now (sym c.place.ensures ∙ c.in-None.is)
