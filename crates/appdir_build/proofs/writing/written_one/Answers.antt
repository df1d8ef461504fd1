use Rattle.std.proofs.Common.{◌≡◌, get_or, refl, subst, ℕ, ◌<◌, arith, length}
use Rattle.lib_closure.specs.declared.splits.Member.{Member}
use Rattle.appdir_build.proofs.PreparedLemmas.{at_index, read_as, seen_at}
use Rattle.appdir_build.proofs.StepLemmas.{reads_nothing, stop_later}
use Rattle.appdir_build.proofs.WrittenLemmas.{IsMade, one_made, one_stops}
use Rattle.appdir_build.specs.Writing.{AreFacedIn, IsBodyFor, IsFaced}
use Rattle.appdir_build.proofs.writing.written_one.Goals as goal

pub bounds-objects-member : goal.bounds-objects-member
bounds-objects-member g c =
    subst (λ (m : Member). m.face < length c.args.objects.now.faces.now) c.index-objects-number.is
    (c.requires.writable.seen c.args.number c.index-objects-number.result (at_index c.args.objects.now.members.now c.args.objects.now.members.now c.args.number c.index-objects-number.result refl c.requires.number c.index-objects-number.is))

pub bounds-objects-number-2 : goal.bounds-objects-number-2
bounds-objects-number-2 g c =
    let count = c.requires.writable.fits.count in
    let less = c.requires.number in
    omega (arith, count, less)

pub bounds-objects-number-3 : goal.bounds-objects-number-3
bounds-objects-number-3 g c =
    let placed = c.requires.writable.placed in
    let less = c.requires.number in
    omega (arith, placed, less)

pub body_of-requires : goal.body_of-requires
body_of-requires g c =
    let objects = c.args.objects.now in
    let member = get_or objects.members.now c.args.number c.index-objects-number.result in
    let change = get_or objects.changes.now c.args.number c.index-objects-number-2.result in
    let face = get_or objects.faces.now member.face c.index-objects-member.result in
    let within = subst (λ (m : Member). m.face < length objects.faces.now) c.index-objects-number.is (c.requires.writable.seen c.args.number c.index-objects-number.result (at_index objects.members.now objects.members.now c.args.number c.index-objects-number.result refl c.requires.number c.index-objects-number.is)) in
    let seen = seen_at objects.faces.now objects.members.now objects.changes.now c.args.number c.index-objects-number.result c.index-objects-number-2.result c.index-objects-member.result c.requires.writable.fits.count c.requires.number c.index-objects-number.is c.index-objects-number-2.is within c.index-objects-member.is in
    c.requires.writable.fits.each c.args.number member change face seen.member_is seen.change_is seen.face_is

pub returns-in-Ok-item-clause-answer : goal.returns-in-Ok-item-clause-answer
returns-in-Ok-item-clause-answer g c world told faced =
    let objects = c.args.objects.now in
    let member = get_or objects.members.now c.args.number c.index-objects-number.result in
    let change = get_or objects.changes.now c.args.number c.index-objects-number-2.result in
    let face = get_or objects.faces.now member.face c.index-objects-member.result in
    let within = subst (λ (m : Member). m.face < length objects.faces.now) c.index-objects-number.is (c.requires.writable.seen c.args.number c.index-objects-number.result (at_index objects.members.now objects.members.now c.args.number c.index-objects-number.result refl c.requires.number c.index-objects-number.is)) in
    let seen = seen_at objects.faces.now objects.members.now objects.changes.now c.args.number c.index-objects-number.result c.index-objects-number-2.result c.index-objects-member.result c.requires.writable.fits.count c.requires.number c.index-objects-number.is c.index-objects-number-2.is within c.index-objects-member.is in
    let placed = c.requires.writable.placed in
    let less = c.requires.number in
    one_made world objects c.requires.writable c.args.number member change face c.as_bytes.result.now c.in-Ok.body c.in-Ok-item.item seen
    (read_as objects.places.now c.args.number c.index-objects-number-3.result c.as_bytes.result.now (omega (arith, placed, less)) c.index-objects-number-3.is c.as_bytes.ensures)
    c.in-Ok-item.ensures (c.in-Ok.ensures.answer world told) faced

pub returns-in-Err-clause-answer : goal.returns-in-Err-clause-answer
returns-in-Err-clause-answer g c =
    let before = g.T.Tree.seen c.args.tree.now in
    let objects = c.args.objects.now in
    let member = get_or objects.members.now c.args.number c.index-objects-number.result in
    let change = get_or objects.changes.now c.args.number c.index-objects-number-2.result in
    let face = get_or objects.faces.now member.face c.index-objects-member.result in
    let within = subst (λ (m : Member). m.face < length objects.faces.now) c.index-objects-number.is (c.requires.writable.seen c.args.number c.index-objects-number.result (at_index objects.members.now objects.members.now c.args.number c.index-objects-number.result refl c.requires.number c.index-objects-number.is)) in
    let seen = seen_at objects.faces.now objects.members.now objects.changes.now c.args.number c.index-objects-number.result c.index-objects-number-2.result c.index-objects-member.result c.requires.writable.fits.count c.requires.number c.index-objects-number.is c.index-objects-number-2.is within c.index-objects-member.is in
    stop_later before before (g.T.Tree.seen c.body_of.new.tree)
    (λ world outcome. IsFaced world member.path face → IsBodyFor world (member, change) outcome)
    (λ world outcome. AreFacedIn world objects → IsMade world objects c.requires.writable c.args.number outcome)
    c.in-Err.stop (reads_nothing before)
    (λ world refusal told h. one_stops world objects c.requires.writable c.args.number member change face refusal seen h)
    c.in-Err.ensures.answer
