use Rattle.std.proofs.Common.{◌≡◌, ◌∙◌, ap, refl, subst, ℕ, List, [], get_or, length}
use Rattle.std.proofs.lemmas.Option.{slice_get_read}
use Rattle.load_model.specs.declared.faces.Face.{Face}
use Rattle.load_requests.specs.Asking.{IsPushed}
use Rattle.load_requests.specs.declared.loading.Loading.{Loading}
use Rattle.load_requests.proofs.AskingProgram.{IsBegun, alone_safe, begun, starts_absent, starts_not, starts_object, starts_other}
use Rattle.load_requests.proofs.program.start.Goals as goal

pub returns-in-Ok-Absent-clause-answer : goal.returns-in-Ok-Absent-clause-answer
returns-in-Ok-Absent-clause-answer g c = λ setting m.
    let h = starts_absent setting (g.P.Opener.seen c.args.opener.now) (g.P.Opener.seen c.open.new.self) c.args.start.now m (rw c.in-Ok-Absent.field-0-is at c.in-Ok-Absent.ensures.opened) in
    rw c.in_ok-path.ensures h

pub returns-in-Ok-Other-clause-answer : goal.returns-in-Ok-Other-clause-answer
returns-in-Ok-Other-clause-answer g c = λ setting m.
    let h = starts_other setting (g.P.Opener.seen c.args.opener.now) (g.P.Opener.seen c.open.new.self) c.args.start.now m (rw c.in-Ok-Other.field-0-is at c.in-Ok-Other.ensures.opened) in
    rw c.in_ok-path.ensures h

pub returns-in-Err-clause-answer : goal.returns-in-Err-clause-answer
returns-in-Err-clause-answer g c = λ setting m. starts_not setting (g.P.Opener.seen c.args.opener.now) (g.P.Opener.seen c.open.new.self) c.args.start.now m c.in-Err.fault c.in-Err.ensures.opened

-- the program alone
alone_of : (path start : List ℕ) (id : List ℕ) (place : ℕ) (face : Face) (none s : Loading) → path ≡ start → none.objs ≡ [] → none.known ≡ [] → none.ids ≡ [] → none.targets ≡ [] → none.phase ≡ 0
    → IsPushed face (record { path = path; id = id; face = place; loader = 0; phase = 0 }) none s → IsBegun face (record { path = start; id = id; face = place; loader = 0; phase = 0 }) s
alone_of path start id place face none s same objs known ids targets phase pushed =
    begun face (record { path = start; id = id; face = place; loader = 0; phase = 0 }) none s objs known ids targets phase (subst (λ p. IsPushed face (record { path = p; id = id; face = place; loader = 0; phase = 0 }) none s) same pushed)

pub returns-in_ok-push-in-Ok-Object-clause-safe : goal.returns-in_ok-push-in-Ok-Object-clause-safe
returns-in_ok-push-in-Ok-Object-clause-safe g c =
    let opened = rw c.in-Ok-Object.field-0-is at c.in-Ok-Object.ensures.opened in
    alone_safe (g.P.Opener.seen c.open.new.self).faces c.args.start.now c.in-Ok-Object.id c.in-Ok-Object.face c.index-faces-face.result
    (slice_get_read (g.P.Opener.seen c.open.new.self).faces (length (g.P.Opener.seen c.open.new.self).faces) c.in-Ok-Object.face c.index-faces-face.result refl opened.0 (c.index-faces-face.is ∙ ap (λ l. get_or l c.in-Ok-Object.face c.index-faces-face.result) c.faces.ensures.table))
    _ (alone_of c.in_ok-path.path c.args.start.now c.in-Ok-Object.id c.in-Ok-Object.face c.index-faces-face.result c.new-loading.result _ c.in_ok-path.ensures c.new-loading.ensures.objs c.new-loading.ensures.known c.new-loading.ensures.ids c.new-loading.ensures.targets c.new-loading.ensures.phase c.in_ok-push-in-Ok-Object.ensures)

pub returns-in_ok-push-in-Ok-Object-clause-answer : goal.returns-in_ok-push-in-Ok-Object-clause-answer
returns-in_ok-push-in-Ok-Object-clause-answer g c = λ setting m.
    let opened = rw c.in-Ok-Object.field-0-is at c.in-Ok-Object.ensures.opened in
    starts_object setting (g.P.Opener.seen c.args.opener.now) (g.P.Opener.seen c.open.new.self) c.args.start.now m c.in-Ok-Object.id c.in-Ok-Object.face c.index-faces-face.result c.open.ensures.grew opened
    (slice_get_read (g.P.Opener.seen c.open.new.self).faces (length (g.P.Opener.seen c.open.new.self).faces) c.in-Ok-Object.face c.index-faces-face.result refl opened.0 (c.index-faces-face.is ∙ ap (λ l. get_or l c.in-Ok-Object.face c.index-faces-face.result) c.faces.ensures.table))
    _ (alone_of c.in_ok-path.path c.args.start.now c.in-Ok-Object.id c.in-Ok-Object.face c.index-faces-face.result c.new-loading.result _ c.in_ok-path.ensures c.new-loading.ensures.objs c.new-loading.ensures.known c.new-loading.ensures.ids c.new-loading.ensures.targets c.new-loading.ensures.phase c.in_ok-push-in-Ok-Object.ensures)
