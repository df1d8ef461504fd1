use Rattle.std.proofs.Common.{◌∙◌, ap, refl, sym, subst, slice_get}
use Rattle.load_requests.specs.Asking.{IsTaken}
use Rattle.load_requests.specs.Standing.{IsSafe, Stands}
use Rattle.load_requests.proofs.AskingGrown.{safe_grown, stands_grown}
use Rattle.load_requests.proofs.AskingPlaces.{within_get}
use Rattle.load_requests.proofs.AskingSteps.{asking_same, is_none}
use Rattle.load_requests.proofs.AskingAnswers.{asked_found, asked_known, asked_missing, asked_refused, asked_stopped}
use Rattle.load_requests.proofs.requests.ask.Goals as goal

pub returns-in-Err-clause-answer : goal.returns-in-Err-clause-answer
returns-in-Err-clause-answer g c = λ loaded st.
    asked_refused c.args.setting.now (g.P.Opener.seen c.args.opener.now) (g.P.Opener.seen c.args.opener.now) c.args.loading.now loaded (record { by = c.args.request.by; name = c.args.request.name.now }) st c.args.loading.now c.in-Err.stop
    (c.in-Err.ensures (g.P.Opener.seen c.args.opener.now).faces loaded.objs st.objects)

pub take-requires-clause-safe : goal.take-requires-clause-safe
take-requires-clause-safe g c =
    subst (λ l. IsSafe l c.args.loading.now) (sym c.faces.ensures.table) (safe_grown (g.P.Opener.seen c.args.opener.now) (g.P.Opener.seen c.search.new.opener) c.args.loading.now c.search.ensures.grew c.requires.safe)

pub returns-in-Some-clause-answer : goal.returns-in-Some-clause-answer
returns-in-Some-clause-answer g c = λ loaded st.
    asked_known c.args.setting.now (g.P.Opener.seen c.args.opener.now) (g.P.Opener.seen c.args.opener.now) c.args.loading.now loaded (record { by = c.args.request.by; name = c.args.request.name.now }) st c.args.loading.now c.in-Some.number c.requires.safe
    (c.in_default.ensures (g.P.Opener.seen c.args.opener.now).faces loaded.objs st.objects) (sym c.in-Some.ensures) refl refl refl

pub returns-in_ok-missing-in-Ok-Missing-clause-answer : goal.returns-in_ok-missing-in-Ok-Missing-clause-answer
returns-in_ok-missing-in-Ok-Missing-clause-answer g c = λ loaded st.
    asked_missing c.args.setting.now (g.P.Opener.seen c.args.opener.now) (g.P.Opener.seen c.search.new.opener) c.args.loading.now loaded (record { by = c.args.request.by; name = c.args.request.name.now }) st c.as_slice-objs.result.now c.as_slice-objs.ensures c.requires.safe c.requires.by (c.in_default.ensures (g.P.Opener.seen c.args.opener.now).faces loaded.objs st.objects) (sym c.first.ensures ∙ is_none c.first.result c.in_default-first.not-Some)
    c.args.loading.now c.in_ok-missing-in-Ok-Missing.field-0 (c.in_ok-missing-in-Ok-Missing.ensures (g.P.Opener.seen c.args.opener.now).faces loaded.objs st.objects) (rw c.in-Ok-Missing.field-0-is at c.in-Ok-Missing.ensures.answer)

pub returns-in-Err-search-clause-answer : goal.returns-in-Err-search-clause-answer
returns-in-Err-search-clause-answer g c = λ loaded st.
    asked_stopped c.args.setting.now (g.P.Opener.seen c.args.opener.now) (g.P.Opener.seen c.search.new.opener) c.args.loading.now loaded (record { by = c.args.request.by; name = c.args.request.name.now }) st c.as_slice-objs.result.now c.as_slice-objs.ensures c.requires.safe c.requires.by (c.in_default.ensures (g.P.Opener.seen c.args.opener.now).faces loaded.objs st.objects) (sym c.first.ensures ∙ is_none c.first.result c.in_default-first.not-Some)
    c.args.loading.now c.in-Err-search.stop c.in-Err-search.ensures.answer

pub returns-in-Ok-Found-clause-answer : goal.returns-in-Ok-Found-clause-answer
returns-in-Ok-Found-clause-answer g c = λ loaded st.
    let h = rw c.in-Ok-Found.field-0-is at c.in-Ok-Found.ensures.answer in
    let face = within_get (g.P.Opener.seen c.search.new.opener).faces c.in-Ok-Found.face h.0 in
    asked_found c.args.setting.now (g.P.Opener.seen c.args.opener.now) (g.P.Opener.seen c.search.new.opener) c.args.loading.now loaded (record { by = c.args.request.by; name = c.args.request.name.now }) st c.as_slice-objs.result.now c.as_slice-objs.ensures c.requires.safe c.requires.by (c.in_default.ensures (g.P.Opener.seen c.args.opener.now).faces loaded.objs st.objects) (sym c.first.ensures ∙ is_none c.first.result c.in_default-first.not-Some)
    c.take.new.loading c.in-Ok-Found.path c.in-Ok-Found.id c.in-Ok-Found.face face.0 c.take.result face.1 h
    (subst (λ l. IsTaken l c.take.new.loading loaded (record { by = c.args.request.by; name = c.args.request.name.now }) (record { path = c.in-Ok-Found.path; id = c.in-Ok-Found.id; face = face.0 }) c.take.result) c.faces.ensures.table
    (c.take.ensures.taken loaded face.0 (subst (λ l. Stands l c.args.loading.now loaded) (sym c.faces.ensures.table) (stands_grown (g.P.Opener.seen c.args.opener.now) (g.P.Opener.seen c.search.new.opener) c.args.loading.now loaded c.search.ensures.grew st)) (ap (λ l. slice_get l c.in-Ok-Found.face) c.faces.ensures.table ∙ face.1)))

pub returns-in-Some-clause-asking : goal.returns-in-Some-clause-asking
returns-in-Some-clause-asking g c = asking_same c.args.loading.now c.args.loading.now refl refl refl
