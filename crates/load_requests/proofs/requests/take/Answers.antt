use Rattle.std.proofs.Common.{◌∙◌, refl, sym, subst, Ok, arith, bytes_eq, length}
use Rattle.std.proofs.lemmas.List.Quantifiers.{position-Some}
use Rattle.load_requests.specs.Asking.{IsTaken}
use Rattle.load_requests.proofs.AskingSteps.{asking_added, asking_same, is_none, safe_added, safe_same, taken_added, taken_known, taken_not}
use Rattle.load_requests.proofs.KnownLemmas.{learnt_within}
use Rattle.load_requests.proofs.requests.take.Goals as goal

pub returns-in-Some-clause-taken : goal.returns-in-Some-clause-taken
returns-in-Some-clause-taken c = λ loaded face st at.
    taken_known c.args.faces.now c.args.loading.now (record { objs = c.args.loading.now.objs; known = c.learn.new.self; ids = c.args.loading.now.ids; targets = c.args.loading.now.targets; phase = c.args.loading.now.phase }) loaded st (record { by = c.args.object.loader; name = c.args.name.now }) (record { path = c.args.object.path; id = c.args.object.id; face = face })
    c.args.object.id c.in-Some.number refl (sym c.in-Some.ensures) (position-Some (λ x. bytes_eq x.id c.args.object.id) c.args.loading.now.objs c.in-Some.number c.args.object (sym c.in-Some.ensures)).0 refl c.in_ok-learn.ensures.learnt

pub returns-then-number-ge-MOST_OBJECTS-clause-taken : goal.returns-then-number-ge-MOST_OBJECTS-clause-taken
returns-then-number-ge-MOST_OBJECTS-clause-taken c = λ loaded face st at.
    taken_not c.args.faces.now c.args.loading.now c.args.loading.now loaded st (record { by = c.args.object.loader; name = c.args.name.now }) (record { path = c.args.object.path; id = c.args.object.id; face = face })
    c.args.object c.in_ok-path_of.field-0 c.requires.safe refl (sym c.with_id.ensures ∙ is_none c.with_id.result c.in_default.not-Some) (omega (arith, c.if-number-ge-MOST_OBJECTS.true, c.count-number.ensures)) c.in_ok-path_of.ensures

pub returns-clause-safe : goal.returns-clause-safe
returns-clause-safe c = safe_added c.args.faces.now c.args.name.now c.args.object c.args.loading.now c.add.new.loading c.in_ok-add.ensures c.requires.safe (omega (arith, c.if-number-ge-MOST_OBJECTS.false, c.count-number.ensures)) c.requires.place c.requires.loader c.requires.phase

pub returns-clause-taken : goal.returns-clause-taken
returns-clause-taken c = λ loaded face st at.
    subst (λ t. IsTaken c.args.faces.now c.add.new.loading loaded (record { by = c.args.object.loader; name = c.args.name.now }) (record { path = c.args.object.path; id = c.args.object.id; face = face }) (Ok t)) (sym c.count-number.ensures)
    (taken_added c.args.faces.now c.args.loading.now c.add.new.loading loaded st (record { by = c.args.object.loader; name = c.args.name.now }) (record { path = c.args.object.path; id = c.args.object.id; face = face })
    c.args.object c.requires.safe refl refl at refl (sym c.with_id.ensures ∙ is_none c.with_id.result c.in_default.not-Some) (omega (arith, c.if-number-ge-MOST_OBJECTS.false, c.count-number.ensures)) c.in_ok-add.ensures)

pub returns-in-Some-clause-asking : goal.returns-in-Some-clause-asking
returns-in-Some-clause-asking c = asking_same c.args.loading.now (record { objs = c.args.loading.now.objs; known = c.learn.new.self; ids = c.args.loading.now.ids; targets = c.args.loading.now.targets; phase = c.args.loading.now.phase }) refl refl refl

pub returns-clause-asking : goal.returns-clause-asking
returns-clause-asking c = asking_added c.args.faces.now c.args.name.now c.args.object c.args.loading.now c.add.new.loading c.in_ok-add.ensures c.requires.phase

pub returns-in-Some-clause-safe : goal.returns-in-Some-clause-safe
returns-in-Some-clause-safe c =
    safe_same c.args.faces.now c.args.loading.now (record { objs = c.args.loading.now.objs; known = c.learn.new.self; ids = c.args.loading.now.ids; targets = c.args.loading.now.targets; phase = c.args.loading.now.phase }) c.requires.safe refl
    (learnt_within (bytes_eq c.args.name.now) c.in-Some.number (length c.args.loading.now.objs) c.args.loading.now.known c.learn.new.self c.in_ok-learn.ensures.learnt (position-Some (λ x. bytes_eq x.id c.args.object.id) c.args.loading.now.objs c.in-Some.number c.args.object (sym c.in-Some.ensures)).0 c.requires.safe.known)
    refl refl refl
