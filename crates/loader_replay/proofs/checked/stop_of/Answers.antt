use Rattle.std.proofs.Common.{◌∙◌, ap, refl}
use Rattle.load_model.specs.VersionCheck.{FileUnloaded, UnmetAsk, VersionLacking}
use Rattle.loader_replay.proofs.AskLemmas.{ask_within, asker_within, stop_at}
use Rattle.loader_replay.proofs.checked.stop_of.Goals as goal
use Rattle.scope_lookup.specs.Asking.{unmet_ask}

pub bounds-as_slice-obj : goal.bounds-as_slice-obj
bounds-as_slice-obj c =
    let u : UnmetAsk = record { obj = c.in-VersionFileUnloaded.obj; ask = c.in-VersionFileUnloaded.ask; why = FileUnloaded } in
    asker_within c.args.faces.now c.args.run.now u c.as_slice.result.now (c.requires.unmet ∙ ap unmet_ask c.in-VersionFileUnloaded.is) c.as_slice.ensures

pub face_of-requires-clause-obj : goal.face_of-requires-clause-obj
face_of-requires-clause-obj c =
    let u : UnmetAsk = record { obj = c.in-VersionFileUnloaded.obj; ask = c.in-VersionFileUnloaded.ask; why = FileUnloaded } in
    asker_within c.args.faces.now c.args.run.now u c.args.run.now.objs (c.requires.unmet ∙ ap unmet_ask c.in-VersionFileUnloaded.is) refl

pub bounds-as_slice-ask : goal.bounds-as_slice-ask
bounds-as_slice-ask c =
    let u : UnmetAsk = record { obj = c.in-VersionFileUnloaded.obj; ask = c.in-VersionFileUnloaded.ask; why = FileUnloaded } in
    ask_within c.args.faces.now c.args.run.now u c.face_of.result.now c.as_slice-in-VersionFileUnloaded.result.now (c.requires.unmet ∙ ap unmet_ask c.in-VersionFileUnloaded.is) c.face_of.ensures c.as_slice-in-VersionFileUnloaded.ensures

pub returns-in-VersionFileUnloaded : goal.returns-in-VersionFileUnloaded
returns-in-VersionFileUnloaded c =
    let u : UnmetAsk = record { obj = c.in-VersionFileUnloaded.obj; ask = c.in-VersionFileUnloaded.ask; why = FileUnloaded } in
    stop_at c.args.faces.now c.args.run.now u c.as_slice.result.now c.face_of.result.now c.as_slice-in-VersionFileUnloaded.result.now c.index-as_slice-obj.result c.index-as_slice-ask.result c.unloaded.result
    (c.requires.unmet ∙ ap unmet_ask c.in-VersionFileUnloaded.is) c.as_slice.ensures c.index-as_slice-obj.is c.face_of.ensures c.as_slice-in-VersionFileUnloaded.ensures c.index-as_slice-ask.is c.unloaded.ensures

pub bounds-as_slice-obj-in-UnsatisfiedVersion : goal.bounds-as_slice-obj-in-UnsatisfiedVersion
bounds-as_slice-obj-in-UnsatisfiedVersion c =
    let u : UnmetAsk = record { obj = c.in-UnsatisfiedVersion.obj; ask = c.in-UnsatisfiedVersion.ask; why = VersionLacking } in
    asker_within c.args.faces.now c.args.run.now u c.as_slice-in-UnsatisfiedVersion.result.now (c.requires.unmet ∙ ap unmet_ask c.in-UnsatisfiedVersion.is) c.as_slice-in-UnsatisfiedVersion.ensures

pub face_of-requires-in-UnsatisfiedVersion-clause-obj : goal.face_of-requires-in-UnsatisfiedVersion-clause-obj
face_of-requires-in-UnsatisfiedVersion-clause-obj c =
    let u : UnmetAsk = record { obj = c.in-UnsatisfiedVersion.obj; ask = c.in-UnsatisfiedVersion.ask; why = VersionLacking } in
    asker_within c.args.faces.now c.args.run.now u c.args.run.now.objs (c.requires.unmet ∙ ap unmet_ask c.in-UnsatisfiedVersion.is) refl

pub bounds-as_slice-ask-in-UnsatisfiedVersion : goal.bounds-as_slice-ask-in-UnsatisfiedVersion
bounds-as_slice-ask-in-UnsatisfiedVersion c =
    let u : UnmetAsk = record { obj = c.in-UnsatisfiedVersion.obj; ask = c.in-UnsatisfiedVersion.ask; why = VersionLacking } in
    ask_within c.args.faces.now c.args.run.now u c.face_of-in-UnsatisfiedVersion.result.now c.as_slice-in-UnsatisfiedVersion-2.result.now (c.requires.unmet ∙ ap unmet_ask c.in-UnsatisfiedVersion.is) c.face_of-in-UnsatisfiedVersion.ensures c.as_slice-in-UnsatisfiedVersion-2.ensures

pub returns-in-UnsatisfiedVersion : goal.returns-in-UnsatisfiedVersion
returns-in-UnsatisfiedVersion c =
    let u : UnmetAsk = record { obj = c.in-UnsatisfiedVersion.obj; ask = c.in-UnsatisfiedVersion.ask; why = VersionLacking } in
    stop_at c.args.faces.now c.args.run.now u c.as_slice-in-UnsatisfiedVersion.result.now c.face_of-in-UnsatisfiedVersion.result.now c.as_slice-in-UnsatisfiedVersion-2.result.now c.index-as_slice-obj-in-UnsatisfiedVersion.result c.index-as_slice-ask-in-UnsatisfiedVersion.result c.unsatisfied.result
    (c.requires.unmet ∙ ap unmet_ask c.in-UnsatisfiedVersion.is) c.as_slice-in-UnsatisfiedVersion.ensures c.index-as_slice-obj-in-UnsatisfiedVersion.is c.face_of-in-UnsatisfiedVersion.ensures c.as_slice-in-UnsatisfiedVersion-2.ensures c.index-as_slice-ask-in-UnsatisfiedVersion.is c.unsatisfied.ensures
