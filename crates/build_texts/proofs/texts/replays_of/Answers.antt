use Rattle.std.proofs.Common.{◌≡◌, ◌∷◌, ◌++◌, [], All, sym, ap, subst}
use Rattle.std.specs.Vec.Iter.{into_iter_items}
use Rattle.std.proofs.lemmas.List.Elements.{All-push, All-rest, All-same}
use Rattle.load_model.specs.Bindings.{IsBindOver}
use Rattle.load_model.specs.Runs.{IsRunOver}
use Rattle.load_model.specs.declared.runs.Replay.{Replay}
use Rattle.build_texts.specs.Texts.{replay_in}
use Rattle.build_texts.proofs.ReplayLemmas.{replay_more}
use Rattle.build_texts.proofs.texts.replays_of.Goals as goal

pub runs-preserved : goal.runs-preserved
runs-preserved c =
    let faces = c.args.faces.now in
    let run = c.in-Some.run' in
    let made = c.in_ok-replay_of.field-0 in
    let steps : into_iter_items c.runs.run-iterator ≡ run ∷ into_iter_items c.next.new.self = c.in-Some.ensures.steps.0 in
    let is : made ≡ replay_in faces run = c.in_ok-replay_of.ensures.replay in
    let over : All (IsBindOver faces made.run) made.binds =
    subst (λ r. All (IsBindOver faces r) made.binds) (sym (ap (λ (r : Replay). r.run) is)) c.in_ok-replay_of.ensures.over in
    record {
      replays = replay_more (replay_in faces) c.runs.replays c.push.new.self made run (into_iter_items c.runs.run-iterator) (into_iter_items c.next.new.self) c.args.runs c.runs.invariant.replays steps c.in_ok-push.ensures.ok is;
      over =
          All-same (λ (r : Replay). All (IsBindOver faces r.run) r.binds) c.push.new.self (c.runs.replays ++ made ∷ []) c.in_ok-push.ensures.ok
          (All-push (λ (r : Replay). All (IsBindOver faces r.run) r.binds) c.runs.replays made c.runs.invariant.over over);
      left = All-rest (IsRunOver faces) run (into_iter_items c.next.new.self) (into_iter_items c.runs.run-iterator) steps c.runs.invariant.left;
    }
