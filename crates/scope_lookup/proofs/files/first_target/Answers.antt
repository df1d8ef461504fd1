use Rattle.std.proofs.Common.{◌≡◌, ◌∙◌, sym, ap, subst, length, min, ◌<◌, ◌&&◌, true, false, nat_le}
use Rattle.std.specs.Iterator.Adapters.{zip_first, zip_second}
use Rattle.std.specs.Slice.Iter.{iter_rest}
use Rattle.std.specs.Str.{bytes_eq}
use Rattle.std.proofs.lemmas.Bool.{and_left, and_right}
use Rattle.std.proofs.lemmas.Slice.Zip.{zip_end, zip_turn}
use Rattle.load_model.specs.VersionCheck.{loaded_by, phase_at}
use Rattle.scope_lookup.proofs.AskingLemmas.{nothing_asked, one_longer, target_end, target_hit, target_miss}
use Rattle.scope_lookup.proofs.files.first_target.Goals.{else-eq-via-then-eq+else-is_loaded, else-eq-via-else-eq}
use Rattle.scope_lookup.proofs.files.first_target.Goals as goal

pub loop-name-init : goal.loop-name-init
loop-name-init c = nothing_asked c.args.file.now (loaded_by c.args.run.now c.args.phase)

pub loop-name-preserved-then-is_loaded : goal.loop-name-preserved-then-is_loaded
loop-name-preserved-then-is_loaded c =
    let first : iter_rest (zip_first c.into_iter-name-iterator.result) ≡ c.args.names.now = ap (λ s. iter_rest (zip_first s)) c.into_iter-name-iterator.ensures.into_iter_gives ∙ ap iter_rest c.zip-name-items.ensures.first ∙ c.iter.ensures.rest in
    let second : iter_rest (zip_second c.into_iter-name-iterator.result) ≡ c.args.targets.now = ap (λ s. iter_rest (zip_second s)) c.into_iter-name-iterator.ensures.into_iter_gives ∙ c.zip-name-items.ensures.second.0 in
    let turn = zip_turn c.args.names.now c.args.targets.now c.loop-name.yielded c.into_iter-name-iterator.result c.loop-name.name-iterator c.next.new.self c.next.result first second c.loop-name.yielded_by (c.in-Some.name, c.in-Some.target) c.in-Some.is c.next.ensures.steps in
    let within : c.in-Some.target.now < length c.args.run.now.objs = subst (λ t. t < length c.args.run.now.objs) (sym (turn.3 0)) (c.requires.targets (length c.loop-name.yielded) 0 turn.1) in
    let named : bytes_eq c.in-Some.name.now c.args.file.now ≡ true = ap (λ x. bytes_eq x c.args.file.now) (sym c.as_bytes.ensures) ∙ ap (bytes_eq c.as_bytes.result.now) (sym c.as_bytes-in-loop-name.ensures) ∙ sym c.eq.ensures ∙ c.if-eq.true in
    one_longer c.args.run.now c.args.phase c.args.file.now c.args.names.now c.args.targets.now c.loop-name.yielded (c.in-Some.name, c.in-Some.target) c.lesser_of-first.result
    (c.lesser_of-first.ensures ∙ target_hit c.args.run.now c.args.phase c.args.file.now c.args.names.now c.args.targets.now (length c.loop-name.yielded) c.in-Some.target.now c.in-Some.name.now turn.0 turn.1 (turn.2 _) (turn.3 _) within named (sym c.is_loaded.ensures ∙ c.if-is_loaded.true) c.loop-name.first c.loop-name.invariant)

pub loop-name-preserved : goal.loop-name-preserved
loop-name-preserved c =
    let first : iter_rest (zip_first c.into_iter-name-iterator.result) ≡ c.args.names.now = ap (λ s. iter_rest (zip_first s)) c.into_iter-name-iterator.ensures.into_iter_gives ∙ ap iter_rest c.zip-name-items.ensures.first ∙ c.iter.ensures.rest in
    let second : iter_rest (zip_second c.into_iter-name-iterator.result) ≡ c.args.targets.now = ap (λ s. iter_rest (zip_second s)) c.into_iter-name-iterator.ensures.into_iter_gives ∙ c.zip-name-items.ensures.second.0 in
    let turn = zip_turn c.args.names.now c.args.targets.now c.loop-name.yielded c.into_iter-name-iterator.result c.loop-name.name-iterator c.next.new.self c.next.result first second c.loop-name.yielded_by (c.in-Some.name, c.in-Some.target) c.in-Some.is c.next.ensures.steps in
    let within : c.in-Some.target.now < length c.args.run.now.objs = subst (λ t. t < length c.args.run.now.objs) (sym (turn.3 0)) (c.requires.targets (length c.loop-name.yielded) 0 turn.1) in
    let named = bytes_eq c.in-Some.name.now c.args.file.now in
    let loaded = nat_le (phase_at c.args.run.now c.in-Some.target.now) c.args.phase in
    let missed : (named && loaded) ≡ false = elim c.else-eq.branch [
      | else-eq-via-then-eq+else-is_loaded w ↦ and_right named loaded (sym w.is_loaded.ensures ∙ w.if-is_loaded.false)
      | else-eq-via-else-eq w ↦ and_left named loaded (ap (λ x. bytes_eq x c.args.file.now) (sym c.as_bytes.ensures) ∙ ap (bytes_eq c.as_bytes.result.now) (sym c.as_bytes-in-loop-name.ensures) ∙ sym c.eq.ensures ∙ w.if-eq.false)
    ] in
    one_longer c.args.run.now c.args.phase c.args.file.now c.args.names.now c.args.targets.now c.loop-name.yielded (c.in-Some.name, c.in-Some.target) c.loop-name.first
    (target_miss c.args.run.now c.args.phase c.args.file.now c.args.names.now c.args.targets.now (length c.loop-name.yielded) c.in-Some.target.now c.in-Some.name.now turn.0 turn.1 (turn.2 _) (turn.3 _) within missed c.loop-name.first c.loop-name.invariant)

pub returns : goal.returns
returns c =
    let first : iter_rest (zip_first c.into_iter-name-iterator.result) ≡ c.args.names.now = ap (λ s. iter_rest (zip_first s)) c.into_iter-name-iterator.ensures.into_iter_gives ∙ ap iter_rest c.zip-name-items.ensures.first ∙ c.iter.ensures.rest in
    let second : iter_rest (zip_second c.into_iter-name-iterator.result) ≡ c.args.targets.now = ap (λ s. iter_rest (zip_second s)) c.into_iter-name-iterator.ensures.into_iter_gives ∙ c.zip-name-items.ensures.second.0 in
    let all : length c.loop-name.yielded ≡ min (length c.args.names.now) (length c.args.targets.now) = zip_end c.args.names.now c.args.targets.now c.loop-name.yielded c.into_iter-name-iterator.result c.loop-name.name-iterator c.next.new.self c.next.result first second c.loop-name.yielded_by c.in-None.is c.next.ensures.steps in
    target_end c.args.run.now c.args.phase c.args.file.now c.args.names.now c.args.targets.now (length c.loop-name.yielded) c.loop-name.first all c.loop-name.invariant
