use Rattle.std.proofs.Common.{◌≡◌, ◌∙◌, sym, ap, arith, length, zip, get_or}
use Rattle.std.specs.List.{find, list_any}
use Rattle.load_model.specs.VersionCheck.{loaded_by}
use Rattle.load_model.specs.LoadList.{lesser_of}
use Rattle.scope_lookup.specs.Firsts.{is_request_to, requests_in}
use Rattle.scope_lookup.proofs.AskingLemmas.{needed_more, needed_same, needed_so_far, none_needed, requests_at}
use Rattle.scope_lookup.proofs.files.first_needed.Goals.{then-is_loaded, else-is_loaded}
use Rattle.scope_lookup.proofs.files.first_needed.Goals as goal

pub loop-number-init : goal.loop-number-init
loop-number-init c = none_needed c.args.asked.now c.args.run.now c.args.phase c.args.file.now

pub loop-number-preserved : goal.loop-number-preserved
loop-number-preserved c =
    elim c.if-is_loaded.branch [
      | then-is_loaded w ↦
          let number = c.loop-number.number in
          let size = ap length c.as_slice.ensures in
          let lists = c.requires.lists in
          let asked = c.requires.asked in
          let requests : zip w.as_slice-names.result.now w.as_slice-targets.result.now ≡ requests_in c.args.asked.now c.args.run.now number =
          ap (λ xs. zip xs w.as_slice-targets.result.now) w.as_slice-names.ensures ∙ ap (λ ts. zip w.index-as_slice-number.result ts) w.as_slice-targets.ensures
          ∙ requests_at c.args.asked.now c.args.run.now number w.index-as_slice-number.result w.index-as_slice-number-then-is_loaded.result (omega arith) (omega arith)
          (w.index-as_slice-number.is ∙ ap (λ xs. get_or xs number w.index-as_slice-number.result) w.as_slice-then-is_loaded.ensures)
          (w.index-as_slice-number-then-is_loaded.is ∙ ap (λ xs. get_or xs number w.index-as_slice-number-then-is_loaded.result) w.as_slice-then-is_loaded-2.ensures) in
          w.first-is ∙ w.lesser_of-first.ensures
          ∙ ap (lesser_of c.loop-number.first) (w.first_target.ensures ∙ ap (λ ps. find (λ j. list_any (is_request_to c.args.file.now j) ps) (loaded_by c.args.run.now c.args.phase)) requests)
          ∙ needed_more c.args.asked.now c.args.run.now c.args.phase c.args.file.now number c.loop-number.first (sym c.is_loaded.ensures ∙ w.if-is_loaded.true) c.loop-number.invariant
      | else-is_loaded w ↦ w.first-is ∙ needed_same c.args.asked.now c.args.run.now c.args.phase c.args.file.now c.loop-number.number c.loop-number.first (sym c.is_loaded.ensures ∙ w.if-is_loaded.false) c.loop-number.invariant
    ]

pub returns : goal.returns
returns c =
    let size = ap length c.as_slice.ensures in
    let same : c.loop-number.number ≡ length c.args.run.now.objs = omega arith in
    c.loop-number.invariant ∙ ap (needed_so_far c.args.asked.now c.args.run.now c.args.phase c.args.file.now) same
