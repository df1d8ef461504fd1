use Rattle.std.proofs.Common.{◌∙◌, sym, ap, length}
use Rattle.build_texts.proofs.ReplayLemmas.{run_count}
use Rattle.build_texts.proofs.texts.places_in.Goals as goal

pub all_places-requires : goal.all_places-requires
all_places-requires c =
    ap length c.as_slice-2.ensures ∙ ap length c.in_ok-programs.ensures
    ∙ sym (run_count c.args.config.now c.args.plan.now c.requires) ∙ sym (ap length c.as_slice.ensures)
