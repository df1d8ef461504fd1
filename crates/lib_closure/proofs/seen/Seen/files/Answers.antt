use Rattle.std.proofs.Common.{◌∙◌, Some, ap, map, sym, slice_get, vec_items}
use Rattle.std.specs.Option.{option_map}
use Rattle.std.proofs.lemmas.Option.{slice_get-map, slice_get_past}
use Rattle.text_sets.proofs.FoundLemmas.{got}
use Rattle.lib_closure.proofs.SeenLemmas.{files_read, files_unread}
use Rattle.lib_closure.proofs.seen.Seen.files.Goals as goal

pub returns-in-Some : goal.returns-in-Some
returns-in-Some c =
    let read = got c.deref.result.now c.args.self.now.number (Some c.in-Some.files) c.in-Some.ensures.lookup in
    c.as_slice.ensures.value
    ∙ files_read c.args.self.now c.in-Some.files.now.items
    (ap (λ xs. slice_get (map vec_items xs) c.args.self.now.number) (sym c.deref.ensures.value)
    ∙ slice_get-map vec_items c.deref.result.now c.args.self.now.number ∙ ap (option_map vec_items) (sym read))

pub returns-in-None : goal.returns-in-None
returns-in-None c =
    absurd (files_unread c.args.self.now
    (ap (λ xs. slice_get (map vec_items xs) c.args.self.now.number) (sym c.deref.ensures.value)
    ∙ slice_get-map vec_items c.deref.result.now c.args.self.now.number
    ∙ ap (option_map vec_items) (slice_get_past c.deref.result.now c.args.self.now.number c.in-None.ensures.lookup.3)))
