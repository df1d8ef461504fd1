use Rattle.std.proofs.Common.{◌∙◌, ap, sym}
use Rattle.load_model.specs.Candidates.{has_dollar, is_relative}
use Rattle.load_requests.proofs.AskingSteps.{path_is, relative_refused, text_passes, token_refused}
use Rattle.load_requests.proofs.requests.check_text.Goals as goal

pub returns-then-has_dollar : goal.returns-then-has_dollar
returns-then-has_dollar c = λ faces objects are.
    let h = token_refused objects (record { by = c.args.request.by; name = c.args.request.name.now }) c.in_ok-by.by
    (path_is faces c.args.loading.now.objs objects (record { by = c.args.request.by; name = c.args.request.name.now }) c.in_ok-by.by c.requires are c.in_ok-by.ensures)
    (ap has_dollar (sym c.as_bytes-text.ensures) ∙ sym c.has_dollar.ensures ∙ c.if-has_dollar.true) in
    rw c.in_ok-name.ensures h

pub returns-then-is_relative : goal.returns-then-is_relative
returns-then-is_relative c = λ faces objects are.
    let h = relative_refused objects (record { by = c.args.request.by; name = c.args.request.name.now }) c.in_ok-by-2.by
    (path_is faces c.args.loading.now.objs objects (record { by = c.args.request.by; name = c.args.request.name.now }) c.in_ok-by-2.by c.requires are c.in_ok-by-2.ensures)
    (ap has_dollar (sym c.as_bytes-text.ensures) ∙ sym c.has_dollar.ensures ∙ c.if-has_dollar.false)
    (ap is_relative (sym c.as_bytes-text.ensures) ∙ sym c.is_relative.ensures ∙ c.if-is_relative.true) in
    rw c.in_ok-name-2.ensures h

pub returns : goal.returns
returns c = λ faces objects are. text_passes objects (record { by = c.args.request.by; name = c.args.request.name.now })
    (ap has_dollar (sym c.as_bytes-text.ensures) ∙ sym c.has_dollar.ensures ∙ c.if-has_dollar.false)
    (ap is_relative (sym c.as_bytes-text.ensures) ∙ sym c.is_relative.ensures ∙ c.if-is_relative.false)
