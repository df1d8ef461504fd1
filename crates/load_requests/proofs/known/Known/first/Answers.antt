-- What the key of the name leads to.
use Rattle.std.proofs.Common.{◌∙◌, ap, sym, bytes_eq, vec_items}
use Rattle.load_requests.specs.Known.{first_known}
use Rattle.load_requests.proofs.KnownLemmas.{lookup_named}
use Rattle.load_requests.proofs.known.Known.first.Goals as goal

pub returns : goal.returns
returns c =
    c.copied.ensures ∙ c.get.ensures.value
    ∙ sym (lookup_named vec_items (bytes_eq c.as_bytes.result.now) c.self.inside.firsts.entries)
    ∙ ap (first_known c.as_bytes.result.now) c.self.view_is ∙ ap (λ n. first_known n c.args.self.now) c.as_bytes.ensures
