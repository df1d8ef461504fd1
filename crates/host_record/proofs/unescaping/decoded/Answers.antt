-- What is no escaped form is none.
use Rattle.std.proofs.Common.{rules}
use Rattle.host_record.proofs.UnescapingLemmas.{no_bytes}
use Rattle.host_record.proofs.unescaping.decoded.Goals as goal

pub returns-in_default : goal.returns-in_default
returns-in_default c bytes p e =
    no_bytes c.bytes.bytes.items bytes c.bytes.rest.now c.args.field.now c.bytes.invariant.fits p c.bytes.invariant.whole e (search rules)
    c.requires.no_empty_sign c.requires.no_dash_sign c.in_default.ensures
