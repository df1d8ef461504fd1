-- The names after one was put.
use Rattle.std.proofs.Common.{◌∙◌, vec_items}
use Rattle.load_requests.proofs.KnownLemmas.{put_known}
use Rattle.load_requests.proofs.known.Known.put.Goals as goal

pub returns-clause-first : goal.returns-clause-first
returns-clause-first c =
    put_known vec_items c.self.inside.firsts.entries c.insert.new.self.entries c.in_ok-name.name c.args.number c.args.self.now c.args.name.now
    c.self.view_is (c.in_ok-name.ensures.items ∙ c.as_bytes.ensures) c.in-Ok.ensures.entries
