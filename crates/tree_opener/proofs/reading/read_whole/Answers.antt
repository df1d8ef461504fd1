use Rattle.std.proofs.Common.{vec_len}
use Rattle.ports.specs.Reading.{bytes_at}
use Rattle.tree_opener.proofs.ReadingLemmas.{whole_read}
use Rattle.tree_opener.proofs.reading.read_whole.Goals as goal

pub returns-clause-bytes : goal.returns-clause-bytes
returns-clause-bytes g c world told =
    whole_read c.args.len (vec_len c.read_to.new.bytes) c.read_to.new.bytes.items (bytes_at world c.args.path.now) (c.requires world told) (c.in_ok-read_to.ensures.front world told) c.in_ok-read_to.ensures.enough c.in_ok-read_to.ensures.fits
