-- one version more is made
use Rattle.std.proofs.Common.{◌++◌, ap, map}
use Rattle.version_tables.specs.Indexes.{version_in}
use Rattle.version_tables.proofs.LoopLemmas.{made_more}
use Rattle.version_tables.proofs.names.symbol_versions.Goals as goal

pub loop-word-init : goal.loop-word-init
loop-word-init c = ap (λ xs. xs ++ map (version_in c.args.bytes.now c.args.places.now) c.args.words.now) c.new-versions.ensures.items

pub loop-word-preserved : goal.loop-word-preserved
loop-word-preserved c =
    made_more (version_in c.args.bytes.now c.args.places.now) c.args.words.now c.loop-word.word-index 0 c.loop-word.versions.items c.push.new.self.items (map (version_in c.args.bytes.now c.args.places.now) c.args.words.now) c.in_ok-version.version
    c.loop-word-test.true c.in-Ok.ensures.items c.in_ok-version.ensures c.loop-word.invariant
