use Rattle.std.proofs.Common.{rules, tests}
use Rattle.std.proofs.lemmas.Iterator.Consumers.{YieldsList-at}
use Rattle.std.proofs.lemmas.Iterator.{YieldsList-from_slice, YieldsList-from_zip}
use Rattle.std.proofs.lemmas.Iterator.Search.{find_from_yields_List}
use Rattle.lib_closure.specs.Clashes.{is_alias}
use Rattle.lib_closure.specs.OfBuild.{of_build}
use Rattle.lib_closure.specs.Seen.{standing}
use Rattle.lib_closure.proofs.hosts.aliased_need.Goals as goal

pub returns : goal.returns
returns c =
    find_from_yields_List {s = c.zip.result} (of_build is_alias c.args.build.now (standing c.args.seen.now)) c.find.new.self _ c.find.result c.find.ensures.ran
    (YieldsList-from_zip {s = c.zip.result} (YieldsList-at c.zip.ensures.first (YieldsList-from_slice {s = c.iter.result} c.args.needs.now c.iter.ensures.rest)) (YieldsList-from_slice {s = c.zip.result.b} c.args.targets.now c.zip.ensures.second.0))
    (λ x b q k. search (rules, tests))
