use Rattle.appdir_build.proofs.ItemLemmas.{pushed}
use Rattle.host_checks.specs.Hosting.{record_place}
use Rattle.appdir_build.specs.Files.{report_place}
use Rattle.appdir_build.specs.Writing.{text_item}
use Rattle.appdir_build.proofs.items.listed_items.Goals as goal

pub returns : goal.returns
returns c = pushed c.args.front c.push.new.self c.push-2.new.self c.push-3.new.self c.in_ok-text_item.field-0 c.in_ok-text_item-2.field-0 c.args.main (text_item record_place c.args.record_bytes) (text_item report_place c.args.report) c.in_ok-push.ensures.ok c.in_ok-push-2.ensures.ok c.in_ok-push-3.ensures.ok c.in_ok-text_item.ensures c.in_ok-text_item-2.ensures
