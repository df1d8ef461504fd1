use Rattle.std.proofs.Common.{arith}
use Rattle.appdir_build.proofs.ItemLemmas.{all_of}
use Rattle.appdir_build.proofs.items.all_items.Goals as goal

pub returns : goal.returns
returns c = all_of c.args.written c.args.extras c.in_ok-front.front c.args.record_bytes c.args.report c.remove-main.result c.into_vec-tools.result.items c.remove-main.new.self.items c.with_texts.result c.into_vec-tools.ensures (let size = c.remove-main.ensures.len in omega (arith, size)) c.remove-main.ensures.value c.remove-main.ensures.by_index.2 c.in_ok-front.ensures c.with_texts.ensures
