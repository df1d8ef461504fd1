use Rattle.std.proofs.Common.{◌∙◌, sym, ap, [], ◌∷◌, ◌++◌}
use Rattle.manifest.specs.Manifest.{manifest_of}
use Rattle.appdir_build.proofs.ItemLemmas.{ends, two_and}
use Rattle.host_checks.specs.Hosting.{record_place}
use Rattle.appdir_build.specs.Files.{manifest_place, report_place}
use Rattle.appdir_build.specs.Writing.{listed_items, text_item}
use Rattle.appdir_build.proofs.items.with_texts.Goals as goal

pub returns : goal.returns
returns c =
    let front = c.args.front in
    let host = text_item record_place c.args.record_bytes in
    let report = text_item report_place c.args.report in
    let main = c.args.main in
    ends front host report c.in_ok-manifest-2.manifest (text_item manifest_place (manifest_of (listed_items front c.args.record_bytes c.args.report main))) main c.before_last.result
    (c.before_last.ensures (front ++ (host ∷ report ∷ [])) main (c.in_ok-items.ensures ∙ sym (two_and front host report (main ∷ []))))
    (c.in_ok-manifest-2.ensures ∙ ap (text_item manifest_place) (c.in_ok-manifest.ensures ∙ ap manifest_of (c.as_slice.ensures ∙ c.in_ok-items.ensures)))
