use Rattle.std.proofs.Common.{◌≡◌, ◌∙◌, ◌<◌, arith, length, refl, vec_items}
use Rattle.std.proofs.lemmas.Option.{slice_get_read}
use Rattle.host_list.proofs.NumberLemmas.{made_count, made_there}
use Rattle.version_files.specs.Files.{files_at, files_of_run}
use Rattle.host_list.proofs.versions.files_at.Goals as goal

pub bounds-files-obj : goal.bounds-files-obj
unfolding files_of_run
bounds-files-obj c =
    let count = made_count vec_items (files_at c.args.place.now.faces.now c.args.place.now.run.now) c.args.files.now (length c.args.place.now.run.now.objs) c.requires.files in
    let there = c.requires.obj in
    omega arith

pub returns : goal.returns
unfolding files_of_run
returns c =
    let f = files_at c.args.place.now.faces.now c.args.place.now.run.now in
    let number = length c.args.place.now.run.now.objs in
    let count : length c.args.files.now ≡ number = made_count vec_items f c.args.files.now number c.requires.files in
    let there = c.requires.obj in
    let inside : c.args.obj < length c.args.files.now = omega arith in
    c.as_slice.ensures.value ∙ made_there vec_items f c.args.files.now number c.args.obj c.index-files-obj.result c.requires.files there (slice_get_read c.args.files.now (length c.args.files.now) c.args.obj c.index-files-obj.result refl inside c.index-files-obj.is)
