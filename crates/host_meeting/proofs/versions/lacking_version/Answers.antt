use Rattle.std.proofs.Common.{◌∙◌, ap, sym, true, false, arith}
use Rattle.answers.specs.First.{some_where}
use Rattle.host_list.specs.declared.differences.Difference.TheVariants.{NoVersion}
use Rattle.host_record.specs.declared.records.RecLib.{RecLib}
use Rattle.host_meeting.proofs.FileLemmas.{read_at, version_by}
use Rattle.lib_closure.proofs.ContainedLemmas.{is_there}
use Rattle.host_meeting.proofs.versions.lacking_version.Goals as goal

pub returns-then-has_version : goal.returns-then-has_version
returns-then-has_version c setting world has =
    let k = c.args.version.now.lib in
    let over = c.requires.over in
    let count = c.requires.files in
    let lib = is_there c.args.rec.now.libs k over in
    version_by c.args.rec.now c.args.files.now setting world has c.args.version.now lib.it c.index-files-version.result true lib.is (read_at c.args.files.now k c.index-files-version.result (omega (arith, over, count)) c.index-files-version.is) (sym c.if-has_version.true ∙ c.has_version.ensures)

pub returns : goal.returns
returns c setting world has =
    let k = c.args.version.now.lib in
    let over = c.requires.over in
    let count = c.requires.files in
    ap (λ v. some_where true (NoVersion c.in_ok-name.name v)) c.in_ok-copy.ensures
    ∙ ap (λ n. some_where true (NoVersion n c.args.version.now.version)) (c.in_ok-name.ensures ∙ ap (λ (l : RecLib). l.name) (sym c.index-as_slice-version.is))
    ∙ version_by c.args.rec.now c.args.files.now setting world has c.args.version.now c.index-as_slice-version.result c.index-files-version.result false
    (read_at c.args.rec.now.libs k c.index-as_slice-version.result over (rw c.as_slice.ensures at c.index-as_slice-version.is))
    (read_at c.args.files.now k c.index-files-version.result (omega (arith, over, count)) c.index-files-version.is) (sym c.if-has_version.false ∙ c.has_version.ensures)
