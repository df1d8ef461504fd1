use Rattle.std.proofs.Common.{◌∙◌, ◌≡◌, ap, sym, true, false, arith, map, not}
use Rattle.answers.specs.First.{some_where}
use Rattle.host_list.specs.Answers.{answer_in_face, class_of}
use Rattle.host_list.specs.Meeting.{is_answer}
use Rattle.host_list.specs.declared.differences.Difference.TheVariants.{AnswerDiffers}
use Rattle.host_record.specs.declared.records.Answer.{Answer}
use Rattle.host_record.specs.declared.records.RecLib.{RecLib}
use Rattle.host_meeting.specs.declared.named.NamedFile.{NamedFile}
use Rattle.host_meeting.proofs.FileLemmas.{look_by, read_at}
use Rattle.host_meeting.proofs.NamedLemmas.{file_at}
use Rattle.lib_closure.proofs.ContainedLemmas.{is_there}
use Rattle.host_meeting.proofs.looks.other_answer.Goals as goal

pub returns-then-is_answer : goal.returns-then-is_answer
returns-then-is_answer c setting world has =
    let l = c.args.look.now in
    let over = c.requires.over in
    let count = c.requires.files in
    let lib = is_there c.args.rec.now.libs l.lib over in
    let n = c.index-named-look.result in
    let f = n.file in
    let found : Answer = answer_in_face f.face.now l.name l.version l.call in
    let told : c.in_ok-answer.answer ≡ found = c.in_ok-answer.ensures in
    let same : is_answer l.answer found ≡ true = ap (is_answer l.answer) (sym told) ∙ sym c.is_answer.ensures ∙ c.if-is_answer.true in
    ap (λ b. some_where (not b) (AnswerDiffers lib.it.name l.name l.version (class_of l.call) l.answer found)) (sym same)
    ∙ look_by c.args.rec.now (map (λ (m : NamedFile). m.file) c.args.named.now) setting world has l lib.it f lib.is (file_at c.args.named.now l.lib n (read_at c.args.named.now l.lib n (omega (arith, over, count)) c.index-named-look.is))

pub returns : goal.returns
returns c setting world has =
    let l = c.args.look.now in
    let over = c.requires.over in
    let count = c.requires.files in
    let lib = c.index-as_slice-look.result in
    let n = c.index-named-look.result in
    let f = n.file in
    let found : Answer = answer_in_face f.face.now l.name l.version l.call in
    let told : c.in_ok-answer.answer ≡ found = c.in_ok-answer.ensures in
    let same : is_answer l.answer found ≡ false = ap (is_answer l.answer) (sym told) ∙ sym c.is_answer.ensures ∙ c.if-is_answer.false in
    ap (λ d. some_where true d) (c.in_ok-answer_differs.ensures ∙ ap (λ n. AnswerDiffers n l.name l.version (class_of l.call) l.answer c.in_ok-answer.answer) (c.in_ok-lib.ensures ∙ ap (λ (r : RecLib). r.name) (sym c.index-as_slice-look.is)) ∙ ap (AnswerDiffers lib.name l.name l.version (class_of l.call) l.answer) told)
    ∙ ap (λ b. some_where (not b) (AnswerDiffers lib.name l.name l.version (class_of l.call) l.answer found)) (sym same)
    ∙ look_by c.args.rec.now (map (λ (m : NamedFile). m.file) c.args.named.now) setting world has l lib f
    (read_at c.args.rec.now.libs l.lib lib over (rw c.as_slice.ensures at c.index-as_slice-look.is))
    (file_at c.args.named.now l.lib n (read_at c.args.named.now l.lib n (omega (arith, over, count)) c.index-named-look.is))
