-- Where a cut fails, the text is not five parts: the parts before are told by the text.
use Rattle.std.proofs.Common.{sym, ◌∙◌, ◌++◌, ◌∷◌}
use Rattle.host_record.proofs.CutLemmas.{cut_once}
use Rattle.host_record.proofs.FieldLemmas.{no_space}
use Rattle.host_record.proofs.lookups.cut_in_five.Goals as goal

pub returns-in_default : goal.returns-in_default
returns-in_default c lib name version class answer f g h i e =
    no_space c.args.text.now lib (name ++ 32 ∷ (version ++ 32 ∷ (class ++ 32 ∷ answer))) c.in_default.ensures e

pub returns-in_default-cut : goal.returns-in_default-cut
returns-in_default-cut c lib name version class answer f g h i e =
    let p = cut_once 32 c.in-Some.lib.now c.in-Some.behind_lib.now lib (name ++ 32 ∷ (version ++ 32 ∷ (class ++ 32 ∷ answer))) c.in-Some.ensures.0 f (sym c.in-Some.ensures.1 ∙ e) in
    no_space c.in-Some.behind_lib.now name (version ++ 32 ∷ (class ++ 32 ∷ answer)) c.in_default-cut.ensures p.1

pub returns-in_default-cut-2 : goal.returns-in_default-cut-2
returns-in_default-cut-2 c lib name version class answer f g h i e =
    let p = cut_once 32 c.in-Some.lib.now c.in-Some.behind_lib.now lib (name ++ 32 ∷ (version ++ 32 ∷ (class ++ 32 ∷ answer))) c.in-Some.ensures.0 f (sym c.in-Some.ensures.1 ∙ e) in
    let q = cut_once 32 c.in-Some-cut.name.now c.in-Some-cut.behind_name.now name (version ++ 32 ∷ (class ++ 32 ∷ answer)) c.in-Some-cut.ensures.0 g (sym c.in-Some-cut.ensures.1 ∙ p.1) in
    no_space c.in-Some-cut.behind_name.now version (class ++ 32 ∷ answer) c.in_default-cut-2.ensures q.1

pub returns-in_default-cut-3 : goal.returns-in_default-cut-3
returns-in_default-cut-3 c lib name version class answer f g h i e =
    let p = cut_once 32 c.in-Some.lib.now c.in-Some.behind_lib.now lib (name ++ 32 ∷ (version ++ 32 ∷ (class ++ 32 ∷ answer))) c.in-Some.ensures.0 f (sym c.in-Some.ensures.1 ∙ e) in
    let q = cut_once 32 c.in-Some-cut.name.now c.in-Some-cut.behind_name.now name (version ++ 32 ∷ (class ++ 32 ∷ answer)) c.in-Some-cut.ensures.0 g (sym c.in-Some-cut.ensures.1 ∙ p.1) in
    let r = cut_once 32 c.in-Some-cut-2.version.now c.in-Some-cut-2.behind_version.now version (class ++ 32 ∷ answer) c.in-Some-cut-2.ensures.0 h (sym c.in-Some-cut-2.ensures.1 ∙ q.1) in
    no_space c.in-Some-cut-2.behind_version.now class answer c.in_default-cut-3.ensures r.1
