-- Where the cut or a field fails, the text is that of no two fields.
use Rattle.std.proofs.Common.{sym, ◌∙◌, subst}
use Rattle.load_model.specs.Escaping.{escaped}
use Rattle.host_record.specs.Unescaping.{IsEscaped}
use Rattle.host_record.proofs.CutLemmas.{cut_once}
use Rattle.host_record.proofs.FieldLemmas.{name_free, no_space}
use Rattle.host_record.proofs.lookups.version_fields.Goals as goal

pub returns-in_default : goal.returns-in_default
returns-in_default c lib version p q e = no_space c.args.text.now (escaped lib) (escaped version) c.in_default.ensures e

pub returns-in_default-2 : goal.returns-in_default-2
returns-in_default-2 c lib version p q e =
    let w = cut_once 32 c.in-Some.lib.now c.in-Some.version.now (escaped lib) (escaped version) c.in-Some.ensures.0 (name_free lib p) (sym c.in-Some.ensures.1 ∙ e) in
    subst (IsEscaped c.in-Some.lib.now) c.in_default-2.is c.in_ok-lib.ensures lib p w.0

pub returns-in_default-3 : goal.returns-in_default-3
returns-in_default-3 c lib version p q e =
    let w = cut_once 32 c.in-Some.lib.now c.in-Some.version.now (escaped lib) (escaped version) c.in-Some.ensures.0 (name_free lib p) (sym c.in-Some.ensures.1 ∙ e) in
    subst (IsEscaped c.in-Some.version.now) c.in_default-3.is c.in_ok-version.ensures version q w.1
