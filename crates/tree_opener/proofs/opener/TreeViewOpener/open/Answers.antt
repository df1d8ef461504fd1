use Rattle.std.proofs.Common.{◌≡◌, ◌∙◌, ap, subst, sym, Some}
use Rattle.tree_opener.specs.Keeping.{IsKept}
use Rattle.tree_opener.specs.MachineFaces.{MachineFaces}
use Rattle.tree_opener.specs.Reading.{LiesAt}
use Rattle.tree_opener.proofs.KeepingLemmas.{kept_opens}
use Rattle.tree_opener.proofs.OpeningLemmas.{file_found, kind_absent, kind_damaged, kind_object, kind_other, nothing_found}
use Rattle.tree_opener.proofs.opener.TreeViewOpener.open.Goals as goal

pub returns-in-Ok-Absent-clause-opened : goal.returns-in-Ok-Absent-clause-opened
returns-in-Ok-Absent-clause-opened g c world told =
    kind_absent c.args.self.now.opener.now.machine world c.args.path.now (nothing_found world c.args.path.now (sym (c.in-Ok-Absent.ensures.found world told) ∙ c.in-Ok-Absent.field-0-is))

pub returns-in-Ok-ForAnother-clause-opened : goal.returns-in-Ok-ForAnother-clause-opened
returns-in-Ok-ForAnother-clause-opened g c world told =
    let lies : LiesAt world c.args.path.now c.in-Ok-File.id c.in-Ok-File.len =
    file_found world c.args.path.now c.in-Ok-File.id c.in-Ok-File.len (sym (c.in-Ok-File.ensures.found world told) ∙ c.in-Ok-File.field-0-is) in
    let here : (g.T.Tree.seen c.probe.new.self).told ≡ Some world = c.probe.ensures.only_reads.stays ∙ told in
    kind_other c.args.self.now.opener.now.machine world c.args.path.now c.in-Ok-File.id c.in-Ok-File.len lies (sym c.in-Ok-ForAnother.field-0-is ∙ c.in-Ok-ForAnother.ensures.seen world here)

pub returns-in-Ok-Faced-clause-opened : goal.returns-in-Ok-Faced-clause-opened
returns-in-Ok-Faced-clause-opened g c =
    let same : c.see.new.self ≡ c.args.self.now.opener.now = c.see.ensures.same in
    let kept : IsKept c.args.self.now.opener.now.faces c.keep.new.self.faces c.in-Ok-File.id c.in-Ok-Faced.face c.keep.result =
    subst (λ (o : MachineFaces). IsKept o.faces c.keep.new.self.faces c.in-Ok-File.id c.in-Ok-Faced.face c.keep.result) same c.keep.ensures.kept in
    let machine : c.keep.new.self.machine ≡ c.args.self.now.opener.now.machine = c.keep.ensures.machine ∙ ap (λ (o : MachineFaces). o.machine) same in
    kept_opens _ _ c.args.path.now c.in-Ok-File.id c.in-Ok-Faced.face c.keep.result kept
    (λ world told.
    let lies : LiesAt world c.args.path.now c.in-Ok-File.id c.in-Ok-File.len =
    file_found world c.args.path.now c.in-Ok-File.id c.in-Ok-File.len (sym (c.in-Ok-File.ensures.found world told) ∙ c.in-Ok-File.field-0-is) in
    let here : (g.T.Tree.seen c.probe.new.self).told ≡ Some world = c.probe.ensures.only_reads.stays ∙ told in
    (lies.file, kind_object c.args.self.now.opener.now.machine world c.args.path.now c.in-Ok-File.id c.in-Ok-File.len lies c.in-Ok-Faced.face (sym c.in-Ok-Faced.field-0-is ∙ c.in-Ok-Faced.ensures.seen world here), sym lies.id_is)) machine

pub returns-in-Ok-clause-opened : goal.returns-in-Ok-clause-opened
returns-in-Ok-clause-opened g c = (
  c.in-Ok.ensures,
  λ world told.
      let lies : LiesAt world c.args.path.now c.in-Ok-File.id c.in-Ok-File.len =
      file_found world c.args.path.now c.in-Ok-File.id c.in-Ok-File.len (sym (c.in-Ok-File.ensures.found world told) ∙ c.in-Ok-File.field-0-is) in
      let here : (g.T.Tree.seen c.probe.new.self).told ≡ Some world = c.probe.ensures.only_reads.stays ∙ told in
      record { file = lies.file; kind = kind_damaged c.args.self.now.opener.now.machine world c.args.path.now c.in-Ok-File.id c.in-Ok-File.len lies c.in-Ok-Flawed.flaw (sym c.in-Ok-Flawed.field-0-is ∙ c.in-Ok-Flawed.ensures.seen world here) },
)
