use Rattle.std.proofs.Common.{refl, subst, length, bytes_eq}
use Rattle.std.proofs.lemmas.Option.{slice_get_read}
use Rattle.load_model.specs.LoadList.{is_named}
use Rattle.load_requests.specs.Known.{IsLearnt}
use Rattle.load_requests.proofs.AskingSteps.{on_ok}
use Rattle.load_requests.proofs.KnownLemmas.{learnt_both}
use Rattle.load_requests.proofs.requests.add.Goals as goal

pub returns : goal.returns
returns c = on_ok c.learn.result (λ h. record {
  face = c.index-faces-object.result;
  stands = slice_get_read c.args.faces.now (length c.args.faces.now) c.args.object.face c.index-faces-object.result refl c.requires.place c.index-faces-object.is;
  objs = c.in_ok-push.ensures.objs;
  known = learnt_both (is_named c.index-faces-object.result.soname) (bytes_eq c.args.name.now) (length c.args.loading.now.objs) c.args.loading.now.known c.push.new.self.known c.learn.new.self c.in_ok-push.ensures.known (subst (λ k. IsLearnt (bytes_eq c.args.name.now) k c.push.new.self.known c.learn.new.self) c.count-number.ensures h);
  ids = c.in_ok-push.ensures.ids;
  targets = c.in_ok-push.ensures.targets;
  phase = c.in_ok-push.ensures.phase;
}) c.learn.ensures.learnt
