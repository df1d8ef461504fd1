use Rattle.std.proofs.Common.{◌≡◌, sym, subst, ◌+◌, ◌<◌, ◌^◌, length, vec_len, arith}
use Rattle.hash_lookup.specs.declared.tables.Tables.{Tables}
use Rattle.tree_opener.proofs.FacesLemmas.{face_kept, face_refused, taken_back}
use Rattle.tree_opener.specs.MachineFaces.{MachineFaces}
use Rattle.tree_opener.specs.Names.{IsFaceFor}
use Rattle.tree_opener.proofs.opener.TreeOpener.keep.Goals as goal

pub invariant_of-self-in-Ok-push : goal.invariant_of-self-in-Ok-push
invariant_of-self-in-Ok-push c =
    let few : length c.self.inside.faces.items + 1 < 2 ^ 32 = omega (arith, c.if-place.false, c.len-place.ensures, c.self.inside.faces.ok.0) in
    let known : IsFaceFor c.self.inside.machine c.args.face = subst (λ (o : MachineFaces). IsFaceFor o.machine c.args.face) (sym c.self.view_is) c.requires in (
      face_kept c.self.inside.machine (λ (t : Tables). t.offered) c.self.inside.faces.items c.push-2.new.self.items c.self.inside.tables.items c.push.new.self.items c.args.face c.into_loaded-face.result.face c.into_loaded-face.result.tables c.self.invariant.0 known c.into_loaded-face.ensures.face c.into_loaded-face.ensures.tables few c.in-Ok-push.ensures.items c.in-Ok.ensures.items,
      c.self.invariant.1,
    )

pub invariant_of-self-in-Err-push-2 : goal.invariant_of-self-in-Err-push-2
invariant_of-self-in-Err-push-2 c =
    let back : c.pop.new.self.items ≡ c.self.inside.tables.items = taken_back c.self.inside.tables.items c.push.new.self.items c.pop.new.self.items c.into_loaded-face.result.tables (vec_len c.push.new.self) c.in-Ok.ensures.items c.push.new.self.ok.0 c.pop.ensures.rest in (
      face_refused c.self.inside.machine (λ (t : Tables). t.offered) c.self.inside.faces.items c.push-2.new.self.items c.self.inside.tables.items c.pop.new.self.items c.self.invariant.0 c.in-Err-push.ensures.items back,
      c.self.invariant.1,
    )
