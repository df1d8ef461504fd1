-- What is looked past, and what is bound to.
use Rattle.std.proofs.Common.{◌≡◌, ◌∙◌, ◌++◌, ap, sym, false}
use Rattle.std.specs.Prelude.{is_some}
use Rattle.load_model.specs.Bindings.{looked_in}
use Rattle.host_list.specs.Recording.{host_at, host_numbers, looked_past, looks_past}
use Rattle.host_list.proofs.LookLemmas.{looks_made}
use Rattle.host_list.proofs.looks.looks_of.Goals as goal

pub returns : goal.returns
returns c =
    let place = c.args.place.now in
    let bind = c.args.bind in
    let s = c.symbol_of-symbol.result.now in
    let same = c.as_slice-numbers.ensures.value ∙ c.requires.place.numbers_are in
    let past = c.in_ok-push_past.ensures
    ∙ (ap (λ t. t ++ looks_past c.as_slice-numbers.result.now s bind.class (looked_past bind.to (looked_in bind.class c.scope.result.now))) c.new-found.ensures.items
    ∙ (ap (λ ns. looks_past ns s bind.class (looked_past bind.to (looked_in bind.class c.scope.result.now))) same
    ∙ ap (λ ks. looks_past (host_numbers place.hosts.now place.run.now) s bind.class (looked_past bind.to (looked_in bind.class ks))) c.scope.ensures)) in
    let none : is_some (host_at (host_numbers place.hosts.now place.run.now) bind.obj) ≡ false = ap (λ ns. is_some (host_at ns bind.obj)) (sym same) ∙ (sym (ap is_some c.host_at.ensures) ∙ sym c.if-is_some.ensures) in
    looks_made place.faces.now place.hosts.now place.run.now bind s c.push_past.new.found.items c.push_found.new.found.items none c.symbol_of-symbol.ensures (sym c.binds_itself.ensures ∙ c.if-binds_itself.false) past c.in_ok-push_found.ensures
