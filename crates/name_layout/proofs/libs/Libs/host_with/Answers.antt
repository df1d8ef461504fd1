use Rattle.std.proofs.Common.{◌∙◌, ap, sym, None, Some, slice_get}
use Rattle.lib_closure.specs.declared.splits.HostLib.{HostLib}
use Rattle.name_layout.proofs.PlacesLemmas.{found_at, got_now}
use Rattle.name_layout.proofs.libs.Libs.host_with.Goals as goal

pub returns-in-Some : goal.returns-in-Some
returns-in-Some c =
    got_now c.as_slice.result.now c.in-Some.place c.get.result c.get.ensures.lookup ∙ ap (λ xs. slice_get xs c.in-Some.place) c.as_slice.ensures
    ∙ found_at (λ (host : HostLib). host.id) c.args.self.now.split.now.hosts c.args.self.now.hosts c.args.id.now (Some c.in-Some.place) c.args.self.now.hosts_are (sym c.in-Some.is ∙ c.place.ensures)

pub returns-in-None : goal.returns-in-None
returns-in-None c = found_at (λ (host : HostLib). host.id) c.args.self.now.split.now.hosts c.args.self.now.hosts c.args.id.now None c.args.self.now.hosts_are (sym c.in-None.is ∙ c.place.ensures)
