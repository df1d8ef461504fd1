use Rattle.std.proofs.Common.{◌∙◌, [], Some, ap, map, sym, bytes_eq}
use Rattle.answers.specs.First.{first_some}
use Rattle.std.specs.List.{position}
use Rattle.indexmap.specs.IndexSet.{insert_key}
use Rattle.lib_closure.specs.Clashes.{beside_earlier, clash_of_hosts, host_name_clash}
use Rattle.lib_closure.specs.OfBuild.{of_build}
use Rattle.lib_closure.proofs.HostLemmas.{clashes_here, clashes_passed, keys_next}
use Rattle.lib_closure.proofs.hosts.host_name_clash.Goals as goal

pub returns-in-Some : goal.returns-in-Some
unfolding host_name_clash
returns-in-Some c =
    let place = sym c.in-Some.is ∙ c.position.ensures ∙ ap (λ k. position (bytes_eq k) c.loop-host.keys) c.key.ensures in
    ap Some c.in_ok-clash_of-in-Some.ensures
    ∙ clashes_here c.args.build.now.faces.now c.args.build.now.runs.now c.args.build.now.names.now c.args.hosts.now c.loop-host.host-index c.in-Some.place c.host-item.result c.index-hosts-place.result c.loop-host.keys _ c.loop-host-test.true c.host-item.is c.index-hosts-place.is c.loop-host.invariant.0 place c.loop-host.invariant.1
    ∙ ap (λ xs. first_some (map (of_build clash_of_hosts c.args.build.now) (beside_earlier [] xs))) c.requires

pub loop-host-preserved : goal.loop-host-preserved
loop-host-preserved c =
    let new = sym c.in-None.is ∙ c.position.ensures ∙ ap (λ k. position (bytes_eq k) c.loop-host.keys) c.key.ensures in (
      keys_next c.args.hosts.now c.loop-host.host-index c.host-item.result c.loop-host.keys c.add.new.self c.loop-host-test.true c.host-item.is c.loop-host.invariant.0 new (c.in_ok-add-in-None.ensures ∙ ap (insert_key bytes_eq c.loop-host.keys) c.key-in-None.ensures),
      clashes_passed c.args.build.now.faces.now c.args.build.now.runs.now c.args.build.now.names.now c.args.hosts.now c.loop-host.host-index c.host-item.result c.loop-host.keys _ c.loop-host-test.true c.host-item.is c.loop-host.invariant.0 new c.loop-host.invariant.1,
    )
