use Rattle.std.proofs.Common.{◌≡◌, ◌∙◌, map}
use Rattle.lib_closure.specs.Objects.{all_objects, programs_of}
use Rattle.lib_closure.specs.Seen.{standing}
use Rattle.lib_closure.proofs.BuildLemmas.{firsts_over, objects_of_lists, programs_of_lists}
use Rattle.lib_closure.proofs.build.Build.of.Goals as goal

pub invariant_of-result : goal.invariant_of-result
invariant_of-result c =
    let all : map standing c.in_ok-all.all.items ≡ all_objects c.args.faces.now c.args.runs.now = c.in_ok-all.ensures ∙ objects_of_lists c.args.faces.now c.args.runs.now c.args.lists.now c.requires.lists in
    let programs : map standing c.in_ok-programs.programs.items ≡ programs_of c.args.faces.now c.args.runs.now = c.in_ok-programs.ensures ∙ programs_of_lists c.args.faces.now c.args.runs.now c.args.lists.now c.requires.lists in
    record {
      all_are = all;
      programs_are = programs;
      files_are = firsts_over c.in_ok-files.files c.in_ok-programs.programs.items c.as_slice.result.now (programs_of c.args.faces.now c.args.runs.now) c.in_ok-files.ensures c.as_slice.ensures.value programs;
      firsts_are = firsts_over c.in_ok-firsts.firsts c.in_ok-all.all.items c.as_slice-2.result.now (all_objects c.args.faces.now c.args.runs.now) c.in_ok-firsts.ensures c.as_slice-2.ensures.value all;
      listed_are = c.in_ok-listed.ensures;
    }
