use Rattle.packed_programs.proofs.EverywhereLemmas.{checked_host_runs}
use Rattle.packed_programs.proofs.laws.checked_hosts_run_packed_programs.Goals as goal

pub returns : goal.returns
returns c source host config made ready from place dirs normal paths lies meets number start h =
    checked_host_runs source config made ready from (c.record_files_are_read_again.ensures.only source config made ready from) host place dirs normal paths lies meets (c.record_files_are_read_again.ensures.there source config made ready) number start h
