use Rattle.met_hosts.proofs.HostLemmas.{files_apart, has_file}
use Rattle.met_hosts.proofs.host_laws.recorded_libraries_are_there.Goals as goal

pub returns-clause-there : goal.returns-clause-there
returns-clause-there c setting world r lib dirs meets there named = has_file setting world dirs r meets lib there named

pub returns-clause-apart : goal.returns-clause-apart
returns-clause-apart c setting world r dirs meets i j x y p q less hx hy fx fy same = files_apart setting world dirs r meets i j x y p q less hx hy fx fy same
