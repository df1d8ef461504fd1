use Rattle.std.proofs.Common.{◌≡◌, length, take, zip}
use Rattle.std.specs.List.{find, list_any}
use Rattle.load_model.specs.VersionCheck.{loaded_by}
use Rattle.scope_lookup.specs.Firsts.{is_request_to}
use Rattle.scope_lookup.proofs.files.first_target.Given as goal

abbrev pub invariant-loop-name : goal.invariant-loop-name
invariant-loop-name l = l.first ≡ find (λ j. list_any (is_request_to l.file j) (take (length l.yielded) (zip l.names l.targets))) (loaded_by l.run l.phase)
