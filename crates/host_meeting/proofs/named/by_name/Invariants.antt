use Rattle.std.proofs.Common.{◌≡◌, ℕ, List, bytes_eq, filter, take}
use Rattle.load_model.specs.declared.symbols.Sym.{Sym}
use Rattle.host_meeting.specs.Named.{kept_for}
use Rattle.host_meeting.proofs.named.by_name.Given as goal

-- kept so far are the symbols so far, each under its name
abbrev pub invariant-loop-s : goal.invariant-loop-s
invariant-loop-s l = (q : List ℕ) → kept_for l.kept.entries q ≡ filter (λ (s : Sym). bytes_eq s.name q) (take l.s-index l.s-items)
