use Rattle.std.proofs.Common.{◌&&◌, ap}
use Rattle.std.specs.Option.{option_copied}
use Rattle.load_model.specs.Offers.{has_wanted_version, is_candidate}
use Rattle.load_model.specs.declared.symbols.Sym.{Sym}
use Rattle.host_meeting.specs.Named.{seen_sym, seen_syms}
use Rattle.host_meeting.proofs.NamedLemmas.{accepted_plain, accepted_version, find_seen}
use Rattle.host_meeting.proofs.offered.first_accepted.Goals as goal

pub returns-then-not-versioned : goal.returns-then-not-versioned
returns-then-not-versioned c =
    let name = c.args.name.now in
    let class = c.args.class in
    accepted_plain (seen_syms c.args.same.now) name class (seen_sym c.first_candidate.result) c.args.versioned (option_copied c.args.version) c.if-not-versioned.true
    (find_seen (is_candidate name class) c.args.same.now c.first_candidate.result c.first_candidate.ensures)

pub returns-in-Some : goal.returns-in-Some
returns-in-Some c =
    let name = c.args.name.now in
    let class = c.args.class in
    let wanted = c.in-Some.wanted.now in
    accepted_version (seen_syms c.args.same.now) name class (seen_sym c.first_of_version.result) c.args.versioned (option_copied c.args.version) wanted c.if-not-versioned.false (ap option_copied c.in-Some.is)
    (find_seen (λ (s : Sym). is_candidate name class s && has_wanted_version wanted s) c.args.same.now c.first_of_version.result c.first_of_version.ensures)
