use Rattle.std.proofs.Common.{◌≡◌, ◌∙◌, sym, ap}
use Rattle.std.specs.Option.{option_copied}
use Rattle.host_meeting.specs.Named.{kept_syms, named, seen_syms}
use Rattle.host_meeting.proofs.NamedLemmas.{offered_in, offered_none}
use Rattle.host_meeting.proofs.named.NamedFile.offer.Goals as goal

pub returns-in-Some : goal.returns-in-Some
returns-in-Some c =
    let face = c.args.self.now.file.face.now in
    let are : seen_syms c.as_slice.result.now ≡ named face.syms c.args.name.now =
    ap seen_syms c.as_slice.ensures.value ∙ (ap kept_syms (ap option_copied (sym c.in-Some.is) ∙ c.get.ensures.value) ∙ c.args.self.now.has_named c.args.name.now) in
    offered_in face.syms face.versioned c.args.name.now (option_copied c.args.version) c.args.class c.as_slice.result.now c.first_accepted.result c.copied.result are c.first_accepted.ensures c.copied.ensures

pub returns-in-None : goal.returns-in-None
returns-in-None c =
    let face = c.args.self.now.file.face.now in
    offered_none face.syms face.versioned c.args.name.now (option_copied c.args.version) c.args.class
    (ap kept_syms (ap option_copied (sym c.in-None.is) ∙ c.get.ensures.value) ∙ c.args.self.now.has_named c.args.name.now)
