use Rattle.std.proofs.Common.{◌∙◌, sym, ap, List, ℕ, bytes_eq}
use Rattle.std.specs.Prelude.{position}
use Rattle.std.proofs.lemmas.Iterator.Adapters.{position_from-zero}
use Rattle.host_record.specs.declared.records.RecLib.{RecLib}
use Rattle.host_meeting.proofs.lib_places.LibPlaces.place.Goals as goal

pub returns : goal.returns
returns c =
    c.copied.ensures ∙ c.get.ensures.value ∙ c.args.self.now.has_places c.as_bytes.result.now
    ∙ sym (position_from-zero (λ (lib : RecLib). bytes_eq lib.name c.as_bytes.result.now) c.args.self.now.rec.now.libs)
    ∙ ap (λ (n : List ℕ). position (λ (lib : RecLib). bytes_eq lib.name n) c.args.self.now.rec.now.libs) c.as_bytes.ensures
