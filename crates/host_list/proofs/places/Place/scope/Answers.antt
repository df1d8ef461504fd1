use Rattle.std.proofs.Common.{◌≡◌, ◌∙◌, ◌<◌, arith, length, refl, vec_items}
use Rattle.std.proofs.lemmas.Option.{slice_get_read}
use Rattle.load_model.specs.Scopes.{scope_of}
use Rattle.host_list.proofs.NumberLemmas.{made_count, made_there}
use Rattle.host_list.proofs.places.Place.scope.Goals as goal

pub index-requires : goal.index-requires
index-requires c =
    let count = made_count vec_items (scope_of c.args.self.now.faces.now c.args.self.now.run.now) c.args.self.now.scopes.items (length c.args.self.now.run.now.objs) c.requires.place.scopes_are in
    let full = c.args.self.now.scopes.ok.0 in
    let there = c.requires.obj in
    omega arith

pub returns : goal.returns
returns c =
    let f = scope_of c.args.self.now.faces.now c.args.self.now.run.now in
    let scopes = c.args.self.now.scopes.items in
    let number = length c.args.self.now.run.now.objs in
    let count : length scopes ≡ number = made_count vec_items f scopes number c.requires.place.scopes_are in
    let there = c.requires.obj in
    let inside : c.args.obj < length scopes = omega arith in
    c.as_slice.ensures.value ∙ made_there vec_items f scopes number c.args.obj c.index.result.now c.requires.place.scopes_are there (slice_get_read scopes (length scopes) c.args.obj c.index.result.now refl inside c.index.ensures)
