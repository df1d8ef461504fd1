-- Items that are copied have the lengths that are said of them.
use Rattle.std.proofs.Common.{◌≡◌, sym, subst, List, [], ◌∷◌, ◌++◌, All, Option}
use Rattle.std.proofs.lemmas.List.Elements.{All-nil, All-push}
use Rattle.load_model.specs.World.{World}
use Rattle.appdir_files.specs.Writing.{IsBodyProbed, IsProbed}
use Rattle.appdir_files.specs.declared.items.Body.{Body}
use Rattle.appdir_files.specs.declared.items.Item.{Item}

pub none_probed : (told : Option World) (items : List Item) → items ≡ [] → All (IsProbed told) items
none_probed told items e = subst (λ l. All (IsProbed told) l) (sym e) (All-nil (IsProbed told))

-- one item more
pub probed_more : (told : Option World) (items more : List Item) (item : Item) (body : Body) → more ≡ items ++ item ∷ [] → item.body ≡ body → All (IsProbed told) items → IsBodyProbed told body → All (IsProbed told) more
probed_more told items more item body e same h one =
    subst (λ l. All (IsProbed told) l) (sym e) (All-push (IsProbed told) items item h (subst (λ b. IsBodyProbed told b) (sym same) one))
