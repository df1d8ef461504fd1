use Rattle.std.proofs.Common.{◌≡◌, ◌∙◌, sym, subst, arith, List, ℕ, Ok}
use Rattle.path_text.specs.Path.{path_of}
use Rattle.ports.specs.MemTree.{world_of}
use Rattle.elf_make.specs.Generator.{library_path, library_shape}
use Rattle.elf_make.proofs.PlaceLemmas.{library_reads}
use Rattle.elf_make.proofs.TreeLemmas.{added}
use Rattle.elf_make.proofs.generator.add_library.Goals as goal

pub add_object-requires : goal.add_object-requires
add_object-requires c =
    let is : c.as_bytes.result.now ≡ library_path c.args.number = c.as_bytes.ensures.value ∙ c.in_ok-path.ensures.ok in
    subst (λ (t : List ℕ). path_of t ≡ Ok t) (sym is) (library_reads c.args.number (omega (arith, c.requires.number.1)))

pub returns-clause-files : goal.returns-clause-files
returns-clause-files c =
    let is : c.as_bytes.result.now ≡ library_path c.args.number = c.as_bytes.ensures.value ∙ c.in_ok-path.ensures.ok in
    added c.add_object.result (world_of c.args.tree.now.files) (world_of c.add_object.new.tree.files) c.as_bytes.result.now (library_path c.args.number) c.in_ok-shape.shape (library_shape c.args.count c.args.number) is c.in_ok-shape.ensures c.add_object.ensures.files
