-- The world stays one: the path was free, and so was the identity or it had these bytes.
use Rattle.std.proofs.Common.{◌≡◌, false, OnErr, OnOk, ap, rules}
use Rattle.path_text.proofs.PathLemmas.{path_of-IsNormalPath}
use Rattle.ports.specs.MemTree.{is_taken, world_of, with_last}
use Rattle.ports.proofs.Worlds.{IsStored-push, stored_either}
use Rattle.ports.proofs.mem_tree.MemTree.add.Goals as goal

pub invariant_of-self : goal.invariant_of-self
invariant_of-self c =
    let files = c.args.self.now.files in
    let path = c.args.path.now in
    let free : is_taken (world_of files) path c.args.id.now c.args.bytes.now ≡ false = cc in
    let took : OnOk c.store.result (world_of c.store.new.files ≡ with_last (world_of files) path c.args.id.now c.args.bytes.now) = search rules in
    let stays : OnErr c.store.result (world_of c.store.new.files ≡ world_of files) = search (ap, rules) in
    record {
      stored = stored_either c.store.result (world_of files) (with_last (world_of files) path c.args.id.now c.args.bytes.now) (world_of c.store.new.files)
          took
          stays
          c.args.self.now.stored
          (IsStored-push (world_of files) (record { path = path; id = c.args.id.now; bytes = c.args.bytes.now }) c.args.self.now.stored free (path_of-IsNormalPath path c.as_str.ensures.normal));
    }
