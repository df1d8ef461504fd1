use Rattle.std.proofs.Common.{◌∙◌}
use Rattle.elf_rewrite.proofs.Planned.{narrow_done, narrow_done_sound}
use Rattle.elf_rewrite.proofs.planning.compacted.Goals as goal

pub new-requires : goal.new-requires
new-requires c =
    narrow_done_sound c.args.bytes.now c.args.change.now c.args.elf.now c.args.table.now c.strings_at-at.result c.in_ok-entries.entries.items c.segments.result.now c.capacity.result c.new-patches.result c.push_table.new.patches c.new-added.result
    (record {
      headers = c.requires.headers;
      table = c.requires.table;
      still = c.requires.still;
      strings = c.strings_at-at.ensures;
      remade = record { are = c.in_ok-entries.ensures };
      same_segments = c.segments.ensures;
      same_capacity = c.capacity.ensures;
      started = c.new-patches.ensures;
      patched = c.in_ok-push_table.ensures;
      none = c.new-added.ensures;
    })

pub returns : goal.returns
returns c =
    c.new.ensures
    ∙ narrow_done c.args.bytes.now c.args.change.now c.args.elf.now c.args.table.now c.strings_at-at.result c.in_ok-entries.entries.items c.segments.result.now c.capacity.result c.new-patches.result c.push_table.new.patches c.new-added.result
    (record {
      headers = c.requires.headers;
      table = c.requires.table;
      still = c.requires.still;
      strings = c.strings_at-at.ensures;
      remade = record { are = c.in_ok-entries.ensures };
      same_segments = c.segments.ensures;
      same_capacity = c.capacity.ensures;
      started = c.new-patches.ensures;
      patched = c.in_ok-push_table.ensures;
      none = c.new-added.ensures;
    }) c.requires.removes
