use Rattle.std.proofs.Common.{arith, refl, ap, ◌∙◌, ◌≡◌, ◌+◌, ℕ}
use Rattle.byte_view.specs.Dynamic.{dynamic_entries}
use Rattle.two_files.specs.Entries.{new_entries}
use Rattle.elf_rewrite.specs.NewSegment.{headers_size, segment_addr}
use Rattle.elf_rewrite.specs.NewTable.{places_with}
use Rattle.elf_rewrite.proofs.Planned.{entries_short, handed, handed_sound, read_count}
use Rattle.elf_rewrite.proofs.planning.with_segment.Goals as goal

pub layout_with-layout-requires-clause-entries : goal.layout_with-layout-requires-clause-entries
layout_with-layout-requires-clause-entries c =
    rw c.deref.ensures.value (entries_short c.args.elf.now c.args.bytes.now c.args.change.now _ c.in_ok-entries.entries.items c.requires.headers (record { are = c.in_ok-entries.ensures }))

pub segment_patches-requires-clause-few : goal.segment_patches-requires-clause-few
segment_patches-requires-clause-few c =
    rw c.segments-segments.ensures (omega (arith, read_count c.args.elf.now c.args.bytes.now c.requires.headers))

pub new-requires : goal.new-requires
new-requires c =
    let at : c.segment_addr-addr.result + c.headers_size.result ≡ segment_addr c.args.bytes.now + headers_size c.args.bytes.now = rw (c.segment_addr-addr.ensures.addr, c.headers_size.ensures) refl in
    handed_sound c.args.bytes.now c.args.change.now c.args.elf.now c.args.table.now c.args.versions.now c.args.grown.now c.in_ok-entries.entries.items c.layout_with-layout.result
    c.segments-segments.result.now c.as_slice-files.result.now c.capacity-capacity.result c.deref-2.result.now c.in_ok-patches.patches c.in_ok-added.added
    (record {
      made = record {
        headers = c.requires.headers;
        table = c.requires.table;
        versions = c.requires.versions;
        wants = c.requires.adds;
        grown = c.requires.grown;
        below = c.requires.small;
        remade = record { are = c.in_ok-entries.ensures ∙ ap (λ (n : ℕ). new_entries (places_with c.args.bytes.now c.args.change.now n) (dynamic_entries c.args.bytes.now)) at };
        layout = c.layout_with-layout.ensures.layout ∙ rw (c.size.ensures, c.deref.ensures.value, c.capacity-capacity.ensures) refl;
        small = c.layout_with-layout.ensures.small;
      };
      same_segments = c.segments-segments.ensures;
      same_files = c.as_slice-files.ensures;
      same_capacity = c.capacity-capacity.ensures;
      same_entries = c.deref-2.ensures.value;
      patched = c.in_ok-patches.ensures;
      pieced = c.in_ok-added.ensures;
    }) (omega (arith, read_count c.args.elf.now c.args.bytes.now c.requires.headers))

pub returns : goal.returns
returns c =
    let at : c.segment_addr-addr.result + c.headers_size.result ≡ segment_addr c.args.bytes.now + headers_size c.args.bytes.now = rw (c.segment_addr-addr.ensures.addr, c.headers_size.ensures) refl in
    c.new.ensures ∙ handed c.args.bytes.now c.args.change.now c.args.elf.now c.args.table.now c.args.versions.now c.args.grown.now c.in_ok-entries.entries.items c.layout_with-layout.result
    c.segments-segments.result.now c.as_slice-files.result.now c.capacity-capacity.result c.deref-2.result.now c.in_ok-patches.patches c.in_ok-added.added
    (record {
      made = record {
        headers = c.requires.headers;
        table = c.requires.table;
        versions = c.requires.versions;
        wants = c.requires.adds;
        grown = c.requires.grown;
        below = c.requires.small;
        remade = record { are = c.in_ok-entries.ensures ∙ ap (λ (n : ℕ). new_entries (places_with c.args.bytes.now c.args.change.now n) (dynamic_entries c.args.bytes.now)) at };
        layout = c.layout_with-layout.ensures.layout ∙ rw (c.size.ensures, c.deref.ensures.value, c.capacity-capacity.ensures) refl;
        small = c.layout_with-layout.ensures.small;
      };
      same_segments = c.segments-segments.ensures;
      same_files = c.as_slice-files.ensures;
      same_capacity = c.capacity-capacity.ensures;
      same_entries = c.deref-2.ensures.value;
      patched = c.in_ok-patches.ensures;
      pieced = c.in_ok-added.ensures;
    })
