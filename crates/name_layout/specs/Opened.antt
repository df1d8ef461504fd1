-- Opened names as the code sees them.
use Rattle.name_layout.specs.Openings.{Opening}
use Rattle.name_layout.specs.declared.opened.Opened.{Opened}

-- The opened name with its root.
abbrev pub as_opening : Opened → Opening
as_opening opened = record { name = opened.name.now; root = opened.root.now }
