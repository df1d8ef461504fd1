-- Definitions over the split and the layout that names are found by.
use Rattle.lib_closure.specs.declared.splits.Split.{Split}
use Rattle.name_layout.specs.declared.layouts.Layout.{Layout}
use Rattle.object_changes.specs.declared.object_names.ObjectNames.{ObjectNames}

abbrev pub of_names : {X : Type 0} → (Split → Layout → X) → ObjectNames → X
of_names f names = f names.libs.split.now names.layout.now
