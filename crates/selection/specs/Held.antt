-- The bytes that a selection holds.
use Rattle.std.specs.Prelude.{ℕ, List, take}
use Rattle.selection.specs.declared.held.Held.{Held}

abbrev pub items : Held → List ℕ
items h = take h.count h.bytes
