-- what is left to put leads from here to where all leads from the start
use Rattle.std.proofs.Common.{◌≡◌, ◌+◌, drop}
use Rattle.cells.specs.Images.{Images}
use Rattle.rules.specs.Write.{placed}
use Rattle.rules.specs.Machine.{Changes}
use Rattle.selection.specs.View.{kind_of}
use Rattle.selection.proofs.write.place.Given as goal

abbrev pub invariant-loop-i : goal.invariant-loop-i
invariant-loop-i g l =
    let m = g.C.Cells in
    let k = kind_of g.D.Dialect.facts m.lasting (m.site l.initial.cells) in
    (m.site l.cells ≡ m.site l.initial.cells)
    × ((j : Images) → Changes k (placed l.page (l.offset + l.i) (drop l.i l.bytes)) (m.images l.cells) j
    → Changes k (placed l.page l.offset l.bytes) (m.images l.initial.cells) j)
