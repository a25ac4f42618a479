-- what is left to keep leads from here to where all leads from the start
use Rattle.std.proofs.Common.{◌≡◌, ◌-◌}
use Rattle.cells.specs.Images.{Images}
use Rattle.rules.specs.Power.{keeps}
use Rattle.rules.specs.Machine.{Changes}
use Rattle.selection.specs.View.{kind_of}
use Rattle.part.proofs.steps.keep_from.Given as goal

abbrev pub invariant-loop-page : goal.invariant-loop-page
invariant-loop-page g l =
    let m = g.C.Cells in
    let k = kind_of g.D.Dialect.facts m.lasting (m.site l.initial.cells) in
    (m.site l.cells ≡ m.site l.initial.cells)
    × ((j : Images) → Changes k (keeps l.page (l.pages - l.page)) (m.images l.cells) j
    → Changes k (keeps l.from (l.pages - l.from)) (m.images l.initial.cells) j)
