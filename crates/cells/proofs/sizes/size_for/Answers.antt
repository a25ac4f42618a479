use Rattle.std.proofs.Common.{sym, refl, ◌∙◌, arith}
use Rattle.cells.proofs.Powers.{sized, unsized}
use Rattle.cells.proofs.sizes.size_for.Goals as goal

pub returns-then-is_size : goal.returns-then-is_size
returns-then-is_size c =
    let fact = sized c.args.room (sym c.is_size.ensures ∙ c.if-is_size.true) in
    record { size = fact.0; sized = fact.1; within = omega arith; whole = λ some. refl }

pub returns-else-is_size : goal.returns-else-is_size
returns-else-is_size c =
    let fact = unsized c.args.room (sym c.is_size.ensures ∙ c.if-is_size.false) in
    record { size = fact.0; sized = fact.1; within = omega arith; whole = λ some. omega arith }
