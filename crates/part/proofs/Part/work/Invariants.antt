-- the calls so far were worked
use Rattle.std.proofs.Common.{take}
use Rattle.part.specs.Whole.{whole}
use Rattle.part.proofs.Working.{SoFar}
use Rattle.part.proofs.Part.work.Given as goal

abbrev pub invariant-loop-call : goal.invariant-loop-call
invariant-loop-call g l =
    SoFar (take l.call-index l.calls) (whole g.D.Dialect g.C.Cells l.initial.self) (whole g.D.Dialect g.C.Cells l.self)
