-- so many ticks were done, and the bench keeps its level and its buffer
use Rattle.std.proofs.Common.{◌≡◌}
use Rattle.replay.specs.Ran.{state_of}
use Rattle.replay.proofs.Ticks.{Ticked}
use Rattle.replay.proofs.bench.Bench.tick.Given as goal

abbrev pub invariant-loop : goal.invariant-loop
invariant-loop g l =
    let before = state_of g.D.Dialect g.C.Cells l.initial.self in
    let now = state_of g.D.Dialect g.C.Cells l.self in record {
      ticked : Ticked l.count l.counter before.part l.to_go now.part;
      level : now.held ≡ before.held;
      driven : l.self.driven ≡ l.initial.self.driven;
    }
