-- the records so far were run, and the reader has the others left
use Rattle.std.proofs.Common.{◌≡◌, ◌++◌, map, vec_items}
use Rattle.runfile.specs.Table.{records_of}
use Rattle.runfile.specs.Reader.{record_seen, left}
use Rattle.replay.specs.Ran.{state_of}
use Rattle.replay.proofs.Playing.{Added}
use Rattle.replay.proofs.bench.Bench.play.Given as goal

abbrev pub invariant-loop-found : goal.invariant-loop-found
invariant-loop-found g l =
    let found = map record_seen l.yielded in record {
      split : records_of l.file ≡ found ++ left l.found-iterator;
      added : Added found (state_of g.D.Dialect g.C.Cells l.initial.self) (vec_items l.initial.out) (vec_items l.out) (state_of g.D.Dialect g.C.Cells l.self);
    }
