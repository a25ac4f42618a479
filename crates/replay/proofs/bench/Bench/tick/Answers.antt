use Rattle.std.proofs.Common.{refl}
use Rattle.std.proofs.lemmas.Result.{err_from_is_err_and}
use Rattle.runfile.specs.Letters.{ticks}
use Rattle.replay.specs.Ran.{state_of}
use Rattle.replay.proofs.Turns.{all_made}
use Rattle.replay.proofs.Ticks.{none_ticked, one_ticked, tick_refused, all_ticked}
use Rattle.replay.proofs.bench.Bench.tick.Goals as goal

pub loop-init : goal.loop-init
loop-init g c = record { ticked = none_ticked c.args.count (state_of g.D.Dialect g.C.Cells c.args.self.now).part; level = refl; driven = refl }

pub loop-preserved : goal.loop-preserved
loop-preserved g c = record {
  ticked = one_ticked c.loop-test.true c.loop.invariant.ticked c.in_ok-to_go.ensures;
  level = c.loop.invariant.level;
  driven = c.loop.invariant.driven;
}

pub returns-in_err-to_go : goal.returns-in_err-to_go
returns-in_err-to_go g c =
    let p = err_from_is_err_and c.from_residual.result c.from_residual.ensures.1 in
    let before = state_of g.D.Dialect g.C.Cells c.args.self.now in
    let after = state_of g.D.Dialect g.C.Cells (record c.loop.self { part = c.tick.new.self }) in record {
      ran = rw (p.1, p.2) (all_made (ticks c.args.count) before after g.met.D.Dialect.lawful
          (tick_refused c.loop-test.true c.loop.invariant.ticked c.in_err-to_go.ensures) refl c.loop.invariant.level);
      driven = c.loop.invariant.driven;
    }

pub returns : goal.returns
returns g c =
    let before = state_of g.D.Dialect g.C.Cells c.args.self.now in
    let after = state_of g.D.Dialect g.C.Cells c.loop.self in record {
      ran = all_made (ticks c.args.count) before after g.met.D.Dialect.lawful (all_ticked c.loop-test.false c.loop.invariant.ticked) refl c.loop.invariant.level;
      driven = c.loop.invariant.driven;
    }
