use Rattle.std.proofs.Common.{Ok, refl}
use Rattle.part.specs.View.{answered}
use Rattle.runfile.specs.Letters.{cut, power_up}
use Rattle.replay.specs.Ran.{state_of}
use Rattle.replay.proofs.Turns.{call_run, hold_run}
use Rattle.replay.proofs.bench.Bench.obey.Goals as goal

pub returns-in-Cut : goal.returns-in-Cut
returns-in-Cut g c =
    let before = state_of g.D.Dialect g.C.Cells c.args.self.now in
    let after = state_of g.D.Dialect g.C.Cells (record c.args.self.now { part = c.cut.new.self }) in (
      answered c.cut.result,
      (
        c.done-in-Cut.ensures,
        rw (c.in-Cut.is, c.requires.0) (call_run (cut c.in-Cut.charged) before after g.met.D.Dialect.lawful c.cut.ensures refl refl refl),
      ),
    )

pub returns-in-Hold : goal.returns-in-Hold
returns-in-Hold g c =
    let before = state_of g.D.Dialect g.C.Cells c.args.self.now in
    let after = state_of g.D.Dialect g.C.Cells (record c.args.self.now { held = c.in-Hold.held }) in
    (Ok 0, (refl, rw (c.in-Hold.is, c.requires.0) (hold_run c.in-Hold.held before after g.met.D.Dialect.lawful refl refl)))

pub returns-in-PowerUp : goal.returns-in-PowerUp
returns-in-PowerUp g c =
    let before = state_of g.D.Dialect g.C.Cells c.args.self.now in
    let after = state_of g.D.Dialect g.C.Cells (record c.args.self.now { part = c.power_up.new.self }) in (
      answered c.power_up.result,
      (
        c.done-in-PowerUp.ensures,
        rw (c.in-PowerUp.is, c.requires.0) (call_run power_up before after g.met.D.Dialect.lawful c.power_up.ensures.served refl refl refl),
      ),
    )
