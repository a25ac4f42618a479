use Rattle.std.proofs.Common.{arith}
use Rattle.vectors.proofs.Feeding.{front_fed, byte_fed, all_fed}
use Rattle.vectors.proofs.Vector.worked_out.Goals as goal

pub loop-init : goal.loop-init
loop-init c = front_fed c.args.self.now c.update-register.result _ (omega arith) c.update-register.ensures

pub loop-preserved : goal.loop-preserved
loop-preserved c =
    byte_fed c.loop.register c.update-register-in-loop.result c.loop.byte c.args.self.now.step _ _ _
    (omega (arith, c.loop-test.true)) c.update-register-in-loop.ensures c.loop.invariant

pub returns : goal.returns
returns c = all_fed c.loop.register c.loop.byte c.args.self.now.step _ _ (omega (arith, c.loop-test.false)) c.loop.invariant
