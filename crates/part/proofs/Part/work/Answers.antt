use Rattle.std.proofs.lemmas.List.{get_or_default}
use Rattle.part.proofs.Working.{one_more, all_worked}
use Rattle.part.proofs.Part.work.Goals as goal

pub loop-call-preserved : goal.loop-call-preserved
loop-call-preserved g c =
    one_more c.args.calls.now c.loop-call.call-index _ _ _ _ c.loop-call-test.true
    (get_or_default c.args.calls.now c.loop-call.call-index _ _ c.loop-call-test.true) c.loop-call.invariant (_, (_, c.make.ensures.served))

pub returns : goal.returns
returns g c =
    all_worked c.args.calls.now c.loop-call.call-index _ _ c.loop-call-test.false g.met.D.Dialect.lawful c.loop-call.invariant
