use Rattle.std.proofs.Common.{refl}
use Rattle.std.proofs.lemmas.Result.{err_from_is_err_and}
use Rattle.rules.specs.declared.Call.TheVariants.{Release}
use Rattle.part.proofs.Serving.{served, turned_away}
use Rattle.part.proofs.Part.release.Goals as goal

pub returns-in_err-awake : goal.returns-in_err-awake
returns-in_err-awake g c =
    let p = err_from_is_err_and c.from_residual.result c.from_residual.ensures.1 in
    rw (p.1, p.2) (turned_away (Release c.args.clocks) g.met.D.Dialect.lawful c.in_err-awake.ensures refl)

pub returns : goal.returns
returns g c = served g.met.D.Dialect.lawful c.in_ok-awake.ensures c.finish.ensures
