use Rattle.std.proofs.Common.{refl}
use Rattle.std.proofs.lemmas.Result.{err_from_is_err_and}
use Rattle.rules.specs.declared.Call.TheVariants.{Select}
use Rattle.part.proofs.Serving.{served, turned_away}
use Rattle.part.proofs.Part.select.Goals as goal

pub returns-in_err-ready : goal.returns-in_err-ready
returns-in_err-ready g c =
    let p = err_from_is_err_and c.from_residual.result c.from_residual.ensures.1 in
    rw (p.1, p.2) (turned_away Select g.met.D.Dialect.lawful c.in_err-ready.ensures refl)

pub returns : goal.returns
returns g c = served g.met.D.Dialect.lawful c.in_ok-ready.ensures (c.begin.ensures c.in_ok-ready.field-0.activity)
