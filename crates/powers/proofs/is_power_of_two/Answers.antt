use Rattle.std.proofs.Common.{sym, ap, ◌∙◌}
use lib.Count.{ones}
use Rattle.std.proofs.lemmas.Bool.{eqb-true, eq-eqb}
use Rattle.powers.proofs.Powers.{power_of_one_bit, one_bit_of_power}
use Rattle.powers.proofs.is_power_of_two.Goals as goal

pub returns-clause-power : goal.returns-clause-power
returns-clause-power c =
    let n = c.args.n in
    let tested = c.is_power_of_two.ensures in (
      (λ passed. power_of_one_bit n (eqb-true (ones n) 1 (sym tested ∙ passed))),
      (λ (e, power). tested ∙ eq-eqb (ones n) 1 (ap ones power ∙ one_bit_of_power e)),
    )
