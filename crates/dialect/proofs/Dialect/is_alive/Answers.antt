use Rattle.std.proofs.Common.{rules}
use Rattle.dialect.proofs.Dialect.is_alive.Goals as goal

pub returns-then-contains : goal.returns-then-contains
returns-then-contains g c =
    let power = c.is_power_of_two.ensures.power in (
      (λ passed.
          let (k, e) = power.0 passed in
          record {
            exponent = k;
            is_a_power_of_two = e;
            is_256_or_more = search rules;
            is_within_the_largest = search rules;
          }),
      (λ alive. power.1 (alive.exponent, alive.is_a_power_of_two)),
    )
