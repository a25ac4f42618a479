use Rattle.detect.specs.Damage.{EndsWithSum}
use Rattle.detect.proofs.Message.{ends_exactly, burst_is_caught, not_when_refuted}
use Rattle.detect.proofs.ends_with_sum.Goals as goal

pub returns : goal.returns
returns c =
    let m = c.args.message.now in
    let r = c.ends_at_zero.result in
    let exactly = ends_exactly m r (λ i. (c.type_inv.message i).fits) c.ends_at_zero.ensures in
    record {
      exact = exactly;
      register_is_zero = c.ends_at_zero.ensures;
      short_burst_is_caught = λ sent s b. not_when_refuted r (EndsWithSum m) exactly (burst_is_caught sent m s b);
    }
