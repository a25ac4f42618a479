use Rattle.promises.proofs.Laws.{one_promised_byte, one_current_byte}
use Rattle.promises.proofs.trail_pins_each_byte.Goals as goal

pub returns : goal.returns
returns c = record { promised = one_promised_byte; current = one_current_byte }
