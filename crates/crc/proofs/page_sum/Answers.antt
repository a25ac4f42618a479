use Rattle.std.proofs.Common.{arith}
use Rattle.std.proofs.lemmas.Grind.{common_steps}
use Rattle.crc.proofs.Runs.{after_message_append}
use Rattle.crc.proofs.page_sum.Goals as goal

pub returns : goal.returns
returns c = grind (arith, common_steps, after_message_append)
