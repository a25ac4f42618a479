-- the bytes still to come take the register to where the message takes it from the start
use Rattle.std.proofs.Common.{◌≡◌, ◌-◌}
use Rattle.crc.specs.Sum.{after_message, sum_of}
use Rattle.vectors.specs.Message.{growing, message}
use Rattle.vectors.proofs.Vector.worked_out.Given as goal

abbrev pub invariant-loop : goal.invariant-loop
invariant-loop l = after_message l.register (growing l.byte l.self.step (l.end - l.counter)) ≡ sum_of (message l.self)
