use Rattle.std.proofs.Common.{◌≡◌, ℕ, length}
use Rattle.fields.specs.Fields.{digits, capped}
use Rattle.fields.proofs.take_digits.Given as goal

-- the digits so far make some number, from which what is left of the text reads on to the same
abbrev pub invariant-loop-rest : goal.invariant-loop-rest
invariant-loop-rest l = (n : ℕ) × (l.number ≡ capped n) × (digits n l.rest ≡ digits 0 l.text)

abbrev pub decreases-loop-rest : goal.decreases-loop-rest
decreases-loop-rest l = length l.rest
