use Rattle.std.proofs.Common.{◌≡◌, ◌-◌, length, take}
use Rattle.fields.specs.Fields.{read_bytes}
use Rattle.fields.proofs.Steps.{behind}
use Rattle.fields.proofs.read_bytes.Given as goal

-- what is left to read, behind the bytes so far, is the whole
abbrev pub invariant-loop-place : goal.invariant-loop-place
invariant-loop-place g l =
    (behind (take l.place-index l.place-items) (read_bytes (g.row.N - l.place-index) l.rest) ≡ read_bytes g.row.N l.text)
    × (length l.place-items ≡ g.row.N)
