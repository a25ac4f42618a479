-- what is left of the bytes leads to the same number, modulo the size
use Rattle.std.proofs.Common.{◌≡◌, ◌%◌, ◌<◌, drop}
use Rattle.rules.specs.Frame.{number_behind}
use Rattle.selection.proofs.address.modulo.Given as goal

abbrev pub invariant-loop-byte : goal.invariant-loop-byte
invariant-loop-byte l = (l.so_far < l.size) × (number_behind l.so_far (drop l.byte-index l.bytes) % l.size ≡ number_behind 0 l.bytes % l.size)
