-- what was driven at the bytes so far is told
use Rattle.std.proofs.Common.{◌≡◌, ◌+◌, ◌*◌, take, vec_len}
use Rattle.benchlines.specs.Lines.{all_driven_text}
use Rattle.benchlines.specs.Room.{Added}
use Rattle.benchlines.proofs.add_all_driven.Given as goal

abbrev pub invariant-loop-at_byte : goal.invariant-loop-at_byte
invariant-loop-at_byte l = record {
  added : Added l.initial.out (all_driven_text (take l.at_byte-index l.driven)) l.out;
  len : vec_len l.out ≡ vec_len l.initial.out + 3 * l.at_byte-index;
}
