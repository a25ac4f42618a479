-- so many bytes were served, and what they drove is in the buffer
use Rattle.std.proofs.Common.{◌≡◌, ℕ, ◌≤◌, map, length, take, vec_items, vec_len, vec_capacity, Result}
use Rattle.refusal.specs.declared.Refusal.{Refusal}
use Rattle.rules.specs.declared.Call.TheVariants.{Byte}
use Rattle.replay.specs.Ran.{state_of, Made}
use Rattle.replay.proofs.bench.Bench.send.Given as goal

abbrev pub invariant-loop-byte : goal.invariant-loop-byte
invariant-loop-byte g l =
    let before = state_of g.D.Dialect g.C.Cells l.initial.self in
    let now = state_of g.D.Dialect g.C.Cells l.self in record {
      made : (last : Result ℕ Refusal) × Made (map (λ b. Byte b before.held) (take l.byte-index l.bytes)) before.part (vec_items l.self.driven) last now.part;
      level : now.held ≡ before.held;
      len : vec_len l.self.driven ≡ l.byte-index;
      room : length l.bytes ≤ vec_capacity l.self.driven;
    }
