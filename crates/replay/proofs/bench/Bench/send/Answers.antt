use Rattle.std.proofs.Common.{◌≡◌, ℕ, [], length, Ok, Err, Option, Result, None, vec_items, refl, ap, ◌∙◌, arith}
use Rattle.std.proofs.lemmas.List.{take_all}
use Rattle.std.specs.Result.{result_unwrap_or}
use Rattle.refusal.specs.declared.Refusal.{Refusal}
use Rattle.part.specs.View.{answered, drove}
use Rattle.replay.specs.Ran.{state_of}
use Rattle.replay.proofs.Turns.{none_yet, byte_made}
use Rattle.replay.proofs.bench.Bench.send.Goals as goal

-- a refused byte is not driven at
undriven : (r : Result (Option ℕ) Refusal) → result_unwrap_or r None ≡ drove r
undriven (Ok d) = refl
undriven (Err e) = refl

pub loop-byte-init : goal.loop-byte-init
loop-byte-init g c =
    let w = (state_of g.D.Dialect g.C.Cells c.args.self.now).part in
    let v = c.args.self.now.driven in
    let empty : vec_items v ≡ [] = c.requires.0 in record {
      made = (Ok 0, rw empty (none_yet w));
      level = refl;
      len = v.ok.0 ∙ ap length empty;
      room = c.requires.1;
    }

pub loop-byte-preserved : goal.loop-byte-preserved
loop-byte-preserved g c = record {
  made = (
    answered c.byte.result,
    byte_made c.args.self.now.held c.args.bytes.now c.loop-byte.byte-index c.loop-byte-test.true c.loop-byte.invariant.made.1
        c.byte.ensures (rw (c.push_reserved.ensures.items, c.unwrap_or-on_the_line.ensures, undriven c.byte.result)),
  );
  level = c.loop-byte.invariant.level;
  len = omega (arith, c.push_reserved.ensures.len);
  room = omega (arith, c.push_reserved.ensures.capacity);
}

pub returns : goal.returns
returns g c =
    let all = take_all c.loop-byte.byte-index c.args.bytes.now c.loop-byte-test.false in record {
      made = (c.loop-byte.invariant.made.0, rw all at c.loop-byte.invariant.made.1);
      level = c.loop-byte.invariant.level;
    }
