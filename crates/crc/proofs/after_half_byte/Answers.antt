use Rattle.std.proofs.Common.{◌≡◌, ℕ, ◌*◌, ◌/◌, ◌%◌, ◌<◌, sym, ap, ◌∙◌, subst, arith}
use lib.Bits.{bit_xor, xor_lt}
use Rattle.crc.specs.Table.{multiple}
use Rattle.crc.proofs.Half.{table_entry, half_byte}
use Rattle.crc.proofs.after_half_byte.Goals as goal

within : (r n i : ℕ) → i ≡ bit_xor (r / 4096) n → r < 65536 → n < 16 → i < 16
within r n i e hr hn = subst (λ k. k < 16) (sym e) (xor_lt 4 (r / 4096) n (omega arith) hn)

pub bounds-from : goal.bounds-from
bounds-from c = within c.args.register c.args.half c.from.result c.from.ensures (omega arith) c.requires

pub returns : goal.returns
returns c =
    let r = c.args.register in
    let n = c.args.half in
    let i = c.from.result in
    ap (bit_xor (r * 16 % 65536))
    (table_entry i (within r n i c.from.ensures (omega arith) c.requires) ∙ ap multiple c.from.ensures)
    ∙ sym (half_byte r n (omega arith) c.requires)
