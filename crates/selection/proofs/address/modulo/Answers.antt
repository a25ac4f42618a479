use Rattle.std.proofs.Common.{◌+◌, ◌*◌, ◌%◌, get_or, drop, sym, ap, ◌∙◌, mod-lt, mod-eq_of_lt}
use native.Mathlib.Nat.{mod-mod}
use Rattle.std.proofs.lemmas.List.{drop_more, drop_all}
use Rattle.rules.specs.Frame.{number_behind}
use Rattle.selection.proofs.Number.{mod_behind}
use Rattle.selection.proofs.address.modulo.Goals as goal

pub loop-byte-preserved : goal.loop-byte-preserved
loop-byte-preserved c =
    let s = c.args.size in
    let bytes = c.args.bytes.now in
    let i = c.loop-byte.byte-index in
    let n = c.loop-byte.so_far in (
      rw c.one_more-so_far.ensures (mod-lt (n * 256 + get_or bytes i 0) c.requires),
      mod_behind s c.one_more-so_far.result (n * 256 + get_or bytes i 0) (drop (i + 1) bytes)
          (ap (λ x. x % s) c.one_more-so_far.ensures ∙ mod-mod (n * 256 + get_or bytes i 0) s)
          ∙ ap (λ w. number_behind n w % s) (sym (drop_more bytes i 0 c.loop-byte-test.true))
          ∙ c.loop-byte.invariant.1,
    )

pub returns : goal.returns
returns c =
    sym (mod-eq_of_lt c.loop-byte.invariant.0)
    ∙ ap (λ w. number_behind c.loop-byte.so_far w % c.args.size) (sym (drop_all c.loop-byte.byte-index c.args.bytes.now c.loop-byte-test.false))
    ∙ c.loop-byte.invariant.1
