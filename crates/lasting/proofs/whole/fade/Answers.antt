use Rattle.std.proofs.Common.{ℕ, ◌<◌, get_or, refl, arith, rules}
use Rattle.std.proofs.lemmas.List.{get_or-take}
use Rattle.cells.proofs.Bytes.{bytes}
use Rattle.lasting.specs.Array.{long}
use Rattle.lasting.specs.Whole.{size_in, whole}
use Rattle.lasting.proofs.whole.fade.Goals as goal

pub returns : goal.returns
unfolding whole
returns c =
    let b = c.args.bytes.now in
    let small : (k : ℕ) → get_or b k 0 < 256 = search rules in
    record { same = refl; bytes = bytes (size_in b) _ (long b) (λ k lt. omega (arith, get_or-take (size_in b) b k 0 lt, small k)) }
