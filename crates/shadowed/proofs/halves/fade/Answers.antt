use Rattle.std.proofs.Common.{◌≡◌, ◌++◌, drop, replicate, sym, ap, ◌∙◌, subst, rules}
use lib.ListN.{length-replicate}
use Rattle.cells.specs.Laws.{Bytes}
use Rattle.shadowed.specs.Halves.{size_in}
use Rattle.shadowed.proofs.Laid.{new_working, filled}
use Rattle.shadowed.proofs.halves.fade.Goals as goal

pub returns : goal.returns
returns c =
    let b = c.args.bytes.now in
    let v = c.args.value in
    let n = c.size-size.result in
    let filled_to : c.fill.new.self ++ drop n b ≡ replicate n v ++ drop n b = search rules in
    let new = filled_to ∙ ap (λ m. replicate m v ++ drop m b) c.size-size.ensures.size in
    let left = new_working b _ (replicate (size_in b) v) new (length-replicate (size_in b) v) in
    record {
      left = left;
      bytes = subst (Bytes (size_in b)) (sym (ap (λ i. i.working) left.images)) (filled (size_in b) v c.ranges.value.fits);
    }
