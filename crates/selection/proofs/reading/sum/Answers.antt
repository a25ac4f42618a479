use Rattle.std.proofs.Common.{rules, ◌≡◌, ◌*◌, refl, ap, ◌∙◌, ap₂, arith}
use Rattle.std.proofs.lemmas.List.FromFn.{fill_by_all}
use Rattle.crc.specs.Transfer.{page_sum, count_of}
use Rattle.rules.specs.Machine.{rolled}
use Rattle.selection.proofs.Filled.{filled}
use Rattle.selection.proofs.reading.sum.Goals as goal

pub returns : goal.returns
returns g c =
    let m = g.C.Cells in
    let w = (m.images c.args.cells.now).working in
    let items = c.from_fn-page.ensures.items in
    let all = filled _ (λ f. (f.0.now ≡ c.args.cells.now) × (f.1.now ≡ c.args.from)) (rolled c.args.from w) 64
    (λ f i y q p lt called. search rules) 64 0 _ c.from_fn-page.result (refl, refl) (omega arith) items.each in
    c.page_sum.ensures
    ∙ ap (λ s. page_sum (count_of c.address_bytes.result) s c.args.from c.from_fn-page.result) c.requires.0
    ∙ ap₂ (λ k p. page_sum k (64 * (m.site c.args.cells.now).pages) c.args.from p) c.address_bytes.ensures
    (fill_by_all (rolled c.args.from w) c.from_fn-page.result 64 0 items.long (λ n h. all n (omega arith) (omega arith)))
