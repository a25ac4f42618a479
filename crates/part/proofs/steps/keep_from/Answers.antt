use Rattle.std.proofs.Common.{ap, ◌∙◌, arith}
use Rattle.cells.specs.Images.{after_keep}
use Rattle.cells.specs.Laws.{Site}
use Rattle.part.proofs.Keeping.{next_keep}
use Rattle.part.proofs.steps.keep_from.Goals as goal

pub loop-page-preserved : goal.loop-page-preserved
loop-page-preserved g c =
    let m = g.C.Cells in
    let at = m.site c.args.cells.now in (
      c.keep.ensures.site ∙ c.loop-page.invariant.0,
      λ j rest. c.loop-page.invariant.1 j
          (next_keep g.D.Dialect.facts m.lasting at c.args.pages c.loop-page.page (m.images c.loop-page.cells) (m.images c.keep.new.self) j
          (omega arith)
          (c.keep.ensures.images ∙ ap (λ (s : Site). after_keep s.pages c.loop-page.page (m.images c.loop-page.cells)) c.loop-page.invariant.0) rest),
    )
