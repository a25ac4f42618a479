use Rattle.std.proofs.Common.{sym, ap, ◌∙◌}
use Rattle.cells.specs.Images.{page_of}
use Rattle.cells.proofs.Pages.{done_is, recall_kept, recall_page}
use Rattle.cells.proofs.outlast.recall_page.Goals as goal

pub returns-clause-kept : goal.returns-clause-kept
returns-clause-kept g c =
    ap (λ i. i.kept) c.recall.ensures.images ∙ recall_kept _ c.args.page (g.C.Cells.images c.args.cells.now)

pub returns-clause-page : goal.returns-clause-page
returns-clause-page g c done =
    let p = c.args.page in
    let cells = c.args.cells.now in
    let n = (g.C.Cells.site cells).pages in
    let law = g.C.Cells.lawful in
    let has = sym (done_is n p c.recall.result c.recall.ensures.answer) ∙ done in
    ap (λ i. page_of p i.working) c.recall.ensures.images
    ∙ recall_page n p (g.C.Cells.images cells) has (law.working cells) (law.kept cells)
