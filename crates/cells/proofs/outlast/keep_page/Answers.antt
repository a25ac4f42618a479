use Rattle.std.proofs.Common.{sym, ap, ◌∙◌}
use Rattle.cells.specs.Images.{page_of}
use Rattle.cells.proofs.Pages.{done_is, keep_working, keep_page}
use Rattle.cells.proofs.outlast.keep_page.Goals as goal

pub returns-clause-working : goal.returns-clause-working
returns-clause-working g c =
    ap (λ i. i.working) c.keep.ensures.images ∙ keep_working _ c.args.page (g.C.Cells.images c.args.cells.now)

pub returns-clause-page : goal.returns-clause-page
returns-clause-page g c done =
    let p = c.args.page in
    let cells = c.args.cells.now in
    let n = (g.C.Cells.site cells).pages in
    let law = g.C.Cells.lawful in
    let has = sym (done_is n p c.keep.result c.keep.ensures.answer) ∙ done in
    ap (λ i. page_of p i.kept) c.keep.ensures.images
    ∙ keep_page n p (g.C.Cells.images cells) has (law.working cells) (law.kept cells)
