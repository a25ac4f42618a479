use Rattle.std.proofs.Common.{◌/◌, ◌<◌, length, min, ap, ◌∙◌, is_ok}
use Rattle.std.proofs.lemmas.Bool.{cond_below}
use Rattle.cells.specs.Images.{with_page}
use Rattle.cells.proofs.Pages.{page_found, page_written}
use Rattle.cells.proofs.image.copy_page.Goals as goal

pub returns-clause-image : goal.returns-clause-image
returns-clause-image c =
    let p = c.args.page in
    let pages = min (length c.args.from.now) (length c.args.to.now) / 64 in
    let lt : p < pages = page_found pages p c.find_page.result (cc) (ap is_ok c.in_ok-find_page.was) in
    page_written p c.args.from.now c.args.to.now _ c.copy_from_slice.ensures.after ∙ cond_below p pages (with_page p c.args.from.now c.args.to.now) _ lt
