use Rattle.part.proofs.Keeping.{fades}
use Rattle.part.proofs.steps.drain.Goals as goal

pub returns : goal.returns
returns g c =
    let m = g.C.Cells in
    fades g.D.Dialect.facts m.lasting (m.site c.args.cells.now) (m.site c.save.new.cells) (m.site c.fade.new.self) _
    (m.images c.args.cells.now) (m.images c.save.new.cells) (m.images c.fade.new.self) c.save.ensures
    c.fade.ensures.kept c.fade.ensures.working c.fade.ensures.site
