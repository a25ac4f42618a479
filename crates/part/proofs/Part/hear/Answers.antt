use Rattle.std.proofs.Common.{ap}
use Rattle.selection.specs.View.{phase_of, selection_of}
use Rattle.part.proofs.Heard.{byte_does}
use Rattle.part.proofs.Part.hear.Goals as goal

pub returns-in-Some-2 : goal.returns-in-Some-2
returns-in-Some-2 g c =
    let m = g.C.Cells in
    let p = c.args.self.now in
    let heard = c.hear-driven in
    let e = heard.ensures.fits (c.requires.size, c.requires.not_small) in
    byte_does g.D.Dialect.facts m.lasting (m.site p.cells) (m.site heard.new.cells) (m.images p.cells) (m.images heard.new.cells)
    p.control (selection_of p.selection) c.args.awake.activity (phase_of c.in-Some.field-0) (phase_of heard.new.phase)
    c.args.value c.args.held heard.result.wrote heard.result.driven (ap selection_of c.in-Some.is) c.if-held.false
    e.phase e.driven e.wrote e.done
