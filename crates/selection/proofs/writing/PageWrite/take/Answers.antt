use Rattle.std.proofs.Common.{rules, cond, drop, sym, ◌∙◌}
use Rattle.rules.specs.Write.{is_full}
use Rattle.selection.specs.Held.{items}
use Rattle.selection.specs.View.{kind_of}
use Rattle.selection.proofs.Turned.{paged_full, marked_accepted}
use Rattle.selection.proofs.writing.PageWrite.take.Goals as goal

pub returns-then-full : goal.returns-then-full
returns-then-full g c =
    let m = g.C.Cells in
    let k = kind_of g.D.Dialect.facts m.lasting (m.site c.args.cells.now) in
    let R = c.args.status_bits in
    let was = c.args.self.now in
    let now = c.hold.new.self in
    let e = paged_full k R was.page was.first (items was.held) was.blocked c.args.byte now.page now.first (items now.held) now.blocked
    (sym c.completes-full.ensures ∙ c.if-full.true) c.hold.ensures.page c.hold.ensures.first c.hold.ensures.held c.hold.ensures.blocked in
    let put = marked_accepted k R now.page now.first c.args.byte (cond (is_full (items was.held)) (drop 1 (items was.held)) (items was.held)) (items now.held) c.hold.ensures.held in
    rw e (search (rules, put))
