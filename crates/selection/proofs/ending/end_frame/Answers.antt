use Rattle.std.proofs.Common.{rules, ◌/◌, cond, Some, None, sym, ap, ◌∙◌}
use Rattle.std.proofs.lemmas.Bool.{ne_eqb, eq-eqb}
use Rattle.refusal.specs.declared.Refusal.TheVariants.{Protected}
use Rattle.rules.specs.Kind.{page_protected}
use Rattle.rules.specs.State.{unselected}
use Rattle.selection.specs.View.{kind, state_of}
use Rattle.selection.proofs.Accepting.{is_shut}
use Rattle.selection.proofs.Framed.{parts_are, wrong_frame, blocked_frame, open_frame, frame_marks}
use Rattle.selection.proofs.ending.end_frame.Goals as goal

pub returns-then-page_sum-sum : goal.returns-then-page_sum-sum
returns-then-page_sum-sum g c =
    let m = g.C.Cells in
    let k = kind g.D.Dialect.facts m c.args.cells.now in
    let s = state_of c.args.control.now unselected in
    let bytes = c.args.frame.now in
    let p = c.parts-place in
    let are = parts_are k bytes _ c.args.size p.result.place c.page_sum.result p.result.sum p.result.«data».now
    c.address_bytes.ensures c.requires.1.0 p.ensures.place p.ensures.«data» p.ensures.sum c.page_sum.ensures in
    let is = wrong_frame k s bytes (sym are.1 ∙ ne_eqb _ _ c.if-page_sum-sum.true) in
    rw is (search rules)

pub returns-in_err-accept : goal.returns-in_err-accept
returns-in_err-accept g c =
    let m = g.C.Cells in
    let k = kind g.D.Dialect.facts m c.args.cells.now in
    let s = state_of c.args.control.now unselected in
    let bytes = c.args.frame.now in
    let p = c.parts-place in
    let are = parts_are k bytes _ c.args.size p.result.place c.page_sum.result p.result.sum p.result.«data».now
    c.address_bytes.ensures c.requires.1.0 p.ensures.place p.ensures.«data» p.ensures.sum c.page_sum.ensures in
    let shut = is_shut c.in_err-accept.field-0.0 (page_protected k s.status_bits (p.result.place / 64)) c.in_err-accept.ensures.answer in
    let is = blocked_frame k s bytes (sym are.1 ∙ eq-eqb _ _ c.if-page_sum-sum.false) (ap (λ a. page_protected k s.status_bits (a / 64)) (sym are.0) ∙ shut.0) in
    rw is (search (rules, shut))

pub returns : goal.returns
returns g c =
    let m = g.C.Cells in
    let k = kind g.D.Dialect.facts m c.args.cells.now in
    let s = state_of c.args.control.now unselected in
    let bytes = c.args.frame.now in
    let p = c.parts-place in
    let are = parts_are k bytes _ c.args.size p.result.place c.page_sum.result p.result.sum p.result.«data».now
    c.address_bytes.ensures c.requires.1.0 p.ensures.place p.ensures.«data» p.ensures.sum c.page_sum.ensures in
    let free = c.in_ok-accept.ensures.answer ∙ ap (λ a. cond (page_protected k s.status_bits (a / 64)) (Some Protected) None) are.0 in
    let is = open_frame k s bytes (sym are.1 ∙ eq-eqb _ _ c.if-page_sum-sum.false) free in
    let marks = frame_marks k s bytes s.written c.requires.0 free in
    rw is (search (rules, marks))
