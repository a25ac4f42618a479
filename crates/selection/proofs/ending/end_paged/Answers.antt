use Rattle.std.proofs.Common.{rules, sym, ◌∙◌}
use Rattle.rules.specs.Kind.{page_protected}
use Rattle.rules.specs.State.{unselected}
use Rattle.selection.specs.Held.{items}
use Rattle.selection.specs.View.{kind, state_of}
use Rattle.selection.proofs.Accepting.{put_marks, same_answer}
use Rattle.selection.proofs.ending.end_paged.Goals as goal

pub returns : goal.returns
returns g c =
    let k = kind g.D.Dialect.facts g.C.Cells c.args.cells.now in
    let s = state_of c.args.control.now unselected in
    let w = c.args.write.now in
    let some = sym c.is_empty.ensures ∙ c.if-is_empty.false in
    let same = same_answer (items w.held) w.blocked (page_protected k s.status_bits w.page) some c.in_ok-accept.ensures.answer in
    let marks = put_marks k s.status_bits w.page w.first (items w.held) s.written some c.in_ok-accept.ensures.answer in
    search (rules, same, marks)
