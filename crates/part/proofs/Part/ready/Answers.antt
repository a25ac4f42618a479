use Rattle.std.proofs.Common.{sym, ◌∙◌}
use Rattle.part.specs.Whole.{whole}
use Rattle.part.proofs.Ready.{alive_same, ready_if_dead, ready_if_off, ready_if_on}
use Rattle.part.proofs.Part.ready.Goals as goal

pub returns-then-not-is_alive : goal.returns-then-not-is_alive
returns-then-not-is_alive g c =
    let w = whole g.D.Dialect g.C.Cells c.args.self.now in
    ready_if_dead w (sym (alive_same w.kind _ _ c.size-size.ensures c.is_alive.ensures) ∙ c.if-not-is_alive.true)

pub returns-in-Off : goal.returns-in-Off
returns-in-Off g c =
    let w = whole g.D.Dialect g.C.Cells c.args.self.now in
    ready_if_off w (sym (alive_same w.kind _ _ c.size-size.ensures c.is_alive.ensures) ∙ c.if-not-is_alive.false) c.in-Off.is

pub returns-in-On : goal.returns-in-On
returns-in-On g c =
    let w = whole g.D.Dialect g.C.Cells c.args.self.now in
    ready_if_on w _ (sym (alive_same w.kind _ _ c.size-size.ensures c.is_alive.ensures) ∙ c.if-not-is_alive.false) c.in-On.is c.size-size.ensures
