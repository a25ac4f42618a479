use Rattle.std.proofs.Common.{◌+◌, ◌*◌, ◌%◌, [], ◌∷◌, get_or, refl, ◌∙◌, subst}
use Rattle.rules.specs.State.{put}
use Rattle.rules.specs.Machine.{Changes}
use Rattle.selection.specs.View.{kind_of}
use Rattle.selection.proofs.Placed.{next_put, all_put}
use Rattle.selection.proofs.write.place.Goals as goal

pub loop-i-preserved : goal.loop-i-preserved
loop-i-preserved g c =
    let m = g.C.Cells in
    let f = g.D.Dialect.facts in
    let bytes = c.args.bytes.now in
    let i = c.loop-i.i in (
      c.put.ensures.site ∙ c.loop-i.invariant.0,
      λ j rest. c.loop-i.invariant.1 j
          (next_put (kind_of f m.lasting (m.site c.args.cells.now)) c.args.page c.args.offset i
          (c.args.page * 64 + (c.args.offset + i % 64) % 64) (get_or bytes i 0) bytes
          (m.images c.loop-i.cells) (m.images c.put.new.cells) j c.loop-i-test.true refl refl
          (subst (λ s. Changes (kind_of f m.lasting s) (put (c.args.page * 64 + (c.args.offset + i % 64) % 64) (get_or bytes i 0) ∷ []) (m.images c.loop-i.cells) (m.images c.put.new.cells))
          c.loop-i.invariant.0 c.put.ensures.changes)
          rest),
    )

pub returns : goal.returns
returns g c =
    let m = g.C.Cells in
    record {
      changes = c.loop-i.invariant.1 (m.images c.loop-i.cells)
          (all_put (kind_of g.D.Dialect.facts m.lasting (m.site c.args.cells.now)) c.args.page (c.args.offset + c.loop-i.i) c.loop-i.i c.args.bytes.now
          (m.images c.loop-i.cells) c.loop-i-test.false);
      site = c.loop-i.invariant.0;
    }
