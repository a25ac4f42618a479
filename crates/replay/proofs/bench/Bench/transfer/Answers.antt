use Rattle.std.proofs.Common.{refl}
use Rattle.std.proofs.lemmas.Result.{err_from_is_err_and}
use Rattle.replay.specs.Ran.{state_of}
use Rattle.replay.proofs.Turns.{transfer_run, refused_run}
use Rattle.replay.proofs.bench.Bench.transfer.Goals as goal

pub returns-in_err-select : goal.returns-in_err-select
returns-in_err-select g c =
    let p = err_from_is_err_and c.from_residual.result c.from_residual.ensures.1 in
    let before = state_of g.D.Dialect g.C.Cells c.args.self.now in
    let after = state_of g.D.Dialect g.C.Cells (record c.args.self.now { part = c.select.new.self }) in
    rw (p.1, p.2, c.requires.0) (refused_run c.args.clocks c.args.bytes.now before after g.met.D.Dialect.lawful c.in_err-select.ensures refl)

pub returns : goal.returns
returns g c =
    let before = state_of g.D.Dialect g.C.Cells c.args.self.now in
    let after = state_of g.D.Dialect g.C.Cells (record c.send.new.self { part = c.release.new.self }) in
    transfer_run c.args.clocks c.args.bytes.now before after g.met.D.Dialect.lawful c.in_ok-select.ensures c.send.ensures.made c.release.ensures c.send.ensures.level
