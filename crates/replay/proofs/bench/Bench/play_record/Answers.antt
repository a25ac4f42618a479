use Rattle.std.proofs.Common.{◌≡◌, vec_items, arith}
use Rattle.std.proofs.lemmas.Grind.{common_steps}
use Rattle.benchlines.specs.Lines.{line_text}
use Rattle.runfile.specs.Reader.{record_seen}
use Rattle.replay.specs.Ran.{state_of}
use Rattle.replay.specs.Played.{Came, in_file, line_of}
use Rattle.replay.proofs.Playing.{placed, located_ran}
use Rattle.replay.proofs.bench.Bench.play_record.Goals as goal

pub returns : goal.returns
returns g c =
    let now = c.run.new.self in
    let found = c.args.found in
    let came : Came = record { outcome = c.in_ok-run.field-0; driven = vec_items now.driven } in
    let in_place : c.map_err-result.result ≡ in_file found.spot came.outcome =
    placed _ found.spot came.outcome c.map_err-result.result c.map_err-result.ensures.cases (λ e f told. grind (arith, common_steps, told)) in
    let line : line_text found.spot.number c.of-letter.result c.map_err-result.result c.driven.result.now ≡ line_of (record_seen found) came =
    rw (c.of-letter.ensures, in_place, c.driven.ensures) in
    located_ran c.add_line.result (record_seen found) came (vec_items c.args.out.now) _
    (state_of g.D.Dialect g.C.Cells c.args.self.now) (state_of g.D.Dialect g.C.Cells now)
    _ c.in_ok-run.ensures.ran line c.add_line.ensures.items
