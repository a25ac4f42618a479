use Rattle.std.proofs.Common.{◌≡◌, ◌≤◌, Some, None, length, sym, refl, ap, ◌∙◌, arith, rules}
use Rattle.std.proofs.lemmas.Result.{err_from_is_err_and}
use Rattle.std.proofs.lemmas.Grind.{common_steps}
use Rattle.runfile.specs.declared.fault.OpeningFault.TheVariants.{NoTable}
use Rattle.runfile.specs.Numbers.{opening_fault_at}
use Rattle.runfile.specs.Table.{count_of, pair_place, offset_of, length_of, end_of, spot, opening_fault}
use Rattle.runfile.proofs.Opening.{passed, stopped, no_table, all_passed, earliest_next, all_left, checked_ok, checked_err}
use Rattle.runfile.proofs.Pairs.{pair_is, found_of}
use Rattle.runfile.proofs.reader.Reader.open.Goals as goal

pub returns-in_err-count : goal.returns-in_err-count
returns-in_err-count c =
    let p = err_from_is_err_and c.from_residual.result c.from_residual.ensures.1 in
    let told : opening_fault_at (spot 0 0) NoTable ≡ c.in_err-count.field-0.0 = grind (arith, common_steps, c.in_err-count.ensures) in
    rw (p.1, p.2) (no_table c.args.file.now (rw c.in_err-count.ensures.ok_part at c.count.ensures) ∙ ap Some told)

pub returns-in_err-map_err : goal.returns-in_err-map_err
returns-in_err-map_err c =
    let file = c.args.file.now in
    let i = c.loop-number.number in
    let p = err_from_is_err_and c.from_residual-in_err-map_err.result c.from_residual-in_err-map_err.ensures.1 in
    let k = checked_err _ c.check.result c.map_err.result c.in_err-map_err.field-0.0 c.map_err.ensures.cases c.in_err-map_err.was in
    let told : c.in_err-map_err.field-0.0 ≡ opening_fault_at (spot i (pair_place i)) k.0 = grind (arith, common_steps, k.2) in
    let table = rw c.in_ok-count.ensures.ok_part at c.count.ensures in
    let count : length c.as_chunks.result.0.now ≡ count_of file = omega (arith, table, c.as_chunks.ensures.front_len) in
    let pair = pair_is file c.as_chunks.result.0.now _ _ i _ c.as_chunks.ensures.front (omega arith) (omega arith) in
    let found = found_of file i _ _ _ (Some k.0) (c.from-pair.ensures.0 ∙ pair.0) (c.from-pair.ensures.1 ∙ pair.1) c.loop-number.invariant.0 (rw k.1 at c.check.ensures) in
    rw (p.1, p.2, told) (stopped file i k.0 (omega arith) table.0 found c.loop-number.invariant.1)

pub loop-number-preserved : goal.loop-number-preserved
loop-number-preserved c =
    let file = c.args.file.now in
    let i = c.loop-number.number in
    let is = checked_ok _ c.check.result c.map_err.result c.in_ok-map_err.field-0 c.map_err.ensures.cases c.in_ok-map_err.was in
    let table = rw c.in_ok-count.ensures.ok_part at c.count.ensures in
    let count : length c.as_chunks.result.0.now ≡ count_of file = omega (arith, table, c.as_chunks.ensures.front_len) in
    let pair = pair_is file c.as_chunks.result.0.now _ _ i _ c.as_chunks.ensures.front (omega arith) (omega arith) in
    let offset : c.from-pair.result.offset ≡ offset_of file i = c.from-pair.ensures.0 ∙ pair.0 in
    let len : c.from-pair.result.length ≡ length_of file i = c.from-pair.ensures.1 ∙ pair.1 in
    let fine = found_of file i _ _ _ None offset len c.loop-number.invariant.0 (rw is at c.check.ensures) in
    let end : c.end-floor.result ≡ end_of file i = omega (arith, offset, len, c.end-floor.ensures) in
    (end ∙ sym (earliest_next file i), passed file i (omega arith) fine c.loop-number.invariant.1)

pub invariant_of-result-clause-opens : goal.invariant_of-result-clause-opens
invariant_of-result-clause-opens c =
    let table = rw c.in_ok-count.ensures.ok_part at c.count.ensures in
    let past : count_of c.args.file.now ≤ c.loop-number.number = omega (arith, table, c.as_chunks.ensures.front_len) in
    all_passed c.args.file.now c.loop-number.number past table.0 c.loop-number.invariant.1

pub returns : goal.returns
returns c =
    let opens : opening_fault c.args.file.now ≡ None = search rules in
    let table = rw c.in_ok-count.ensures.ok_part at c.count.ensures in record {
      opens = opens;
      over = refl;
      all = all_left c.args.file.now;
      stands = record { opens = opens; over = refl; before = refl; counted = table.1.0; within = omega arith };
    }
