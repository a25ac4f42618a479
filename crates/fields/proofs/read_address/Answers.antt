use Rattle.std.proofs.Common.{◌≡◌, length, arith, rules}
use Rattle.std.proofs.lemmas.Result.{err_from_is_err_and}
use Rattle.fields.proofs.Steps.{value, number_read, number_fails, two_bytes, three_bytes}
use Rattle.fields.proofs.read_address.Goals as goal

pub returns-in_err-high-in-Two : goal.returns-in_err-high-in-Two
returns-in_err-high-in-Two c =
    let p = err_from_is_err_and c.from_residual.result c.from_residual.ensures.1 in
    rw (p.1, p.2, c.in-Two.is) (number_fails 2 c.args.text.now _ c.in_err-high-in-Two.ensures)

pub returns-in_err-high-in-Three : goal.returns-in_err-high-in-Three
returns-in_err-high-in-Three c =
    let p = err_from_is_err_and c.from_residual-in_err-high-in-Three.result c.from_residual-in_err-high-in-Three.ensures.1 in
    rw (p.1, p.2, c.in-Three.is) (number_fails 3 c.args.text.now _ c.in_err-high-in-Three.ensures)

pub returns-in_ok-high-in-Two : goal.returns-in_ok-high-in-Two
returns-in_ok-high-in-Two c =
    let bytes = c.in_ok-high-in-Two.field-0-0 in
    let n = c.from_be_bytes.result in
    let two : length bytes ≡ 2 = search rules in
    let same : n ≡ value 0 bytes = omega (arith, two_bytes bytes two) in
    rw c.in-Two.is (number_read 2 n c.args.text.now bytes c.in_ok-high-in-Two.rest.now same c.in_ok-high-in-Two.ensures)

pub returns-in_ok-high-in-Three : goal.returns-in_ok-high-in-Three
returns-in_ok-high-in-Three c =
    let bytes = c.in_ok-high-in-Three.field-0-0 in
    let n = c.from_be_bytes-in-Three.result in
    let three : length bytes ≡ 3 = search rules in
    let same : n ≡ value 0 bytes = omega (arith, three_bytes bytes three) in
    rw c.in-Three.is (number_read 3 n c.args.text.now bytes c.in_ok-high-in-Three.rest.now same c.in_ok-high-in-Three.ensures)
