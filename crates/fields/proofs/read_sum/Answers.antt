use Rattle.std.proofs.Common.{◌≡◌, ◌∙◌, length, rules}
use Rattle.std.proofs.lemmas.Result.{err_from_is_err_and}
use Rattle.fields.proofs.Steps.{number_read, number_fails, two_bytes}
use Rattle.fields.proofs.read_sum.Goals as goal

pub returns-in_err-bytes : goal.returns-in_err-bytes
returns-in_err-bytes c =
    let p = err_from_is_err_and c.from_residual.result c.from_residual.ensures.1 in
    rw (p.1, p.2) (number_fails 2 c.args.text.now _ c.in_err-bytes.ensures)

pub returns : goal.returns
returns c =
    let bytes = c.in_ok-bytes.bytes in
    let two : length bytes ≡ 2 = search rules in
    number_read 2 _ c.args.text.now bytes c.in_ok-bytes.rest.now (c.from_be_bytes.ensures ∙ two_bytes bytes two) c.in_ok-bytes.ensures
