use Rattle.std.proofs.Common.{ap, ◌∙◌, arith}
use Rattle.fields.specs.Fields.{digit_value, hexadecimal}
use Rattle.fields.proofs.Hex.{digit_of, from_table}
use Rattle.fields.proofs.hexadecimal_digit.Goals as goal

pub returns : goal.returns
unfolding digit_of digit_value
returns c =
    let why = c.args.why in
    c.ok_or.ensures.value ∙ from_table c.from.result _ why (omega arith) ∙ ap (hexadecimal why) c.from.ensures
