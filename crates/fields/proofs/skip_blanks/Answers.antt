use Rattle.std.proofs.Common.{ap, ◌∙◌, drop}
use Rattle.std.proofs.lemmas.List.{take_rest}
use Rattle.fields.proofs.Blanks.{drop_blanks}
use Rattle.fields.proofs.skip_blanks.Goals as goal

pub returns : goal.returns
returns c =
    let text = c.args.text.now in
    take_rest text _ ∙ ap (λ n. drop n text) c.count_blanks.ensures.value ∙ drop_blanks text
