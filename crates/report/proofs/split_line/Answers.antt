use Rattle.std.proofs.Common.{◌≡◌, ℕ, ◌+◌, ◌<◌, List, ◌∷◌, length, take, Some, ap, ◌∙◌, arith, false-eqb}
use Rattle.std.proofs.lemmas.List.{take_rest, drop_all}
use Rattle.report.specs.Lines.{lines, first_line}
use Rattle.report.proofs.Cuts.{cut_found, cut_whole, feed_is_within, first_is_cut, other_lines, rest_is_shorter}
use Rattle.report.proofs.split_line.Goals as goal

-- the three clauses of an answer, from the first
module _ (text line rest : List ℕ) where
  split : Some (line, rest) ≡ first_line text
      → record { first : Some (line, rest) ≡ first_line text; others : lines text ≡ line ∷ lines rest; shorter : length rest < length text }
  split e = record { first = e; others = other_lines text line rest e; shorter = rest_is_shorter text line rest e }

pub returns-in-Some : goal.returns-in-Some
returns-in-Some c =
    let text = c.args.text.now in
    let i = c.in-Some.end in
    split text _ _
    (ap (λ l. Some (take i text, l)) (take_rest text (i + 1)) ∙ ap Some (cut_found text i c.in-Some.ensures)
    ∙ first_is_cut text (feed_is_within text i c.in-Some.ensures))

pub returns-in-None-2 : goal.returns-in-None-2
returns-in-None-2 c =
    let text = c.args.text.now in
    let n = length text in
    split text _ _
    (ap (λ l. Some (text, l)) (take_rest text n ∙ drop_all n text (omega arith))
    ∙ ap Some (cut_whole text c.in-None-2.ensures)
    ∙ first_is_cut text (omega (arith, false-eqb n 0 c.if-is_empty.ensures)))
