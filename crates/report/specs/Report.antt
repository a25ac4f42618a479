-- What is printed of the captured lines: a line for each, and at the end how many were right, wrong and unreadable.
use Rattle.std.specs.Prelude.{◌≡◌, ℕ, ◌+◌, ◌-◌, ◌^◌, min, Bool, cond, List, [], ◌∷◌, ◌++◌, Ok, Err, codes, decimal, Result, String, string_bytes}
use Rattle.fields.specs.declared.Unreadable.{Unreadable}
use Rattle.fields.specs.Reasons.{reason}
use Rattle.figures.specs.Figures.{sum_text}
use Rattle.capture.specs.declared.Verdict.{Verdict}
use Rattle.report.specs.declared.Tally.{Tally}

-- a text was added to what a string had
abbrev pub Added : {A : Type 0} → String A → List ℕ → String A → Type 0
Added was text now = string_bytes now ≡ string_bytes was ++ text

abbrev pub word : Bool → List ℕ
word right = cond right (codes "right") (codes "wrong")

-- The sums stand as four upper-case hexadecimal figures: as `3 right page 2 offset 0 sum sent 29B1 worked out 29B1`
abbrev pub verdict_text : ℕ → Verdict → List ℕ
verdict_text number v =
    decimal number ++ (codes " " ++ (word v.right ++ (codes " page " ++ (decimal v.page ++ (codes " offset " ++ (decimal v.offset
    ++ (codes " sum sent " ++ (sum_text v.sum_sent ++ (codes " worked out " ++ (sum_text v.sum_worked_out ++ (10 ∷ [])))))))))))

-- as `4 unreadable: the line ends before the frame does`
abbrev pub reason_text : ℕ → Unreadable → List ℕ
reason_text number why = decimal number ++ (codes " unreadable: " ++ (reason why ++ (10 ∷ [])))

abbrev pub line_text : ℕ → Result Verdict Unreadable → List ℕ
line_text number (Ok v) = verdict_text number v
line_text number (Err why) = reason_text number why

-- one more, up to the largest number of 64 bits
abbrev pub one_more : ℕ → ℕ
one_more n = min (n + 1) (2 ^ 64 - 1)

-- each line counts as one of three
abbrev pub counted : Tally → Result Verdict Unreadable → Tally
counted t (Ok v) =
    cond v.right (record { right = one_more t.right; wrong = t.wrong; unreadable = t.unreadable })
    (record { right = t.right; wrong = one_more t.wrong; unreadable = t.unreadable })
counted t (Err why) = record { right = t.right; wrong = t.wrong; unreadable = one_more t.unreadable }

-- as `5 right, 4 wrong, 7 unreadable`
abbrev pub tally_text : Tally → List ℕ
tally_text t = decimal t.right ++ (codes " right, " ++ (decimal t.wrong ++ (codes " wrong, " ++ (decimal t.unreadable ++ (codes " unreadable" ++ (10 ∷ []))))))
