-- The comparison of a vector's sum with the library's, as a line.
use Rattle.std.specs.Prelude.{ℕ, Bool, cond, List, ◌++◌, ◌==◌, codes}
use Rattle.crc.specs.Sum.{sum_of}
use Rattle.figures.specs.Figures.{sum_text}
use Rattle.vectors.specs.declared.Vector.{Vector}
use Rattle.vectors.specs.Message.{message}
use Rattle.vectors.specs.Source.{source_text}

-- whether the library and the source have the same sum
abbrev pub verdict_text : Bool → List ℕ
verdict_text agree = cond agree (codes "which agrees") (codes "WHICH DIFFERS")

-- as `one byte 00h: Python has E1F0, the library E1F0, which agrees`
abbrev pub comparison_text : Vector → ℕ → List ℕ
comparison_text v worked_out =
    v.what.now ++ (codes ": " ++ (source_text v.source ++ (codes " has " ++ (sum_text v.sum ++ (codes ", the library "
    ++ (sum_text worked_out ++ (codes ", " ++ verdict_text (worked_out == v.sum))))))))

-- the same, with the sum of the vector's message
abbrev pub line_text : Vector → List ℕ
line_text v = comparison_text v (sum_of (message v))
