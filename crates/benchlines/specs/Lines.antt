-- The lines that a bench prints: one for each record, or one for a file that does not open.
use Rattle.std.specs.Prelude.{ℕ, List, [], ◌∷◌, ◌++◌, Some, None, Ok, Err, codes, decimal, Option, Result}
use Rattle.figures.specs.Figures.{byte_figures}
use Rattle.runfile.specs.declared.fault.FileFault.{FileFault}
use Rattle.runfile.specs.declared.letters.Letter.{Letter}
use Rattle.runfile.specs.declared.letters.Letter.TheVariants.{T, K, C, H, P, Unknown}
use Rattle.runfile.specs.Numbers.{cause_number}
use Rattle.runfile.specs.Seen.{letter_text}

-- what was driven at a byte: two figures, or two dashes where the line was not driven
abbrev pub driven_text : Option ℕ → List ℕ
driven_text None = codes " --"
driven_text (Some b) = 32 ∷ byte_figures b

abbrev pub all_driven_text : List (Option ℕ) → List ℕ
all_driven_text [] = []
all_driven_text (d ∷ driven) = driven_text d ++ all_driven_text driven

-- 0 is done
abbrev pub result_number : Result ℕ FileFault → ℕ
result_number (Ok n) = 0
result_number (Err f) = cause_number f.cause

-- the pages to go, behind ticks that were all done
abbrev pub to_go_text : Letter → Result ℕ FileFault → List ℕ
to_go_text K (Ok n) = 32 ∷ decimal n
to_go_text K (Err f) = []
to_go_text T r = []
to_go_text C r = []
to_go_text H r = []
to_go_text P r = []
to_go_text Unknown r = []

-- the start of a line: the number of the record, its letter and its result
abbrev pub line_start : ℕ → Letter → Result ℕ FileFault → List ℕ
line_start number letter result = decimal number ++ (codes " " ++ (letter_text letter ++ (codes " " ++ decimal (result_number result))))

-- as `4 T 0 -- -- -- 5A` or `1 K 0 0`
abbrev pub line_text : ℕ → Letter → Result ℕ FileFault → List (Option ℕ) → List ℕ
line_text number letter result driven = line_start number letter result ++ (all_driven_text driven ++ (to_go_text letter result ++ (10 ∷ [])))

-- as `F 32 6`
abbrev pub opening_text : FileFault → List ℕ
opening_text f = codes "F " ++ (decimal (cause_number f.cause) ++ (codes " " ++ (decimal f.spot.place ++ (10 ∷ []))))
