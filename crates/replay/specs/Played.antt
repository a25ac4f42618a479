-- What playing a run file comes to: its records, run one after the other, and the lines that tell of them.
use Rattle.std.specs.Prelude.{◌≡◌, ℕ, ◌⊎◌, List, [], ◌∷◌, ◌++◌, Some, None, Ok, Err, Option, Result}
use Rattle.cells.specs.Images.{Images}
use Rattle.rules.specs.Machine.{Moment}
use Rattle.rules.specs.History.{Throughout}
use Rattle.promises.specs.Promises.{Promises}
use Rattle.promises.specs.Served.{Led}
use Rattle.runfile.specs.declared.fault.RecordFault.{RecordFault}
use Rattle.runfile.specs.declared.fault.FileFault.{FileFault}
use Rattle.runfile.specs.declared.fault.Spot.{Spot}
use Rattle.runfile.specs.Numbers.{record_fault_at}
use Rattle.runfile.specs.Table.{Located, opening_fault, records_of}
use Rattle.runfile.specs.Seen.{letter_of}
use Rattle.benchlines.specs.Lines.{line_text, opening_text}
use Rattle.replay.specs.Ran.{BenchState, RanRecord}

-- what came of a record: its result, and what was driven at each byte
pub record Came : Type 0 where
  pub outcome : Result ℕ RecordFault
  pub driven : List (Option ℕ)

-- a result as the file has it: a record's fault becomes one of the file, with its place
abbrev pub in_file : Spot → Result ℕ RecordFault → Result ℕ FileFault
in_file spot (Ok n) = Ok n
in_file spot (Err f) = Err (record_fault_at spot f)

-- the line of a record
abbrev pub line_of : Located → Came → List ℕ
line_of f x = line_text f.spot.number (letter_of f.bytes) (in_file f.spot x.outcome) x.driven

abbrev pub lines_of : List Located → List Came → List ℕ
lines_of [] came = []
lines_of (f ∷ found) [] = []
lines_of (f ∷ found) (x ∷ came) = line_of f x ++ lines_of found came

-- Each record was run on the bench as the one before left it, and for each one thing came of it.
abbrev pub RanInTurn : List Located → BenchState → List Came → BenchState → Type 0
RanInTurn [] before [] after = after ≡ before
RanInTurn [] before (x ∷ came) after = ⊥
RanInTurn (f ∷ found) before [] after = ⊥
RanInTurn (f ∷ found) before (x ∷ came) after =
    (between : BenchState) × (RanRecord f.bytes before x.outcome x.driven between × RanInTurn found between came after)

-- Some records were run: this came of them, and the text has their lines. Whatever led to the part before, some moments led on
-- from there, and everything promised holds at every moment of the whole run.
pub record RanRecords (found : List Located) (before : BenchState) (text : List ℕ) (after : BenchState) : Type 0 where
  pub came : List Came
  pub ran : RanInTurn found before came after
  pub lines : text ≡ lines_of found came
  pub promises : (first : Images) (earlier : List Moment) → Led first earlier before.part
      → (more : List Moment) × (Led first (more ++ earlier) after.part × Throughout (Promises after.part.kind first) (more ++ earlier))

-- A file was played: all its records were run, or its opening is refused, and nothing happens to the bench.
abbrev pub PlayedBy : Option FileFault → List ℕ → BenchState → List ℕ → BenchState → Type 0
PlayedBy None file before text after = RanRecords (records_of file) before text after
PlayedBy (Some f) file before text after = (text ≡ opening_text f) × (after ≡ before)

abbrev pub Played : List ℕ → BenchState → List ℕ → BenchState → Type 0
Played file = PlayedBy (opening_fault file) file

-- Memory ran out on the way: the records of a file were run up to some record, and none behind it.
pub record PlayedInPart (file : List ℕ) (before after : BenchState) : Type 0 where
  pub found : List Located
  pub later : List Located
  pub split : records_of file ≡ found ++ later
  pub text : List ℕ
  pub ran : RanRecords found before text after

-- One record was run and its line added, or memory ran out before or behind it.
abbrev pub RanLocated : Located → BenchState → List ℕ → BenchState → Type 0
RanLocated f before text after = (x : Came) × (RanRecord f.bytes before x.outcome x.driven after × (text ≡ line_of f x))

abbrev pub RanOrNot : Located → BenchState → BenchState → Type 0
RanOrNot f before after = (after ≡ before) ⊎ ((text : List ℕ) × RanLocated f before text after)
