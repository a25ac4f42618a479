-- What running a record comes to: the calls that it stands for, served one after the other, and what they answered.
use Rattle.std.specs.Prelude.{◌≡◌, ℕ, zero, suc, ◌≤◌, Bool, List, [], ◌∷◌, ◌++◌, map, reverse, length, Vec, vec_items, vec_capacity, Ok, Err, Option, Result}
use Rattle.refusal.specs.declared.Refusal.{Refusal}
use Rattle.cells.specs.Images.{Images}
use Rattle.cells.specs.declared.Cells.{Ghosts as Cells}
use Rattle.dialect.specs.declared.Dialect.{Ghosts as Dialect}
use Rattle.part.specs.Whole.{whole}
use Rattle.rules.specs.declared.Call.{Call}
use Rattle.rules.specs.declared.Call.TheVariants.{Select, Byte, Release, Tick, Cut, PowerUp}
use Rattle.rules.specs.Kind.{Kind}
use Rattle.rules.specs.State.{State}
use Rattle.rules.specs.Step.{step}
use Rattle.rules.specs.Machine.{Moment}
use Rattle.rules.specs.History.{calls_of, Throughout}
use Rattle.promises.specs.Promises.{Promises}
use Rattle.promises.specs.Served.{Whole, Led, Served}
use Rattle.runfile.specs.declared.fault.RecordFault.{RecordFault}
use Rattle.runfile.specs.declared.fault.RecordFault.TheVariants.{Refused}
use Rattle.runfile.specs.Letters.{Said, transfer, ticks, cut, hold, power_up, said}
use Rattle.replay.specs.declared.bench.Bench.{Bench}

-- What records are run on, as the definitions have it: the hold level, and the part whole.
pub record BenchState : Type 0 where
  pub held : Bool
  pub part : Whole

-- a bench of the code, as it stands, by what its dialect and its cells say of themselves
abbrev pub state_of : {D C : Type 0} → Dialect D → Cells C → Bench D C → BenchState
state_of d c b = record { held = b.held; part = whole d c b.part }

-- A buffer is empty, and has room for so many values.
abbrev pub ClearedFor : {X A : Type 0} → ℕ → Vec X A → Type 0
ClearedFor n buffer = (vec_items buffer ≡ []) × (n ≤ vec_capacity buffer)

-- ---- the calls that a record stands for, in order

-- the same calls, if the call before them is done
abbrev pub if_done : Result ℕ Refusal → List Call → List Call
if_done (Ok n) calls = calls
if_done (Err r) calls = []

-- ticks, up to the first that is refused
abbrev pub ticks_until_refused : Kind → State → ℕ → List Call
ticks_until_refused k s zero = []
ticks_until_refused k s (suc n) = Tick ∷ if_done (step k s Tick).answer (ticks_until_refused k (step k s Tick).state n)

-- If the select of a transfer is refused, nothing is sent and nothing released. To set the hold level is no call.
abbrev pub calls_for : Kind → State → Bool → Said → List Call
calls_for k s held (transfer clocks bytes) =
    Select ∷ if_done (step k s Select).answer (map (λ b. Byte b held) bytes ++ (Release clocks ∷ []))
calls_for k s held (ticks n) = ticks_until_refused k s n
calls_for k s held (cut charged) = Cut charged ∷ []
calls_for k s held (hold level) = []
calls_for k s held power_up = PowerUp ∷ []

-- ---- what came of them; moments stand here in the order in which they came

-- Each call was served on the part that the one before left.
abbrev pub ServedInTurn : List Moment → Whole → Whole → Type 0
ServedInTurn [] w w' = w' ≡ w
ServedInTurn (m ∷ moments) w w'' =
    (w' : Whole) × (Served m.call w m.answer m.drove w' × ((m.images ≡ w'.images) × ServedInTurn moments w' w''))

-- the answer of the last call
abbrev pub answer_behind : Result ℕ Refusal → List Moment → Result ℕ Refusal
answer_behind answer [] = answer
answer_behind answer (m ∷ moments) = answer_behind m.answer moments

-- what was driven at a byte, in front of what was driven at later ones; other calls do not count
abbrev pub driven_at : Call → Option ℕ → List (Option ℕ) → List (Option ℕ)
driven_at Select d later = later
driven_at (Byte b held) d later = d ∷ later
driven_at (Release clocks) d later = later
driven_at Tick d later = later
driven_at (Cut charged) d later = later
driven_at PowerUp d later = later

abbrev pub driven_at_bytes : List Moment → List (Option ℕ)
driven_at_bytes [] = []
driven_at_bytes (m ∷ moments) = driven_at m.call m.drove (driven_at_bytes moments)

-- the hold level behind a record
abbrev pub level_behind : Bool → Said → Bool
level_behind held (transfer clocks bytes) = held
level_behind held (ticks n) = held
level_behind held (cut charged) = held
level_behind held (hold level) = level
level_behind held power_up = held

-- Some calls were made: each was served on the part that the one before left; this was driven at the bytes among them, and
-- this the last one answered (done, if there was none).
pub record Made (calls : List Call) (w : Whole) (driven : List (Option ℕ)) (last : Result ℕ Refusal) (w' : Whole) : Type 0 where
  pub moments : List Moment
  pub are : calls_of moments ≡ calls
  pub served : ServedInTurn moments w w'
  pub drove : driven ≡ driven_at_bytes moments
  pub answers : last ≡ answer_behind (Ok 0) moments

-- A record was run: the calls that it stands for were made, and the last one's answer is the result. Whatever led to the part
-- before, everything promised holds at every moment of the run.
pub record Ran (s : Said) (before : BenchState) (answer : Result ℕ Refusal) (driven : List (Option ℕ)) (after : BenchState) : Type 0 where
  pub made : Made (calls_for before.part.kind before.part.control before.held s) before.part driven answer after.part
  pub level : after.held ≡ level_behind before.held s
  pub promises : (first : Images) (earlier : List Moment) → Led first earlier before.part
      → Led first (reverse made.moments ++ earlier) after.part × Throughout (Promises after.part.kind first) (reverse made.moments ++ earlier)

-- a part's answer, as a record's
abbrev pub of_record : Result ℕ Refusal → Result ℕ RecordFault
of_record (Ok n) = Ok n
of_record (Err r) = Err (Refused r)

-- A record with a fault of its own changes nothing and drives nothing.
pub record Untouched (before : BenchState) (driven : List (Option ℕ)) (after : BenchState) : Type 0 where
  pub same : after ≡ before
  pub drove : driven ≡ []

-- The bytes of a record were run: what they say, or their fault.
abbrev pub RanSaid : Result Said RecordFault → BenchState → Result ℕ RecordFault → List (Option ℕ) → BenchState → Type 0
RanSaid (Ok s) before outcome driven after = (r : Result ℕ Refusal) × ((outcome ≡ of_record r) × Ran s before r driven after)
RanSaid (Err f) before outcome driven after = (outcome ≡ Err f) × Untouched before driven after

abbrev pub RanRecord : List ℕ → BenchState → Result ℕ RecordFault → List (Option ℕ) → BenchState → Type 0
RanRecord bytes = RanSaid (said bytes)

-- how many bytes a record sends
abbrev pub bytes_sent : Said → ℕ
bytes_sent (transfer clocks bytes) = length bytes
bytes_sent (ticks n) = 0
bytes_sent (cut charged) = 0
bytes_sent (hold level) = 0
bytes_sent power_up = 0
