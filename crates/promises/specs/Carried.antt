-- What is carried through to its end: stores, recalls and wakings page by page, and the latch over a whole selection.
use Rattle.std.specs.Prelude.{◌≡◌, ℕ, zero, suc, ◌+◌, ◌≤◌, true, false, List, [], ◌∷◌, ◌++◌, Some}
use Rattle.dialect.specs.declared.Instruction.{Instruction}
use Rattle.dialect.specs.declared.Instruction.TheVariants.{Store, Recall}
use Rattle.rules.specs.declared.Activity.{Activity}
use Rattle.rules.specs.declared.Activity.TheVariants.{Idle}
use Rattle.rules.specs.declared.Power.TheVariants.{Off, On}
use Rattle.rules.specs.declared.Call.{Call}
use Rattle.rules.specs.declared.Call.TheVariants.{Select, Byte, Release, Tick, Cut, PowerUp}
use Rattle.rules.specs.Kind.{Kind, alive, pages}
use Rattle.rules.specs.State.{unselected, Event, recall}
use Rattle.rules.specs.Opcode.{is_write}
use Rattle.rules.specs.Power.{keeps}
use Rattle.rules.specs.History.{state_after, onto, trail}

-- so many ticks more
abbrev pub ticks : ℕ → List Call → List Call
ticks zero calls = calls
ticks (suc n) calls = ticks n (Tick ∷ calls)

-- n pages recalled, lowest first
abbrev pub recalls : ℕ → ℕ → List Event
recalls p zero = []
recalls p (suc n) = recall p ∷ recalls (p + 1) n

-- After some calls the part is idle, with these events more in its trail.
pub record CarriedOut (k : Kind) (calls : List Call) (es : List Event) (before : List Event) : Type 0 where
  pub is_idle : (state_after k calls).power ≡ On Idle
  pub listed : trail k calls ≡ onto es before

-- A transaction of one opcode behind calls that leave the part alive, idle and not selected.
pub record Commanded (k : Kind) (calls : List Call) (opcode : ℕ) (i : Instruction) : Type 0 where
  pub is_alive : alive k ≡ true
  pub is_idle : (state_after k calls).power ≡ On Idle
  pub is_free : (state_after k calls).selection ≡ unselected
  pub names : k.facts.decode opcode ≡ Some i

abbrev pub commanded : ℕ → List Call → List Call
commanded opcode calls = Release 0 ∷ Byte opcode false ∷ Select ∷ calls

-- A store with a tick for each page keeps every page once, lowest first, and clears the written mark.
abbrev pub StoreKeepsEveryPage : Type 0
StoreKeepsEveryPage =
    (k : Kind) (calls : List Call) (opcode : ℕ) → Commanded k calls opcode Store
    → CarriedOut k (ticks (pages k) (commanded opcode calls)) (keeps 0 (pages k)) (trail k calls)
    × ((state_after k (ticks (pages k) (commanded opcode calls))).written ≡ false)

-- A recall with a tick for each page recalls every page once, lowest first, and the written mark is clear.
abbrev pub RecallRecallsEveryPage : Type 0
RecallRecallsEveryPage =
    (k : Kind) (calls : List Call) (opcode : ℕ) → Commanded k calls opcode Recall
    → CarriedOut k (ticks (pages k) (commanded opcode calls)) (recalls 0 (pages k)) (trail k calls)
    × ((state_after k (ticks (pages k) (commanded opcode calls))).written ≡ false)

-- So does a power-up, and latch and both marks are clear.
abbrev pub WakingRecallsEveryPage : Type 0
WakingRecallsEveryPage =
    (k : Kind) (calls : List Call) → alive k ≡ true → (state_after k calls).power ≡ Off
    → CarriedOut k (ticks (pages k) (PowerUp ∷ calls)) (recalls 0 (pages k)) (trail k calls)
    × ((state_after k (ticks (pages k) (PowerUp ∷ calls))).latch ≡ false)
    × ((state_after k (ticks (pages k) (PowerUp ∷ calls))).failed ≡ false)
    × ((state_after k (ticks (pages k) (PowerUp ∷ calls))).written ≡ false)

-- calls that leave a selection open: bytes, held or not, and ticks
abbrev pub Inside : List Call → Type 0
Inside [] = Unit {0}
Inside (Byte b held ∷ calls) = Inside calls
Inside (Tick ∷ calls) = Inside calls
Inside (Select ∷ calls) = ⊥
Inside (Release clocks ∷ calls) = ⊥
Inside (Cut charged ∷ calls) = ⊥
Inside (PowerUp ∷ calls) = ⊥

-- Whatever a write status, a write or a secure write comes to, and whatever the part was doing, its release with up to 7
-- leftover clocks leaves the latch clear.
abbrev pub ReleaseOfAWriteClearsTheLatch : Type 0
ReleaseOfAWriteClearsTheLatch =
    (k : Kind) (calls : List Call) (activity : Activity) → alive k ≡ true → (state_after k calls).power ≡ On activity
    → (state_after k calls).selection ≡ unselected
    → (opcode : ℕ) (i : Instruction) → k.facts.decode opcode ≡ Some i → is_write i ≡ true
    → (inside : List Call) → Inside inside → (clocks : ℕ) → clocks ≤ 7
    → (state_after k (Release clocks ∷ (inside ++ (Byte opcode false ∷ Select ∷ calls)))).latch ≡ false
