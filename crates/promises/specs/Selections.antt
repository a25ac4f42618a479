-- Whole selections: what comes of the bytes sent in one, told without its phases.
use Rattle.std.specs.Prelude.{◌≡◌, ℕ, ◌+◌, ◌-◌, ◌*◌, ◌/◌, ◌%◌, ◌≤◌, min, Bool, true, false, cond, ◌||◌, List, [], ◌∷◌, ◌++◌, map, length, Some, Ok, Err, slice_index}
use Rattle.std.specs.List.{range_with_len}
use Rattle.refusal.specs.declared.Refusal.TheVariants.{Protected, WrongSum}
use Rattle.dialect.specs.Facts.{Lawful}
use Rattle.dialect.specs.declared.Instruction.{Instruction}
use Rattle.dialect.specs.declared.Instruction.TheVariants.{Read, Write, SecureRead, SecureWrite}
use Rattle.rules.specs.declared.Activity.TheVariants.{Idle}
use Rattle.rules.specs.declared.Power.TheVariants.{On}
use Rattle.rules.specs.declared.Call.{Call}
use Rattle.rules.specs.declared.Call.TheVariants.{Select, Byte, Release}
use Rattle.rules.specs.Kind.{Kind, alive, protected, page_protected}
use Rattle.rules.specs.State.{unselected, Event, put, Drive, undriven, cell, sum_high, sum_low}
use Rattle.rules.specs.Step.{Out}
use Rattle.rules.specs.Frame.{number, frame_length, frame_data, is_right, frame_place}
use Rattle.rules.specs.History.{state_after, after, onto, trail}
use Rattle.promises.specs.Promises.{sent}

-- The setting: after some calls the part is alive, idle and not selected. Then it is selected and sent, all unheld, an opcode
-- that names the instruction and the bytes of an address.
pub record Begun (k : Kind) (calls : List Call) (i : Instruction) (opcode : ℕ) (address : List ℕ) : Type 0 where
  pub is_lawful : Lawful k.facts
  pub is_alive : alive k ≡ true
  pub is_idle : (state_after k calls).power ≡ On Idle
  pub is_free : (state_after k calls).selection ≡ unselected
  pub names : k.facts.decode opcode ≡ Some i
  pub whole_address : length address ≡ k.facts.address_bytes

-- the calls of such a selection with some bytes more
abbrev pub selection : ℕ → List ℕ → List ℕ → List Call → List Call
selection opcode address more calls = sent (address ++ more) (Byte opcode false ∷ Select ∷ calls)

-- the place that an address names
abbrev pub place : Kind → List ℕ → ℕ
place k address = number address % k.size

-- ---- reads

-- Behind so many bytes a read drives the working byte that lies so far behind its address, modulo N.
abbrev pub ReadGoesOnFromItsAddress : Type 0
ReadGoesOnFromItsAddress =
    (k : Kind) (calls : List Call) (opcode : ℕ) (address : List ℕ) → Begun k calls Read opcode address
    → (earlier : List ℕ) (b : ℕ)
    → (after k (selection opcode address earlier calls) (Byte b false)).drive ≡ cell ((place k address + length earlier) % k.size)

-- Byte n of a secure read, from 0: the 64 bytes of its page, from its address and rolling over, then the sum, then nothing.
pub record SecureByte (a n : ℕ) (d : Drive) : Type 0 where
  pub page_byte : n ≤ 63 → d ≡ cell (64 * (a / 64) + (a + n) % 64)
  pub high_byte : n ≡ 64 → d ≡ sum_high a
  pub low_byte : n ≡ 65 → d ≡ sum_low a
  pub then_nothing : 66 ≤ n → d ≡ undriven

abbrev pub SecureReadDrivesItsPageAndTheSum : Type 0
SecureReadDrivesItsPageAndTheSum =
    (k : Kind) (calls : List Call) (opcode : ℕ) (address : List ℕ) → Begun k calls SecureRead opcode address
    → (earlier : List ℕ) (b : ℕ)
    → SecureByte (place k address) (length earlier) (after k (selection opcode address earlier calls) (Byte b false)).drive

-- ---- writes

-- A write sent whole to an enabled part: at least one data byte, and released with no leftover clock.
pub record Written (k : Kind) (calls : List Call) (opcode : ℕ) (address bytes : List ℕ) : Type 0 where
  pub begun : Begun k calls Write opcode address
  pub is_enabled : (state_after k calls).latch ≡ true
  pub has_data : 1 ≤ length bytes

-- what its release does
abbrev pub released : Kind → List Call → ℕ → List ℕ → List ℕ → Out
released k calls opcode address bytes = after k (selection opcode address bytes calls) (Release 0)

-- the trail behind it
abbrev pub trail_released : Kind → List Call → ℕ → List ℕ → List ℕ → List Event
trail_released k calls opcode address bytes = trail k (Release 0 ∷ selection opcode address bytes calls)

abbrev pub bits_before : Kind → List Call → ℕ
bits_before k calls = (state_after k calls).status_bits

-- Data byte i of a write that rolls over goes to offset (address + i) modulo 64 of its page.
abbrev pub rolled_put : ℕ → List ℕ → ℕ → Event
rolled_put a bytes i = put (64 * (a / 64) + (a + i) % 64) (slice_index bytes i)

-- Of m data bytes the last 64, or all if they are fewer, are put in the order of sending, unless the page is protected.
pub record RolledOver (k : Kind) (calls : List Call) (opcode : ℕ) (address bytes : List ℕ) : Type 0 where
  pub puts_the_last_64 : page_protected k (bits_before k calls) (place k address / 64) ≡ false
      → ((released k calls opcode address bytes).answer ≡ Ok 0)
      × (trail_released k calls opcode address bytes
      ≡ onto (map (rolled_put (place k address) bytes) (range_with_len (length bytes - 64) (min 64 (length bytes)))) (trail k calls))
  pub puts_nothing_if_protected : page_protected k (bits_before k calls) (place k address / 64) ≡ true
      → ((released k calls opcode address bytes).answer ≡ Err Protected)
      × (trail_released k calls opcode address bytes ≡ trail k calls)

abbrev pub WriteThatRollsOver : Type 0
WriteThatRollsOver =
    (k : Kind) (calls : List Call) (opcode : ℕ) (address bytes : List ℕ) → Written k calls opcode address bytes
    → k.facts.direct ≡ false → k.facts.runs_on (bits_before k calls) ≡ false
    → RolledOver k calls opcode address bytes

-- Of a write that goes on through the array data byte i goes to the address (address + i) modulo N, unless that is
-- protected. The puts stand in the order of sending.
abbrev pub puts_onward : Kind → ℕ → ℕ → List ℕ → List Event
puts_onward k R a [] = []
puts_onward k R a (b ∷ bs) =
    cond (protected k R (a % k.size)) (puts_onward k R (a + 1) bs) (put (a % k.size) b ∷ puts_onward k R (a + 1) bs)

abbrev pub some_protected : Kind → ℕ → ℕ → List ℕ → Bool
some_protected k R a [] = false
some_protected k R a (b ∷ bs) = protected k R (a % k.size) || some_protected k R (a + 1) bs

pub record WentOn (k : Kind) (calls : List Call) (opcode : ℕ) (address bytes : List ℕ) : Type 0 where
  pub answer : (released k calls opcode address bytes).answer
      ≡ cond (some_protected k (bits_before k calls) (place k address) bytes) (Err Protected) (Ok 0)
  pub puts : trail_released k calls opcode address bytes
      ≡ onto (puts_onward k (bits_before k calls) (place k address) bytes) (trail k calls)

abbrev pub DirectWriteGoesOn : Type 0
DirectWriteGoesOn =
    (k : Kind) (calls : List Call) (opcode : ℕ) (address bytes : List ℕ) → Written k calls opcode address bytes
    → k.facts.direct ≡ true → WentOn k calls opcode address bytes

-- Paged or direct, a write that goes on leaves the same trail.
abbrev pub WriteThatRunsOnGoesOn : Type 0
WriteThatRunsOnGoesOn =
    (k : Kind) (calls : List Call) (opcode : ℕ) (address bytes : List ℕ) → Written k calls opcode address bytes
    → k.facts.direct ≡ false → k.facts.runs_on (bits_before k calls) ≡ true → WentOn k calls opcode address bytes

-- ---- secure frames

-- the release of a frame, and the trail behind it
abbrev pub judged : Kind → List Call → ℕ → List ℕ → Out
judged k calls opcode bytes = after k (sent bytes (Byte opcode false ∷ Select ∷ calls)) (Release 0)

abbrev pub trail_judged : Kind → List Call → ℕ → List ℕ → List Event
trail_judged k calls opcode bytes = trail k (Release 0 ∷ sent bytes (Byte opcode false ∷ Select ∷ calls))

-- A right frame, sent whole to an enabled part, fills the page of its address as a write that rolls over does, and clears the
-- fail mark; if the page is protected, it puts nothing and leaves the mark.
pub record Filled (k : Kind) (calls : List Call) (opcode : ℕ) (bytes : List ℕ) : Type 0 where
  pub puts_its_data : page_protected k (bits_before k calls) (frame_place k bytes / 64) ≡ false
      → ((judged k calls opcode bytes).answer ≡ Ok 0) × ((judged k calls opcode bytes).state.failed ≡ false)
      × (trail_judged k calls opcode bytes
      ≡ onto (map (rolled_put (frame_place k bytes) (frame_data k bytes)) (range_with_len 0 64)) (trail k calls))
  pub puts_nothing_if_protected : page_protected k (bits_before k calls) (frame_place k bytes / 64) ≡ true
      → ((judged k calls opcode bytes).answer ≡ Err Protected)
      × ((judged k calls opcode bytes).state.failed ≡ (state_after k calls).failed)
      × (trail_judged k calls opcode bytes ≡ trail k calls)

abbrev pub RightFrameFillsItsPage : Type 0
RightFrameFillsItsPage =
    (k : Kind) (calls : List Call) (opcode : ℕ) (bytes : List ℕ) → alive k ≡ true
    → (state_after k calls).power ≡ On Idle → (state_after k calls).selection ≡ unselected → (state_after k calls).latch ≡ true
    → k.facts.decode opcode ≡ Some SecureWrite → length bytes ≡ frame_length k → is_right k bytes ≡ true
    → Filled k calls opcode bytes

-- A wrong frame puts nothing and sets the fail mark.
abbrev pub WrongFrameSetsTheFailMark : Type 0
WrongFrameSetsTheFailMark =
    (k : Kind) (calls : List Call) (opcode : ℕ) (bytes : List ℕ) → alive k ≡ true
    → (state_after k calls).power ≡ On Idle → (state_after k calls).selection ≡ unselected → (state_after k calls).latch ≡ true
    → k.facts.decode opcode ≡ Some SecureWrite → length bytes ≡ frame_length k → is_right k bytes ≡ false
    → ((judged k calls opcode bytes).answer ≡ Err WrongSum) × ((judged k calls opcode bytes).state.failed ≡ true)
    × (trail_judged k calls opcode bytes ≡ trail k calls)
