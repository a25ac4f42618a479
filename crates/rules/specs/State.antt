-- The control state of a part: all that it holds but the two images of its cells.
use Rattle.std.specs.Prelude.{ℕ, Bool, true, false, List}
use Rattle.refusal.specs.declared.Refusal.{Refusal}
use Rattle.dialect.specs.declared.Instruction.{Instruction}
use Rattle.rules.specs.declared.Power.{Power}
use Rattle.rules.specs.declared.Power.TheVariants.{Off}

-- How far a selection has come. Bytes under hold do not count.
pub data Phase : Type 0 where
  -- no byte came yet: the next one is the opcode
  opcode : Phase
  -- the opcode was turned away, with this refusal; whether it named a write (write status, write or secure write)
  turned_away : Refusal → Bool → Phase
  -- enable, disable, store, recall or nothing; whether a byte followed
  command : Instruction → Bool → Phase
  -- read status
  reading_status : Phase
  -- write status: how many data bytes came, where 2 stands for any more, and the first of them
  writing_status : ℕ → ℕ → Phase
  -- read, write or secure read: the address bytes so far
  address : Instruction → List ℕ → Phase
  -- read: the address of the next byte
  reading : ℕ → Phase
  -- secure read: its address, and how many bytes were driven, where 66 stands for any more
  reading_secure : ℕ → ℕ → Phase
  -- paged write: the page of the buffer, the offset of the first byte that it holds, and the bytes that it holds, at most
  -- 64, in the order of sending; whether some data fell in a protected page that was left, and whether any data came
  writing_paged : ℕ → ℕ → List ℕ → Bool → Bool → Phase
  -- direct write: the address of the next byte; whether some data fell in the protected range, and whether any data came
  writing_direct : ℕ → Bool → Bool → Phase
  -- secure write: the bytes of the frame so far
  frame : List ℕ → Phase
  -- secure write: more bytes than a frame has
  frame_too_long : Phase

pub data Selection : Type 0 where
  unselected : Selection
  selected : Phase → Selection

pub record State : Type 0 where
  pub power : Power
  pub selection : Selection
  -- R, the status bits that status writes set; they outlast the loss of power
  pub status_bits : ℕ
  -- the latch: writes are enabled
  pub latch : Bool
  -- the fail mark: a secure frame with a wrong sum came, and none was done since
  pub failed : Bool
  -- the written mark: something was put since the last store, recall or power-up
  pub written : Bool

-- as a part is made
abbrev pub made : State
made = record { power = Off; selection = unselected; status_bits = 0; latch = false; failed = false; written = false }

-- A state with one thing changed.
abbrev pub with_power : Power → State → State
with_power p s = record { power = p; selection = s.selection; status_bits = s.status_bits; latch = s.latch; failed = s.failed; written = s.written }

abbrev pub with_selection : Selection → State → State
with_selection x s = record { power = s.power; selection = x; status_bits = s.status_bits; latch = s.latch; failed = s.failed; written = s.written }

abbrev pub with_status_bits : ℕ → State → State
with_status_bits R s = record { power = s.power; selection = s.selection; status_bits = R; latch = s.latch; failed = s.failed; written = s.written }

abbrev pub with_latch : Bool → State → State
with_latch b s = record { power = s.power; selection = s.selection; status_bits = s.status_bits; latch = b; failed = s.failed; written = s.written }

abbrev pub with_failed : Bool → State → State
with_failed b s = record { power = s.power; selection = s.selection; status_bits = s.status_bits; latch = s.latch; failed = b; written = s.written }

abbrev pub with_written : Bool → State → State
with_written b s = record { power = s.power; selection = s.selection; status_bits = s.status_bits; latch = s.latch; failed = s.failed; written = b }

-- What a call does to the cells, and what it drives, as far as the control decides it.
pub data Event : Type 0 where
  put : ℕ → ℕ → Event
  keep : ℕ → Event
  recall : ℕ → Event
  fade : Event

pub data Drive : Type 0 where
  -- the line is not driven
  undriven : Drive
  -- the status byte
  status : ℕ → Drive
  -- the working byte at an address
  cell : ℕ → Drive
  -- the high and the low byte of the sum of the page transfer from an address
  sum_high : ℕ → Drive
  sum_low : ℕ → Drive
