-- Runs written out as one would tell them: what is done to a part, in order, from its making on.
use Rattle.std.specs.Prelude.{ℕ, zero, suc, ◌/◌, ◌%◌, true, false, List, [], ◌∷◌, ◌++◌, reverse, Ok, Result}
use Rattle.refusal.specs.Numbers.{numbered}
use Rattle.dialect.specs.Nv.{nv}
use Rattle.dialect.specs.Mr.{mr}
use Rattle.rules.specs.declared.Call.{Call}
use Rattle.rules.specs.declared.Call.TheVariants.{Select, Release, Tick, PowerUp}
use Rattle.rules.specs.Kind.{Kind}
use Rattle.rules.specs.State.{State, Event, Drive, undriven}
use Rattle.rules.specs.History.{state_after, after, trail}
use Rattle.promises.specs.Promises.{sent}

-- the small parts that the values speak of: dialects nv and mr, above shadowed and lasting cells
abbrev pub nv_256 : Kind
nv_256 = record { facts = nv; size = 256; lasting = false }

abbrev pub nv_128 : Kind
nv_128 = record { facts = nv; size = 128; lasting = false }

abbrev pub mr_256 : Kind
mr_256 = record { facts = mr; size = 256; lasting = true }

pub data Act : Type 0 where
  -- one call
  call : Call → Act
  -- so many ticks
  ticks : ℕ → Act
  -- bytes sent unheld
  send : List ℕ → Act
  -- a whole selection: selected, sent these bytes unheld, and released with so many leftover clocks
  transaction : ℕ → List ℕ → Act

abbrev pub ticked_onto : ℕ → List Call → List Call
ticked_onto zero calls = calls
ticked_onto (suc n) calls = Tick ∷ ticked_onto n calls

abbrev pub act_onto : Act → List Call → List Call
act_onto (call c) calls = c ∷ calls
act_onto (ticks n) calls = ticked_onto n calls
act_onto (send bytes) calls = sent bytes calls
act_onto (transaction clocks bytes) calls = Release clocks ∷ sent bytes (Select ∷ calls)

-- the calls of acts, newest first
abbrev pub acts_onto : List Act → List Call → List Call
acts_onto [] calls = calls
acts_onto (x ∷ acts) calls = acts_onto acts (act_onto x calls)

abbrev pub run : List Act → List Call
run acts = acts_onto acts []

-- ---- what comes of a run

abbrev pub state : Kind → List Act → State
state k acts = state_after k (run acts)

-- what its last call answers, its refusal told by number
abbrev pub last_answer : Kind → List Call → Result ℕ ℕ
last_answer k [] = Ok 0
last_answer k (c ∷ calls) = numbered (after k calls c).answer

abbrev pub answer : Kind → List Act → Result ℕ ℕ
answer k acts = last_answer k (run acts)

-- what its last call drives
abbrev pub last_drive : Kind → List Call → Drive
last_drive k [] = undriven
last_drive k (c ∷ calls) = (after k calls c).drive

abbrev pub drive : Kind → List Act → Drive
drive k acts = last_drive k (run acts)

-- its events, oldest first
abbrev pub story : Kind → List Act → List Event
story k acts = reverse (trail k (run acts))

-- ---- acts that come again and again

-- power comes on, and four pages are woken
abbrev pub awake : List Act
awake = call PowerUp ∷ ticks 4 ∷ []

abbrev pub enable : List Act
enable = transaction 0 (0x06 ∷ []) ∷ []

-- pages are stored from now on
abbrev pub store : List Act
store = transaction 0 (0x3C ∷ []) ∷ []

-- the status is asked for, and the part stays selected
abbrev pub ask_status : List Act
ask_status = call Select ∷ send (0x05 ∷ 0x00 ∷ []) ∷ []

-- status bits R are set
abbrev pub status_set : ℕ → List Act
status_set R = enable ++ (transaction 0 (0x01 ∷ R ∷ []) ∷ [])

-- bytes are written from an address on, by a part that is sent two address bytes
abbrev pub write : ℕ → List ℕ → List Act
write a bytes = enable ++ (transaction 0 (0x02 ∷ a / 256 ∷ a % 256 ∷ bytes) ∷ [])

-- a secure frame with two address bytes
abbrev pub secure_write : List ℕ → List Act
secure_write frame = enable ++ (transaction 0 (0x12 ∷ frame) ∷ [])
