-- The first byte of a selection is the opcode. It may be turned away; then later bytes are ignored, and release answers why.
use Rattle.std.specs.Prelude.{ℕ, Bool, true, false, cond, not, ◌&&◌, [], Some, None, Option}
use Rattle.refusal.specs.declared.Refusal.{Refusal}
use Rattle.refusal.specs.declared.Refusal.TheVariants.{Busy, UnknownOpcode, NotEnabled}
use Rattle.dialect.specs.declared.Instruction.{Instruction}
use Rattle.dialect.specs.declared.Instruction.TheVariants.{Enable, Disable, ReadStatus, WriteStatus, Read, Write, SecureRead, SecureWrite, Store, Recall, Nothing}
use Rattle.rules.specs.declared.Activity.{Activity}
use Rattle.rules.specs.declared.Activity.TheVariants.{Idle, Storing, Recalling, Waking}
use Rattle.rules.specs.State.{Phase, turned_away, command, reading_status, writing_status, address, frame}

-- The writes are the instructions that need the latch, and whose release clears it.
abbrev pub is_write : Instruction → Bool
is_write Enable = false
is_write Disable = false
is_write ReadStatus = false
is_write WriteStatus = true
is_write Read = false
is_write Write = true
is_write SecureRead = false
is_write SecureWrite = true
is_write Store = false
is_write Recall = false
is_write Nothing = false

abbrev pub is_read_status : Instruction → Bool
is_read_status Enable = false
is_read_status Disable = false
is_read_status ReadStatus = true
is_read_status WriteStatus = false
is_read_status Read = false
is_read_status Write = false
is_read_status SecureRead = false
is_read_status SecureWrite = false
is_read_status Store = false
is_read_status Recall = false
is_read_status Nothing = false

-- a property of the instruction that an opcode names; an unknown opcode has none
abbrev pub named : (Instruction → Bool) → Option Instruction → Bool
named p None = false
named p (Some i) = p i

-- A waking part is busy for every opcode, a storing or recalling one for every opcode but that of read status.
abbrev pub is_busy : Activity → Option Instruction → Bool
is_busy Idle o = false
is_busy (Storing p) o = not (named is_read_status o)
is_busy (Recalling p) o = not (named is_read_status o)
is_busy (Waking p) o = true

-- the phase in which an accepted instruction begins
abbrev pub begin : Instruction → Phase
begin Enable = command Enable false
begin Disable = command Disable false
begin ReadStatus = reading_status
begin WriteStatus = writing_status 0 0
begin Read = address Read []
begin Write = address Write []
begin SecureRead = address SecureRead []
begin SecureWrite = frame []
begin Store = command Store false
begin Recall = command Recall false
begin Nothing = command Nothing false

-- An opcode that names no instruction is turned away with 12, one that names a write while the latch is clear with 13.
abbrev pub known : Bool → Option Instruction → Phase
known latch None = turned_away UnknownOpcode false
known latch (Some i) = cond (is_write i && not latch) (turned_away NotEnabled true) (begin i)

-- The turn-away order: 11 if busy, then 12, then 13.
abbrev pub opened : Activity → Bool → Option Instruction → Phase
opened activity latch o = cond (is_busy activity o) (turned_away Busy (named is_write o)) (known latch o)
