-- Nothing in the rules is out of reach: runs that come to each activity, each instruction, each refusal, to a promised put and
-- to one that a fade undid, to a read of it, and to a right and a damaged frame.
use Rattle.std.specs.Prelude.{◌≡◌, ℕ, true, false, List, [], ◌∷◌, ◌++◌, length, replicate, Ok, Err, slice_index}
use Rattle.cells.specs.Images.{Images}
use Rattle.detect.specs.Damage.{Burst}
use Rattle.dialect.specs.Facts.{Lawful}
use Rattle.dialect.specs.Mr.{mr}
use Rattle.dialect.specs.Nv.{nv}
use Rattle.dialect.specs.declared.Instruction.{Instruction}
use Rattle.dialect.specs.declared.Instruction.TheVariants.{Enable, Disable, ReadStatus, WriteStatus, Read, Write, SecureRead, SecureWrite, Store, Recall, Nothing}
use Rattle.rules.specs.declared.Activity.TheVariants.{Idle, Storing, Recalling, Waking}
use Rattle.rules.specs.declared.Power.TheVariants.{Off, On}
use Rattle.rules.specs.declared.Call.TheVariants.{Select, Byte, Release, Tick, Cut, PowerUp}
use Rattle.rules.specs.Kind.{Kind}
use Rattle.rules.specs.State.{selected, put, keep, fade, cell}
use Rattle.rules.specs.Opcode.{begin}
use Rattle.rules.specs.Frame.{is_right}
use Rattle.rules.specs.Machine.{Moment}
use Rattle.rules.specs.History.{trail, images_after, Run}
use Rattle.rules.specs.Trail.{LastPromised, PromisedByte, CurrentByte}
use Rattle.refusal.specs.declared.Refusal.TheVariants.{WrongSum}
use Rattle.promises.specs.Promises.{SentWhole, Promises, newest_answer, Unaltered, counting_bits}
use Rattle.promises.specs.Carried.{Commanded, Inside}
use Rattle.promises.specs.Selections.{Begun, Written}
use Rattle.worked.specs.Acts.{nv_256, nv_128, mr_256, Act, call, ticks, send, transaction, run, state, answer, drive, story, awake, enable, status_set, write, secure_write}
use Rattle.worked.specs.Worked.{woken, frame_with_sum}

-- ---- instructions

-- An awake and enabled part takes an opcode for an instruction, and the whole transaction is done.
pub record Done (k : Kind) (opcode : ℕ) (bytes : List ℕ) (i : Instruction) : Type 0 where
  pub accepted : (state k (awake ++ (enable ++ (call Select ∷ send (opcode ∷ []) ∷ [])))).selection ≡ selected (begin i)
  pub answered_0 : answer k (awake ++ (enable ++ (transaction 0 (opcode ∷ bytes) ∷ []))) ≡ Ok 0

pub record EachInstruction : Type 0 where
  pub enabling : Done nv_256 0x06 [] Enable
  pub disabling : Done nv_256 0x04 [] Disable
  pub reading_status : Done nv_256 0x05 (0x00 ∷ []) ReadStatus
  pub writing_status : Done nv_256 0x01 (0x20 ∷ []) WriteStatus
  pub reading : Done nv_256 0x03 (0x00 ∷ 0x10 ∷ 0x00 ∷ []) Read
  pub writing : Done nv_256 0x02 (0x00 ∷ 0x10 ∷ 0x5A ∷ []) Write
  pub reading_securely : Done nv_256 0x13 (0x00 ∷ 0x10 ∷ replicate 66 0x00) SecureRead
  pub writing_securely : Done nv_256 0x12 (frame_with_sum 0x00 0x00) SecureWrite
  pub storing : Done nv_256 0x3C [] Store
  pub recalling : Done nv_256 0x60 [] Recall
  pub doing_nothing : Done mr_256 0x00 [] Nothing
  pub writing_directly : Done mr_256 0x02 (0x00 ∷ 0x00 ∷ 0x10 ∷ 0x5A ∷ []) Write

-- ---- refusals

pub record EachRefusal : Type 0 where
  -- N = 128 is too small
  pub dead : answer nv_128 (call PowerUp ∷ []) ≡ Err 1
  pub power_off : answer nv_256 (call Select ∷ []) ≡ Err 2
  pub already_selected : answer nv_256 (awake ++ (call Select ∷ call Select ∷ [])) ≡ Err 3
  pub not_selected : answer nv_256 (awake ++ (call (Byte 0x05 false) ∷ [])) ≡ Err 4
  pub too_many_clocks : answer nv_256 (awake ++ (transaction 8 (0x05 ∷ []) ∷ [])) ≡ Err 5
  pub already_on : answer nv_256 (call PowerUp ∷ call PowerUp ∷ []) ≡ Err 6
  -- a byte under hold is no byte
  pub no_byte : answer nv_256 (awake ++ (call Select ∷ call (Byte 0x06 true) ∷ call (Release 0) ∷ [])) ≡ Err 10
  pub busy : answer nv_256 (call PowerUp ∷ transaction 0 (0x05 ∷ []) ∷ []) ≡ Err 11
  pub unknown_opcode : answer nv_256 (awake ++ (transaction 0 (0xFF ∷ []) ∷ [])) ≡ Err 12
  pub not_enabled : answer nv_256 (awake ++ (transaction 0 (0x02 ∷ 0x00 ∷ 0x10 ∷ 0x5A ∷ []) ∷ [])) ≡ Err 13
  -- level 3 protects everything
  pub is_protected : answer nv_256 (awake ++ (status_set 0x0C ++ write 0 (0x5A ∷ []))) ≡ Err 14
  pub wrong_length : answer nv_256 (awake ++ (transaction 0 (0x06 ∷ 0x00 ∷ []) ∷ [])) ≡ Err 15
  pub leftover_clocks : answer nv_256 (awake ++ (transaction 1 (0x06 ∷ []) ∷ [])) ≡ Err 16
  pub wrong_sum : answer nv_256 (awake ++ secure_write (frame_with_sum 0x00 0x01)) ≡ Err 17

-- ---- promised bytes

-- 5Ah is written to address 16.
abbrev pub written : List Act
written = awake ++ write 16 (0x5A ∷ [])

-- Then it is stored for one tick, which keeps its page; or power is lost with no charge left, and comes back.
abbrev pub kept_run : List Act
kept_run = written ++ (transaction 0 (0x3C ∷ []) ∷ ticks 1 ∷ [])

abbrev pub lost_run : List Act
lost_run = written ++ (call (Cut false) ∷ awake)

-- For every kept image at the making:
pub record PromisedAndLost (first_kept : List ℕ) : Type 0 where
  pub kept_story : story nv_256 kept_run ≡ woken ++ (put 16 0x5A ∷ keep 0 ∷ [])
  pub its_put_is_promised : LastPromised false 16 (trail nv_256 (run kept_run)) 0x5A
  pub lost_story : story nv_256 lost_run ≡ woken ++ (put 16 0x5A ∷ fade ∷ woken)
  -- the fade undid the put: the byte of the making is promised, and current again
  pub its_put_is_undone : PromisedByte false first_kept 16 (trail nv_256 (run lost_run)) (slice_index first_kept 16)
  pub and_no_more_current : CurrentByte false first_kept 16 (trail nv_256 (run lost_run)) (slice_index first_kept 16)
  -- a read drives the put while it stands
  pub a_read_drives_it : drive nv_256 (written ++ (call Select ∷ send (0x03 ∷ 0x00 ∷ 0x10 ∷ 0x00 ∷ []) ∷ [])) ≡ cell 16
  pub and_it_is_current : CurrentByte false first_kept 16 (trail nv_256 (run written)) 0x5A

-- ---- frames

-- The frame with sum 0000h is right. Sent with sum 0001h, one bit changed, it is damaged, and there are runs in which it is so
-- sent whole.
pub record RightAndDamaged : Type 0 where
  pub is_right : is_right nv_256 (frame_with_sum 0x00 0x00) ≡ true
  pub right_gets_0 : answer nv_256 (awake ++ secure_write (frame_with_sum 0x00 0x00)) ≡ Ok 0
  pub damage_is_a_burst : Burst 16 (counting_bits nv_256 8 (frame_with_sum 0x00 0x00)) (counting_bits nv_256 8 (frame_with_sum 0x00 0x01))
  pub damaged_gets_17 : answer nv_256 (awake ++ secure_write (frame_with_sum 0x00 0x01)) ≡ Err 17
  pub damaged_is_sent_whole : (first : Images) → length first.working ≡ 256 → length first.kept ≡ 256
      → (moments : List Moment) × (Run nv_256 first moments × SentWhole nv_256 0x12 (frame_with_sum 0x00 0x01) moments)

-- The widest burst: of the 16 bits of the sum the first and the last are changed. The promises speak of this frame too.
pub record WidelyDamaged : Type 0 where
  pub damage_is_a_burst : Burst 16 (counting_bits nv_256 8 (frame_with_sum 0x00 0x00)) (counting_bits nv_256 8 (frame_with_sum 0x80 0x01))
  pub promised_17 : (first : Images) (moments : List Moment) → Promises nv_256 first moments
      → (whole : SentWhole nv_256 0x12 (frame_with_sum 0x80 0x01) moments)
      → (newest_answer moments ≡ Err WrongSum) × Unaltered (images_after first whole.earlier) whole.meanwhile

-- ---- what the laws ask for is there

pub record LawsSpeakOfSomething : Type 0 where
  pub a_store : Commanded nv_256 (run awake) 0x3C Store
  pub a_recall : Commanded nv_256 (run awake) 0x60 Recall
  pub a_read : Lawful nv → Begun nv_256 (run awake) Read 0x03 (0x00 ∷ 0x10 ∷ [])
  pub a_secure_read : Lawful nv → Begun nv_256 (run awake) SecureRead 0x13 (0x00 ∷ 0x10 ∷ [])
  pub a_write : Lawful nv → Written nv_256 (run (awake ++ enable)) 0x02 (0x00 ∷ 0x10 ∷ []) (0x5A ∷ [])
  pub a_direct_write : Lawful mr → Written mr_256 (run (awake ++ enable)) 0x02 (0x00 ∷ 0x00 ∷ 0x10 ∷ []) (0x5A ∷ [])
  pub a_write_that_runs_on :
      Lawful nv → Written nv_256 (run (awake ++ (status_set 0x20 ++ enable))) 0x02 (0x00 ∷ 0x10 ∷ []) (0x5A ∷ [])
  pub it_runs_on : nv_256.facts.runs_on (state nv_256 (awake ++ (status_set 0x20 ++ enable))).status_bits ≡ true
  pub inside_a_selection : Inside (Byte 0x11 false ∷ Tick ∷ Byte 0x22 true ∷ [])

pub record Reached : Type 0 where
  pub off : (state nv_256 (awake ++ (call (Cut true) ∷ []))).power ≡ Off
  pub idle : (state nv_256 awake).power ≡ On Idle
  pub storing : (state nv_256 (awake ++ (transaction 0 (0x3C ∷ []) ∷ ticks 1 ∷ []))).power ≡ On (Storing 1)
  pub recalling : (state nv_256 (awake ++ (transaction 0 (0x60 ∷ []) ∷ ticks 1 ∷ []))).power ≡ On (Recalling 1)
  pub waking : (state nv_256 (call PowerUp ∷ ticks 2 ∷ [])).power ≡ On (Waking 2)
  pub instructions : EachInstruction
  pub refusals : EachRefusal
  pub promises : (first_kept : List ℕ) → PromisedAndLost first_kept
  pub frames : RightAndDamaged
  pub widest : WidelyDamaged
  pub laws : LawsSpeakOfSomething
