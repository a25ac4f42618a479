-- What the release of a selection answers and does, phase by phase. The clocks left over are at most 7 here.
use Rattle.std.specs.Prelude.{ℕ, ◌/◌, ◌%◌, Bool, true, false, cond, ◌||◌, List, [], ◌∷◌, length, Some, None, Option, ◌==◌}
use Rattle.refusal.specs.declared.Refusal.{Refusal}
use Rattle.refusal.specs.declared.Refusal.TheVariants.{NoByte, Protected, WrongLength, LeftoverClocks, WrongSum}
use Rattle.dialect.specs.declared.Instruction.{Instruction}
use Rattle.dialect.specs.declared.Instruction.TheVariants.{Enable, Disable, ReadStatus, WriteStatus, Read, Write, SecureRead, SecureWrite, Store, Recall, Nothing}
use Rattle.status.specs.Status.{mask_bits}
use Rattle.rules.specs.declared.Activity.TheVariants.{Storing, Recalling}
use Rattle.rules.specs.declared.Power.TheVariants.{On}
use Rattle.rules.specs.Kind.{Kind, page_protected}
use Rattle.rules.specs.State.{State, Phase, opcode, turned_away, command, reading_status, writing_status, address, reading, reading_secure, writing_paged, writing_direct, frame, frame_too_long, Event, with_power, with_status_bits, with_latch, with_failed, with_written}
use Rattle.rules.specs.Opcode.{is_write}
use Rattle.rules.specs.Write.{accepted}
use Rattle.rules.specs.Frame.{frame_length, is_right, frame_data, frame_place}

-- the refusal or none, the state (its selection is ended by the caller), and the puts
pub record Ended : Type 0 where
  pub refusal : Option Refusal
  pub state : State
  pub events : List Event

abbrev pub refused : Refusal → State → Ended
refused r s = record { refusal = Some r; state = s; events = [] }

abbrev pub done : State → Ended
done s = record { refusal = None; state = s; events = [] }

-- The release of a write clears the latch, done or refused.
abbrev pub disabled : State → State
disabled s = with_latch false s

-- 15 if the bytes are too few or too many, then 16 if clocks are left over
abbrev pub whole : Bool → ℕ → State → Ended → Ended
whole right-length clocks s then = cond right-length (cond (clocks == 0) then (refused LeftoverClocks s)) (refused WrongLength s)

-- Enable sets the latch and disable clears it. Store starts storing at page 0. Recall clears the written mark and starts
-- recalling at page 0.
abbrev pub effect : Instruction → State → State
effect Enable s = with_latch true s
effect Disable s = with_latch false s
effect Store s = with_power (On (Storing 0)) s
effect Recall s = with_power (On (Recalling 0)) (with_written false s)
effect ReadStatus s = s
effect WriteStatus s = s
effect Read s = s
effect Write s = s
effect SecureRead s = s
effect SecureWrite s = s
effect Nothing s = s

-- A paged write accepts what its buffer holds. 14 says that some data fell in a protected page; the rest stands.
abbrev pub write_ended : Bool → List Event → State → Ended
write_ended blocked es s = record { refusal = cond blocked (Some Protected) None; state = s; events = es }

abbrev pub has_bytes : List ℕ → Bool
has_bytes [] = false
has_bytes (b ∷ bs) = true

abbrev pub paged_ended : Kind → State → ℕ → ℕ → List ℕ → Bool → Ended
paged_ended k s page first held blocked =
    write_ended (cond (has_bytes held) (blocked || page_protected k s.status_bits page) blocked)
    (accepted k s.status_bits page first held) (disabled s)

-- A secure frame with a wrong sum sets the fail mark. A right one is placed as a write that rolls over, unless its page is
-- protected; success clears the fail mark.
abbrev pub frame_ended : Kind → State → List ℕ → Ended
frame_ended k s bytes =
    cond (is_right k bytes)
    (cond (page_protected k s.status_bits (frame_place k bytes / 64))
    (refused Protected (disabled s))
    (record { refusal = None; state = with_failed false (disabled s); events = accepted k s.status_bits (frame_place k bytes / 64) (frame_place k bytes % 64) (frame_data k bytes) }))
    (refused WrongSum (with_failed true (disabled s)))

abbrev pub ended : Kind → State → Phase → ℕ → Ended
ended k s opcode clocks = refused NoByte s
ended k s (turned_away r w) clocks = refused r (cond w (disabled s) s)
ended k s (command i followed) clocks = cond followed (refused WrongLength s) (cond (clocks == 0) (done (effect i s)) (refused LeftoverClocks s))
ended k s reading_status clocks = done s
ended k s (writing_status n first) clocks =
    whole (n == 1) clocks (disabled s) (done (with_status_bits (mask_bits k.facts first) (disabled s)))
ended k s (address i bytes) clocks = cond (is_write i) (refused WrongLength (disabled s)) (done s)
ended k s (reading a) clocks = done s
ended k s (reading_secure a n) clocks = done s
ended k s (writing_paged page first held blocked any) clocks =
    whole any clocks (disabled s) (paged_ended k s page first held blocked)
ended k s (writing_direct a blocked any) clocks = whole any clocks (disabled s) (write_ended blocked [] (disabled s))
ended k s (frame bytes) clocks = whole (length bytes == frame_length k) clocks (disabled s) (frame_ended k s bytes)
ended k s frame_too_long clocks = refused WrongLength (disabled s)
