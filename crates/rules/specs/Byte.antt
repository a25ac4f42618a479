-- What a byte does in each phase of a selection: the next phase, the puts, and what is driven back.
use Rattle.std.specs.Prelude.{ℕ, ◌+◌, ◌*◌, ◌/◌, ◌%◌, min, Bool, true, false, cond, ◌&&◌, ◌||◌, List, [], ◌∷◌, ◌++◌, length, ◌==◌, nat_lt}
use Rattle.dialect.specs.Facts.{Facts}
use Rattle.dialect.specs.declared.Instruction.{Instruction}
use Rattle.dialect.specs.declared.Instruction.TheVariants.{Enable, Disable, ReadStatus, WriteStatus, Read, Write, SecureRead, SecureWrite, Store, Recall, Nothing}
use Rattle.status.specs.Status.{status_byte, mask_bits}
use Rattle.rules.specs.declared.Activity.{Activity}
use Rattle.rules.specs.declared.Activity.TheVariants.{Idle, Storing, Recalling, Waking}
use Rattle.rules.specs.Kind.{Kind, next, next_page, protected, page_protected}
use Rattle.rules.specs.State.{State, Phase, opcode, turned_away, command, reading_status, writing_status, address, reading, reading_secure, writing_paged, writing_direct, frame, frame_too_long, Event, put, Drive, undriven, status, cell, sum_high, sum_low}
use Rattle.rules.specs.Opcode.{opened}
use Rattle.rules.specs.Write.{first_held, latest, accepted, fills_page}
use Rattle.rules.specs.Frame.{number, frame_length}

pub record Heard : Type 0 where
  pub phase : Phase
  pub events : List Event
  pub drive : Drive

abbrev pub quiet : Phase → Heard
quiet p = record { phase = p; events = []; drive = undriven }

abbrev pub driving : Phase → Drive → Heard
driving p d = record { phase = p; events = []; drive = d }

abbrev pub putting : Phase → List Event → Heard
putting p es = record { phase = p; events = es; drive = undriven }

abbrev pub is_idle : Activity → Bool
is_idle Idle = true
is_idle (Storing p) = false
is_idle (Recalling p) = false
is_idle (Waking p) = false

-- The address is complete: the number of its bytes, highest first, modulo N. A read drives from there, a secure read its page from there, and a write
-- begins there, paged or direct as the dialect has it.
abbrev pub located : Kind → Instruction → ℕ → Phase
located k Write a = cond k.facts.direct (writing_direct a false false) (writing_paged (a / 64) (a % 64) [] false false)
located k SecureRead a = reading_secure a 0
located k Read a = reading a
located k Enable a = reading a
located k Disable a = reading a
located k ReadStatus a = reading a
located k WriteStatus a = reading a
located k SecureWrite a = reading a
located k Store a = reading a
located k Recall a = reading a
located k Nothing a = reading a

-- Secure read drives 64 bytes from its address, rolling over in the page, then the sum, high byte first, then nothing.
abbrev pub secure_drive : ℕ → ℕ → Drive
secure_drive a n =
    cond (nat_lt n 64) (cell (64 * (a / 64) + (a % 64 + n) % 64))
    (cond (n == 64) (sum_high a) (cond (n == 65) (sum_low a) undriven))

-- A paged write that runs on accepts its page when offset 63 is filled, empties the buffer, and goes on at the next page;
-- one that does not rolls over in its page.
abbrev pub paged : Kind → ℕ → ℕ → ℕ → List ℕ → Bool → ℕ → Heard
paged k R page first held blocked b =
    cond (k.facts.runs_on R && fills_page first held)
    (putting (writing_paged (next_page k page) 0 [] (blocked || page_protected k R page) true)
    (accepted k R page (first_held first held) (latest held b)))
    (quiet (writing_paged page (first_held first held) (latest held b) blocked true))

-- A direct write puts each unprotected byte as it arrives, and goes on as read does.
abbrev pub direct : Kind → ℕ → ℕ → Bool → ℕ → Heard
direct k R a blocked b =
    cond (protected k R a) (quiet (writing_direct (next k a) true true))
    (putting (writing_direct (next k a) blocked true) (put a b ∷ []))

-- R has no bit outside the mask in any run, so the mask bits of R that the status shows are R.
abbrev pub heard : Kind → State → Activity → Phase → ℕ → Heard
heard k s activity opcode b = quiet (opened activity s.latch (k.facts.decode b))
heard k s activity (turned_away r w) b = quiet (turned_away r w)
heard k s activity (command i followed) b = quiet (command i true)
heard k s activity reading_status b =
    driving reading_status (status (status_byte k.facts (mask_bits k.facts s.status_bits) s.failed s.latch (is_idle activity)))
heard k s activity (writing_status n first) b = quiet (writing_status (min 2 (n + 1)) (cond (n == 0) b first))
heard k s activity (address i bytes) b =
    quiet (cond (nat_lt (length bytes + 1) k.facts.address_bytes) (address i (bytes ++ (b ∷ []))) (located k i (number (bytes ++ (b ∷ [])) % k.size)))
heard k s activity (reading a) b = driving (reading (next k a)) (cell a)
heard k s activity (reading_secure a n) b = driving (reading_secure a (min 66 (n + 1))) (secure_drive a n)
heard k s activity (writing_paged page first held blocked any) b = paged k s.status_bits page first held blocked b
heard k s activity (writing_direct a blocked any) b = direct k s.status_bits a blocked b
heard k s activity (frame bytes) b = quiet (cond (nat_lt (length bytes) (frame_length k)) (frame (bytes ++ (b ∷ []))) frame_too_long)
heard k s activity frame_too_long b = quiet frame_too_long
