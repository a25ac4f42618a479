-- One call of the machine: what it does to the control state, what it answers, what it drives, and which events it lists,
-- in order. The control never looks at the images, so it is at once the machine without cells that makes the trail.
use Rattle.std.specs.Prelude.{ℕ, zero, Bool, true, false, cond, List, [], ◌∷◌, Some, None, Ok, Err, Option, Result, nat_lt}
use Rattle.refusal.specs.declared.Refusal.{Refusal}
use Rattle.refusal.specs.declared.Refusal.TheVariants.{Dead, PowerOff, AlreadySelected, NotSelected, TooManyClocks, AlreadyOn}
use Rattle.rules.specs.declared.Activity.{Activity}
use Rattle.rules.specs.declared.Activity.TheVariants.{Waking}
use Rattle.rules.specs.declared.Power.TheVariants.{Off, On}
use Rattle.rules.specs.declared.Power.{Power}
use Rattle.rules.specs.declared.Call.{Call}
use Rattle.rules.specs.declared.Call.TheVariants.{Select, Byte, Release, Tick, Cut, PowerUp}
use Rattle.rules.specs.Kind.{Kind, alive}
use Rattle.rules.specs.State.{State, Selection, unselected, selected, opcode, Phase, with_power, with_selection, with_latch, with_failed, with_written, Event, put, keep, recall, fade, Drive, undriven}
use Rattle.rules.specs.Byte.{Heard, heard}
use Rattle.rules.specs.Release.{Ended, ended}
use Rattle.rules.specs.Power.{Ticked, ticked, cut_events}

pub record Out : Type 0 where
  pub state : State
  -- the refusal, or the pages to go, which are 0 but for a tick
  pub answer : Result ℕ Refusal
  pub drive : Drive
  pub events : List Event

-- A refused call changes nothing and lists nothing.
abbrev pub refusing : State → Refusal → Out
refusing s r = record { state = s; answer = Err r; drive = undriven; events = [] }

-- Every put sets the written mark.
abbrev pub marked : List Event → Bool → Bool
marked [] written = written
marked (put a b ∷ es) written = true
marked (keep p ∷ es) written = marked es written
marked (recall p ∷ es) written = marked es written
marked (fade ∷ es) written = marked es written

abbrev pub answer_of : Option Refusal → Result ℕ Refusal
answer_of None = Ok 0
answer_of (Some r) = Err r

abbrev pub on_select : State → Selection → Out
on_select s unselected = record { state = with_selection (selected opcode) s; answer = Ok 0; drive = undriven; events = [] }
on_select s (selected p) = refusing s AlreadySelected

abbrev pub heard_out : State → Heard → Out
heard_out s h = record {
  state = with_written (marked h.events s.written) (with_selection (selected h.phase) s);
  answer = Ok 0;
  drive = h.drive;
  events = h.events;
}

-- A byte under hold is ignored and drives nothing.
abbrev pub on_byte : Kind → State → Activity → Selection → ℕ → Bool → Out
on_byte k s activity unselected b held = refusing s NotSelected
on_byte k s activity (selected p) b true = record { state = s; answer = Ok 0; drive = undriven; events = [] }
on_byte k s activity (selected p) b false = heard_out s (heard k s activity p b)

abbrev pub ended_out : Ended → Out
ended_out e = record {
  state = with_written (marked e.events e.state.written) (with_selection unselected e.state);
  answer = answer_of e.refusal;
  drive = undriven;
  events = e.events;
}

-- Past 7 leftover clocks the release is refused and the selection goes on; else it ends, whatever is answered.
abbrev pub on_release : Kind → State → Selection → ℕ → Out
on_release k s unselected clocks = refusing s NotSelected
on_release k s (selected p) clocks = cond (nat_lt 7 clocks) (refusing s TooManyClocks) (ended_out (ended k (with_selection unselected s) p clocks))

abbrev pub on_tick : Kind → State → Activity → Out
on_tick k s activity =
    let t = ticked k s activity in
    record { state = t.state; answer = Ok t.to_go; drive = undriven; events = t.events }

-- Selection and page buffer are lost, and power is off. Status bits, latch and marks stay.
abbrev pub on_cut : Kind → State → Activity → Bool → Out
on_cut k s activity charged = record {
  state = with_power Off (with_selection unselected s);
  answer = Ok 0;
  drive = undriven;
  events = cut_events k s activity charged;
}

-- Power-up clears latch and marks and starts waking at page 0.
abbrev pub on_power_up : State → Power → Out
on_power_up s Off = record {
  state = with_power (On (Waking 0)) (with_latch false (with_failed false (with_written false s)));
  answer = Ok 0;
  drive = undriven;
  events = [];
}
on_power_up s (On activity) = refusing s AlreadyOn

-- a call of a part that is on
abbrev pub on_call : Kind → State → Activity → Call → Out
on_call k s activity Select = on_select s s.selection
on_call k s activity (Byte b held) = on_byte k s activity s.selection b held
on_call k s activity (Release clocks) = on_release k s s.selection clocks
on_call k s activity Tick = on_tick k s activity
on_call k s activity (Cut charged) = on_cut k s activity charged
on_call k s activity PowerUp = refusing s AlreadyOn

-- a call of a part that is off
abbrev pub off_call : State → Call → Out
off_call s Select = refusing s PowerOff
off_call s (Byte b held) = refusing s PowerOff
off_call s (Release clocks) = refusing s PowerOff
off_call s Tick = refusing s PowerOff
off_call s (Cut charged) = refusing s PowerOff
off_call s PowerUp = on_power_up s Off

abbrev pub live_call : Kind → State → Power → Call → Out
live_call k s Off c = off_call s c
live_call k s (On activity) c = on_call k s activity c

-- A dead part refuses every call with 1.
unfoldable pub step : Kind → State → Call → Out
step k s c = cond (alive k) (live_call k s s.power c) (refusing s Dead)
