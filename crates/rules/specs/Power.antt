-- Ticks, and the loss and return of power.
use Rattle.std.specs.Prelude.{ℕ, zero, suc, ◌+◌, ◌-◌, Bool, true, false, cond, ◌&&◌, List, [], ◌∷◌, ◌++◌, nat_lt}
use Rattle.rules.specs.declared.Activity.{Activity}
use Rattle.rules.specs.declared.Activity.TheVariants.{Idle, Storing, Recalling, Waking}
use Rattle.rules.specs.declared.Power.TheVariants.{Off, On}
use Rattle.rules.specs.Kind.{Kind, pages}
use Rattle.rules.specs.State.{State, unselected, with_power, with_written, Event, keep, recall, fade}

pub record Ticked : Type 0 where
  pub state : State
  -- the pages still to go
  pub to_go : ℕ
  pub events : List Event

-- the activity behind page p: the next page, or idle behind the last
abbrev pub onward : Kind → (ℕ → Activity) → ℕ → Activity
onward k activity p = cond (nat_lt (p + 1) (pages k)) (activity (p + 1)) Idle

-- A tick while storing keeps the next page, while recalling or waking it recalls the next page. A finished store clears the
-- written mark.
abbrev pub ticked : Kind → State → Activity → Ticked
ticked k s Idle = record { state = s; to_go = 0; events = [] }
ticked k s (Storing p) = record {
  state = with_power (On (onward k Storing p)) (with_written (nat_lt (p + 1) (pages k) && s.written) s);
  to_go = pages k - (p + 1);
  events = keep p ∷ [];
}
ticked k s (Recalling p) = record { state = with_power (On (onward k Recalling p)) s; to_go = pages k - (p + 1); events = recall p ∷ [] }
ticked k s (Waking p) = record { state = with_power (On (onward k Waking p)) s; to_go = pages k - (p + 1); events = recall p ∷ [] }

-- n pages kept, lowest first
abbrev pub keeps : ℕ → ℕ → List Event
keeps p zero = []
keeps p (suc n) = keep p ∷ keeps (p + 1) n

-- What a charged cut keeps: while storing every page still to go, PowerStore or not; while idle all pages, if something was
-- written and PowerStore is on; while recalling or waking nothing.
abbrev pub saved : Kind → State → Activity → List Event
saved k s Idle = cond (s.written && k.facts.power_store s.status_bits) (keeps 0 (pages k)) []
saved k s (Storing p) = keeps p (pages k - p)
saved k s (Recalling p) = []
saved k s (Waking p) = []

-- The cells fade after whatever was kept.
abbrev pub cut_events : Kind → State → Activity → Bool → List Event
cut_events k s activity charged = cond charged (saved k s activity) [] ++ (fade ∷ [])
