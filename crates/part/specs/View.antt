-- A part of the code, as the rules and the promises have it.
use Rattle.std.specs.Prelude.{◌≡◌, ℕ, ◌≤◌, Bool, ◌⊎◌, List, ◌++◌, reverse, None, Ok, Err, Option, Result, ◌≢◌}
use Rattle.refusal.specs.declared.Refusal.{Refusal}
use Rattle.refusal.specs.declared.Refusal.TheVariants.{Dead, PowerOff}
use Rattle.cells.specs.Images.{Images}
use Rattle.cells.specs.Laws.{Site}
use Rattle.dialect.specs.Facts.{Facts}
use Rattle.part.specs.declared.answer.Answer.{Answer}
use Rattle.part.specs.declared.answer.Answer.TheVariants.{Done, ToGo, Driven}
use Rattle.part.specs.declared.Awake.{Awake}
use Rattle.rules.specs.declared.Activity.{Activity}
use Rattle.rules.specs.declared.Power.TheVariants.{Off, On}
use Rattle.rules.specs.declared.Call.{Call}
use Rattle.rules.specs.declared.Call.TheVariants.{Select, Byte, Release, Tick, Cut, PowerUp}
use Rattle.rules.specs.Step.{Out, step, refusing, on_call, on_power_up}
use Rattle.rules.specs.Machine.{Changes, driven}
use Rattle.selection.specs.declared.control.Control.{Control}
use Rattle.selection.specs.declared.phase.Phase.{Phase}
use Rattle.selection.specs.View.{kind_of, state_of, selection_of}
use Rattle.rules.specs.History.{calls_of, Throughout}
use Rattle.rules.specs.Machine.{Moment}
use Rattle.promises.specs.Promises.{Promises}
use Rattle.promises.specs.Served.{Whole, Led, Served}

-- the part as it stands
abbrev pub whole_of : Facts → Bool → Site → Images → Control → Option Phase → Whole
whole_of f lasting site images control selection =
    record { kind = kind_of f lasting site; control = state_of control (selection_of selection); images = images }

-- an answer that says only whether the call was done
abbrev pub answered : {A : Type 0} → Result A Refusal → Result ℕ Refusal
answered (Ok x) = Ok 0
answered (Err r) = Err r

-- the byte that an answer brings, if any
abbrev pub drove : Result (Option ℕ) Refusal → Option ℕ
drove (Ok d) = d
drove (Err r) = None

-- of the answer to any call, the pages still to go or the refusal
abbrev pub told : Result Answer Refusal → Result ℕ Refusal
told (Ok Done) = Ok 0
told (Ok (ToGo pages)) = Ok pages
told (Ok (Driven d)) = Ok 0
told (Err r) = Err r

-- of the answer to any call, the byte that it brings, if any
abbrev pub brought : Result Answer Refusal → Option ℕ
brought (Ok Done) = None
brought (Ok (ToGo pages)) = None
brought (Ok (Driven d)) = d
brought (Err r) = None

-- an answer tells what its call can tell: a tick the pages still to go, a byte what is driven, and any other call neither
abbrev pub Suits : Call → Answer → Type 0
Suits Tick a = (pages : ℕ) × (a ≡ ToGo pages)
Suits (Byte value held) a = (d : Option ℕ) × (a ≡ Driven d)
Suits Select a = a ≡ Done
Suits (Release clocks) a = a ≡ Done
Suits (Cut charged) a = a ≡ Done
Suits PowerUp a = a ≡ Done

-- A part can be worked: it is alive and on, with this activity and size.
pub record IsAwake (a : Awake) (w : Whole) : Type 0 where
  pub steps : (c : Call) → step w.kind w.control c ≡ on_call w.kind w.control a.activity c
  pub power : w.control.power ≡ On a.activity
  pub size : a.size ≡ w.kind.size
  pub not_small : 64 ≤ a.size

-- Whether a part can be worked, or is refused: one that is off can be powered up, and a dead one refuses every call.
abbrev pub Ready : Whole → Result Awake Refusal → Type 0
Ready w (Ok a) = IsAwake a w
Ready w (Err r) =
    ((c : Call) → (c ≢ PowerUp) → step w.kind w.control c ≡ refusing w.control r)
    × (((r ≡ PowerOff) × (step w.kind w.control PowerUp ≡ on_power_up w.control Off))
    ⊎ ((r ≡ Dead) × (step w.kind w.control PowerUp ≡ refusing w.control r)))

-- What a call came to is what the rules say: the control state, the answer, the byte driven, and what was done to both images.
-- The kind is the same.
pub record CameTo (o : Out) (w : Whole) (r : Result ℕ Refusal) (d : Option ℕ) (w' : Whole) : Type 0 where
  pub kind : w'.kind ≡ w.kind
  pub control : w'.control ≡ o.state
  pub answer : r ≡ o.answer
  pub drove : d ≡ driven w.kind w.images.working o.drive
  pub images : Changes w.kind o.events w.images w'.images

-- so did a call of a part that is on, with this activity
abbrev pub Does : Call → Activity → Whole → Result ℕ Refusal → Option ℕ → Whole → Type 0
Does c activity w r d w' = CameTo (on_call w.kind w.control activity c) w r d w'

-- a call was served, with some answer and some byte driven
abbrev pub ServedSomehow : Call → Whole → Whole → Type 0
ServedSomehow call w w' = (r : Result ℕ Refusal) × ((d : Option ℕ) × Served call w r d w')

-- Some calls were worked: for every making and every list of moments that led to the part before, as many more moments, of
-- these calls, led to the part behind, and everything promised holds at every moment of the whole run.
abbrev pub WorkedThrough : List Call → Whole → Whole → Type 0
WorkedThrough calls w w' =
    (first : Images) (moments : List Moment) → Led first moments w
    → (more : List Moment) × ((calls_of more ≡ reverse calls) × (Led first (more ++ moments) w' × Throughout (Promises w'.kind first) (more ++ moments)))
