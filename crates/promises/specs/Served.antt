-- What a public call promises: it is the rules' step, and whatever led to the part, everything promised holds behind it.
use Rattle.std.specs.Prelude.{◌≡◌, ℕ, List, ◌∷◌, Option, Result}
use Rattle.refusal.specs.declared.Refusal.{Refusal}
use Rattle.cells.specs.Images.{Images}
use Rattle.rules.specs.declared.Call.{Call}
use Rattle.rules.specs.Kind.{Kind}
use Rattle.rules.specs.State.{State}
use Rattle.rules.specs.Step.{step}
use Rattle.rules.specs.Machine.{Moment, Obeys}
use Rattle.rules.specs.History.{state_after, calls_of, images_after, Run, Throughout}
use Rattle.promises.specs.Promises.{Promises}

-- a part as it stands: its kind, its control state and its images
pub record Whole : Type 0 where
  pub kind : Kind
  pub control : State
  pub images : Images

-- The part was led here: made with the first images, and then worked by these moments.
pub record Led (first : Images) (moments : List Moment) (w : Whole) : Type 0 where
  pub run : Run w.kind first moments
  pub control : w.control ≡ state_after w.kind (calls_of moments)
  pub images : w.images ≡ images_after first moments

-- the moment of a call
abbrev pub moment : Call → Result ℕ Refusal → Option ℕ → Images → Moment
moment c answer drove i = record { call = c; answer = answer; drove = drove; images = i }

-- A call served: c took the part from w to w', with an answer and a driven byte.
pub record Served (c : Call) (w : Whole) (answer : Result ℕ Refusal) (drove : Option ℕ) (w' : Whole) : Type 0 where
  -- the rules: answer, control state and both images, refused or done
  pub kind : w'.kind ≡ w.kind
  pub control : w'.control ≡ (step w.kind w.control c).state
  pub obeys : Obeys w.kind w.control w.images (moment c answer drove w'.images)
  -- the promises: for every making and every list of calls that led to the part before, the part behind was led to by that
  -- list and this call, and everything promised holds at that moment and at every moment before
  pub history : (first : Images) (moments : List Moment) → Led first moments w
      → Led first (moment c answer drove w'.images ∷ moments) w'
      × Throughout (Promises w'.kind first) (moment c answer drove w'.images ∷ moments)
