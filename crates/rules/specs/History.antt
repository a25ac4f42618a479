-- Whole runs of a part, from its making on. Lists of calls, moments and events stand with the newest first.
use Rattle.std.specs.Prelude.{◌≡◌, ℕ, Bool, true, false, cond, List, [], ◌∷◌, map, length}
use Rattle.cells.specs.Images.{Images}
use Rattle.rules.specs.declared.Call.{Call}
use Rattle.rules.specs.Kind.{Kind}
use Rattle.rules.specs.State.{State, made, Event}
use Rattle.rules.specs.Step.{Out, step}
use Rattle.rules.specs.Machine.{Moment, Obeys}

-- the control state after some calls, by the control alone
abbrev pub state_after : Kind → List Call → State
state_after k [] = made
state_after k (c ∷ calls) = (step k (state_after k calls) c).state

-- what one more call does
abbrev pub after : Kind → List Call → Call → Out
after k calls c = step k (state_after k calls) c

-- events in their order, put onto a trail
abbrev pub onto : List Event → List Event → List Event
onto [] trail = trail
onto (e ∷ es) trail = onto es (e ∷ trail)

-- The trail: all events of the calls so far.
abbrev pub trail : Kind → List Call → List Event
trail k [] = []
trail k (c ∷ calls) = onto (after k calls c).events (trail k calls)

abbrev pub calls_of : List Moment → List Call
calls_of moments = map (λ m. m.call) moments

-- the images behind some moments; at the making they are the first ones
abbrev pub images_after : Images → List Moment → Images
images_after first [] = first
images_after first (m ∷ moments) = m.images

-- A run: from images of N bytes each, every call obeys the rules in the state and on the images that the one before it
-- left.
abbrev pub Run : Kind → Images → List Moment → Type 0
Run k first [] = (length first.working ≡ k.size) × (length first.kept ≡ k.size)
Run k first (m ∷ moments) = Run k first moments × Obeys k (state_after k (calls_of moments)) (images_after first moments) m

-- P holds at every moment of a run, the making among them.
abbrev pub Throughout : (List Moment → Type 0) → List Moment → Type 0
Throughout P [] = P []
Throughout P (m ∷ moments) = P (m ∷ moments) × Throughout P moments
