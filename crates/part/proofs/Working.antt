-- Call by call, a run goes on.
use Rattle.std.proofs.Common.{◌≡◌, ℕ, ◌+◌, ◌<◌, ◌≤◌, List, [], ◌∷◌, ◌++◌, reverse, length, get_or, take, sym, refl, ap, ◌∙◌}
use Rattle.std.proofs.lemmas.List.{take_more, take_all, reverse-append}
use Rattle.dialect.specs.Facts.{Lawful}
use Rattle.cells.specs.Images.{Images}
use Rattle.rules.specs.declared.Call.{Call}
use Rattle.rules.specs.Machine.{Moment}
use Rattle.rules.specs.History.{calls_of}
use Rattle.promises.specs.Served.{Whole, Led, moment}
use Rattle.promises.proofs.Whole.{promises_hold}
use Rattle.part.specs.View.{ServedSomehow, WorkedThrough}

-- some calls led from w to w'
abbrev pub SoFar : List Call → Whole → Whole → Type 0
SoFar calls w w' =
    (first : Images) (moments : List Moment) → Led first moments w
    → (more : List Moment) × ((calls_of more ≡ reverse calls) × Led first (more ++ moments) w')

pub none_yet : (w : Whole) → SoFar [] w w
none_yet w first moments led = ([], (refl, led))

pub one_more : (calls : List Call) (i : ℕ) (c : Call) (w w' w'' : Whole) → i < length calls → c ≡ get_or calls i c
    → SoFar (take i calls) w w' → ServedSomehow c w' w'' → SoFar (take (i + 1) calls) w w''
one_more calls i c w w' w'' lt is so_far (r, (d, served)) first moments led =
    let before = so_far first moments led in
    let now = served.history first (before.0 ++ moments) before.1.1 in (
      moment c r d w''.images ∷ before.0,
      (
        ap (λ cs. c ∷ cs) before.1.0
            ∙ ap (λ x. x ∷ reverse (take i calls)) is
            ∙ sym (ap reverse (take_more calls i c lt) ∙ reverse-append (take i calls) (get_or calls i c ∷ [])),
        now.0,
      ),
    )

pub all_worked : (calls : List Call) (i : ℕ) (w w' : Whole) → length calls ≤ i → Lawful w'.kind.facts → SoFar (take i calls) w w' → WorkedThrough calls w w'
all_worked calls i w w' past law so_far first moments led =
    let all = so_far first moments led in (
      all.0,
      (
        all.1.0 ∙ ap reverse (take_all i calls past),
        (all.1.1, promises_hold w'.kind law first (all.0 ++ moments) all.1.1.run),
      ),
    )
