-- What the bytes of a record say: a letter, then a byte for each number.
use Rattle.std.specs.Prelude.{◌≡◌, ℕ, ◌≤◌, Bool, true, false, cond, List, [], ◌∷◌, Ok, Err, Result, ◌==◌, ◌≢◌, nat_le}
use Rattle.runfile.specs.declared.fault.RecordFault.{RecordFault}
use Rattle.runfile.specs.declared.fault.RecordFault.TheVariants.{UnknownLetter, WrongArgument}

pub data Said : Type 0 where
  -- T: the clocks left over, and the bytes sent
  transfer : ℕ → List ℕ → Said
  -- K: a number of ticks
  ticks : ℕ → Said
  -- C: whether the cut is charged
  cut : Bool → Said
  -- H: whether bytes are held from now on
  hold : Bool → Said
  -- P
  power_up : Said

-- A truth is written as 1 or 0.
abbrev pub bit : Bool → ℕ
bit true = 1
bit false = 0

-- the bytes that say it: T is 84, K is 75, C is 67, H is 72, P is 80
abbrev pub written : Said → List ℕ
written (transfer clocks bytes) = 84 ∷ clocks ∷ bytes
written (ticks n) = 75 ∷ n ∷ []
written (cut charged) = 67 ∷ bit charged ∷ []
written (hold held) = 72 ∷ bit held ∷ []
written power_up = 80 ∷ []

-- Up to 7 clocks may be left over, and there is at least one tick.
abbrev pub InBounds : Said → Type 0
InBounds (transfer clocks bytes) = clocks ≤ 7
InBounds (ticks n) = 1 ≤ n
InBounds (cut charged) = Unit {0}
InBounds (hold held) = Unit {0}
InBounds power_up = Unit {0}

abbrev pub transfer_said : List ℕ → Result Said RecordFault
transfer_said [] = Err WrongArgument
transfer_said (clocks ∷ bytes) = cond (nat_le clocks 7) (Ok (transfer clocks bytes)) (Err WrongArgument)

abbrev pub ticks_said : List ℕ → Result Said RecordFault
ticks_said [] = Err WrongArgument
ticks_said (n ∷ []) = cond (nat_le 1 n) (Ok (ticks n)) (Err WrongArgument)
ticks_said (n ∷ m ∷ more) = Err WrongArgument

abbrev pub truth_said : List ℕ → Result Bool RecordFault
truth_said [] = Err WrongArgument
truth_said (b ∷ []) = cond (b == 0) (Ok false) (cond (b == 1) (Ok true) (Err WrongArgument))
truth_said (b ∷ c ∷ more) = Err WrongArgument

abbrev pub saying : (Bool → Said) → Result Bool RecordFault → Result Said RecordFault
saying say (Ok b) = Ok (say b)
saying say (Err f) = Err f

abbrev pub power_up_said : List ℕ → Result Said RecordFault
power_up_said [] = Ok power_up
power_up_said (b ∷ more) = Err WrongArgument

-- What a record says, or its fault: 34 for an unknown letter, 35 for what stands behind a letter.
abbrev pub said_behind : ℕ → List ℕ → Result Said RecordFault
said_behind letter args =
    cond (letter == 84) (transfer_said args) (cond (letter == 75) (ticks_said args)
    (cond (letter == 67) (saying cut (truth_said args)) (cond (letter == 72) (saying hold (truth_said args))
    (cond (letter == 80) (power_up_said args) (Err UnknownLetter)))))

abbrev pub said : List ℕ → Result Said RecordFault
said [] = Err UnknownLetter
said (letter ∷ args) = said_behind letter args

-- Reading undoes writing: what is read was written for a record in bounds, and no bytes that were are refused.
abbrev pub ReadsBack : List ℕ → Result Said RecordFault → Type 0
ReadsBack bytes (Ok s) = (bytes ≡ written s) × InBounds s
ReadsBack bytes (Err f) = (s : Said) → InBounds s → bytes ≢ written s
