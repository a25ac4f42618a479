-- The code's values, as the definitions have them.
use Rattle.std.specs.Prelude.{ℕ, cond, List, [], ◌∷◌, Ok, Err, codes, Result, ◌==◌}
use Rattle.runfile.specs.declared.fault.RecordFault.{RecordFault}
use Rattle.runfile.specs.declared.letters.Letter.{Letter}
use Rattle.runfile.specs.declared.letters.Letter.TheVariants.{T, K, C, H, P, Unknown}
use Rattle.runfile.specs.declared.letters.Record.{Record}
use Rattle.runfile.specs.declared.letters.Record.TheVariants.{Transfer, Ticks, Cut, Hold, PowerUp}
use Rattle.runfile.specs.Letters.{Said, transfer, ticks, cut, hold, power_up}

-- what a record of the code says
abbrev pub said_by : Record → Said
said_by (Transfer clocks bytes) = transfer clocks bytes.now
said_by (Ticks n) = ticks n
said_by (Cut charged) = cut charged
said_by (Hold held) = hold held
said_by PowerUp = power_up

abbrev pub seen : Result Record RecordFault → Result Said RecordFault
seen (Ok r) = Ok (said_by r)
seen (Err f) = Err f

-- the character of a letter
abbrev pub letter_text : Letter → List ℕ
letter_text T = codes "T"
letter_text K = codes "K"
letter_text C = codes "C"
letter_text H = codes "H"
letter_text P = codes "P"
letter_text Unknown = codes "?"

abbrev pub letter_behind : ℕ → Letter
letter_behind b =
    cond (b == 84) T (cond (b == 75) K (cond (b == 67) C (cond (b == 72) H (cond (b == 80) P Unknown))))

-- the letter of a record
abbrev pub letter_of : List ℕ → Letter
letter_of [] = Unknown
letter_of (b ∷ more) = letter_behind b
