-- Every call that turns a request away says why by a number, and this is the one table of these numbers.
use Rattle.std.specs.Prelude.{ℕ, Ok, Err, Result}
use Rattle.refusal.specs.declared.Refusal.{Refusal}
use Rattle.refusal.specs.declared.Refusal.TheVariants.{Dead, PowerOff, AlreadySelected, NotSelected, TooManyClocks, AlreadyOn, NoByte, Busy, UnknownOpcode, NotEnabled, Protected, WrongLength, LeftoverClocks, WrongSum, AddressPastEnd, PagePastEnd}

abbrev pub number_of : Refusal → ℕ
number_of Dead = 1
number_of PowerOff = 2
number_of AlreadySelected = 3
number_of NotSelected = 4
number_of TooManyClocks = 5
number_of AlreadyOn = 6
number_of NoByte = 10
number_of Busy = 11
number_of UnknownOpcode = 12
number_of NotEnabled = 13
number_of Protected = 14
number_of WrongLength = 15
number_of LeftoverClocks = 16
number_of WrongSum = 17
number_of AddressPastEnd = 41
number_of PagePastEnd = 42

-- a call's answer, its refusal told by number
abbrev pub numbered : {A : Type 0} → Result A Refusal → Result A ℕ
numbered (Ok x) = Ok x
numbered (Err e) = Err (number_of e)
