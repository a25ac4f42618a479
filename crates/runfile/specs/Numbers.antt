-- The numbers of the faults of run files. A part's refusal inside a record's fault keeps its own number.
use Rattle.std.specs.Prelude.{ℕ}
use Rattle.refusal.specs.Numbers.{number_of}
use Rattle.runfile.specs.declared.fault.OpeningFault.{OpeningFault}
use Rattle.runfile.specs.declared.fault.OpeningFault.TheVariants.{NoTable, Misplaced, PastEnd}
use Rattle.runfile.specs.declared.fault.RecordFault.{RecordFault}
use Rattle.runfile.specs.declared.fault.RecordFault.TheVariants.{UnknownLetter, WrongArgument, Refused}
use Rattle.runfile.specs.declared.fault.Cause.{Cause}
use Rattle.runfile.specs.declared.fault.Cause.TheVariants.{Opening, InRecord}
use Rattle.runfile.specs.declared.fault.Layer.{Layer}
use Rattle.runfile.specs.declared.fault.Layer.TheVariants.{File, Letter, Part}
use Rattle.runfile.specs.declared.fault.Spot.{Spot}
use Rattle.runfile.specs.declared.fault.FileFault.{FileFault}

abbrev pub opening_number : OpeningFault → ℕ
opening_number NoTable = 31
opening_number Misplaced = 32
opening_number PastEnd = 33

abbrev pub record_number : RecordFault → ℕ
record_number UnknownLetter = 34
record_number WrongArgument = 35
record_number (Refused r) = number_of r

abbrev pub cause_number : Cause → ℕ
cause_number (Opening f) = opening_number f
cause_number (InRecord f) = record_number f

-- the layer in which a record's fault arose
abbrev pub layer_of : RecordFault → Layer
layer_of UnknownLetter = Letter
layer_of WrongArgument = Letter
layer_of (Refused r) = Part

-- faults of a whole file: at the opening, and in a record
abbrev pub opening_fault_at : Spot → OpeningFault → FileFault
opening_fault_at spot f = record { layer = File; spot = spot; cause = Opening f }

abbrev pub record_fault_at : Spot → RecordFault → FileFault
record_fault_at spot f = record { layer = layer_of f; spot = spot; cause = InRecord f }
