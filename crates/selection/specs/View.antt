-- The code's values, as the rules have them.
use Rattle.std.specs.Prelude.{◌≡◌, ℕ, ◌*◌, ◌≤◌, Bool, true, false, List, Some, None, Ok, Err, Option, Result}
use Rattle.selection.specs.Held.{items}
use Rattle.selection.specs.declared.phase.Phase.{Phase}
use Rattle.selection.specs.declared.phase.Phase.TheVariants as code
use Rattle.selection.specs.declared.control.Control.{Control}
use Rattle.selection.specs.declared.hearing.Heard.{Heard}
use Rattle.selection.specs.declared.writing.PageWrite.{PageWrite}
use Rattle.selection.specs.declared.writing.DirectWrite.{DirectWrite}
use Rattle.refusal.specs.declared.Refusal.{Refusal}
use Rattle.refusal.specs.declared.Refusal.TheVariants.{Dead}
use Rattle.cells.specs.Images.{Images}
use Rattle.cells.specs.Laws.{Site, size_of}
use Rattle.cells.specs.declared.Cells.{Ghosts}
use Rattle.dialect.specs.Facts.{Facts}
use Rattle.rules.specs.Kind.{Kind}
use Rattle.rules.specs.Opcode.{is_write}
use Rattle.rules.specs.State as rules
use Rattle.rules.specs.Byte as by_rules
use Rattle.rules.specs.Byte.{heard}
use Rattle.rules.specs.Step.{marked, ended_out}
use Rattle.rules.specs.Release.{Ended, ended, paged_ended, frame_ended}
use Rattle.rules.specs.Machine.{Changes, driven}
use Rattle.rules.specs.declared.Activity.{Activity}

abbrev pub page_write : PageWrite → rules.Phase
page_write w = rules.writing_paged w.page w.first (items w.held) w.blocked w.any

abbrev pub direct_write : DirectWrite → rules.Phase
direct_write w = rules.writing_direct w.at w.blocked w.any

abbrev pub phase_of : Phase → rules.Phase
phase_of code.Opcode = rules.opcode
phase_of (code.TurnedAway r w) = rules.turned_away r w
phase_of (code.Command i followed) = rules.command i followed
phase_of code.ReadingStatus = rules.reading_status
phase_of (code.WritingStatus n first) = rules.writing_status n first
phase_of (code.Address i h) = rules.address i (items h)
phase_of (code.Reading a) = rules.reading a
phase_of (code.ReadingSecure a n) = rules.reading_secure a n
phase_of (code.WritingPaged w) = page_write w
phase_of (code.WritingDirect w) = direct_write w
phase_of (code.Frame h) = rules.frame (items h)
phase_of code.FrameTooLong = rules.frame_too_long

-- whether the selection is that of a write
abbrev pub names_write : Phase → Bool
names_write code.Opcode = false
names_write (code.TurnedAway r w) = w
names_write (code.Command i followed) = false
names_write code.ReadingStatus = false
names_write (code.WritingStatus n first) = true
names_write (code.Address i h) = is_write i
names_write (code.Reading a) = false
names_write (code.ReadingSecure a n) = false
names_write (code.WritingPaged w) = true
names_write (code.WritingDirect w) = true
names_write (code.Frame h) = true
names_write code.FrameTooLong = true

abbrev pub selection_of : Option Phase → rules.Selection
selection_of None = rules.unselected
selection_of (Some p) = rules.selected (phase_of p)

-- the control state, its selection given apart
abbrev pub state_of : Control → rules.Selection → rules.State
state_of c x = record { power = c.power; selection = x; status_bits = c.status_bits; latch = c.latch; failed = c.failed; written = c.written }

-- the kind of a part: the facts of its dialect, and the mark and the pages of its array
abbrev pub kind_of : Facts → Bool → Site → Kind
kind_of f lasting site = record { facts = f; size = 64 * site.pages; lasting = lasting }

-- the same, as the cells have it
abbrev pub kind : {C : Type 0} → Facts → Ghosts C → C → Kind
kind f array cells = kind_of f array.lasting (array.site cells)

-- A size is that of an array, and the array is not empty. A struct of the cells and their size could hold this, but each
-- of its methods would also have to promise that the reference in it stays the same.
abbrev pub Fits : ℕ → Site → Type 0
Fits size site = (size ≡ size_of site) × (64 ≤ size)

-- a kind of which only the dialect and the size matter
abbrev pub kind_for : Facts → ℕ → Kind
kind_for f size = record { facts = f; size = size; lasting = true }

-- Some events were done to an array: its images changed by them, and nothing else.
pub record Done (k : Kind) (es : List rules.Event) (i : Images) (at : Site) (i' : Images) (at' : Site) : Type 0 where
  pub changes : Changes k es i i'
  pub site : at' ≡ at

-- the same, of the cells before and behind
abbrev pub DoneTo : {C : Type 0} → Facts → Ghosts C → C → List rules.Event → C → Type 0
DoneTo f array cells es cells' = Done (kind f array cells) es (array.images cells) (array.site cells) (array.images cells') (array.site cells')

-- the refusal of an answer, or none
abbrev pub refusal_of : {A : Type 0} → Result A Refusal → Option Refusal
refusal_of (Ok x) = None
refusal_of (Err r) = Some r

-- A byte of a write did what the rules say: to the phase and to the cells, and whether anything was put.
pub record Puts {C : Type 0} (f : Facts) (array : Ghosts C) (h : by_rules.Heard) (cells : C) (p' : rules.Phase) (b : Bool) (cells' : C) : Type 0 where
  pub phase : p' ≡ h.phase
  pub wrote : b ≡ marked h.events false
  pub done : DoneTo f array cells h.events cells'

-- A byte did what the rules say: to the phase and to the cells, what it drives back, and whether anything was put.
pub record Hears {C : Type 0} (f : Facts) (array : Ghosts C) (h : by_rules.Heard) (cells : C) (p' : Phase) (came : Heard) (cells' : C) : Type 0 where
  pub phase : phase_of p' ≡ h.phase
  pub driven : came.driven ≡ driven (kind f array cells) (array.images cells).working h.drive
  pub wrote : came.wrote ≡ marked h.events false
  pub done : DoneTo f array cells h.events cells'

-- what the rules have a byte do
abbrev pub hears : Kind → Control → Activity → Phase → ℕ → by_rules.Heard
hears k control activity p value = heard k (state_of control rules.unselected) activity (phase_of p) value

-- A release did what the rules say: the answer, and what it does to the control and to the cells.
pub record Ends {C : Type 0} (f : Facts) (array : Ghosts C) (e : Ended) (cells : C) (r : Result (Unit {0}) Refusal) (c' : Control) (cells' : C) : Type 0 where
  pub answer : refusal_of r ≡ e.refusal
  pub control : state_of c' rules.unselected ≡ (ended_out e).state
  pub done : DoneTo f array cells e.events cells'

-- what the rules have a release do: of any selection, of a whole paged write, and of a secure frame of the right length
abbrev pub ends : Kind → Control → Phase → ℕ → Ended
ends k control phase clocks = ended k (state_of control rules.unselected) (phase_of phase) clocks

abbrev pub ends_paged : Kind → Control → PageWrite → Ended
ends_paged k control w = paged_ended k (state_of control rules.unselected) w.page w.first (items w.held) w.blocked

abbrev pub ends_frame : Kind → Control → List ℕ → Ended
ends_frame k control frame = frame_ended k (state_of control rules.unselected) frame

-- A byte was not heard: nothing changed, and nothing was driven or put.
pub record Ignored {C : Type 0} (array : Ghosts C) (p p' : Phase) (came : Heard) (cells cells' : C) : Type 0 where
  pub phase : p' ≡ p
  pub drives_nothing : came.driven ≡ None
  pub puts_nothing : came.wrote ≡ false
  pub images : array.images cells' ≡ array.images cells
  pub site : array.site cells' ≡ array.site cells

-- A release was refused as that of a dead part: nothing changed.
pub record Denied {C : Type 0} (array : Ghosts C) (r : Result (Unit {0}) Refusal) (c c' : Control) (cells cells' : C) : Type 0 where
  pub refusal : refusal_of r ≡ Some Dead
  pub control : c' ≡ c
  pub images : array.images cells' ≡ array.images cells
  pub site : array.site cells' ≡ array.site cells
