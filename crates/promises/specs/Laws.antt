-- Small laws: rules that are easily got wrong, that a trail leaves no choice of bytes, and that runs are there.
use Rattle.std.specs.Prelude.{◌≡◌, ℕ, ◌-◌, ◌<◌, ◌≤◌, Bool, true, ◌⊎◌, List, [], ◌∷◌, ◌++◌, length, Some, slice_index}
use Rattle.cells.specs.Images.{Images}
use Rattle.dialect.specs.declared.Instruction.TheVariants.{SecureWrite}
use Rattle.rules.specs.declared.Activity.TheVariants.{Idle, Storing, Recalling, Waking}
use Rattle.rules.specs.declared.Power.TheVariants.{On}
use Rattle.rules.specs.declared.Call.{Call}
use Rattle.rules.specs.declared.Call.TheVariants.{Byte, Release, Tick, Cut}
use Rattle.rules.specs.Kind.{Kind, alive, pages}
use Rattle.rules.specs.State.{State, unselected, selected, reading_status, Event, put, keep, recall, fade}
use Rattle.rules.specs.Power.{keeps}
use Rattle.rules.specs.Step.{step}
use Rattle.rules.specs.Frame.{frame_length}
use Rattle.rules.specs.Machine.{Moment}
use Rattle.rules.specs.History.{state_after, after, calls_of, images_after, Run}
use Rattle.rules.specs.Trail.{PromisedByte, CurrentByte}
use Rattle.promises.specs.Promises.{SentWhole, Promises}

-- Where a law below takes any state of an activity or a phase, its status bits are any too.

-- A store in progress goes on whatever the status bits are, PowerStore off among them: a tick keeps its next page, and a
-- charged cut keeps that page and all behind it.
abbrev pub PowerStoreOffDoesNotStopAStore : Type 0
PowerStoreOffDoesNotStopAStore =
    (k : Kind) (s : State) (p : ℕ) → alive k ≡ true → s.power ≡ On (Storing p)
    → ((step k s Tick).events ≡ keep p ∷ []) × ((step k s (Cut true)).events ≡ keeps p (pages k - p) ++ (fade ∷ []))

-- a keep of a page among events
abbrev pub Keeps : ℕ → List Event → Type 0
Keeps p [] = ⊥
Keeps p (put a b ∷ es) = Keeps p es
Keeps p (keep q ∷ es) = (q ≡ p) ⊎ Keeps p es
Keeps p (recall q ∷ es) = Keeps p es
Keeps p (fade ∷ es) = Keeps p es

-- A cut keeps a page only if it is charged, and then only while storing, if the page is still to go, or while idle, if the
-- written mark is set and PowerStore is on.
abbrev pub NoOtherCutKeeps : Type 0
NoOtherCutKeeps =
    (k : Kind) (s : State) (charged : Bool) (p : ℕ) → Keeps p (step k s (Cut charged)).events
    → (charged ≡ true)
    × (((next : ℕ) × ((s.power ≡ On (Storing next)) × (next ≤ p)))
    ⊎ ((s.power ≡ On Idle) × (s.written ≡ true) × (k.facts.power_store s.status_bits ≡ true)))

-- And then it does: a charged cut while idle, with the written mark set and PowerStore on, keeps every page, lowest first,
-- before the cells fade.
abbrev pub IdleCutKeepsEveryPage : Type 0
IdleCutKeepsEveryPage =
    (k : Kind) (s : State) → alive k ≡ true → s.power ≡ On Idle → s.written ≡ true → k.facts.power_store s.status_bits ≡ true
    → (step k s (Cut true)).events ≡ keeps 0 (pages k) ++ (fade ∷ [])

-- A tick while recalling or waking recalls the next page whatever the status bits are, protected or not.
abbrev pub ProtectionDoesNotHoldBackARecall : Type 0
ProtectionDoesNotHoldBackARecall =
    (k : Kind) (s : State) (p : ℕ) → alive k ≡ true
    → (s.power ≡ On (Recalling p) → (step k s Tick).events ≡ recall p ∷ [])
    × (s.power ≡ On (Waking p) → (step k s Tick).events ≡ recall p ∷ [])

-- No byte of a status that is being read, held or not, and no release of it changes the fail mark.
abbrev pub ReadingStatusDoesNotClearTheFailMark : Type 0
ReadingStatusDoesNotClearTheFailMark =
    (k : Kind) (s : State) → s.selection ≡ selected reading_status
    → ((b : ℕ) (held : Bool) → (step k s (Byte b held)).state.failed ≡ s.failed)
    × ((clocks : ℕ) → (step k s (Release clocks)).state.failed ≡ s.failed)

-- P holds of one number, and of no other.
abbrev pub ExactlyOne : (ℕ → Type 0) → Type 0
ExactlyOne P = (b : ℕ) × (P b × ((c : ℕ) → P c → c ≡ b))

-- In every trail an address has exactly one promised byte and exactly one current byte.
abbrev pub EachAddressHasOnePromisedByte : Type 0
EachAddressHasOnePromisedByte =
    (lasting : Bool) (first_kept : List ℕ) (a : ℕ) (trail : List Event) → ExactlyOne (PromisedByte lasting first_kept a trail)

abbrev pub EachAddressHasOneCurrentByte : Type 0
EachAddressHasOneCurrentByte =
    (lasting : Bool) (first_kept : List ℕ) (a : ℕ) (trail : List Event) → ExactlyOne (CurrentByte lasting first_kept a trail)

-- What is promised leaves no choice of images: where two runs of the same calls from the same images keep the promises, their
-- kept images agree at every address, and, if the part is idle, so do their working images.
abbrev pub PromisesPinTheKeptImage : Type 0
PromisesPinTheKeptImage =
    (k : Kind) (first : Images) (some other : List Moment) → calls_of some ≡ calls_of other → Promises k first some → Promises k first other
    → (a : ℕ) → a < k.size → slice_index (images_after first some).kept a ≡ slice_index (images_after first other).kept a

abbrev pub PromisesPinTheIdleWorkingImage : Type 0
PromisesPinTheIdleWorkingImage =
    (k : Kind) (first : Images) (some other : List Moment) → calls_of some ≡ calls_of other → Promises k first some → Promises k first other
    → (state_after k (calls_of other)).power ≡ On Idle
    → (a : ℕ) → a < k.size → slice_index (images_after first some).working a ≡ slice_index (images_after first other).working a

-- Where the promises are kept, the tick that ends a waking leaves the same byte in both images, at every address.
abbrev pub WakingLeavesTheKeptImage : Type 0
WakingLeavesTheKeptImage =
    (k : Kind) (first : Images) (before : List Moment) (m : Moment) (p : ℕ) → Promises k first (m ∷ before) → m.call ≡ Tick
    → (state_after k (calls_of before)).power ≡ On (Waking p) → (after k (calls_of before) m.call).state.power ≡ On Idle
    → (a : ℕ) → a < k.size → slice_index m.images.working a ≡ slice_index m.images.kept a

-- Runs are there to speak of: from any images of N bytes each, every list of calls is that of some run.
abbrev pub EveryListOfCallsHasARun : Type 0
EveryListOfCallsHasARun =
    (k : Kind) (first : Images) → length first.working ≡ k.size → length first.kept ≡ k.size
    → (calls : List Call) → (moments : List Moment) × ((calls_of moments ≡ calls) × Run k first moments)

-- And every frame can be sent whole wherever a part is alive, idle, enabled and not selected.
abbrev pub EveryFrameCanBeSentWhole : Type 0
EveryFrameCanBeSentWhole =
    (k : Kind) (first : Images) → length first.working ≡ k.size → length first.kept ≡ k.size
    → (calls : List Call) → alive k ≡ true → (state_after k calls).power ≡ On Idle → (state_after k calls).latch ≡ true
    → (state_after k calls).selection ≡ unselected
    → (opcode : ℕ) (bytes : List ℕ) → k.facts.decode opcode ≡ Some SecureWrite → length bytes ≡ frame_length k
    → (moments : List Moment) × (Run k first moments × SentWhole k opcode bytes moments)
