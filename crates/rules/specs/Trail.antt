-- What a trail says of an address, as laws on the list of events, newest first.
use Rattle.std.specs.Prelude.{◌≡◌, ℕ, ◌/◌, Bool, true, ◌⊎◌, List, [], ◌∷◌, ◌++◌, slice_index}
use Rattle.rules.specs.State.{Event, put, keep, recall, fade}

-- an event that parts address a of the working image from a put before it
abbrev pub Disturbs : ℕ → Event → Type 0
Disturbs a (put x b) = x ≡ a
Disturbs a (keep p) = ⊥
Disturbs a (recall p) = p ≡ a / 64
Disturbs a fade = Unit {0}

abbrev pub Undisturbed : ℕ → List Event → Type 0
Undisturbed a [] = Unit {0}
Undisturbed a (e ∷ es) = (Disturbs a e → ⊥) × Undisturbed a es

-- Among the events behind a put to a, its page is kept, with no other put to a, recall of its page or fade between.
pub record KeptLater (a : ℕ) (behind : List Event) : Type 0 where
  pub later : List Event
  pub between : List Event
  pub split : behind ≡ later ++ (keep (a / 64) ∷ between)
  pub undisturbed : Undisturbed a between

-- A put is promised if the cells are lasting, or if it is so kept later.
abbrev pub Promised : Bool → ℕ → List Event → Type 0
Promised lasting a behind = (lasting ≡ true) ⊎ KeptLater a behind

-- No put to a in the trail is promised.
abbrev pub NonePromised : Bool → ℕ → List Event → Type 0
NonePromised lasting a trail =
    (behind before : List Event) (b : ℕ) → trail ≡ behind ++ (put a b ∷ before) → Promised lasting a behind → ⊥

-- The last promised put to a has the byte b: a later put to a is not promised.
pub record LastPromised (lasting : Bool) (a : ℕ) (trail : List Event) (b : ℕ) : Type 0 where
  pub behind : List Event
  pub before : List Event
  pub split : trail ≡ behind ++ (put a b ∷ before)
  pub promised : Promised lasting a behind
  pub last : (newer older : List Event) (c : ℕ) → behind ≡ newer ++ (put a c ∷ older) → Promised lasting a newer → ⊥

-- The promised byte of an address: that of its last promised put, else the kept byte at the making.
abbrev pub PromisedByte : Bool → List ℕ → ℕ → List Event → ℕ → Type 0
PromisedByte lasting first_kept a trail b =
    LastPromised lasting a trail b ⊎ (NonePromised lasting a trail × (b ≡ slice_index first_kept a))

-- an event that parts address a from a put since the last recall
abbrev pub Supersedes : ℕ → Event → Type 0
Supersedes a (put x b) = x ≡ a
Supersedes a (keep p) = ⊥
Supersedes a (recall p) = p ≡ a / 64
Supersedes a fade = ⊥

abbrev pub Standing : ℕ → List Event → Type 0
Standing a [] = Unit {0}
Standing a (e ∷ es) = (Supersedes a e → ⊥) × Standing a es

-- The byte b was last put to a since the last recall of its page.
pub record PutSinceRecall (a : ℕ) (trail : List Event) (b : ℕ) : Type 0 where
  pub behind : List Event
  pub before : List Event
  pub split : trail ≡ behind ++ (put a b ∷ before)
  pub standing : Standing a behind

-- The current byte of an address: the one last put there since its page's last recall, else its promised byte.
abbrev pub CurrentByte : Bool → List ℕ → ℕ → List Event → ℕ → Type 0
CurrentByte lasting first_kept a trail b =
    PutSinceRecall a trail b ⊎ (((c : ℕ) → PutSinceRecall a trail c → ⊥) × PromisedByte lasting first_kept a trail b)
