-- What a part answers before it looks at a call.
use Rattle.std.proofs.Common.{◌≡◌, ℕ, Bool, true, false, leb, Ok, Err, Decides, inl, inr, refl, ap, ◌∙◌, subst, arith}
use lib.Count.{ones}
use Rattle.std.proofs.lemmas.Bool.{cond-true, cond-false, and_from, le-leb, eq-eqb}
use Rattle.std.proofs.lemmas.Bool.Decides.{same_from_decides}
use Rattle.refusal.specs.declared.Refusal.TheVariants.{Dead, PowerOff}
use Rattle.dialect.specs.Facts.{Alive}
use Rattle.powers.proofs.Powers.{one_bit_of_power}
use Rattle.rules.specs.declared.Power.TheVariants.{Off, On}
use Rattle.rules.specs.declared.Call.{Call}
use Rattle.rules.specs.declared.Call.TheVariants.{Select, Byte, Release, Tick, Cut, PowerUp}
use Rattle.rules.specs.Kind.{Kind, alive}
use Rattle.rules.specs.State.{State}
use Rattle.rules.specs.Step.{step, refusing, on_power_up, off_call, live_call}
use Rattle.promises.specs.Served.{Whole}
use Rattle.promises.proofs.Puts.{alive_is}
use Rattle.promises.proofs.Frames.{step_on}
use Rattle.promises.proofs.Phases.{alive_size}
use Rattle.part.specs.declared.Awake.{Awake}
use Rattle.part.specs.View.{Ready}

-- the test of the rules is right, so any test that is right answers the same
pub alive_same : (k : Kind) (n : ℕ) (r : Bool) → n ≡ k.size → Decides r (Alive k.facts n) → r ≡ alive k
alive_same k n r size d =
    same_from_decides r (alive k) (subst (λ m. Decides r (Alive k.facts m)) size d) (
      alive_is k,
      λ a. and_from (leb 256 k.size) _ (le-leb 256 k.size a.is_256_or_more)
          (and_from (leb k.size k.facts.largest) _ (le-leb k.size k.facts.largest a.is_within_the_largest)
          (eq-eqb (ones k.size) 1 (ap ones a.is_a_power_of_two ∙ one_bit_of_power a.exponent))),
    )

pub dead_refuses : (k : Kind) (s : State) (c : Call) → alive k ≡ false → step k s c ≡ refusing s Dead
unfolding step
dead_refuses k s c dead = cond-false (alive k) _ _ dead

pub off_steps : (k : Kind) (s : State) (c : Call) → alive k ≡ true → s.power ≡ Off → step k s c ≡ off_call s c
unfolding step
off_steps k s c live off = cond-true (alive k) _ _ live ∙ ap (λ p. live_call k s p c) off

off_call_refuses : (s : State) (c : Call) → (c ≡ PowerUp → ⊥) → off_call s c ≡ refusing s PowerOff
off_call_refuses s Select up = refl
off_call_refuses s (Byte b held) up = refl
off_call_refuses s (Release clocks) up = refl
off_call_refuses s Tick up = refl
off_call_refuses s (Cut charged) up = refl
off_call_refuses s PowerUp up = absurd (up refl)

pub ready_if_dead : (w : Whole) → alive w.kind ≡ false → Ready w (Err Dead)
ready_if_dead w dead = ((λ c up. dead_refuses w.kind w.control c dead), inr (refl, dead_refuses w.kind w.control PowerUp dead))

pub ready_if_off : (w : Whole) → alive w.kind ≡ true → w.control.power ≡ Off → Ready w (Err PowerOff)
ready_if_off w live off = (
  (λ c up. off_steps w.kind w.control c live off ∙ off_call_refuses w.control c up),
  inl (refl, off_steps w.kind w.control PowerUp live off),
)

pub ready_if_on : (w : Whole) (a : Awake) → alive w.kind ≡ true → w.control.power ≡ On a.activity → a.size ≡ w.kind.size → Ready w (Ok a)
ready_if_on w a live on size = record {
  steps = λ c. step_on w.kind w.control a.activity c live on;
  power = on;
  size = size;
  not_small = omega (arith, size, alive_size w.kind live);
}

-- a power-up of a part that is refused as off
pub powers_up : (w : Whole) → Ready w (Err PowerOff) → step w.kind w.control PowerUp ≡ on_power_up w.control Off
powers_up w ready = elim ready.1 [ inl off ↦ off.1 | inr dead ↦ absurd (let z : PowerOff ≡ Dead = dead.0 in cc) ]
