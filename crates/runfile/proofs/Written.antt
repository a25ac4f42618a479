-- Reading a record undoes writing it.
use Rattle.std.proofs.Common.{◌≡◌, ℕ, Bool, true, false, eqb, leb, List, [], ◌∷◌, Ok, Err, Result, sym, refl, ap, ◌∙◌, subst}
use Rattle.std.proofs.lemmas.Bool.{cond-true, cond_both, leb-true, le-leb, eqb-true}
use Rattle.runfile.specs.declared.fault.RecordFault.{RecordFault}
use Rattle.runfile.specs.Letters.{Said, transfer, ticks, cut, hold, power_up, bit, written, InBounds, transfer_said, ticks_said, truth_said, saying, power_up_said, said, ReadsBack}

-- ---- what is written is read

truth_back : (b : Bool) → truth_said (bit b ∷ []) ≡ Ok b
truth_back true = refl
truth_back false = refl

read_back : (s : Said) → InBounds s → said (written s) ≡ Ok s
read_back (transfer clocks bytes) few = cond-true (leb clocks 7) _ _ (le-leb clocks 7 few)
read_back (ticks n) some = cond-true (leb 1 n) _ _ (le-leb 1 n some)
read_back (cut charged) tt = ap (saying cut) (truth_back charged)
read_back (hold held) tt = ap (saying hold) (truth_back held)
read_back power_up tt = refl

-- ---- what is read was written

abbrev Was : List ℕ → Result Said RecordFault → Type 0
Was bytes r = (s : Said) → r ≡ Ok s → (bytes ≡ written s) × InBounds s

refused_was : (bytes : List ℕ) (f : RecordFault) → Was bytes (Err f)
refused_was bytes f s e = cc

-- of a record that is read as x
read_was : (bytes : List ℕ) (x : Said) → bytes ≡ written x → InBounds x → Was bytes (Ok x)
read_was bytes x are fine s e =
    let same : x ≡ s = cc in
    (are ∙ ap written same, subst InBounds same fine)

transfer_was : (letter : ℕ) (args : List ℕ) → letter ≡ 84 → Was (letter ∷ args) (transfer_said args)
transfer_was letter [] is = refused_was _ _
transfer_was letter (clocks ∷ bytes) is =
    cond_both (leb clocks 7) _ _ (Was (letter ∷ clocks ∷ bytes))
    (λ few. read_was (letter ∷ clocks ∷ bytes) (transfer clocks bytes) (ap (λ l. l ∷ clocks ∷ bytes) is) (leb-true clocks 7 few)) (λ _. refused_was _ _)

ticks_was : (letter : ℕ) (args : List ℕ) → letter ≡ 75 → Was (letter ∷ args) (ticks_said args)
ticks_was letter [] is = refused_was _ _
ticks_was letter (n ∷ []) is =
    cond_both (leb 1 n) _ _ (Was (letter ∷ n ∷ [])) (λ some. read_was (letter ∷ n ∷ []) (ticks n) (ap (λ l. l ∷ n ∷ []) is) (leb-true 1 n some)) (λ _. refused_was _ _)
ticks_was letter (n ∷ m ∷ more) is = refused_was _ _

truth_was : (letter : ℕ) (args : List ℕ) (say : Bool → Said) → ((b : Bool) → letter ∷ bit b ∷ [] ≡ written (say b)) → ((b : Bool) → InBounds (say b))
    → Was (letter ∷ args) (saying say (truth_said args))
truth_was letter [] say is fine = refused_was _ _
truth_was letter (b ∷ []) say is fine =
    cond_both (eqb b 0) _ _ (λ r. Was (letter ∷ b ∷ []) (saying say r))
    (λ zero. read_was (letter ∷ b ∷ []) (say false) (ap (λ x. letter ∷ x ∷ []) (eqb-true b 0 zero) ∙ is false) (fine false))
    (λ _. cond_both (eqb b 1) _ _ (λ r. Was (letter ∷ b ∷ []) (saying say r))
    (λ one. read_was (letter ∷ b ∷ []) (say true) (ap (λ x. letter ∷ x ∷ []) (eqb-true b 1 one) ∙ is true) (fine true)) (λ _. refused_was _ _))
truth_was letter (b ∷ c ∷ more) say is fine = refused_was _ _

power_up_was : (letter : ℕ) (args : List ℕ) → letter ≡ 80 → Was (letter ∷ args) (power_up_said args)
power_up_was letter [] is = read_was (letter ∷ []) power_up (ap (λ l. l ∷ []) is) tt
power_up_was letter (b ∷ more) is = refused_was _ _

said_was : (bytes : List ℕ) → Was bytes (said bytes)
said_was [] = refused_was _ _
said_was (letter ∷ args) =
    let P : Result Said RecordFault → Type 0 = Was (letter ∷ args) in
    cond_both (eqb letter 84) _ _ P (λ e. transfer_was letter args (eqb-true letter 84 e))
    (λ _. cond_both (eqb letter 75) _ _ P (λ e. ticks_was letter args (eqb-true letter 75 e))
    (λ _. cond_both (eqb letter 67) _ _ P (λ e. truth_was letter args cut (λ b. ap (λ l. l ∷ bit b ∷ []) (eqb-true letter 67 e)) (λ b. tt))
    (λ _. cond_both (eqb letter 72) _ _ P (λ e. truth_was letter args hold (λ b. ap (λ l. l ∷ bit b ∷ []) (eqb-true letter 72 e)) (λ b. tt))
    (λ _. cond_both (eqb letter 80) _ _ P (λ e. power_up_was letter args (eqb-true letter 80 e)) (λ _. refused_was _ _)))))

pub reads_back : (bytes : List ℕ) (r : Result Said RecordFault) → r ≡ said bytes → ReadsBack bytes r
reads_back bytes (Ok s) is = said_was bytes s (sym is)
reads_back bytes (Err f) is = λ s fine are.
    let e : Err f ≡ Ok s = is ∙ ap said are ∙ read_back s fine in cc
