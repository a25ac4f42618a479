-- Many steps: the register after a list of bits, and how two runs over lists of one length differ.
use Rattle.std.proofs.Common.{◌≡◌, ℕ, ◌<◌, Bool, List, [], ◌∷◌, ◌++◌, length, sym, refl, ap, ◌∙◌, arith}
use Rattle.std.specs.List.{fold}
use mathlib.Core.Bool.{xor}
use native.Mathlib.Nat.{suc_inj}
use lib.Bits.{bit_xor, xor_self}
use Rattle.std.proofs.lemmas.List.{append_assoc}
use Rattle.crc.specs.Sum.{step, after_bits, bits, message_bits, after_message}
use Rattle.crc.proofs.Step.{step_lt, step_linear, step_one_to_one, xor_cancel}

pub after_lt : (r : ℕ) (w : List Bool) → r < 0x10000 → after_bits r w < 0x10000
after_lt r [] h = h
after_lt r (b ∷ w) h = after_lt (step r b) w (step_lt r b)

pub after_append : (r : ℕ) (v w : List Bool) → after_bits r (v ++ w) ≡ after_bits (after_bits r v) w
after_append r [] w = refl
after_append r (b ∷ v) w = after_append (step r b) v w

pub bits_append : (m n : List ℕ) → message_bits (m ++ n) ≡ message_bits m ++ message_bits n
bits_append [] n = refl
bits_append (x ∷ m) n = ap (λ w. bits 8 x ++ w) (bits_append m n) ∙ sym (append_assoc (bits 8 x) (message_bits m) (message_bits n))

pub after_message_append : (r : ℕ) (m n : List ℕ) → after_message r (m ++ n) ≡ after_message (after_message r m) n
unfolding after_message
after_message_append r m n = ap (after_bits r) (bits_append m n) ∙ after_append r (message_bits m) (message_bits n)

pub after_message_none : (r : ℕ) → after_message r [] ≡ r
unfolding after_message
after_message_none r = refl

pub after_message_cons : (r x : ℕ) (m : List ℕ) → after_message r (x ∷ m) ≡ after_message (after_bits r (bits 8 x)) m
unfolding after_message
after_message_cons r x m = after_append r (bits 8 x) (message_bits m)

-- the register goes through a message byte by byte
pub after_message_is_fold : (r : ℕ) (m : List ℕ) → fold (λ now x. after_bits now (bits 8 x)) r m ≡ after_message r m
after_message_is_fold r [] = sym (after_message_none r)
after_message_is_fold r (x ∷ m) = after_message_is_fold (after_bits r (bits 8 x)) m ∙ sym (after_message_cons r x m)

pub after_message_lt : (r : ℕ) (m : List ℕ) → r < 0x10000 → after_message r m < 0x10000
unfolding after_message
after_message_lt r m h = after_lt r (message_bits m) h

-- ---- the change that takes one list of bits to another of its length: true where they differ
abbrev pub change : List Bool → List Bool → List Bool
change [] w = []
change (b ∷ v) [] = []
change (b ∷ v) (c ∷ w) = xor b c ∷ change v w

-- the registers' difference evolves by the change alone
pub difference_evolves_by_change : (a d : ℕ) (v w : List Bool) → a < 0x10000 → d < 0x10000 → length v ≡ length w
    → bit_xor (after_bits a v) (after_bits d w) ≡ after_bits (bit_xor a d) (change v w)
difference_evolves_by_change a d [] [] ha hd e = refl
difference_evolves_by_change a d [] (c ∷ w) ha hd e = absurd (let n : ⊥ = omega arith in n)
difference_evolves_by_change a d (b ∷ v) [] ha hd e = absurd (let n : ⊥ = omega arith in n)
difference_evolves_by_change a d (b ∷ v) (c ∷ w) ha hd e =
    difference_evolves_by_change (step a b) (step d c) v w (step_lt a b) (step_lt d c) (suc_inj e)
    ∙ ap (λ r. after_bits r (change v w)) (sym (step_linear a d b c ha hd))

-- Damage goes unseen exactly if the register over the change alone, started at 0, ends at 0: every law about a kind of
-- damage (a burst, an odd number of bits, two bits) is a law about changes.
pub unseen_then_zero : (r : ℕ) (v w : List Bool) → r < 0x10000 → length v ≡ length w
    → after_bits r v ≡ after_bits r w → after_bits 0 (change v w) ≡ 0
unseen_then_zero r v w h l e =
    ap (λ n. after_bits n (change v w)) (sym (xor_self r)) ∙ sym (difference_evolves_by_change r r v w h h l)
    ∙ ap (λ n. bit_xor n (after_bits r w)) e ∙ xor_self (after_bits r w)

pub zero_then_unseen : (r : ℕ) (v w : List Bool) → r < 0x10000 → length v ≡ length w
    → after_bits 0 (change v w) ≡ 0 → after_bits r v ≡ after_bits r w
zero_then_unseen r v w h l z =
    xor_cancel (after_bits r v) (after_bits r w)
    (difference_evolves_by_change r r v w h h l ∙ ap (λ n. after_bits n (change v w)) (xor_self r) ∙ z)

-- feeding the same bits is one-to-one in the register
pub after_one_to_one : (a d : ℕ) (w : List Bool) → a < 0x10000 → d < 0x10000 → after_bits a w ≡ after_bits d w → a ≡ d
after_one_to_one a d [] ha hd e = e
after_one_to_one a d (b ∷ w) ha hd e =
    step_one_to_one a d b ha hd (after_one_to_one (step a b) (step d b) w (step_lt a b) (step_lt d b) e)
