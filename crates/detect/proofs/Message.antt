-- Messages that end with their sum are those over which the register is 0, and no short burst leads from one to another.
use Rattle.std.proofs.Common.{◌≡◌, ℕ, ◌+◌, ◌-◌, ◌*◌, ◌/◌, ◌%◌, ◌<◌, ◌≤◌, Bool, true, false, ◌&&◌, eqb, leb, List, [], ◌∷◌, ◌++◌, length, get_or, take, drop, Decides, sym, refl, ap, ◌∙◌, ap₂, arith}
use Rattle.std.proofs.lemmas.List.{length-append, take-append-drop, drop_more, drop_all}
use Rattle.std.proofs.lemmas.Bool.{leb-true, eqb-true, le-leb, eq-eqb, and_parts, and_from}
use Rattle.crc.specs.Sum.{after_bits, message_bits, after_message, sum_of, start}
use Rattle.crc.specs.Transfer.{pair}
use Rattle.crc.proofs.Runs.{after_message_lt}
use Rattle.crc.proofs.Pair.{received_pair}
use Rattle.detect.specs.Damage.{EndsWithSum, Burst}
use Rattle.detect.proofs.Short.{burst_shows}

pub ends_then_zero : (m : List ℕ) → EndsWithSum m → sum_of m ≡ 0
ends_then_zero m (covered, e) =
    ap sum_of e ∙ (received_pair covered (sum_of covered) (after_message_lt start covered (omega arith))).0 refl

ends_then_long : (m : List ℕ) → EndsWithSum m → 2 ≤ length m
ends_then_long m (covered, e) =
    let n : length m ≡ length covered + 2 = ap length e ∙ length-append covered (pair (sum_of covered)) in omega arith

-- the last two of a list's elements
last_two : (m : List ℕ) → 2 ≤ length m
    → m ≡ take (length m - 2) m ++ (get_or m (length m - 2) 0 ∷ get_or m (length m - 1) 0 ∷ [])
last_two m h =
    let n : ℕ = length m - 2 in
    sym (take-append-drop n m)
    ∙ ap (λ w. take n m ++ w)
    (drop_more m n 0 (omega arith)
    ∙ ap (λ w. get_or m n 0 ∷ w)
    (ap (λ k. drop k m) (let k : n + 1 ≡ length m - 1 = omega arith in k)
    ∙ drop_more m (length m - 1) 0 (omega arith)
    ∙ ap (λ w. get_or m (length m - 1) 0 ∷ w) (drop_all (length m - 1 + 1) m (omega arith))))

zero_then_ends : (m : List ℕ) → ((i : ℕ) → get_or m i 0 < 256) → 2 ≤ length m → sum_of m ≡ 0 → EndsWithSum m
zero_then_ends m bytes h z =
    let high : ℕ = get_or m (length m - 2) 0 in
    let low : ℕ = get_or m (length m - 1) 0 in
    let covered : List ℕ = take (length m - 2) m in
    let lh : high < 256 = bytes (length m - 2) in
    let ll : low < 256 = bytes (length m - 1) in
    let received : ℕ = high * 256 + low in
    let h1 : received / 256 % 256 ≡ high = omega arith in
    let h0 : received / 1 % 256 ≡ low = omega arith in
    let split : m ≡ covered ++ pair received =
    last_two m h ∙ ap₂ (λ x y. covered ++ (x ∷ y ∷ [])) (sym h1) (sym h0) in
    let fits : sum_of covered ≡ received = (received_pair covered received (omega arith)).1 (ap sum_of (sym split) ∙ z) in
    (covered, split ∙ ap (λ s. covered ++ pair s) (sym fits))

pub ends_exactly : (m : List ℕ) (r : Bool) → ((i : ℕ) → get_or m i 0 < 256)
    → r ≡ (leb 2 (length m) && eqb (sum_of m) 0) → Decides r (EndsWithSum m)
ends_exactly m r bytes e = (
  (λ t. let parts = and_parts (leb 2 (length m)) (eqb (sum_of m) 0) (sym e ∙ t) in
      zero_then_ends m bytes (leb-true 2 (length m) parts.0) (eqb-true (sum_of m) 0 parts.1)),
  (λ w. e ∙ and_from (leb 2 (length m)) (eqb (sum_of m) 0)
      (le-leb 2 (length m) (ends_then_long m w)) (eq-eqb (sum_of m) 0 (ends_then_zero m w))),
)

-- what a short burst makes of a message that ends with its sum does not end with its sum
pub burst_is_caught : (sent received : List ℕ) → EndsWithSum sent → Burst 16 (message_bits sent) (message_bits received)
    → EndsWithSum received → ⊥
unfolding after_message
burst_is_caught sent received s b r =
    b.differs
    (burst_shows start b.before b.was b.became b.behind (omega arith) b.in_place b.short
    (ap (λ w. after_bits start w) (sym b.sent_bits) ∙ ends_then_zero sent s
    ∙ sym (ends_then_zero received r) ∙ ap (λ w. after_bits start w) b.received_bits))

pub not_when_refuted : (r : Bool) (P : Type 0) → Decides r P → (P → ⊥) → r ≡ false
not_when_refuted true P d n = absurd (n (d.0 refl))
not_when_refuted false P d n = refl
