-- The sum of a message that is fed piece by piece.
use Rattle.std.proofs.Common.{◌≡◌, ℕ, suc, ◌+◌, ◌%◌, [], ◌∷◌, sym, ap, ap₂, ◌∙◌}
use Rattle.crc.specs.Sum.{start, after_message, sum_of}
use Rattle.crc.proofs.Runs.{after_message_append, after_message_none}
use Rattle.vectors.specs.declared.Vector.{Vector}
use Rattle.vectors.specs.Message.{growing, message}

pub front_fed : (v : Vector) (r m : ℕ) → m ≡ v.count → r ≡ after_message start v.front.now
    → after_message r (growing v.first v.step m) ≡ sum_of (message v)
unfolding message
front_fed v r m all is =
    ap₂ (λ x k. after_message x (growing v.first v.step k)) is all
    ∙ sym (after_message_append start v.front.now (growing v.first v.step v.count))

pub byte_fed : (r r' b step m n total : ℕ) → m ≡ suc n → r' ≡ after_message r (b ∷ []) → after_message r (growing b step m) ≡ total
    → after_message r' (growing ((b + step) % 256) step n) ≡ total
byte_fed r r' b step m n total more is so_far =
    ap (λ x. after_message x (growing ((b + step) % 256) step n)) is
    ∙ sym (after_message_append r (b ∷ []) (growing ((b + step) % 256) step n))
    ∙ ap (λ k. after_message r (growing b step k)) (sym more)
    ∙ so_far

pub all_fed : (r b step m total : ℕ) → m ≡ 0 → after_message r (growing b step m) ≡ total → r ≡ total
all_fed r b step m total none so_far =
    sym (after_message_none r) ∙ ap (λ k. after_message r (growing b step k)) (sym none) ∙ so_far
