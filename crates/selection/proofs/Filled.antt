-- An array made from a function whose calls keep what they capture.
use Rattle.std.proofs.Common.{◌≡◌, ℕ, zero, suc, ◌+◌, ◌<◌, ◌≤◌, ⊎_elim, List, get_or, ◌∙◌, subst, arith}
use Rattle.std.proofs.lemmas.Bool.{cases_lt}
use Rattle.std.specs.Array.{IsFromFnResultFrom}
use denote.Param.Members.{Called, Mut}

pub filled : {F : Type 0} (g : Mut F (ℕ × Unit {0}) ℕ) (P : F → Type 0) (w : ℕ → ℕ) (top : ℕ)
    → ((f : F) (i y : ℕ) (q : F) → P f → i < top → Called g f (i, tt) y q → (y ≡ w i) × P q)
    → (n i : ℕ) (f : F) (ys : List ℕ) → P f → i + n ≤ top → IsFromFnResultFrom g f ys i n
    → (j : ℕ) → i ≤ j → j < i + n → get_or ys j 0 ≡ w j
filled g P w top step zero i f ys p fits from j low high = absurd (omega arith)
filled g P w top step (suc n) i f ys p fits (q, y, at, called, rest) j low high =
    let now = step f i y q p (omega arith) called in
    ⊎_elim (λ (later : i < j). filled g P w top step n (i + 1) q ys now.1 (omega arith) rest j (omega arith) (omega arith))
    (λ (past : j ≤ i). subst (λ m. get_or ys m 0 ≡ w m) (let here : i ≡ j = omega arith in here) (at.1 0 ∙ now.0)) (cases_lt i j)
