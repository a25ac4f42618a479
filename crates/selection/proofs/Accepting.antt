-- What accepting a buffer leaves.
use Rattle.std.proofs.Common.{◌≡◌, ℕ, Bool, true, false, cond, ◌==◌, ◌||◌, List, [], ◌∷◌, length, Some, None, refl, sym, ap, ◌∙◌, arith}
use mathlib.Core.Bool.{or-false}
use Rattle.std.proofs.lemmas.Bool.{cond-false}
use Rattle.std.proofs.lemmas.Option.{none-some}
use Rattle.refusal.specs.declared.Refusal.{Refusal}
use Rattle.refusal.specs.declared.Refusal.TheVariants.{Protected}
use Rattle.rules.specs.Kind.{Kind, page_protected}
use Rattle.rules.specs.Release.{has_bytes}
use Rattle.rules.specs.Step.{marked}
use Rattle.rules.specs.Write.{placed, accepted}

-- what the answer of `accept` says of the page
pub is_open : (p : Bool) → None ≡ cond p (Some Protected) None → p ≡ false
is_open true e = absurd (none-some Protected e)
is_open false e = refl

pub is_shut : (r : Refusal) (p : Bool) → Some r ≡ cond p (Some Protected) None → (p ≡ true) × (r ≡ Protected)
is_shut r true e = (refl, cc)
is_shut r false e = absurd (none-some r (sym e))

pub put_marks : (k : Kind) (R page first : ℕ) (xs : List ℕ) (w : Bool) → (length xs == 0) ≡ false → None ≡ cond (page_protected k R page) (Some Protected) None
    → true ≡ marked (accepted k R page first xs) w
put_marks k R page first [] w some e = absurd (let z : ◌≡◌ {A = ℕ} 0 1 = cc in omega arith)
put_marks k R page first (x ∷ xs) w some e = sym (ap (λ es. marked es w) (cond-false (page_protected k R page) [] (placed page first (x ∷ xs)) (is_open (page_protected k R page) e)))

pub same_answer : (xs : List ℕ) (blocked p : Bool) → (length xs == 0) ≡ false → None ≡ cond p (Some Protected) None
    → cond blocked (Some Protected) None ≡ cond (cond (has_bytes xs) (blocked || p) blocked) (Some Protected) None
same_answer [] blocked p some e = absurd (let z : ◌≡◌ {A = ℕ} 0 1 = cc in omega arith)
same_answer (x ∷ xs) blocked p some e = ap (λ q. cond q (Some Protected) None) (sym (or-false blocked) ∙ ap (λ q. blocked || q) (sym (is_open p e)))
