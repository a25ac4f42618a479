-- A page that is full is accepted.
use Rattle.std.proofs.Common.{◌≡◌, ℕ, Bool, true, false, cond, not, ◌&&◌, ◌||◌, List, [], ◌∷◌, ◌++◌, sym, refl, ap, ◌∙◌}
use Rattle.std.proofs.lemmas.Bool.{cond-true}
use Rattle.rules.specs.Kind.{Kind, next_page, page_protected}
use Rattle.rules.specs.State.{writing_paged}
use Rattle.rules.specs.Step.{marked}
use Rattle.rules.specs.Write.{first_held, latest, placed, accepted, fills_page}
use Rattle.rules.specs.Byte.{putting, paged}

pub paged_full : (k : Kind) (R page first : ℕ) (held : List ℕ) (blocked : Bool) (b page' first' : ℕ) (held' : List ℕ) (blocked' : Bool)
    → (k.facts.runs_on R && fills_page first held) ≡ true
    → page' ≡ page → first' ≡ first_held first held → held' ≡ latest held b → blocked' ≡ blocked
    → paged k R page first held blocked b
    ≡ putting (writing_paged (next_page k page') 0 [] (blocked' || page_protected k R page') true) (accepted k R page' first' held')
paged_full k R page first held blocked b page' first' held' blocked' full ep ef eh eb =
    cond-true (k.facts.runs_on R && fills_page first held) _ _ full
    ∙ sym (ap (λ p. putting (writing_paged (next_page k p) 0 [] (blocked' || page_protected k R p) true) (accepted k R p first' held')) ep
    ∙ ap (λ x. putting (writing_paged (next_page k page) 0 [] (x || page_protected k R page) true) (accepted k R page first' held')) eb
    ∙ ap (λ f. putting (writing_paged (next_page k page) 0 [] (blocked || page_protected k R page) true) (accepted k R page f held')) ef
    ∙ ap (λ h. putting (writing_paged (next_page k page) 0 [] (blocked || page_protected k R page) true) (accepted k R page (first_held first held) h)) eh)

pub marked_placed : (page offset b : ℕ) (bytes : List ℕ) (w : Bool) → marked (placed page offset (bytes ++ (b ∷ []))) w ≡ true
marked_placed page offset b [] w = refl
marked_placed page offset b (x ∷ bytes) w = refl

pub marked_accepted : (k : Kind) (R page first b : ℕ) (bytes held : List ℕ) → held ≡ bytes ++ (b ∷ [])
    → not (page_protected k R page) ≡ marked (accepted k R page first held) false
marked_accepted k R page first b bytes held e = ways (page_protected k R page)
  where
    ways : (p : Bool) → not p ≡ marked (cond p [] (placed page first held)) false
    ways true = refl
    ways false = sym (ap (λ w. marked (placed page first w) false) e ∙ marked_placed page first b bytes false)
