-- Keeping pages, and fading behind them.
use Rattle.std.proofs.Common.{◌≡◌, ℕ, suc, ◌+◌, ◌-◌, ◌*◌, ◌/◌, ◌<◌, Bool, List, [], ◌∷◌, ◌++◌, sym, refl, ap, ◌∙◌, subst, arith}
use Rattle.cells.specs.Images.{Images, after_keep}
use Rattle.cells.specs.Laws.{Site, Bytes}
use Rattle.dialect.specs.Facts.{Facts}
use Rattle.rules.specs.declared.Activity.{Activity}
use Rattle.rules.specs.declared.Activity.TheVariants.{Idle, Storing, Recalling, Waking}
use Rattle.rules.specs.Kind.{Kind}
use Rattle.rules.specs.State.{Event, fade, Selection}
use Rattle.rules.specs.Power.{keeps, cut_events}
use Rattle.rules.specs.Machine.{Changes}
use Rattle.selection.specs.declared.control.Control.{Control}
use Rattle.selection.specs.View.{kind_of, state_of, Done}

pages_is : (n : ℕ) → 64 * n / 64 ≡ n
pages_is n = omega arith

-- one more page kept
pub next_keep : (f : Facts) (l : Bool) (at : Site) (n p : ℕ) (x y j : Images) → p < n → y ≡ after_keep at.pages p x
    → Changes (kind_of f l at) (keeps (p + 1) (n - (p + 1))) y j → Changes (kind_of f l at) (keeps p (n - p)) x j
next_keep f l at n p x y j lt kept rest =
    let more : suc (n - (p + 1)) ≡ n - p = omega arith in
    subst (λ m. Changes (kind_of f l at) (keeps p m) x j) more (y, (kept ∙ ap (λ m. after_keep m p x) (sym (pages_is at.pages)), rest))

append : (k : Kind) (es fs : List Event) (x y z : Images) → Changes k es x y → Changes k fs y z → Changes k (es ++ fs) x z
append k [] fs x y z c d = subst (λ w. Changes k fs w z) c d
append k (e ∷ es) fs x y z c d = (c.0, (c.1.0, append k es fs c.0 y z c.1.1 d))

-- a fade behind what was kept
pub fades : (f : Facts) (l : Bool) (at mid behind : Site) (es : List Event) (x y z : Images) → Done (kind_of f l at) es x at y mid
    → z.kept ≡ y.kept → Bytes (64 * mid.pages) z.working → behind ≡ mid → Done (kind_of f l at) (es ++ (fade ∷ [])) x at z behind
fades f l at mid behind es x y z kept same bytes still = record {
  changes = append (kind_of f l at) es (fade ∷ []) x y z kept.changes
      (z, ((same, subst (λ n. Bytes (64 * n) z.working) (ap (λ (s : Site). s.pages) kept.site ∙ sym (pages_is at.pages)) bytes), refl));
  site = still ∙ kept.site;
}

-- what a cut keeps does not hang on the selection
pub cut_same : (k : Kind) (c : Control) (x y : Selection) (a : Activity) (charged : Bool) → cut_events k (state_of c x) a charged ≡ cut_events k (state_of c y) a charged
cut_same k c x y Idle charged = refl
cut_same k c x y (Storing p) charged = refl
cut_same k c x y (Recalling p) charged = refl
cut_same k c x y (Waking p) charged = refl
