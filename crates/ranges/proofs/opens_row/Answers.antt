use Rattle.std.proofs.Common.{◌≡◌, ℕ, ◌<◌, Bool, true, false, not, length, get_or, refl, ◌∙◌, subst, arith, rules, Decides}
use Rattle.std.specs.Bool.{MatchBool}
use Rattle.std.specs.List.{range_with_len, AllWithin, HoldsAt}
use Rattle.std.proofs.lemmas.Iterator.{cases_from_any, YieldsList-from_range}
use Rattle.std.proofs.lemmas.List.FromFn.{length-range_with_len, get_or-range_with_len}
use Rattle.dialect.specs.Facts.{Facts, Within}
use Rattle.ranges.specs.Rows.{Shares, Opens}
use Rattle.ranges.proofs.opens_row.Goals as goal

-- whether one of the numbers below Q shares its range says that Q opens no row
module _ (f : Facts) (N Q : ℕ) (within : Within f Q) where
  abbrev NotShared : ℕ → Type 0
  NotShared R = Shares f N Q R → ⊥

  at : (R : ℕ) → R < Q → get_or (range_with_len 0 Q) R 0 ≡ R
  at R lt = get_or-range_with_len 0 Q R 0 lt ∙ omega arith

  by_search : (shared : Bool)
      → MatchBool shared ((k : ℕ) × (k < length (range_with_len 0 Q)) × HoldsAt (Shares f N Q) (range_with_len 0 Q) k) (AllWithin NotShared (range_with_len 0 Q) 0 (length (range_with_len 0 Q)))
      → Decides (not shared) (Opens f N Q)
  by_search true (k, lt, shares) =
      let below : k < Q = omega (arith, length-range_with_len 0 Q) in (
        (λ none. cc),
        (λ opens. absurd (opens.smallest k below (subst (Shares f N Q) (at k below) (shares 0)))),
      )
  by_search false none = (
    (λ _. record {
      within = within;
      smallest = λ R lt. subst NotShared (at R lt) (none R 0 (omega arith) (omega (arith, length-range_with_len 0 Q)));
    }),
    (λ _. refl),
  )

pub returns-then-status_bits-mask : goal.returns-then-status_bits-mask
returns-then-status_bits-mask g c =
    let f = g.D.Dialect.facts in
    let Q = c.args.status_bits in
    let N = c.args.size in
    let range = YieldsList-from_range 0 Q Q refl (omega arith) in
    by_search f N Q (search rules) c.any.result
    (cases_from_any _ _ _ (Shares f N Q) (λ R. Shares f N Q R → ⊥) c.any.ensures.ran range (λ x q k. search rules) (λ x q k. search rules))
