-- Ticks in turn, up to the first that is refused.
use Rattle.std.proofs.Common.{◌≡◌, ℕ, suc, ◌+◌, ◌-◌, ◌<◌, ◌≤◌, List, [], ◌∷◌, ◌++◌, Ok, Err, Option, Result, sym, ap, ◌∙◌, subst, ap₂, append_assoc, append-nil, arith}
use Rattle.refusal.specs.declared.Refusal.{Refusal}
use Rattle.rules.specs.declared.Call.{Call}
use Rattle.rules.specs.declared.Call.TheVariants.{Tick}
use Rattle.rules.specs.Kind.{Kind}
use Rattle.rules.specs.State.{State}
use Rattle.rules.specs.Step.{step}
use Rattle.promises.specs.Served.{Whole, Served}
use Rattle.replay.specs.Ran.{if_done, ticks_until_refused, Made}
use Rattle.replay.proofs.Turns.{none_yet, one_more}

-- i of n ticks were done
pub record Ticked (n i : ℕ) (w : Whole) (to_go : ℕ) (w' : Whole) : Type 0 where
  pub calls : List Call
  pub so_far : Made calls w [] (Ok to_go) w'
  pub rest : calls ++ ticks_until_refused w'.kind w'.control (n - i) ≡ ticks_until_refused w.kind w.control n

left : (n i : ℕ) → i < n → n - i ≡ suc (n - (i + 1))
left n i lt = omega arith

tick_done : {w w' : Whole} {t : ℕ} {d : Option ℕ} (m : ℕ) → Served Tick w (Ok t) d w'
    → ticks_until_refused w.kind w.control (suc m) ≡ Tick ∷ ticks_until_refused w'.kind w'.control m
tick_done {w} {w'} {t} {d} m served =
    ap (λ (a : Result ℕ Refusal). Tick ∷ if_done a (ticks_until_refused w.kind (step w.kind w.control Tick).state m)) (sym served.obeys.answer)
    ∙ ap₂ (λ (k : Kind) (s : State). Tick ∷ ticks_until_refused k s m) (sym served.kind) (sym served.control)

pub one_ticked : {n i t u : ℕ} {w w' w'' : Whole} {d : Option ℕ} → i < n → Ticked n i w t w' → Served Tick w' (Ok u) d w'' → Ticked n (i + 1) w u w''
one_ticked {n} {i} {t} {u} {w} {w'} {w''} {d} lt before served = record {
  calls = before.calls ++ (Tick ∷ []);
  so_far = one_more before.so_far served;
  rest = append_assoc before.calls (Tick ∷ []) _
      ∙ ap (λ (l : List Call). before.calls ++ l) (sym (ap (ticks_until_refused w'.kind w'.control) (left n i lt) ∙ tick_done (n - (i + 1)) served))
      ∙ before.rest;
}

-- a tick was refused: these are all the calls
refused_calls : {n i t : ℕ} {r : Refusal} {w w' w'' : Whole} {d : Option ℕ} → i < n → (before : Ticked n i w t w') → Served Tick w' (Err r) d w''
    → before.calls ++ (Tick ∷ []) ≡ ticks_until_refused w.kind w.control n
refused_calls {n} {i} {t} {r} {w} {w'} {w''} {d} lt before served =
    ap (λ (l : List Call). before.calls ++ l)
    (sym (ap (ticks_until_refused w'.kind w'.control) (left n i lt)
    ∙ ap (λ (a : Result ℕ Refusal). Tick ∷ if_done a (ticks_until_refused w'.kind (step w'.kind w'.control Tick).state (n - (i + 1)))) (sym served.obeys.answer)))
    ∙ before.rest

-- no tick was refused
done_calls : {n i t : ℕ} {w w' : Whole} → n ≤ i → (before : Ticked n i w t w') → before.calls ≡ ticks_until_refused w.kind w.control n
done_calls {n} {i} {t} {w} {w'} past before =
    let none : n - i ≡ 0 = omega arith in
    sym (ap (λ m. before.calls ++ ticks_until_refused w'.kind w'.control m) none ∙ append-nil before.calls) ∙ before.rest

pub none_ticked : (n : ℕ) (w : Whole) → Ticked n 0 w 0 w
none_ticked n w = record {
  calls = [];
  so_far = none_yet w;
  rest = ap (ticks_until_refused w.kind w.control) (let e : n - 0 ≡ n = omega arith in e);
}

pub tick_refused : {n i t : ℕ} {r : Refusal} {w w' w'' : Whole} {d : Option ℕ} → i < n → Ticked n i w t w' → Served Tick w' (Err r) d w''
    → Made (ticks_until_refused w.kind w.control n) w [] (Err r) w''
tick_refused {r = r} {w = w} {w'' = w''} lt before served =
    subst (λ (l : List Call). Made l w [] (Err r) w'') (refused_calls lt before served) (one_more before.so_far served)

pub all_ticked : {n i t : ℕ} {w w' : Whole} → n ≤ i → Ticked n i w t w' → Made (ticks_until_refused w.kind w.control n) w [] (Ok t) w'
all_ticked {t = t} {w = w} {w' = w'} past before = subst (λ (l : List Call). Made l w [] (Ok t) w') (done_calls past before) before.so_far
