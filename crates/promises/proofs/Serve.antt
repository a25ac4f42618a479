-- A call that is the rules' step is served: it carries every history on.
use Rattle.std.proofs.Common.{◌≡◌, ℕ, ◌∷◌, Option, Result, sym, refl, ap, ◌∙◌, subst}
use Rattle.refusal.specs.declared.Refusal.{Refusal}
use Rattle.dialect.specs.Facts.{Lawful}
use Rattle.rules.specs.declared.Call.{Call}
use Rattle.rules.specs.Step.{step}
use Rattle.rules.specs.Machine.{Moment, Obeys}
use Rattle.rules.specs.History.{state_after, calls_of, images_after, Run, Throughout}
use Rattle.promises.specs.Promises.{Promises}
use Rattle.promises.specs.Served.{Whole, moment, Served}
use Rattle.promises.proofs.Whole.{promises_hold}

pub serves : {c : Call} {w w' : Whole} {answer : Result ℕ Refusal} {drove : Option ℕ} → Lawful w.kind.facts
    → w'.kind ≡ w.kind → w'.control ≡ (step w.kind w.control c).state
    → Obeys w.kind w.control w.images (moment c answer drove w'.images) → Served c w answer drove w'
serves {c} {w} {w'} {answer} {drove} law kind control obeys = record {
  kind = kind;
  control = control;
  obeys = obeys;
  history = λ first moments led.
      let m : Moment = moment c answer drove w'.images in
      let run : Run w.kind first (m ∷ moments) =
      (led.run, subst (λ s. Obeys w.kind s (images_after first moments) m) led.control (subst (λ i. Obeys w.kind w.control i m) led.images obeys)) in
      let all : Throughout (Promises w.kind first) (m ∷ moments) = promises_hold w.kind law first (m ∷ moments) run in (
        record {
          run = subst (λ k. Run k first (m ∷ moments)) (sym kind) run;
          control = control ∙ ap (λ s. (step w.kind s c).state) led.control ∙ ap (λ k. state_after k (calls_of (m ∷ moments))) (sym kind);
          images = refl;
        },
        subst (λ k. Throughout (Promises k first) (m ∷ moments)) (sym kind) all,
      );
}
