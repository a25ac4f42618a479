-- A call that does what the rules say is served.
use Rattle.std.proofs.Common.{◌≡◌, ℕ, Bool, true, false, None, Err, Option, Result, sym, refl, ap, ◌∙◌, subst}
use Rattle.refusal.specs.declared.Refusal.{Refusal}
use Rattle.dialect.specs.Facts.{Lawful}
use Rattle.rules.specs.declared.Call.{Call}
use Rattle.rules.specs.declared.Call.TheVariants.{Select, Byte, Release, Tick, Cut, PowerUp}
use Rattle.part.specs.declared.Awake.{Awake}
use Rattle.part.specs.View.{IsAwake, Ready, CameTo, Does}
use Rattle.rules.specs.Step.{Out, step, refusing}
use Rattle.rules.specs.Machine.{Changes, driven}
use Rattle.promises.specs.Served.{Whole, Served}
use Rattle.promises.proofs.Serve.{serves}

pub serves_by : {c : Call} {w w' : Whole} {answer : Result ℕ Refusal} {drove : Option ℕ} {o : Out} → Lawful w.kind.facts
    → step w.kind w.control c ≡ o → CameTo o w answer drove w' → Served c w answer drove w'
serves_by {c} {w} {w'} {answer} {drove} law is came =
    serves law came.kind (came.control ∙ ap (λ (x : Out). x.state) (sym is)) (record {
      answer = came.answer ∙ ap (λ (x : Out). x.answer) (sym is);
      drove = came.drove ∙ ap (λ (x : Out). driven w.kind w.images.working x.drive) (sym is);
      images = subst (λ (x : Out). Changes w.kind x.events w.images w'.images) (sym is) came.images;
    })

-- a call of a part that can be worked
pub served : {c : Call} {a : Awake} {w w' : Whole} {r : Result ℕ Refusal} {d : Option ℕ} → Lawful w.kind.facts → IsAwake a w
    → Does c a.activity w r d w' → Served c w r d w'
served {c} law awake does = serves_by law (awake.steps c) does

pub refused_serves : {c : Call} {w : Whole} {r : Refusal} → Lawful w.kind.facts → step w.kind w.control c ≡ refusing w.control r
    → Served c w (Err r) None w
refused_serves law is = serves_by law is (record { kind = refl; control = refl; answer = refl; drove = refl; images = refl })

abbrev pub is_power_up : Call → Bool
is_power_up Select = false
is_power_up (Byte b held) = false
is_power_up (Release clocks) = false
is_power_up Tick = false
is_power_up (Cut charged) = false
is_power_up PowerUp = true

-- a call but a power-up of a part that cannot be worked
pub turned_away : {w : Whole} {r : Refusal} (c : Call) → Lawful w.kind.facts → Ready w (Err r) → is_power_up c ≡ false → Served c w (Err r) None w
turned_away c law ready other = refused_serves law (ready.0 c (λ e. let z : true ≡ false = sym (ap is_power_up e) ∙ other in cc))
