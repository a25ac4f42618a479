use Rattle.std.proofs.Common.{inl, inr, refl, rules}
use Rattle.rules.specs.declared.Call.TheVariants.{PowerUp}
use Rattle.part.proofs.Serving.{refused_serves, serves_by}
use Rattle.part.proofs.Ready.{powers_up}
use Rattle.part.specs.Whole.{whole}
use Rattle.part.proofs.Part.power_up.Goals as goal

pub returns-in-Ok : goal.returns-in-Ok
returns-in-Ok g c = record { served = refused_serves g.met.D.Dialect.lawful (c.in-Ok.ensures.steps PowerUp); cells = refl }

pub returns-in-Err-PowerOff : goal.returns-in-Err-PowerOff
returns-in-Err-PowerOff g c =
    record {
      served = serves_by g.met.D.Dialect.lawful (powers_up (whole g.D.Dialect g.C.Cells c.args.self.now) (rw c.in-Err-PowerOff.field-0-is at c.in-Err-PowerOff.ensures))
          (record { kind = refl; control = refl; answer = refl; drove = refl; images = refl });
      cells = refl;
    }

pub returns-in-Err : goal.returns-in-Err
returns-in-Err g c =
    record {
      served = elim c.in-Err.ensures.1 [
        | inl off ↦ absurd (let z = off.0 in search (rules, off.0))
        | inr dead ↦ refused_serves g.met.D.Dialect.lawful dead.1
      ];
      cells = refl;
    }
