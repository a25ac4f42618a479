use Rattle.std.proofs.Common.{false, sym, ◌∙◌, subst}
use Rattle.status.specs.Status.{Apart}
use Rattle.status.proofs.Bits.{apart, apart_if}
use Rattle.status.proofs.assemble.Goals.{then-fail_mark, else-fail_mark}
use Rattle.status.proofs.assemble.Goals as goal

pub join-requires : goal.join-requires
join-requires g c =
    let f = g.D.Dialect.facts in
    let R = c.update-kept.result in
    let law = apart f g.met.D.Dialect.lawful R c.update-kept.ensures.within in
    elim c.if-fail_mark.branch [
      | then-fail_mark w ↦ subst (Apart R) (sym (w.fail-is ∙ w.fail_bit-fail.ensures)) law
      | else-fail_mark w ↦ subst (Apart R) (sym w.fail-is) (apart_if false R f.fail_bit law)
    ]
