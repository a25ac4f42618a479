use Rattle.std.proofs.Common.{◌≡◌, ℕ, suc, ◌+◌, ◌-◌, ◌<◌, [], ◌++◌, take, Ok, sym, ap, ◌∙◌, append-nil, arith}
use Rattle.std.proofs.lemmas.List.{take_all, take_more_set, length-set}
use Rattle.std.proofs.lemmas.Result.{err_from_is_err_and}
use Rattle.fields.specs.Fields.{read_bytes}
use Rattle.fields.proofs.Steps.{behind, page_more, page_fails, page_none}
use Rattle.fields.proofs.read_bytes.Goals as goal

one_less : (n i : ℕ) → i < n → suc (n - (i + 1)) ≡ n - i
one_less n i h = omega arith

pub returns-in_err-byte : goal.returns-in_err-byte
returns-in_err-byte g c =
    let p = err_from_is_err_and c.from_residual.result c.from_residual.ensures.1 in
    let n = g.row.N in
    let i = c.loop-place.place-index in
    let front = take i c.loop-place.place-items in
    let rest = c.loop-place.rest.now in
    rw (p.1, p.2)
    (page_fails (n - (i + 1)) front rest _ c.in_err-byte.ensures
    ∙ ap (λ k. behind front (read_bytes k rest)) (one_less n i c.loop-place-test.true) ∙ c.loop-place.invariant.0)

pub loop-place-preserved : goal.loop-place-preserved
loop-place-preserved g c =
    let i = c.loop-place.place-index in
    let bytes = c.loop-place.place-items in
    let rest = c.loop-place.rest.now in
    let byte = c.in_ok-byte.byte in
    let next = c.in_ok-byte.behind.now in
    let m : ℕ = g.row.N - (i + 1) in (
      ap (λ front. behind front (read_bytes m next)) (take_more_set bytes i byte (omega arith))
          ∙ page_more m (take i bytes) rest byte next c.in_ok-byte.ensures
          ∙ ap (λ k. behind (take i bytes) (read_bytes k rest)) (one_less g.row.N i c.loop-place-test.true)
          ∙ c.loop-place.invariant.0,
      length-set bytes i byte ∙ c.loop-place.invariant.1,
    )

pub returns : goal.returns
returns g c =
    let n = g.row.N in
    let i = c.loop-place.place-index in
    let bytes = c.loop-place.place-items in
    let rest = c.loop-place.rest.now in
    let whole : take i bytes ≡ bytes = take_all i bytes (omega arith) in
    let none : n - i ≡ 0 = omega arith in
    ap (λ l. Ok (l, rest)) (sym (append-nil bytes) ∙ ap (λ l. l ++ []) (sym whole))
    ∙ ap (behind (take i bytes)) (sym (page_none rest) ∙ ap (λ k. read_bytes k rest) (sym none)) ∙ c.loop-place.invariant.0
