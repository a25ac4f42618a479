-- One more put of a page.
use Rattle.std.proofs.Common.{◌≡◌, ℕ, ◌+◌, ◌*◌, ◌%◌, ◌<◌, ◌≤◌, List, [], ◌∷◌, length, get_or, drop, sym, refl, ap, ◌∙◌, subst, arith}
use Rattle.std.proofs.lemmas.List.{drop_more, drop_all}
use Rattle.cells.specs.Images.{Images, after_put}
use Rattle.rules.specs.Kind.{Kind}
use Rattle.rules.specs.State.{put}
use Rattle.rules.specs.Write.{placed}
use Rattle.rules.specs.Machine.{Changes}

pub next_put : (k : Kind) (page offset i at b : ℕ) (bytes : List ℕ) (x y j : Images) → i < length bytes → b ≡ get_or bytes i 0
    → at ≡ page * 64 + (offset + i % 64) % 64 → Changes k (put at b ∷ []) x y
    → Changes k (placed page (offset + (i + 1)) (drop (i + 1) bytes)) y j → Changes k (placed page (offset + i) (drop i bytes)) x j
next_put k page offset i at b bytes x y j lt is there (m, (put_is, same)) rest =
    let place : at ≡ 64 * page + (offset + i) % 64 = omega arith in
    let one : y ≡ after_put k.lasting k.size (64 * page + (offset + i) % 64) b x = same ∙ put_is ∙ ap (λ a. after_put k.lasting k.size a b x) place in
    subst (λ w. Changes k (placed page (offset + i) w) x j) (sym (drop_more bytes i 0 lt))
    (subst (λ c. Changes k (placed page (offset + i) (c ∷ drop (i + 1) bytes)) x j) is
    (y, (one, subst (λ n. Changes k (placed page n (drop (i + 1) bytes)) y j) (let e : offset + (i + 1) ≡ offset + i + 1 = omega arith in e) rest)))

pub all_put : (k : Kind) (page n i : ℕ) (bytes : List ℕ) (x : Images) → length bytes ≤ i → Changes k (placed page n (drop i bytes)) x x
all_put k page n i bytes x past = subst (λ w. Changes k (placed page n w) x x) (sym (drop_all i bytes past)) refl
