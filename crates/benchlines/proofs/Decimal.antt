-- How long the pieces of a line are.
use Rattle.std.proofs.Common.{◌≡◌, ℕ, ◌^◌, ◌<◌, ◌≤◌, length, decimal, refl, arith}
use Rattle.std.proofs.lemmas.Fmt.{length-decimal-le}
use Rattle.runfile.specs.declared.letters.Letter.{Letter}
use Rattle.runfile.specs.declared.letters.Letter.TheVariants.{T, K, C, H, P, Unknown}
use Rattle.runfile.specs.Seen.{letter_text}

pub few : (n : ℕ) → n < 2 ^ 64 → length (decimal n) ≤ 20
few n fits = length-decimal-le 20 n (omega arith) (omega arith) fits

pub letter_long : (l : Letter) → length (letter_text l) ≡ 1
letter_long T = refl
letter_long K = refl
letter_long C = refl
letter_long H = refl
letter_long P = refl
letter_long Unknown = refl
