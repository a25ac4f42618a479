-- The pairs of a table, four bytes each, are those that the definitions name by their number.
use Rattle.std.proofs.Common.{◌≡◌, ℕ, zero, suc, ◌+◌, ◌*◌, ◌<◌, List, get_or, take, drop, length, slice_index, Option, ap, ◌∙◌, sym, arith}
use Rattle.std.proofs.lemmas.List.{get_or-take, get_or-drop}
use Rattle.std.specs.Simd.{first_chunks}
use Rattle.runfile.specs.declared.fault.OpeningFault.{OpeningFault}
use Rattle.runfile.specs.Table.{number_at, pair_place, offset_of, length_of, earliest, fault_of, pair_fault}

chunk_byte : (k : ℕ) (xs : List ℕ) (i j : ℕ) (d : List ℕ) → i < k → j < 4 → get_or (get_or (first_chunks 4 k xs) i d) j 0 ≡ get_or xs (4 * i + j) 0
chunk_byte zero xs i j d lt small = absurd (omega arith)
chunk_byte (suc k) xs zero j d lt small =
    get_or-take 4 xs j 0 small ∙ ap (λ place. get_or xs place 0) (let e : j ≡ 4 * 0 + j = omega arith in e)
chunk_byte (suc k) xs (suc i) j d lt small =
    chunk_byte k (drop 4 xs) i j d (omega arith) small ∙ get_or-drop 4 xs (4 * i + j) 0
    ∙ ap (λ place. get_or xs place 0) (let e : 4 + (4 * i + j) ≡ 4 * suc i + j = omega arith in e)

-- byte j of pair i, in a table of m bytes
pair_byte : (file : List ℕ) (m k i j place : ℕ) (d : List ℕ) → i < k → j < 4 → 4 * i + j < m → 2 + (4 * i + j) ≡ place
    → slice_index (get_or (first_chunks 4 k (take m (drop 2 file))) i d) j ≡ slice_index file place
pair_byte file m k i j place d lt small inside is =
    chunk_byte k (take m (drop 2 file)) i j d lt small ∙ get_or-take m (drop 2 file) (4 * i + j) 0 inside ∙ get_or-drop 2 file (4 * i + j) 0 ∙ ap (slice_index file) is

number_is : (bytes file : List ℕ) (j place : ℕ) → slice_index bytes j ≡ slice_index file place → slice_index bytes (j + 1) ≡ slice_index file (place + 1)
    → number_at bytes j ≡ number_at file place
number_is bytes file j place high low =
    ap (λ n. 256 * n + slice_index bytes (j + 1)) high ∙ ap (λ n. 256 * slice_index file place + n) low

pub pair_is : (file : List ℕ) (pairs : List (List ℕ)) (m k i : ℕ) (d : List ℕ) → pairs ≡ first_chunks 4 k (take m (drop 2 file)) → i < k → 4 * i + 3 < m
    → (number_at (get_or pairs i d) 0 ≡ offset_of file i) × (number_at (get_or pairs i d) 2 ≡ length_of file i)
pair_is file pairs m k i d are lt inside =
    let bytes = get_or (first_chunks 4 k (take m (drop 2 file))) i d in
    let at = pair_place i in
    rw are (
      number_is bytes file 0 at (pair_byte file m k i 0 at d lt (omega arith) (omega arith) (omega arith)) (pair_byte file m k i 1 (at + 1) d lt (omega arith) (omega arith) (omega arith)),
      number_is bytes file 2 (at + 2) (pair_byte file m k i 2 (at + 2) d lt (omega arith) (omega arith) (omega arith)) (pair_byte file m k i 3 (at + 2 + 1) d lt (omega arith) inside (omega arith)),
    )

-- what is found of a pair's two numbers is found of the pair
pub found_of : (file : List ℕ) (i offset len floor : ℕ) (found : Option OpeningFault) → offset ≡ offset_of file i → len ≡ length_of file i → floor ≡ earliest file i
    → fault_of offset len floor (length file) ≡ found → pair_fault file i ≡ found
found_of file i offset len floor found o l f is = rw (sym o, sym l, sym f) is
