-- What opening a file looks at, pair by pair.
use Rattle.std.proofs.Common.{◌≡◌, ℕ, zero, suc, ◌+◌, ◌-◌, ◌*◌, ◌<◌, ◌≤◌, true, false, cond, ◌&&◌, ◌||◌, eqb, ltb, leb, List, [], ◌∷◌, map, length, is_some, Some, None, Ok, Err, Option, Result, sym, refl, ap, ◌∙◌, subst, ⊎_elim, eq-or-lt_of_le, arith, MatchOption, MatchResult}
use Rattle.std.specs.Result.{IsErrAnd}
use borrow.Author.Tests.{false-ltb}
use Rattle.std.specs.List.{range_with_len}
use Rattle.std.proofs.lemmas.Bool.{cond-true, cond-false, cases_Bool, and_parts, and_from, leb-true, le-leb, lt-ltb, le-ltb, cases_lt}
use Rattle.runfile.specs.declared.fault.OpeningFault.{OpeningFault}
use Rattle.runfile.specs.declared.fault.OpeningFault.TheVariants.{NoTable}
use Rattle.runfile.specs.declared.fault.FileFault.{FileFault}
use Rattle.runfile.specs.Numbers.{opening_fault_at}
use Rattle.runfile.specs.Table.{count_of, pair_place, offset_of, length_of, end_of, earliest, has_table, pair_fault, spot, first_fault, opening_fault, Located, record_at, records_of, located}
use Rattle.runfile.specs.declared.reader.Found.{Found}
use Rattle.runfile.specs.Reader.{found_seen, left_of, Stands, Yields}

-- the pairs from i on decide: no fault came before
abbrev pub UpTo : List ℕ → ℕ → Type 0
UpTo file i = first_fault file (range_with_len 0 (count_of file)) ≡ first_fault file (range_with_len i (count_of file - i))

counting_more : (i n : ℕ) → i < n → range_with_len i (n - i) ≡ i ∷ range_with_len (i + 1) (n - (i + 1))
counting_more i n lt =
    let more : n - i ≡ suc (n - (i + 1)) = omega arith in
    ap (range_with_len i) more

-- the first fault by that of pair i: its own, or else that of the pairs behind it
abbrev by_pair : List ℕ → ℕ → List ℕ → Option OpeningFault → Option FileFault
by_pair file i pairs o = elim o [ Some f ↦ Some (opening_fault_at (spot i (pair_place i)) f) | None ↦ first_fault file pairs ]

pub passed : (file : List ℕ) (i : ℕ) → i < count_of file → pair_fault file i ≡ None → UpTo file i → UpTo file (i + 1)
passed file i lt fine so_far =
    so_far ∙ ap (first_fault file) (counting_more i (count_of file) lt)
    ∙ ap (by_pair file i (range_with_len (i + 1) (count_of file - (i + 1)))) fine

pub stopped : (file : List ℕ) (i : ℕ) (f : OpeningFault) → i < count_of file → has_table file ≡ true → pair_fault file i ≡ Some f → UpTo file i
    → opening_fault file ≡ Some (opening_fault_at (spot i (pair_place i)) f)
unfolding opening_fault
stopped file i f lt table is so_far =
    cond-true (has_table file) _ _ table ∙ so_far ∙ ap (first_fault file) (counting_more i (count_of file) lt)
    ∙ ap (by_pair file i (range_with_len (i + 1) (count_of file - (i + 1)))) is

pub no_table : (file : List ℕ) → has_table file ≡ false → opening_fault file ≡ Some (opening_fault_at (spot 0 0) NoTable)
unfolding opening_fault
no_table file none = cond-false (has_table file) _ _ none

pub all_passed : (file : List ℕ) (i : ℕ) → count_of file ≤ i → has_table file ≡ true → UpTo file i → opening_fault file ≡ None
unfolding opening_fault
all_passed file i past table so_far =
    let none : count_of file - i ≡ 0 = omega arith in
    cond-true (has_table file) _ _ table ∙ so_far ∙ ap (λ n. first_fault file (range_with_len i n)) none

-- ---- what a file that opens says of each pair

some_is_not_none : {A : Type 0} {x : A} → Some x ≡ None → ⊥
some_is_not_none e = cc

first_none : (file : List ℕ) (i : ℕ) (pairs : List ℕ) (o : Option OpeningFault) → pair_fault file i ≡ o → first_fault file (i ∷ pairs) ≡ None
    → (o ≡ None) × (first_fault file pairs ≡ None)
first_none file i pairs None is none =
    (refl, sym (ap (by_pair file i pairs) is) ∙ none)
first_none file i pairs (Some f) is none =
    absurd (some_is_not_none (sym (ap (by_pair file i pairs) is) ∙ none))

all_fine : (file : List ℕ) (a n i : ℕ) → first_fault file (range_with_len a n) ≡ None → a ≤ i → i < a + n → pair_fault file i ≡ None
all_fine file a zero i none low high = absurd (omega arith)
all_fine file a (suc n) i none low high =
    let both = first_none file a (range_with_len (a + 1) n) (pair_fault file a) refl none in
    ⊎_elim (λ e. subst (λ j. pair_fault file j ≡ None) e both.0) (λ lt. all_fine file (a + 1) n i both.1 (omega arith) (omega arith)) (eq-or-lt_of_le low)

-- a file that opens has its table, and every pair of it points into the file
pub opened_table : (file : List ℕ) → opening_fault file ≡ None → has_table file ≡ true
unfolding opening_fault
opened_table file none =
    ⊎_elim (λ e. e) (λ e. absurd (some_is_not_none (sym (cond-false (has_table file) _ _ e) ∙ none))) (cases_Bool (has_table file))

pub opened_pair : (file : List ℕ) (i : ℕ) → opening_fault file ≡ None → i < count_of file → pair_fault file i ≡ None
unfolding opening_fault
opened_pair file i none lt =
    all_fine file 0 (count_of file) i (sym (cond-true (has_table file) _ _ (opened_table file none)) ∙ none) (omega arith) (omega arith)

-- a pair without a fault points into the file
pub fine_inside : (file : List ℕ) (i : ℕ) → pair_fault file i ≡ None → end_of file i ≤ length file
fine_inside file i fine =
    let short = eqb (length_of file i) 0 || ltb (offset_of file i) (earliest file i) in
    let past = ltb (length file) (end_of file i) in
    ⊎_elim (λ e. absurd (some_is_not_none (sym (cond-true short _ _ e) ∙ fine)))
    (λ e. ⊎_elim (λ f. absurd (some_is_not_none (sym (cond-true past _ _ f) ∙ sym (cond-false short _ _ e) ∙ fine)))
    (λ f. omega (arith, false-ltb (length file) (end_of file i) (sym f))) (cases_Bool past)) (cases_Bool short)

-- the pair of a record that a file that opens has stands in it, and the record too
pub pair_inside : (file : List ℕ) (i : ℕ) → opening_fault file ≡ None → i < count_of file → 4 * i + 5 < length file
pair_inside file i none lt =
    let rest = (and_parts (leb (length file) 65535) _ (opened_table file none)).1 in
    let table : leb (pair_place (count_of file)) (length file) ≡ true = (and_parts (leb (count_of file) 1024) _ (and_parts (leb 2 (length file)) _ rest).1).1 in
    omega (arith, leb-true (pair_place (count_of file)) (length file) table)

pub record_inside : (file : List ℕ) (i : ℕ) → opening_fault file ≡ None → i < count_of file → (end_of file i ≤ length file) × (length file ≤ 65535)
record_inside file i none lt =
    (fine_inside file i (opened_pair file i none lt), leb-true (length file) 65535 (and_parts (leb (length file) 65535) _ (opened_table file none)).0)

pub opened_located : (file : List ℕ) (i : ℕ) → opening_fault file ≡ None → i < count_of file → located file i ≡ Some (record_at file i)
opened_located file i none lt =
    let table : leb (pair_place (count_of file)) (length file) ≡ true =
    (and_parts (leb (count_of file) 1024) _ (and_parts (leb 2 (length file)) _ (and_parts (leb (length file) 65535) _ (opened_table file none)).1).1).1 in
    cond-true (leb (pair_place i + 4) (length file) && leb (end_of file i) (length file)) _ _
    (and_from _ _ (le-leb (pair_place i + 4) (length file) (omega (arith, leb-true (pair_place (count_of file)) (length file) table))) (le-leb _ _ (fine_inside file i (opened_pair file i none lt))))

pub left_more : (file : List ℕ) (n : ℕ) → n < count_of file → left_of file n ≡ record_at file n ∷ left_of file (n + 1)
left_more file n lt = ap (map (record_at file)) (counting_more n (count_of file) lt)

pub left_none : (file : List ℕ) (n : ℕ) → count_of file ≤ n → left_of file n ≡ []
left_none file n past =
    let none : count_of file - n ≡ 0 = omega arith in
    ap (λ m. map (record_at file) (range_with_len n m)) none

-- before the first record all are left
pub all_left : (file : List ℕ) → left_of file 0 ≡ records_of file
all_left file = ap (λ n. map (record_at file) (range_with_len 0 n)) (let e : count_of file - 0 ≡ count_of file = omega arith in e)

pub earliest_next : (file : List ℕ) (i : ℕ) → earliest file (i + 1) ≡ end_of file i
earliest_next file i = ap (earliest file) (let e : i + 1 ≡ suc i = omega arith in e)

-- ---- the reader

pub seen_some : (o : Option Found) → is_some (found_seen o) ≡ is_some o
seen_some None = refl
seen_some (Some f) = refl

pub found_below : (lent : List ℕ) (next count : ℕ) (answer : Option Located) → next < count → answer ≡ located lent next
    → answer ≡ cond (ltb next count) (located lent next) None
found_below lent next count answer lt is = is ∙ sym (cond-true (ltb next count) _ _ (lt-ltb next count lt))

pub yields : (lent : List ℕ) (next count : ℕ) (answer : Option Located) → answer ≡ cond (ltb next count) (located lent next) None
    → (next' : ℕ) → next' ≡ cond (is_some answer) (next + 1) next → Yields lent next count answer lent next' count
yields lent next count answer found next' behind = record {
  found = found;
  over = refl;
  counted = refl;
  behind = behind;
  in_order = λ file n stands.
      let at : next ≡ n = stands.before in
      let all : count ≡ count_of file = stands.counted in
      ⊎_elim
      (λ lt.
      let here : answer ≡ Some (record_at file n) =
      found ∙ cond-true (ltb next count) _ _ (lt-ltb next count lt) ∙ ap (λ l. located l next) stands.over ∙ ap (located file) at
      ∙ opened_located file n stands.opens (omega arith) in
      let more : next' ≡ n + 1 = behind ∙ cond-true (is_some answer) _ _ (ap is_some here) ∙ ap (λ m. m + 1) at in
      subst (λ (o : Option Located). MatchOption o (left_of file n ≡ []) (λ f. (left_of file n ≡ f ∷ left_of file (n + 1)) × Stands file (n + 1) lent next' count)) (sym here)
      (left_more file n (omega arith), record { opens = stands.opens; over = stands.over; before = more; counted = all; within = omega arith }))
      (λ past.
      let none : answer ≡ None = found ∙ cond-false (ltb next count) _ _ (le-ltb next count past) in
      subst (λ (o : Option Located). MatchOption o (left_of file n ≡ []) (λ f. (left_of file n ≡ f ∷ left_of file (n + 1)) × Stands file (n + 1) lent next' count)) (sym none)
      (left_none file n (omega arith)))
      (cases_lt next count);
}

-- a reader that has records left answers the next one
pub one_found : (lent : List ℕ) (next count : ℕ) (f : Located) → opening_fault lent ≡ None → count ≡ count_of lent → next < count → f ≡ record_at lent next
    → (left_of lent next ≡ f ∷ left_of lent (next + 1)) × Yields lent next count (Some f) lent (next + 1) count
one_found lent next count f opens counted lt is =
    let here : Some f ≡ located lent next = ap Some is ∙ sym (opened_located lent next opens (omega arith)) in (
      left_more lent next (omega arith) ∙ ap (λ x. x ∷ left_of lent (next + 1)) (sym is),
      yields lent next count (Some f) (found_below lent next count (Some f) lt here) (next + 1) refl,
    )

-- ---- a fault that is told with its pair

-- what was checked, of a check whose fault was given its place
pub checked_ok : {A E F : Type 0} (Q : E → F → Type 0) (r : Result A E) (m : Result A F) (x : A) → MatchResult r (λ y. m ≡ Ok y) (λ e. IsErrAnd m (Q e)) → m ≡ Ok x → r ≡ Ok x
checked_ok Q (Ok y) m x told is = cc
checked_ok Q (Err e) (Ok y) x told is = absurd told
checked_ok Q (Err e) (Err f) x told is = cc

pub checked_err : {A E F : Type 0} (Q : E → F → Type 0) (r : Result A E) (m : Result A F) (f : F) → MatchResult r (λ y. m ≡ Ok y) (λ e. IsErrAnd m (Q e)) → m ≡ Err f
    → (e : E) × (r ≡ Err e) × Q e f
checked_err Q (Ok y) m f told is = cc
checked_err Q (Err e) (Ok y) f told is = absurd told
checked_err Q (Err e) (Err g) f told is = let same : g ≡ f = cc in (e, refl, subst (Q e) same told)
