-- A reader of a run file: where it stands, and the records that it has left.
use Rattle.std.specs.Prelude.{◌≡◌, ℕ, ◌+◌, ◌-◌, ◌≤◌, cond, List, [], ◌∷◌, map, is_some, Some, None, Option, MatchOption, nat_lt}
use Rattle.std.specs.List.{range_with_len}
use Rattle.std.specs.Iterator.{YieldsFirstBy}
use Rattle.runfile.specs.declared.reader.Found.{Found}
use Rattle.runfile.specs.declared.reader.Reader.{Reader}
use Rattle.runfile.specs.Table.{count_of, opening_fault, Located, record_at, records_of, located}

-- a record that the code answers, with the bytes that its reference points to
abbrev pub record_seen : Found → Located
record_seen f = record { spot = f.spot; bytes = f.bytes.now }

-- the same of an answer, which may be none
abbrev pub found_seen : Option Found → Option Located
found_seen None = None
found_seen (Some f) = Some (record_seen f)

-- the records from one on
abbrev pub left_of : List ℕ → ℕ → List Located
left_of file next = map (record_at file) (range_with_len next (count_of file - next))

-- the records that a reader has left
abbrev pub left : Reader → List Located
left r = left_of r.file.now r.next

-- A reader of a file that opens stands before record n.
pub record Stands (file : List ℕ) (n : ℕ) (lent : List ℕ) (next count : ℕ) : Type 0 where
  pub opens : opening_fault file ≡ None
  pub over : lent ≡ file
  pub before : next ≡ n
  pub counted : count ≡ count_of file
  pub within : n ≤ count

-- The next record is answered if it is there, and then the reader stands behind it; and so a reader of a file that opens
-- answers exactly the records of the file, in order.
pub record Yields (lent : List ℕ) (next count : ℕ) (answer : Option Located) (lent' : List ℕ) (next' count' : ℕ) : Type 0 where
  pub found : answer ≡ cond (nat_lt next count) (located lent next) None
  pub over : lent' ≡ lent
  pub counted : count' ≡ count
  pub behind : next' ≡ cond (is_some answer) (next + 1) next
  pub in_order : (file : List ℕ) (n : ℕ) → Stands file n lent next count
      → MatchOption answer (left_of file n ≡ []) (λ f. (left_of file n ≡ f ∷ left_of file (n + 1)) × Stands file (n + 1) lent' next' count')

-- A file opens, and a reader of it stands before its first record: all of them are left.
pub record Opened (file : List ℕ) (reader : Reader) : Type 0 where
  pub opens : opening_fault file ≡ None
  pub over : reader.file.now ≡ file
  pub all : left reader ≡ records_of file
  pub stands : Stands file 0 reader.file.now reader.next reader.count

-- What asking for the next record comes to: it is the first of those that were left, or none is where none were, and the
-- reader is then over the same file, behind the record that it answered.
pub record Steps (r : Reader) (answer : Option Found) (r' : Reader) : Type 0 where
  pub first : YieldsFirstBy record_seen left r answer r'
  pub yields : Yields r.file.now r.next r.count (found_seen answer) r'.file.now r'.next r'.count
