-- Records run in turn, one more at a time.
use Rattle.std.proofs.Common.{◌≡◌, ℕ, ◌+◌, ◌≤◌, true, List, [], ◌∷◌, ◌++◌, reverse, is_some, is_ok, Some, None, Ok, Err, Option, Result, sym, refl, ap, ◌∙◌, subst, ap₂, inr, ⊎_elim, append_assoc, append-nil, MatchResult}
use Rattle.std.specs.Result.{IsErrAnd}
use Rattle.std.proofs.lemmas.Bool.{both_ways}
use Rattle.dialect.specs.Facts.{Lawful}
use Rattle.cells.specs.Images.{Images}
use Rattle.rules.specs.Machine.{Moment}
use Rattle.promises.specs.Served.{Led}
use Rattle.promises.proofs.Whole.{promises_hold}
use Rattle.runfile.specs.declared.fault.RecordFault.{RecordFault}
use Rattle.runfile.specs.declared.fault.FileFault.{FileFault}
use Rattle.runfile.specs.declared.fault.Spot.{Spot}
use Rattle.runfile.specs.Numbers.{record_fault_at}
use Rattle.runfile.specs.Letters.{Said, said}
use Rattle.runfile.specs.Table.{Located, opening_fault, records_of}
use Rattle.benchlines.specs.Lines.{opening_text}
use Rattle.replay.specs.Ran.{BenchState, RanSaid, RanRecord}
use Rattle.replay.specs.Played.{Came, in_file, line_of, lines_of, RanInTurn, RanRecords, PlayedBy, Played, PlayedInPart, RanLocated, RanOrNot}

-- ---- one record more

ran_more : (found : List Located) (came : List Came) (f : Located) (x : Came) (a b c : BenchState) → RanInTurn found a came b
    → RanRecord f.bytes b x.outcome x.driven c → RanInTurn (found ++ (f ∷ [])) a (came ++ (x ∷ [])) c
ran_more [] [] f x a b c same ran = (c, (subst (λ s. RanRecord f.bytes s x.outcome x.driven c) same ran, refl))
ran_more [] (y ∷ came) f x a b c none ran = absurd none
ran_more (g ∷ found) [] f x a b c none ran = absurd none
ran_more (g ∷ found) (y ∷ came) f x a b c (s, (first, rest)) ran = (s, (first, ran_more found came f x s b c rest ran))

lines_more : (found : List Located) (came : List Came) (f : Located) (x : Came) (a b : BenchState) → RanInTurn found a came b
    → lines_of (found ++ (f ∷ [])) (came ++ (x ∷ [])) ≡ lines_of found came ++ line_of f x
lines_more [] [] f x a b ran = append-nil (line_of f x)
lines_more [] (y ∷ came) f x a b none = absurd none
lines_more (g ∷ found) [] f x a b none = absurd none
lines_more (g ∷ found) (y ∷ came) f x a b (s, (first, rest)) =
    ap (λ (l : List ℕ). line_of g y ++ l) (lines_more found came f x s b rest) ∙ sym (append_assoc (line_of g y) (lines_of found came) (line_of f x))

-- ---- everything promised holds behind them

abbrev OnTo : BenchState → BenchState → Type 0
OnTo a b = (first : Images) (earlier : List Moment) → Led first earlier a.part → (more : List Moment) × Led first (more ++ earlier) b.part

same_onto : (a b : BenchState) → b ≡ a → OnTo a b
same_onto a b same first earlier led = ([], subst (λ (s : BenchState). Led first earlier s.part) (sym same) led)

said_onto : (s : Result Said RecordFault) (a b : BenchState) (x : Came) → RanSaid s a x.outcome x.driven b → OnTo a b
said_onto (Ok s) a b x (r, (is, ran)) first earlier led = (reverse ran.made.moments, (ran.promises first earlier led).0)
said_onto (Err f) a b x (is, still) first earlier led = same_onto a b still.same first earlier led

turn_onto : (found : List Located) (came : List Came) (a b : BenchState) → RanInTurn found a came b → OnTo a b
turn_onto [] [] a b same first earlier led = same_onto a b same first earlier led
turn_onto [] (x ∷ came) a b none first earlier led = absurd none
turn_onto (f ∷ found) [] a b none first earlier led = absurd none
turn_onto (f ∷ found) (x ∷ came) a b (s, (ran, rest)) first earlier led =
    let one = said_onto (said f.bytes) a s x ran first earlier led in
    let all = turn_onto found came s b rest first (one.0 ++ earlier) one.1 in
    (all.0 ++ one.0, subst (λ l. Led first l b.part) (sym (append_assoc all.0 one.0 earlier)) all.1)

pub none_run : (s : BenchState) → Lawful s.part.kind.facts → RanRecords [] s [] s
none_run s law = record {
  came = [];
  ran = refl;
  lines = refl;
  promises = λ first earlier led. ([], (led, promises_hold s.part.kind law first earlier led.run));
}

pub one_run : {found : List Located} (f : Located) {a b c : BenchState} {text line : List ℕ} → Lawful c.part.kind.facts
    → RanRecords found a text b → RanLocated f b line c → RanRecords (found ++ (f ∷ [])) a (text ++ line) c
one_run {found} f {a} {b} {c} {text} {line} law so_far (x, (ran, is)) =
    let all = ran_more found so_far.came f x a b c so_far.ran ran in record {
      came = so_far.came ++ (x ∷ []);
      ran = all;
      lines = ap₂ (λ (l m : List ℕ). l ++ m) so_far.lines is ∙ sym (lines_more found so_far.came f x a b so_far.ran);
      promises = λ first earlier led.
          let on = turn_onto (found ++ (f ∷ [])) (so_far.came ++ (x ∷ [])) a c all first earlier led in
          (on.0, (on.1, promises_hold c.part.kind law first (on.0 ++ earlier) on.1.run));
    }

-- ---- the records of a file, so far

-- records were run, and their lines added to a text
pub record Added (found : List Located) (a : BenchState) (was now : List ℕ) (b : BenchState) : Type 0 where
  pub text : List ℕ
  pub added : now ≡ was ++ text
  pub ran : RanRecords found a text b

pub none_added : (s : BenchState) (was : List ℕ) → Lawful s.part.kind.facts → Added [] s was was s
none_added s was law = record { text = []; added = sym (append-nil was); ran = none_run s law }

pub one_added : {found : List Located} {was now : List ℕ} (f : Located) (now' : List ℕ) {a b c : BenchState} → Lawful c.part.kind.facts
    → Added found a was now b → ((line : List ℕ) × ((now' ≡ now ++ line) × RanLocated f b line c)) → Added (found ++ (f ∷ [])) a was now' c
one_added {found} {was} {now} f now' law so_far (line, (add, ran)) = record {
  text = so_far.text ++ line;
  added = add ∙ ap (λ (l : List ℕ). l ++ line) so_far.added ∙ append_assoc was so_far.text line;
  ran = one_run f law so_far.ran ran;
}

-- no record is left
pub to_end : (file : List ℕ) {was now : List ℕ} {found : List Located} {a b : BenchState} → opening_fault file ≡ None → records_of file ≡ found → Added found a was now b
    → (text : List ℕ) × ((now ≡ was ++ text) × Played file a text b)
to_end file {was} {now} {found} {a} {b} opens all so_far = (
  so_far.text,
  (
    so_far.added,
    subst (λ (o : Option FileFault). PlayedBy o file a so_far.text b) (sym opens)
        (subst (λ (l : List Located). RanRecords l a so_far.text b) (sym all) so_far.ran),
  ),
)

-- memory ran out at the next record
pub in_part : (file : List ℕ) {was now : List ℕ} {found : List Located} (later : List Located) (f : Located) {a b c : BenchState} → Lawful c.part.kind.facts
    → records_of file ≡ found ++ (f ∷ later) → Added found a was now b → RanOrNot f b c → PlayedInPart file a c
in_part file {was} {now} {found} later f {a} {b} {c} law split so_far =
    ⊎_elim
    (λ still. record {
      found = found;
      later = f ∷ later;
      split = split;
      text = so_far.text;
      ran = subst (λ s. RanRecords found a so_far.text s) (sym still) so_far.ran;
    })
    (λ ran. record {
      found = found ++ (f ∷ []);
      later = later;
      split = split ∙ sym (append_assoc found (f ∷ []) later);
      text = so_far.text ++ ran.0;
      ran = one_run f law so_far.ran ran.1;
    })

-- a file that does not open
pub not_opened : {E : Type 0} (r : Result (Unit {0}) E) (file was now : List ℕ) (f : FileFault) (s : BenchState) → Lawful s.part.kind.facts → opening_fault file ≡ Some f
    → MatchResult r (λ _. now ≡ was ++ opening_text f) (λ _. now ≡ was)
    → MatchResult r (λ _. (text : List ℕ) × ((now ≡ was ++ text) × Played file s text s)) (λ _. PlayedInPart file s s)
not_opened (Ok x) file was now f s law is added =
    (opening_text f, (added, subst (λ (o : Option FileFault). PlayedBy o file s (opening_text f) s) (sym is) (refl, refl)))
not_opened (Err e) file was now f s law is added =
    record { found = []; later = records_of file; split = refl; text = []; ran = none_run s law }

-- a record's result whose fault was given the record's place
pub placed : (Q : RecordFault → FileFault → Type 0) (spot : Spot) (r : Result ℕ RecordFault) (m : Result ℕ FileFault)
    → MatchResult r (λ n. m ≡ Ok n) (λ e. IsErrAnd m (Q e)) → ((e : RecordFault) (f : FileFault) → Q e f → f ≡ record_fault_at spot e) → m ≡ in_file spot r
placed Q spot (Ok n) m told at = told
placed Q spot (Err e) (Ok n) told at = absurd told
placed Q spot (Err e) (Err f) told at = ap Err (at e f told)

-- a record was run, and its line added or not
pub located_ran : {E : Type 0} (r : Result (Unit {0}) E) (f : Located) (x : Came) (was now : List ℕ) (a b : BenchState) (line : List ℕ)
    → RanRecord f.bytes a x.outcome x.driven b → line ≡ line_of f x → MatchResult r (λ _. now ≡ was ++ line) (λ _. now ≡ was)
    → MatchResult r (λ _. (text : List ℕ) × ((now ≡ was ++ text) × RanLocated f a text b)) (λ _. RanOrNot f a b)
located_ran (Ok y) f x was now a b line ran is added = (line, (added, (x, (ran, is))))
located_ran (Err e) f x was now a b line ran is added = inr (line_of f x, (x, (ran, refl)))

-- a file that opens has no opening fault to tell
pub nothing_to_tell : {E : Type 0} (r : Result (Unit {0}) E) (file : List ℕ) (was room : ℕ) → opening_fault file ≡ None → is_some (opening_fault file) ≡ true → was + 44 ≤ room → is_ok r ≡ true
nothing_to_tell r file was room opens some fits = absurd (both_ways (is_some (opening_fault file)) (ap is_some opens) some)
