-- Calls served in turn, one more at a time.
use Rattle.std.proofs.Common.{◌≡◌, ℕ, ◌+◌, ◌<◌, Bool, List, [], ◌∷◌, ◌++◌, map, reverse, length, get_or, take, Ok, Err, Option, Result, sym, refl, ap, ◌∙◌, subst, ap₂, append_assoc, append-nil}
use mathlib.Core.List.{reverse-cons}
use Rattle.std.proofs.lemmas.List.{map-append, take_more}
use Rattle.refusal.specs.declared.Refusal.{Refusal}
use Rattle.dialect.specs.Facts.{Lawful}
use Rattle.cells.specs.Images.{Images}
use Rattle.rules.specs.declared.Call.{Call}
use Rattle.rules.specs.declared.Call.TheVariants.{Select, Byte, Release, Tick, Cut, PowerUp}
use Rattle.rules.specs.Machine.{Moment}
use Rattle.promises.specs.Served.{Whole, Led, Served, moment}
use Rattle.promises.proofs.Whole.{promises_hold}
use Rattle.runfile.specs.Letters.{Said, transfer, hold}
use Rattle.replay.specs.Ran.{if_done, calls_for, ServedInTurn, answer_behind, driven_at, driven_at_bytes, level_behind, Made, BenchState, Ran}

pub none_yet : (w : Whole) → Made [] w [] (Ok 0) w
none_yet w = record { moments = []; are = refl; served = refl; drove = refl; answers = refl }

served_more : (ms : List Moment) (w w' w'' : Whole) (c : Call) (a : Result ℕ Refusal) (d : Option ℕ) → ServedInTurn ms w w' → Served c w' a d w''
    → ServedInTurn (ms ++ (moment c a d w''.images ∷ [])) w w''
served_more [] w w' w'' c a d same served = subst (λ x. ServedInTurn (moment c a d w''.images ∷ []) x w'') same (w'', (served, (refl, refl)))
served_more (m ∷ ms) w w' w'' c a d (x, (first, (images, rest))) served = (x, (first, (images, served_more ms x w' w'' c a d rest served)))

driven_here : (c : Call) (d : Option ℕ) (xs ys : List (Option ℕ)) → driven_at c d (xs ++ ys) ≡ driven_at c d xs ++ ys
driven_here Select d xs ys = refl
driven_here (Byte b held) d xs ys = refl
driven_here (Release clocks) d xs ys = refl
driven_here Tick d xs ys = refl
driven_here (Cut charged) d xs ys = refl
driven_here PowerUp d xs ys = refl

driven_more : (ms : List Moment) (m : Moment) → driven_at_bytes (ms ++ (m ∷ [])) ≡ driven_at_bytes ms ++ driven_at m.call m.drove []
driven_more [] m = refl
driven_more (x ∷ ms) m = ap (driven_at x.call x.drove) (driven_more ms m) ∙ driven_here x.call x.drove (driven_at_bytes ms) _

answer_on : (a : Result ℕ Refusal) (ms ns : List Moment) → answer_behind (answer_behind a ms) ns ≡ answer_behind a (ms ++ ns)
answer_on a [] ns = refl
answer_on a (m ∷ ms) ns = answer_on m.answer ms ns

answer_more : (a : Result ℕ Refusal) (ms : List Moment) (m : Moment) → m.answer ≡ answer_behind a (ms ++ (m ∷ []))
answer_more a [] m = refl
answer_more a (x ∷ ms) m = answer_more x.answer ms m

pub one_more : {calls : List Call} {w w' w'' : Whole} {driven : List (Option ℕ)} {last : Result ℕ Refusal} {c : Call} {a : Result ℕ Refusal} {d : Option ℕ}
    → Made calls w driven last w' → Served c w' a d w'' → Made (calls ++ (c ∷ [])) w (driven ++ driven_at c d []) a w''
one_more {calls} {w} {w'} {w''} {driven} {last} {c} {a} {d} so_far served =
    let ms = so_far.moments in
    let m = moment c a d w''.images in record {
      moments = ms ++ (m ∷ []);
      are = map-append (λ (x : Moment). x.call) ms (m ∷ []) ∙ ap (λ (l : List Call). l ++ (c ∷ [])) so_far.are;
      served = served_more ms w w' w'' c a d so_far.served served;
      drove = ap (λ (l : List (Option ℕ)). l ++ driven_at c d []) so_far.drove ∙ sym (driven_more ms m);
      answers = answer_more (Ok 0) ms m;
    }

-- ---- everything promised holds behind them

turn_led : (ms : List Moment) (w w' : Whole) (first : Images) (before : List Moment) → ServedInTurn ms w w' → Led first before w → Led first (reverse ms ++ before) w'
turn_led [] w w' first before same led = subst (λ x. Led first before x) (sym same) led
turn_led (m ∷ ms) w w' first before (x, (served, (images, rest))) led =
    let now : Led first (m ∷ before) x =
    subst (λ i. Led first (moment m.call m.answer m.drove i ∷ before) x) (sym images) (served.history first before led).0 in
    subst (λ l. Led first l w') (sym (ap (λ (l : List Moment). l ++ before) (reverse-cons m ms) ∙ append_assoc (reverse ms) (m ∷ []) before))
    (turn_led ms x w' first (m ∷ before) rest now)

-- a record was run, if its calls were made
pub all_made : {calls : List Call} {driven : List (Option ℕ)} {last : Result ℕ Refusal} (s : Said) (before after : BenchState)
    → Lawful after.part.kind.facts → Made calls before.part driven last after.part
    → calls ≡ calls_for before.part.kind before.part.control before.held s → after.held ≡ level_behind before.held s → Ran s before last driven after
all_made {calls} {driven} {last} s before after law made are level = record {
  made = record { moments = made.moments; are = made.are ∙ are; served = made.served; drove = made.drove; answers = made.answers };
  level = level;
  promises = λ first earlier led.
      let led' = turn_led made.moments before.part after.part first earlier made.served led in
      (led', promises_hold after.part.kind law first (reverse made.moments ++ earlier) led'.run);
}

-- ---- calls behind calls

served_on : (ms ns : List Moment) (w w' w'' : Whole) → ServedInTurn ms w w' → ServedInTurn ns w' w'' → ServedInTurn (ms ++ ns) w w''
served_on [] ns w w' w'' same rest = subst (λ x. ServedInTurn ns x w'') same rest
served_on (m ∷ ms) ns w w' w'' (x, (first, (images, more))) rest = (x, (first, (images, served_on ms ns x w' w'' more rest)))

driven_on : (ms ns : List Moment) → driven_at_bytes (ms ++ ns) ≡ driven_at_bytes ms ++ driven_at_bytes ns
driven_on [] ns = refl
driven_on (m ∷ ms) ns = ap (driven_at m.call m.drove) (driven_on ms ns) ∙ driven_here m.call m.drove (driven_at_bytes ms) _

pub made_on : {calls more : List Call} {w w' w'' : Whole} {driven later : List (Option ℕ)} {last end : Result ℕ Refusal}
    → Made calls w driven last w' → (b : Made more w' later end w'') → Made (calls ++ more) w (driven ++ later) (answer_behind last b.moments) w''
made_on {calls} {more} {w} {w'} {w''} {driven} {later} {last} {end} a b = record {
  moments = a.moments ++ b.moments;
  are = map-append (λ (m : Moment). m.call) a.moments b.moments ∙ ap₂ (λ (x y : List Call). x ++ y) a.are b.are;
  served = served_on a.moments b.moments w w' w'' a.served b.served;
  drove = ap₂ (λ (x y : List (Option ℕ)). x ++ y) a.drove b.drove ∙ sym (driven_on a.moments b.moments);
  answers = ap (λ r. answer_behind r b.moments) a.answers ∙ answer_on (Ok 0) a.moments b.moments;
}

-- the bytes of a transfer, one more
byte_more : (held : Bool) (bytes : List ℕ) (i : ℕ) → i < length bytes
    → map (λ x. Byte x held) (take i bytes) ++ (Byte (get_or bytes i 0) held ∷ []) ≡ map (λ x. Byte x held) (take (i + 1) bytes)
byte_more held bytes i lt =
    sym (map-append (λ x. Byte x held) (take i bytes) (get_or bytes i 0 ∷ [])) ∙ ap (map (λ x. Byte x held)) (sym (take_more bytes i 0 lt))

pub byte_made : {w w' w'' : Whole} {driven later : List (Option ℕ)} {last a : Result ℕ Refusal} {d : Option ℕ} (held : Bool) (bytes : List ℕ) (i : ℕ) → i < length bytes
    → Made (map (λ x. Byte x held) (take i bytes)) w driven last w' → Served (Byte (get_or bytes i 0) held) w' a d w'' → later ≡ driven ++ (d ∷ [])
    → Made (map (λ x. Byte x held) (take (i + 1) bytes)) w later a w''
byte_made {w} {w'} {w''} {driven} {later} {last} {a} {d} held bytes i lt made served is =
    subst (λ (l : List (Option ℕ)). Made (map (λ x. Byte x held) (take (i + 1) bytes)) w l a w'') (sym is)
    (subst (λ (l : List Call). Made l w (driven ++ (d ∷ [])) a w'') (byte_more held bytes i lt) (one_more made served))

-- a transfer whose select was done
pub transferred : {w w' : Whole} {n : ℕ} {d : Option ℕ} (held : Bool) (clocks : ℕ) (bytes : List ℕ) → Served Select w (Ok n) d w'
    → Select ∷ (map (λ b. Byte b held) bytes ++ (Release clocks ∷ [])) ≡ calls_for w.kind w.control held (transfer clocks bytes)
transferred {w} {w'} {n} {d} held clocks bytes served =
    ap (λ (a : Result ℕ Refusal). Select ∷ if_done a (map (λ b. Byte b held) bytes ++ (Release clocks ∷ []))) served.obeys.answer

-- and one whose select was refused
pub not_transferred : {w w' : Whole} {r : Refusal} {d : Option ℕ} (held : Bool) (clocks : ℕ) (bytes : List ℕ) → Served Select w (Err r) d w'
    → Select ∷ [] ≡ calls_for w.kind w.control held (transfer clocks bytes)
not_transferred {w} {w'} {r} {d} held clocks bytes served =
    ap (λ (a : Result ℕ Refusal). Select ∷ if_done a (map (λ b. Byte b held) bytes ++ (Release clocks ∷ []))) served.obeys.answer

pub transfer_run : {w₁ w₂ : Whole} {n : ℕ} {d e : Option ℕ} {driven : List (Option ℕ)} {a : Result ℕ Refusal} (clocks : ℕ) (bytes : List ℕ) (before after : BenchState)
    → Lawful after.part.kind.facts → Served Select before.part (Ok n) d w₁
    → ((last : Result ℕ Refusal) × Made (map (λ b. Byte b before.held) bytes) w₁ driven last w₂)
    → Served (Release clocks) w₂ a e after.part → after.held ≡ before.held → Ran (transfer clocks bytes) before a driven after
transfer_run {w₁} {w₂} {n} {d} {e} {driven} {a} clocks bytes before after law selected sent released level =
    all_made (transfer clocks bytes) before after law
    (subst (λ (l : List (Option ℕ)). Made (Select ∷ (map (λ b. Byte b before.held) bytes ++ (Release clocks ∷ []))) before.part l a after.part) (append-nil driven)
    (one_more (made_on (one_more (none_yet before.part) selected) sent.1) released))
    (transferred before.held clocks bytes selected) level

pub refused_run : {r : Refusal} {d : Option ℕ} (clocks : ℕ) (bytes : List ℕ) (before after : BenchState)
    → Lawful after.part.kind.facts → Served Select before.part (Err r) d after.part → after.held ≡ before.held → Ran (transfer clocks bytes) before (Err r) [] after
refused_run {r} {d} clocks bytes before after law refused level =
    all_made (transfer clocks bytes) before after law (one_more (none_yet before.part) refused) (not_transferred before.held clocks bytes refused) level

-- records of one call or none
pub call_run : {c : Call} {a : Result ℕ Refusal} {d : Option ℕ} (s : Said) (before after : BenchState) → Lawful after.part.kind.facts
    → Served c before.part a d after.part → c ∷ [] ≡ calls_for before.part.kind before.part.control before.held s → driven_at c d [] ≡ []
    → after.held ≡ level_behind before.held s → Ran s before a [] after
call_run {c} {a} {d} s before after law served are silent level =
    all_made s before after law (subst (λ (l : List (Option ℕ)). Made (c ∷ []) before.part l a after.part) silent (one_more (none_yet before.part) served)) are level

pub hold_run : (level : Bool) (before after : BenchState) → Lawful after.part.kind.facts → after.part ≡ before.part → after.held ≡ level → Ran (hold level) before (Ok 0) [] after
hold_run level before after law still is =
    all_made (hold level) before after law (subst (Made [] before.part [] (Ok 0)) (sym still) (none_yet before.part)) refl is
