-- What the release of a whole frame comes to, by its sum and its page.
use Rattle.std.proofs.Common.{◌≡◌, ℕ, ◌+◌, ◌/◌, ◌%◌, Bool, true, false, cond, eqb, List, ◌++◌, length, Some, None, ap, ◌∙◌, ap₂, arith}
use native.Mathlib.Nat.{mod-mod}
use Rattle.std.proofs.lemmas.List.{length-take, length-drop}
use Rattle.std.proofs.lemmas.Bool.{cond-true, cond-false, ne_eqb}
use Rattle.crc.specs.Sum.{sum_of}
use Rattle.crc.specs.Transfer.{highest_first, page_sum}
use Rattle.refusal.specs.declared.Refusal.TheVariants.{Protected, WrongSum}
use Rattle.rules.specs.Kind.{Kind, page_protected}
use Rattle.rules.specs.State.{State, with_failed}
use Rattle.rules.specs.Frame.{is_right, frame_address, frame_place, frame_data, frame_sum}
use Rattle.rules.specs.Release.{Ended, refused, disabled, frame_ended}
use Rattle.rules.specs.Step.{marked}
use Rattle.rules.specs.Write.{accepted}
use Rattle.selection.proofs.Accepting.{is_open, put_marks}

-- the place and the test of a frame, from its parts
pub parts_are : (k : Kind) (bytes : List ℕ) (n size place worked sent : ℕ) (part : List ℕ) → n ≡ k.facts.address_bytes → size ≡ k.size
    → place ≡ frame_address k bytes % size → part ≡ frame_data k bytes → sent ≡ frame_sum k bytes → worked ≡ page_sum n size place part
    → (place ≡ frame_place k bytes) × (eqb worked sent ≡ is_right k bytes)
parts_are k bytes n size place worked sent part en es ep ed sum ew =
    let here : place ≡ frame_place k bytes = ep ∙ ap (λ z. frame_address k bytes % z) es in (
      here,
      ap₂ eqb
          (ew ∙ ap₂ (λ x y. page_sum x y place part) en es
          ∙ ap₂ (page_sum k.facts.address_bytes k.size) here ed
          ∙ ap (λ p. sum_of (highest_first k.facts.address_bytes p ++ frame_data k bytes)) (mod-mod (frame_address k bytes) k.size))
          sum,
    )

pub wrong_frame : (k : Kind) (s : State) (bytes : List ℕ) → is_right k bytes ≡ false → frame_ended k s bytes ≡ refused WrongSum (with_failed true (disabled s))
wrong_frame k s bytes wrong = cond-false (is_right k bytes) _ _ wrong

pub blocked_frame : (k : Kind) (s : State) (bytes : List ℕ) → is_right k bytes ≡ true → page_protected k s.status_bits (frame_place k bytes / 64) ≡ true
    → frame_ended k s bytes ≡ refused Protected (disabled s)
blocked_frame k s bytes right blocked = cond-true (is_right k bytes) _ _ right ∙ cond-true (page_protected k s.status_bits (frame_place k bytes / 64)) _ _ blocked

-- a right frame at an unprotected page
abbrev pub placed_frame : Kind → State → List ℕ → Ended
placed_frame k s bytes = record {
  refusal = None;
  state = with_failed false (disabled s);
  events = accepted k s.status_bits (frame_place k bytes / 64) (frame_place k bytes % 64) (frame_data k bytes);
}

pub open_frame : (k : Kind) (s : State) (bytes : List ℕ) → is_right k bytes ≡ true → None ≡ cond (page_protected k s.status_bits (frame_place k bytes / 64)) (Some Protected) None
    → frame_ended k s bytes ≡ placed_frame k s bytes
open_frame k s bytes right e =
    cond-true (is_right k bytes) _ _ right
    ∙ cond-false (page_protected k s.status_bits (frame_place k bytes / 64)) _ _ (is_open (page_protected k s.status_bits (frame_place k bytes / 64)) e)

pub frame_marks : (k : Kind) (s : State) (bytes : List ℕ) (w : Bool) → length bytes ≡ k.facts.address_bytes + 66 → None ≡ cond (page_protected k s.status_bits (frame_place k bytes / 64)) (Some Protected) None
    → true ≡ marked (placed_frame k s bytes).events w
frame_marks k s bytes w len e =
    let long : length (frame_data k bytes) ≡ 64 = simp (length-take, length-drop) (omega arith) in
    put_marks k s.status_bits (frame_place k bytes / 64) (frame_place k bytes % 64) (frame_data k bytes) w (ne_eqb (length (frame_data k bytes)) 0 (omega (arith, long))) e
