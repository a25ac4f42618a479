-- Worked values of the run files, each found by hand: the table, the calls of a record and the printed lines.
use Rattle.std.specs.Prelude.{◌≡◌, ℕ, true, false, List, [], ◌∷◌, ◌++◌, Some, None, Ok, Err, codes}
use Rattle.refusal.specs.declared.Refusal.TheVariants.{PowerOff, WrongLength}
use Rattle.rules.specs.declared.Call.TheVariants.{Select, Byte, Release, Tick}
use Rattle.rules.specs.State.{made}
use Rattle.worked.specs.Acts.{nv_256, state, awake}
use Rattle.runfile.specs.declared.fault.OpeningFault.TheVariants.{NoTable, Misplaced, PastEnd}
use Rattle.runfile.specs.declared.fault.RecordFault.TheVariants.{UnknownLetter, Refused}
use Rattle.runfile.specs.declared.letters.Letter.TheVariants.{T, K, Unknown}
use Rattle.runfile.specs.Numbers.{opening_fault_at, record_fault_at}
use Rattle.runfile.specs.Table.{number_at, spot, opening_fault, records_of}
use Rattle.runfile.specs.Letters.{transfer, ticks, cut, hold}
use Rattle.benchlines.specs.Lines.{line_text, opening_text}
use Rattle.replay.specs.Ran.{calls_for, level_behind}

-- Two records behind a table of 10 bytes: P at place 10, and K with 4 ticks at place 11.
abbrev pub two_records : List ℕ
two_records = 0x00 ∷ 0x02 ∷ 0x00 ∷ 0x0A ∷ 0x00 ∷ 0x01 ∷ 0x00 ∷ 0x0B ∷ 0x00 ∷ 0x02 ∷ 0x50 ∷ 0x4B ∷ 0x04 ∷ []

-- One record, of which the pair says that it starts at this place and has so many bytes; the table ends at place 6.
abbrev pub one_record : ℕ → ℕ → List ℕ
one_record place length = 0x00 ∷ 0x01 ∷ 0x00 ∷ place ∷ 0x00 ∷ length ∷ 0x50 ∷ []

pub record WorkedRuns : Type 0 where
  -- ---- the table
  pub bytes_01h_02h_are_258 : number_at (0x01 ∷ 0x02 ∷ []) 0 ≡ 258
  pub two_records_open : opening_fault two_records ≡ None
  pub they_are_read_in_order :
      records_of two_records ≡ record { spot = spot 0 10; bytes = 0x50 ∷ [] } ∷ record { spot = spot 1 11; bytes = 0x4B ∷ 0x04 ∷ [] } ∷ []
  pub one_record_at_6_opens : opening_fault (one_record 6 1) ≡ None
  pub one_record_at_5_lies_in_the_table : opening_fault (one_record 5 1) ≡ Some (opening_fault_at (spot 0 2) Misplaced)
  pub one_record_of_no_bytes_is_misplaced : opening_fault (one_record 6 0) ≡ Some (opening_fault_at (spot 0 2) Misplaced)
  pub one_record_of_2_bytes_is_past_the_end : opening_fault (one_record 6 2) ≡ Some (opening_fault_at (spot 0 2) PastEnd)
  pub five_records_and_nothing_else_have_no_table : opening_fault (0x00 ∷ 0x05 ∷ []) ≡ Some (opening_fault_at (spot 0 0) NoTable)
  -- ---- the calls of a record
  pub a_transfer_selects_sends_and_releases :
      calls_for nv_256 (state nv_256 awake) false (transfer 1 (0x05 ∷ 0x00 ∷ [])) ≡ Select ∷ Byte 0x05 false ∷ Byte 0x00 false ∷ Release 1 ∷ []
  pub under_hold_its_bytes_are_held : calls_for nv_256 (state nv_256 awake) true (transfer 0 (0x06 ∷ [])) ≡ Select ∷ Byte 0x06 true ∷ Release 0 ∷ []
  pub without_power_it_only_selects : calls_for nv_256 made false (transfer 0 (0x06 ∷ [])) ≡ Select ∷ []
  pub three_ticks_are_three : calls_for nv_256 (state nv_256 awake) false (ticks 3) ≡ Tick ∷ Tick ∷ Tick ∷ []
  pub without_power_one_tick_is_tried : calls_for nv_256 made false (ticks 3) ≡ Tick ∷ []
  pub to_set_hold_is_no_call : calls_for nv_256 made false (hold true) ≡ []
  pub it_is_held_from_then_on : level_behind false (hold true) ≡ true
  pub hold_ends : level_behind true (hold false) ≡ false
  pub a_cut_leaves_hold : level_behind true (cut true) ≡ true
  -- ---- the printed lines
  pub a_line_of_a_transfer : line_text 4 T (Ok 0) (None ∷ None ∷ None ∷ Some 0x5A ∷ []) ≡ codes "4 T 0 -- -- -- 5A" ++ (10 ∷ [])
  pub a_line_of_ticks : line_text 12 K (Ok 3) [] ≡ codes "12 K 0 3" ++ (10 ∷ [])
  pub a_line_of_refused_ticks : line_text 0 K (Err (record_fault_at (spot 0 6) (Refused PowerOff))) [] ≡ codes "0 K 2" ++ (10 ∷ [])
  pub a_line_of_a_refused_transfer :
      line_text 11 T (Err (record_fault_at (spot 11 99) (Refused WrongLength))) (None ∷ None ∷ []) ≡ codes "11 T 15 -- --" ++ (10 ∷ [])
  pub a_line_of_an_unknown_letter : line_text 31 Unknown (Err (record_fault_at (spot 31 200) UnknownLetter)) [] ≡ codes "31 ? 34" ++ (10 ∷ [])
  pub a_line_of_a_misplaced_record : opening_text (opening_fault_at (spot 1 6) Misplaced) ≡ codes "F 32 6" ++ (10 ∷ [])
