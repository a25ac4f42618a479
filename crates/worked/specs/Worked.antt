-- Worked values, each found by hand: the sum, the dialects and the machine, as rows of one table.
use Rattle.std.specs.Prelude.{◌≡◌, ℕ, true, false, List, [], ◌∷◌, ◌++◌, replicate, Ok, Err}
use Rattle.cells.specs.Images.{Images, with_page}
use Rattle.crc.specs.Sum.{sum_of}
use Rattle.dialect.specs.Mr.{mr}
use Rattle.dialect.specs.Nv.{nv}
use Rattle.status.specs.Status.{mask_bits}
use Rattle.rules.specs.declared.Call.TheVariants.{Select, Cut, PowerUp}
use Rattle.rules.specs.State.{Event, put, keep, recall, fade, status}
use Rattle.rules.specs.Machine.{Changes}
use Rattle.worked.specs.Acts.{nv_256, call, ticks, send, transaction, state, answer, drive, story, awake, enable, store, ask_status, status_set, write, secure_write}

-- what the four ticks of a waking list
abbrev pub woken : List Event
woken = recall 0 ∷ recall 1 ∷ recall 2 ∷ recall 3 ∷ []

-- a frame for address 0 with the data 1Dh, 0Fh and 62 zeros, and its sum as sent
abbrev pub frame_with_sum : ℕ → ℕ → List ℕ
frame_with_sum high low = 0x00 ∷ 0x00 ∷ 0x1D ∷ 0x0F ∷ (replicate 62 0x00 ++ (high ∷ low ∷ []))

pub record WorkedValues : Type 0 where
  pub sum_over_no_bytes_is_FFFFh : sum_of [] ≡ 0xFFFF
  pub sum_over_FFh_FFh_is_0000h : sum_of (0xFF ∷ 0xFF ∷ []) ≡ 0x0000
  pub sum_over_00h_00h_is_1D0Fh : sum_of (0x00 ∷ 0x00 ∷ []) ≡ 0x1D0F
  -- 14h is level 5 at the top, 32,768 bytes; 34h is the same at the bottom.
  pub mr_of_131072_at_14h_protects_98304_to_131071 : mr.range 0x14 131072 ≡ (98304, 131072)
  pub mr_of_131072_at_34h_protects_0_to_32767 : mr.range 0x34 131072 ≡ (0, 32768)
  -- 08h is level 2, the upper half.
  pub nv_of_256_at_08h_protects_128_to_255 : nv.range 0x08 256 ≡ (128, 256)
  pub nv_makes_6Ch_of_status_FFh : mask_bits nv 0xFF ≡ 0x6C
  pub mr_makes_BCh_of_status_FFh : mask_bits mr 0xFF ≡ 0xBC
  -- R = 04h protects the upper quarter, 192 to 255.
  pub under_04h_a_write_at_191_is_done : answer nv_256 (awake ++ (status_set 0x04 ++ write 191 (0x5A ∷ []))) ≡ Ok 0
  pub under_04h_a_write_at_192_gets_14 : answer nv_256 (awake ++ (status_set 0x04 ++ write 192 (0x5A ∷ []))) ≡ Err 14
  -- 63 is the last offset of page 0: a write rolls over to offset 0, or runs on to page 1 if bit 5 of R is set.
  pub two_bytes_from_63_land_at_63_and_0 : story nv_256 (awake ++ write 63 (0x11 ∷ 0x22 ∷ [])) ≡ woken ++ (put 63 0x11 ∷ put 0 0x22 ∷ [])
  pub under_20h_two_bytes_from_63_land_at_63_and_64 :
      story nv_256 (awake ++ (status_set 0x20 ++ write 63 (0x11 ∷ 0x22 ∷ []))) ≡ woken ++ (put 63 0x11 ∷ put 64 0x22 ∷ [])
  -- The sum of 00h 00h is 1D0Fh, so the two bytes 1Dh 0Fh bring the register to 0, and zeros leave it there.
  pub frame_with_sum_0000h_is_right : answer nv_256 (awake ++ secure_write (frame_with_sum 0x00 0x00)) ≡ Ok 0
  pub frame_with_sum_0001h_gets_17 : answer nv_256 (awake ++ secure_write (frame_with_sum 0x00 0x01)) ≡ Err 17
  -- The fail mark shows as 10h; the release has cleared the latch, and the part is idle.
  pub status_is_then_10h :
      drive nv_256 (awake ++ (secure_write (frame_with_sum 0x00 0x01) ++ (call Select ∷ send (0x05 ∷ 0x00 ∷ []) ∷ []))) ≡ status 0x10
  -- A store, one tick and an uncharged cut: page 0 alone is kept, before the cells fade.
  pub store_tick_and_cut_keep_page_0 :
      story nv_256 (awake ++ (transaction 0 (0x3C ∷ []) ∷ ticks 1 ∷ call (Cut false) ∷ [])) ≡ woken ++ (keep 0 ∷ fade ∷ [])
  pub keep_0_and_fade_renew_page_0_of_the_kept_image_only :
      (i j : Images) → Changes nv_256 (keep 0 ∷ fade ∷ []) i j → j.kept ≡ with_page 0 i.working i.kept
  -- A charged cut two ticks into waking: two pages were recalled, and none is kept.
  pub cut_while_waking_keeps_nothing :
      story nv_256 (call PowerUp ∷ ticks 2 ∷ call (Cut true) ∷ []) ≡ recall 0 ∷ recall 1 ∷ fade ∷ []
  pub two_recalls_and_fade_leave_the_kept_image :
      (i j : Images) → Changes nv_256 (recall 0 ∷ recall 1 ∷ fade ∷ []) i j → j.kept ≡ i.kept
  -- A charged cut while idle keeps all four pages, lowest first, if something was written; R = 40h turns PowerStore off.
  pub charged_cut_behind_a_write_keeps_every_page :
      story nv_256 (awake ++ (write 16 (0x5A ∷ []) ++ (call (Cut true) ∷ [])))
      ≡ woken ++ (put 16 0x5A ∷ keep 0 ∷ keep 1 ∷ keep 2 ∷ keep 3 ∷ fade ∷ [])
  pub charged_cut_with_nothing_written_keeps_nothing : story nv_256 (awake ++ (call (Cut true) ∷ [])) ≡ woken ++ (fade ∷ [])
  pub under_40h_a_charged_cut_behind_a_write_keeps_nothing :
      story nv_256 (awake ++ (status_set 0x40 ++ (write 16 (0x5A ∷ []) ++ (call (Cut true) ∷ [])))) ≡ woken ++ (put 16 0x5A ∷ fade ∷ [])
  -- Of four pages three are to go behind the first tick.
  pub first_tick_of_a_waking_answers_3 : answer nv_256 (call PowerUp ∷ ticks 1 ∷ []) ≡ Ok 3
  pub first_tick_of_a_store_answers_3 : answer nv_256 (awake ++ (store ++ (ticks 1 ∷ []))) ≡ Ok 3
  pub first_tick_of_a_recall_answers_3 : answer nv_256 (awake ++ (transaction 0 (0x60 ∷ []) ∷ ticks 1 ∷ [])) ≡ Ok 3
  -- 11 is tried before 12, and 15 before 16.
  pub while_storing_an_unknown_opcode_gets_11 : answer nv_256 (awake ++ (store ++ (transaction 0 (0xFF ∷ []) ∷ []))) ≡ Err 11
  pub while_storing_a_write_without_enable_gets_11 :
      answer nv_256 (awake ++ (store ++ (transaction 0 (0x02 ∷ 0x00 ∷ 0x10 ∷ 0x5A ∷ []) ∷ []))) ≡ Err 11
  pub enable_with_a_byte_and_a_clock_too_many_gets_15 : answer nv_256 (awake ++ (transaction 1 (0x06 ∷ 0x00 ∷ []) ∷ [])) ≡ Err 15
  pub write_without_data_and_with_a_clock_left_over_gets_15 :
      answer nv_256 (awake ++ (enable ++ (transaction 1 (0x02 ∷ 0x00 ∷ 0x10 ∷ []) ∷ []))) ≡ Err 15
  -- The status shows 01h while the part is not idle, and 02h while the latch is set. Enable sets it; a read of the status or of data
  -- leaves it, and disable clears it.
  pub status_while_storing_is_01h : drive nv_256 (awake ++ (store ++ ask_status)) ≡ status 0x01
  pub status_while_recalling_is_01h : drive nv_256 (awake ++ (transaction 0 (0x60 ∷ []) ∷ ask_status)) ≡ status 0x01
  pub status_behind_enable_is_02h : drive nv_256 (awake ++ (enable ++ ask_status)) ≡ status 0x02
  pub status_behind_a_read_status_is_still_02h :
      drive nv_256 (awake ++ (enable ++ (transaction 0 (0x05 ∷ 0x00 ∷ []) ∷ ask_status))) ≡ status 0x02
  pub status_behind_a_read_is_still_02h :
      drive nv_256 (awake ++ (enable ++ (transaction 0 (0x03 ∷ 0x00 ∷ 0x10 ∷ 0x00 ∷ []) ∷ ask_status))) ≡ status 0x02
  pub status_behind_a_secure_read_is_still_02h :
      drive nv_256 (awake ++ (enable ++ (transaction 0 (0x13 ∷ 0x00 ∷ 0x10 ∷ 0x00 ∷ []) ∷ ask_status))) ≡ status 0x02
  pub status_behind_disable_is_00h : drive nv_256 (awake ++ (enable ++ (transaction 0 (0x04 ∷ []) ∷ ask_status))) ≡ status 0x00
  -- Of FFh a status write leaves 6Ch, and that outlasts the loss of power.
  pub status_bits_behind_FFh_are_6Ch : (state nv_256 (awake ++ status_set 0xFF)).status_bits ≡ 0x6C
  pub status_behind_a_cut_and_a_waking_is_6Ch :
      drive nv_256 (awake ++ (status_set 0xFF ++ (call (Cut false) ∷ (awake ++ ask_status)))) ≡ status 0x6C
