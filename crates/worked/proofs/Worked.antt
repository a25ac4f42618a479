-- The worked values, by computation.
use Rattle.std.proofs.Common.{refl, ap, ◌∙◌}
use mathlib.Core.Bool.{xor}
use lib.Count.{ones, ones_in}
use Rattle.cells.specs.Images.{Images}
use Rattle.crc.specs.Sum.{step as sum_step, after_message}
use Rattle.rules.specs.Step.{step}
use Rattle.worked.specs.Worked.{WorkedValues}

pub worked : WorkedValues
unfolding step ones ones_in sum_step after_message xor
worked = record {
  sum_over_no_bytes_is_FFFFh = refl;
  sum_over_FFh_FFh_is_0000h = refl;
  sum_over_00h_00h_is_1D0Fh = refl;
  mr_of_131072_at_14h_protects_98304_to_131071 = refl;
  mr_of_131072_at_34h_protects_0_to_32767 = refl;
  nv_of_256_at_08h_protects_128_to_255 = refl;
  nv_makes_6Ch_of_status_FFh = refl;
  mr_makes_BCh_of_status_FFh = refl;
  under_04h_a_write_at_191_is_done = refl;
  under_04h_a_write_at_192_gets_14 = refl;
  two_bytes_from_63_land_at_63_and_0 = refl;
  under_20h_two_bytes_from_63_land_at_63_and_64 = refl;
  frame_with_sum_0000h_is_right = refl;
  frame_with_sum_0001h_gets_17 = refl;
  status_is_then_10h = refl;
  store_tick_and_cut_keep_page_0 = refl;
  keep_0_and_fade_renew_page_0_of_the_kept_image_only = λ i j c.
      ap (λ (x : Images). x.kept) c.1.1.1.1 ∙ c.1.1.1.0.0 ∙ ap (λ (x : Images). x.kept) c.1.0;
  cut_while_waking_keeps_nothing = refl;
  two_recalls_and_fade_leave_the_kept_image = λ i j c.
      ap (λ (x : Images). x.kept) c.1.1.1.1.1.1 ∙ c.1.1.1.1.1.0.0
      ∙ ap (λ (x : Images). x.kept) c.1.1.1.0 ∙ ap (λ (x : Images). x.kept) c.1.0;
  charged_cut_behind_a_write_keeps_every_page = refl;
  charged_cut_with_nothing_written_keeps_nothing = refl;
  under_40h_a_charged_cut_behind_a_write_keeps_nothing = refl;
  first_tick_of_a_waking_answers_3 = refl;
  first_tick_of_a_store_answers_3 = refl;
  first_tick_of_a_recall_answers_3 = refl;
  while_storing_an_unknown_opcode_gets_11 = refl;
  while_storing_a_write_without_enable_gets_11 = refl;
  enable_with_a_byte_and_a_clock_too_many_gets_15 = refl;
  write_without_data_and_with_a_clock_left_over_gets_15 = refl;
  status_while_storing_is_01h = refl;
  status_while_recalling_is_01h = refl;
  status_behind_enable_is_02h = refl;
  status_behind_a_read_status_is_still_02h = refl;
  status_behind_a_read_is_still_02h = refl;
  status_behind_a_secure_read_is_still_02h = refl;
  status_behind_disable_is_00h = refl;
  status_bits_behind_FFh_are_6Ch = refl;
  status_behind_a_cut_and_a_waking_is_6Ch = refl;
}
