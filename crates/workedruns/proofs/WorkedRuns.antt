-- The worked values of the run files, by computation.
use Rattle.std.proofs.Common.{refl}
use lib.Count.{ones, ones_in}
use Rattle.std.specs.Fmt.{digits}
use Rattle.rules.specs.Step.{step}
use Rattle.runfile.specs.Table.{opening_fault}
use Rattle.workedruns.specs.WorkedRuns.{WorkedRuns}

pub worked_runs : WorkedRuns
unfolding step ones ones_in opening_fault digits
worked_runs = record {
  bytes_01h_02h_are_258 = refl;
  two_records_open = refl;
  they_are_read_in_order = refl;
  one_record_at_6_opens = refl;
  one_record_at_5_lies_in_the_table = refl;
  one_record_of_no_bytes_is_misplaced = refl;
  one_record_of_2_bytes_is_past_the_end = refl;
  five_records_and_nothing_else_have_no_table = refl;
  a_transfer_selects_sends_and_releases = refl;
  under_hold_its_bytes_are_held = refl;
  without_power_it_only_selects = refl;
  three_ticks_are_three = refl;
  without_power_one_tick_is_tried = refl;
  to_set_hold_is_no_call = refl;
  it_is_held_from_then_on = refl;
  hold_ends = refl;
  a_cut_leaves_hold = refl;
  a_line_of_a_transfer = refl;
  a_line_of_ticks = refl;
  a_line_of_refused_ticks = refl;
  a_line_of_a_refused_transfer = refl;
  a_line_of_an_unknown_letter = refl;
  a_line_of_a_misplaced_record = refl;
}
