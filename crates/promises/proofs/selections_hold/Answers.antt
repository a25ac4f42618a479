use Rattle.promises.proofs.Onward.{direct_goes_on, paged_goes_on}
use Rattle.promises.proofs.Selections.{reads_on, secure_reads, rolls_over, frame_fills, wrong_frame_marks}
use Rattle.promises.proofs.selections_hold.Goals as goal

pub returns : goal.returns
returns c = record { read = reads_on; secure_read = secure_reads; rolled_write = rolls_over; direct_write = direct_goes_on; run_on_write = paged_goes_on; right_frame = frame_fills; wrong_frame = wrong_frame_marks }
