use Rattle.promises.proofs.Laws.{store_goes_on, no_other_cut_keeps, idle_cut_keeps, recall_goes_on, fail_mark_stays}
use Rattle.promises.proofs.readings_hold.Goals as goal

pub returns : goal.returns
returns c = record { store_goes_on = store_goes_on; no_other_cut_keeps = no_other_cut_keeps; idle_cut_keeps = idle_cut_keeps; recall_goes_on = recall_goes_on; fail_mark_stays = fail_mark_stays }
