use Rattle.promises.proofs.Carried.{store_keeps, recall_recalls, waking_recalls, release_of_a_write}
use Rattle.promises.proofs.carried_through.Goals as goal

pub returns : goal.returns
returns c = record { store = store_keeps; recall = recall_recalls; waking = waking_recalls; latch = release_of_a_write }
