use Rattle.promises.proofs.Laws.{kept_is_pinned, working_is_pinned, waking_is_pinned}
use Rattle.promises.proofs.promises_pin_the_images.Goals as goal

pub returns : goal.returns
returns c = record { kept = kept_is_pinned; working = working_is_pinned; waking = waking_is_pinned }
