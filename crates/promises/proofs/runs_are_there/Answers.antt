use Rattle.promises.proofs.Runs.{runs_exist, frames_are_sent}
use Rattle.promises.proofs.runs_are_there.Goals as goal

pub returns : goal.returns
returns c = record { run = runs_exist; frame = frames_are_sent }
