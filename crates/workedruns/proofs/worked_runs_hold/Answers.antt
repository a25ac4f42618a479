use Rattle.workedruns.proofs.WorkedRuns.{worked_runs}
use Rattle.workedruns.proofs.worked_runs_hold.Goals as goal

pub returns : goal.returns
returns c = worked_runs
