use Rattle.vectors.proofs.ComparisonDisplay.fmt.Goals as goal

pub returns-clause-writes : goal.returns-clause-writes
returns-clause-writes g c = rw c.verdict-verdict.ensures at c.write.ensures.writes
