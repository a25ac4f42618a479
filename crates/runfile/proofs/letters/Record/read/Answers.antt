use Rattle.runfile.specs.Seen.{seen}
use Rattle.runfile.proofs.Written.{reads_back}
use Rattle.runfile.proofs.letters.Record.read.Goals as goal

pub returns : goal.returns
returns c = record { said = c.read_letter.ensures; exact = reads_back c.args.bytes.now (seen c.read_letter.result) c.read_letter.ensures }
