use Rattle.lasting.proofs.Both.{kept, recalled}
use Rattle.lasting.proofs.Lasting.find_page.Goals as goal

pub returns-clause-kept : goal.returns-clause-kept
returns-clause-kept c = kept c.args.self.now.bytes.now c.args.page

pub returns-clause-recalled : goal.returns-clause-recalled
returns-clause-recalled c = recalled c.args.self.now.bytes.now c.args.page
