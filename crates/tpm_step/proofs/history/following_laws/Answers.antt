use Rattle.tpm_step.proofs.history.Following.{cycled_follows, execution_follows, manufactured_as_follows}
use Rattle.tpm_step.proofs.history.following_laws.Goals as goal

pub returns-clause-manufactured : goal.returns-clause-manufactured
returns-clause-manufactured c = manufactured_as_follows

pub returns-clause-executed : goal.returns-clause-executed
returns-clause-executed c = λ can old event x executes history follows. execution_follows can old
    event x history executes follows

pub returns-clause-cycled : goal.returns-clause-cycled
returns-clause-cycled c = cycled_follows
