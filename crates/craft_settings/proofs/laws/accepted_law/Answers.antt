use Rattle.craft_settings.proofs.Accepted.{accepted-exactly, fault-exactly}
use Rattle.craft_settings.proofs.laws.accepted_law.Goals as goal

pub returns-clause-accepted : goal.returns-clause-accepted
returns-clause-accepted c = accepted-exactly

pub returns-clause-refused : goal.returns-clause-refused
returns-clause-refused c = fault-exactly
