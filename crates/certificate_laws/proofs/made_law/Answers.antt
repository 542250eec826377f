use Rattle.certificate_laws.proofs.Made.{made-certificate, made-once}
use Rattle.certificate_laws.proofs.made_law.Goals as goal

pub returns-clause-certificate : goal.returns-clause-certificate
returns-clause-certificate c = made-certificate

pub returns-clause-one : goal.returns-clause-one
returns-clause-one c = made-once
