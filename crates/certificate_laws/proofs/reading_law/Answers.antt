use Rattle.certificate_laws.proofs.Reading.{reads-certificate}
use Rattle.certificate_laws.proofs.Writing.{certificate-reads}
use Rattle.certificate_laws.proofs.reading_law.Goals as goal

pub returns-clause-read : goal.returns-clause-read
returns-clause-read c = certificate-reads

pub returns-clause-made : goal.returns-clause-made
returns-clause-made c = reads-certificate
