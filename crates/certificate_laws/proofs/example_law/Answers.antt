use Rattle.certificate_laws.proofs.Example.{small-certificate}
use Rattle.certificate_laws.proofs.Faults.{limited-fault, late-fault, dominated-fault, worse-fault, short-fault, unended-fault}
use Rattle.certificate_laws.proofs.example_law.Goals as goal

pub returns-clause-certificate : goal.returns-clause-certificate
returns-clause-certificate c = small-certificate

pub returns-clause-limited : goal.returns-clause-limited
returns-clause-limited c = limited-fault

pub returns-clause-late : goal.returns-clause-late
returns-clause-late c = late-fault

pub returns-clause-dominated : goal.returns-clause-dominated
returns-clause-dominated c = dominated-fault

pub returns-clause-worse : goal.returns-clause-worse
returns-clause-worse c = worse-fault

pub returns-clause-short : goal.returns-clause-short
returns-clause-short c = short-fault

pub returns-clause-unended : goal.returns-clause-unended
returns-clause-unended c = unended-fault
