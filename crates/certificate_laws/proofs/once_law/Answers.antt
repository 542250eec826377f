use Rattle.std.proofs.Common.{◌∙◌, sym, ◌+◌, ap}
use Rattle.certificate_text.specs.Text.{line_end, parts}
use Rattle.certificate_laws.specs.Lines.{opening}
use Rattle.certificate_laws.proofs.Once.{reads-same, breaks-same, reads-or-breaks}
use Rattle.certificate_laws.proofs.Writing.{certificate-reads}
use Rattle.certificate_laws.proofs.once_law.Goals as goal

pub returns-clause-one : goal.returns-clause-one
returns-clause-one c = λ g bytes m n h k. reads-same g opening (parts line_end bytes) m n (certificate-reads g bytes m h) (certificate-reads g bytes n k)

pub returns-clause-fault : goal.returns-clause-fault
returns-clause-fault c = λ g bytes m n h k. h.1.0 ∙ ap (λ i. i + 1) (breaks-same g opening (parts line_end bytes) h.0 k.0 h.1.1 k.1.1) ∙ sym k.1.0

pub returns-clause-apart : goal.returns-clause-apart
returns-clause-apart c = λ g bytes m n h k. reads-or-breaks g opening (parts line_end bytes) m k.0 (certificate-reads g bytes m h) k.1.1
