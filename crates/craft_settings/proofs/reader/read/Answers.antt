use Rattle.craft_settings.specs.Document.{is_two}
use Rattle.craft_settings.proofs.Unique.{IsAnswerBy-from}
use Rattle.craft_settings.proofs.FirstLemmas.{IsFirstAnswer-from}
use Rattle.craft_settings.proofs.reader.read.Goals as goal

pub returns-clause-accepts : goal.returns-clause-accepts
returns-clause-accepts c = (IsAnswerBy-from is_two c.args.bytes.now c.read_file.result c.read_file.ensures.accepted c.read_file.ensures.fault).accepts

pub returns-clause-refuses : goal.returns-clause-refuses
returns-clause-refuses c = (IsAnswerBy-from is_two c.args.bytes.now c.read_file.result c.read_file.ensures.accepted c.read_file.ensures.fault).refuses

pub returns-clause-first_version : goal.returns-clause-first_version
returns-clause-first_version c = IsFirstAnswer-from c.args.bytes.now c.read_file.result c.read_file.ensures.accepted c.read_file.ensures.fault
