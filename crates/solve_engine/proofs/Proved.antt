-- Inputs of settings and a certificate.
use Rattle.std.proofs.Common.{◌≤◌, ℕ, List, Option, Result, Ok, Err, IfErr, IfOk, length, inr, sym, subst}
use Rattle.run_io.specs.Halts.{IsIn}
use Rattle.run_io.specs.Statuses.{IsResult}
use Rattle.run_io.specs.declared.answer.Answer.{Answer}
use Rattle.run_io.specs.declared.halt.Halt.{Halt}
use Rattle.run_io.specs.declared.status.Status.{Status}
use Rattle.run_io.specs.declared.status.Status.TheVariants.{Solved, NoMacro, BadWords, BadSettings, ReadFault, WriteFault, WantMemory, BadPrefix, NotReached, BadMacro, StoppedMacro, NotBest, BadCertificate}
use Rattle.solve_engine.specs.Input.{AreParts}
use Rattle.solve_engine.specs.Verify.{Proof, ProofParts, RefusesProof, IsAccepted, IsHaltOfProof, VerifyAnswers}
use Rattle.front_check.specs.declared.checker.TheConstants.{MOST_TEXT}
use Rattle.solve_engine.proofs.Inputs.{halt_in}

-- a certificate is accepted only in an input that isn't too long
pub short_proof : (input : List ℕ) (s : Status) (text : List ℕ) → IsResult s → VerifyAnswers input s text → length input ≤ MOST_TEXT
short_proof input Solved text result row = row.0.parts.few
short_proof input NoMacro text result row = absurd row
short_proof input BadWords text result row = absurd result
short_proof input BadSettings text result row = absurd result
short_proof input ReadFault text result row = absurd result
short_proof input WriteFault text result row = absurd result
short_proof input WantMemory text result row = absurd result
short_proof input BadPrefix text result row = absurd result
short_proof input NotReached text result row = absurd row
short_proof input BadMacro text result row = absurd result
short_proof input StoppedMacro text result row = absurd row
short_proof input NotBest text result row = absurd row
short_proof input BadCertificate text result row = absurd result

-- an input that isn't too long, divided so
abbrev pub proof_parts_by : (input settings : List ℕ) (rest : Option (List ℕ)) → length input ≤ MOST_TEXT → AreParts MOST_TEXT input settings rest → ProofParts input
proof_parts_by input settings rest few are = record { few = few; settings = settings; rest = rest; are = are }

-- what is said of the certificate is answered to the input
pub judged_input : (input : List ℕ) (proof : Proof input) (r : Result Answer Halt)
    → IfOk r (IsAccepted proof.g proof.parts.rest) → IfErr r (IsHaltOfProof proof.g proof.parts.rest) → IsIn (VerifyAnswers input) r
judged_input input proof (Ok answer) accepted halts =
    let row : VerifyAnswers input Solved answer.text.items = (proof, accepted.proof, accepted.is) in
    let is = sym accepted.solved in
    (subst IsResult is tt, subst (λ (s : Status). VerifyAnswers input s answer.text.items) is row)
judged_input input proof (Err halt) accepted halts =
    halt_in (VerifyAnswers input) BadCertificate (RefusesProof proof.g proof.parts.rest) halt tt (λ line refuses. inr (proof, refuses)) halts
