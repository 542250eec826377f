-- How a run ends follows from what its words come to.
use Rattle.std.proofs.Common.{◌≡◌, ◌≢◌, ◌∙◌, ◌↔◌, ◌<◌, ◌≤◌, ◌⊎◌, inl, inr, ℕ, List, Option, None, Ok, Err, length, refl, subst, sym}
use Rattle.std.specs.Option.{IfSome}
use Rattle.craft_io.specs.Views.{GainsPart, SinkView, SourceView}
use Rattle.run_io.specs.Answering.{CountsReadFault, CountsWriteFault, Rows, Tells}
use Rattle.run_io.specs.Ends.{EndsOf}
use Rattle.run_io.specs.FaultLine.{write_line}
use Rattle.run_io.specs.Halts.{line_of, status_of}
use Rattle.run_io.specs.Statuses.{IsRefusal, IsResult, fault_line}
use Rattle.run_io.specs.Tasks.{IsDoneOf}
use Rattle.run_io.specs.declared.answer.Answer.{Answer}
use Rattle.run_io.specs.declared.halt.Halt.{Halt}
use Rattle.run_io.specs.declared.halt.Halt.TheVariants.{Refused, BadWords as BadWordsHalt, ReadFault as ReadFaultHalt, WantMemory as WantMemoryHalt}
use Rattle.run_io.specs.declared.status.Status.{Status}
use Rattle.run_io.specs.declared.status.Status.TheVariants.{Solved, NoMacro, BadWords, BadSettings, ReadFault, WriteFault, WantMemory, BadPrefix, NotReached, BadMacro, StoppedMacro, NotBest, BadCertificate}
use Rattle.run_io.proofs.Endings.{kept_write}
use Rattle.run_io.proofs.Tasks.{answer_complete, answer_part, answer_short, failed_read, halt_complete, halt_long, halt_refused, no_words}

-- the end of a result, and of a write that failed
abbrev pub IsWritten : Status → Type 0
IsWritten s = IsResult s ⊎ (s ≡ WriteFault)

no_refusal : (s : Status) → IsResult s → IsRefusal s → ⊥
no_refusal Solved result refusal = refusal
no_refusal NoMacro result refusal = refusal
no_refusal BadWords result refusal = result
no_refusal BadSettings result refusal = result
no_refusal ReadFault result refusal = result
no_refusal WriteFault result refusal = result
no_refusal WantMemory result refusal = result
no_refusal BadPrefix result refusal = result
no_refusal NotReached result refusal = refusal
no_refusal BadMacro result refusal = result
no_refusal StoppedMacro result refusal = refusal
no_refusal NotBest result refusal = refusal
no_refusal BadCertificate result refusal = result

kept_read : (s : Status) (faults faults' : ℕ) → (s ≡ ReadFault → ⊥) → faults' ≡ faults → CountsReadFault s faults faults'
kept_read Solved faults faults' other same = same
kept_read NoMacro faults faults' other same = same
kept_read BadWords faults faults' other same = same
kept_read BadSettings faults faults' other same = same
kept_read ReadFault faults faults' other same = absurd (other refl)
kept_read WriteFault faults faults' other same = same
kept_read WantMemory faults faults' other same = same
kept_read BadPrefix faults faults' other same = same
kept_read NotReached faults faults' other same = same
kept_read BadMacro faults faults' other same = same
kept_read StoppedMacro faults faults' other same = same
kept_read NotBest faults faults' other same = same
kept_read BadCertificate faults faults' other same = same

-- a result and a refusal have no line that is always the same
no_line : (s : Status) (P : List ℕ → Type 0) → IsResult s ⊎ IsRefusal s → IfSome (fault_line s) P
no_line Solved P known = tt
no_line NoMacro P known = tt
no_line BadWords P (inl result) = absurd result
no_line BadWords P (inr refusal) = absurd refusal
no_line BadSettings P known = tt
no_line ReadFault P (inl result) = absurd result
no_line ReadFault P (inr refusal) = absurd refusal
no_line WriteFault P (inl result) = absurd result
no_line WriteFault P (inr refusal) = absurd refusal
no_line WantMemory P (inl result) = absurd result
no_line WantMemory P (inr refusal) = absurd refusal
no_line BadPrefix P known = tt
no_line NotReached P known = tt
no_line BadMacro P known = tt
no_line StoppedMacro P known = tt
no_line NotBest P known = tt
no_line BadCertificate P known = tt

written_line : (s : Status) (err err' : SinkView) → IsWritten s → (s ≡ WriteFault → Tells write_line err err') → IfSome (fault_line s) (λ line. Tells line err err')
written_line s err err' (inl result) told = no_line s (λ line. Tells line err err') (inl result)
written_line s err err' (inr is) told =
    subst (λ (r : Status). IfSome (fault_line r) (λ line. Tells line err err')) (sym is) (told is)

-- what is written is neither a refusal nor a status that comes before writing
written_refusal : (s : Status) → IsWritten s → IsRefusal s → ⊥
written_refusal s (inl result) refusal = no_refusal s result refusal
written_refusal s (inr is) refusal = subst IsRefusal is refusal

written_reading : (s : Status) → IsWritten s → s ≡ ReadFault → ⊥
written_reading s (inl result) is = subst IsResult is result
written_reading s (inr fault) is = let other : WriteFault ≡ ReadFault = sym fault ∙ is in cc

written_words : (s : Status) → IsWritten s → s ≡ BadWords → ⊥
written_words s (inl result) is = subst IsResult is result
written_words s (inr fault) is = let other : WriteFault ≡ BadWords = sym fault ∙ is in cc

is_written : (a : Answer) (r : Status) → IsResult a.status → (r ≡ a.status) ⊎ (r ≡ WriteFault) → IsWritten r
is_written a r result (inl same) = inl (subst IsResult (sym same) result)
is_written a r result (inr fault) = inr fault

module _ {W : Type 0} (asked : Option W) (most : W → ℕ) (answers : W → List ℕ → Rows) where
  -- a run that has written, or has failed to
  pub answer_ends : (a : Answer) (r : Status) (source source' : SourceView) (out out' err err' : SinkView) → IsDoneOf asked most answers (Ok a) source source'
      → ((given : W) (input : List ℕ) → IsResult a.status → 1 ≤ most given → answers given input a.status a.text.items → length input < most given)
      → (r ≡ a.status) ⊎ (r ≡ WriteFault) → (r ≡ WriteFault → GainsPart a.text.items out out') → CountsWriteFault r out.faults out'.faults
      → (r ≡ WriteFault → Tells write_line err err')
      → EndsOf asked most answers r (record { source = source; out = out; err = err }) (record { source = source'; out = out'; err = err' })
  answer_ends a r source source' out out' err err' done short ends part counts tells =
      let written = is_written a r done.comes.1.0 ends in
      record {
        complete = λ given form _ quiet. answer_complete asked most answers a r source source' out out' done ends counts quiet;
        refused = λ refusal. absurd (written_refusal r written refusal);
        part = λ fault. answer_part asked most answers a source source' out out' done (part fault);
        read_fault = λ fault. absurd (written_reading r written fault);
        bad_words = ((λ is. absurd (written_words r written is)), (λ both. absurd (no_words asked most answers done.comes.0.given both.0 done.comes.0.form)));
        too_long = λ some told. absurd (answer_short asked most answers a source source' done short some told);
        read_count = kept_read r source.faults source'.faults (written_reading r written) done.faults;
        write_count = counts;
        at_most = done.at_most;
        times = done.times;
        told = written_line r err err' written tells;
      }

  halt_no_write : (h : Halt) (before after : SourceView) → IsDoneOf asked most answers (Err h) before after → status_of h ≡ WriteFault → ⊥
  halt_no_write BadWordsHalt before after done is = let other : BadWords ≡ WriteFault = is in cc
  halt_no_write ReadFaultHalt before after done is = let other : ReadFault ≡ WriteFault = is in cc
  halt_no_write WantMemoryHalt before after done is = let other : WantMemory ≡ WriteFault = is in cc
  halt_no_write (Refused refusal) before after done is = subst IsRefusal is done.comes.1.0

  halt_read_count : (h : Halt) (before after : SourceView) → IsDoneOf asked most answers (Err h) before after → CountsReadFault (status_of h) before.faults after.faults
  halt_read_count BadWordsHalt before after done = done.faults
  halt_read_count ReadFaultHalt before after done = done.faults
  halt_read_count WantMemoryHalt before after done = done.faults
  halt_read_count (Refused refusal) before after done = kept_read refusal.status before.faults after.faults (λ is. subst IsRefusal is done.comes.1.0) done.faults

  halt_line : (h : Halt) (before after : SourceView) (err err' : SinkView) → IsDoneOf asked most answers (Err h) before after → Tells (line_of h) err err'
      → IfSome (fault_line (status_of h)) (λ line. Tells line err err')
  halt_line BadWordsHalt before after err err' done tells = tells
  halt_line ReadFaultHalt before after err err' done tells = tells
  halt_line WantMemoryHalt before after err err' done tells = tells
  halt_line (Refused refusal) before after err err' done tells = no_line refusal.status (λ line. Tells line err err') (inr done.comes.1.0)

  halt_bad_words : (h : Halt) (before after : SourceView) → IsDoneOf asked most answers (Err h) before after
      → (status_of h ≡ BadWords) ↔ ((asked ≡ None) × (status_of h ≢ WantMemory))
  halt_bad_words BadWordsHalt before after done =
      ((λ _. (done.comes, λ same. let other : BadWords ≡ WantMemory = same in cc)), (λ _. refl))
  halt_bad_words ReadFaultHalt before after done =
      ((λ is. let other : ReadFault ≡ BadWords = is in absurd (cc)), (λ both. absurd (done.bad both.0)))
  halt_bad_words WantMemoryHalt before after done =
      ((λ is. let other : WantMemory ≡ BadWords = is in absurd (cc)), (λ both. absurd (both.1 refl)))
  halt_bad_words (Refused refusal) before after done =
      ((λ is. absurd (subst IsRefusal is done.comes.1.0)), (λ both. absurd (done.bad both.0)))

  -- a run that told why there is no text
  pub halt_ends : (h : Halt) (r : Status) (source source' : SourceView) (out err err' : SinkView) → IsDoneOf asked most answers (Err h) source source'
      → r ≡ status_of h → Tells (line_of h) err err'
      → EndsOf asked most answers r (record { source = source; out = out; err = err }) (record { source = source'; out = out; err = err' })
  halt_ends h r source source' out err err' done status tells = record {
    complete = λ given form quiet _. halt_complete asked most answers h r source source' done status given form quiet;
    refused = λ refusal. halt_refused asked most answers h r source source' err err' done status tells refusal;
    part = λ fault. absurd (halt_no_write h source source' done (sym status ∙ fault));
    read_fault = λ fault. failed_read asked most answers h r source source' done status fault;
    bad_words = subst (λ (s : Status). (s ≡ BadWords) ↔ ((asked ≡ None) × (s ≢ WantMemory))) (sym status) (halt_bad_words h source source' done);
    too_long = λ some told. halt_long asked most answers h r source source' done status some told;
    read_count = subst (λ (s : Status). CountsReadFault s source.faults source'.faults) (sym status) (halt_read_count h source source' done);
    write_count = kept_write r out.faults out.faults (λ fault. halt_no_write h source source' done (sym status ∙ fault)) refl;
    at_most = done.at_most;
    times = done.times;
    told = subst (λ (s : Status). IfSome (fault_line s) (λ line. Tells line err err')) (sym status) (halt_line h source source' err err' done tells);
  }
