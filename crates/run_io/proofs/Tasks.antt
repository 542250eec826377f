-- The clauses of a run follow from what its words come to.
use Rattle.std.proofs.Common.{◌≡◌, ◌+◌, ◌≤◌, ◌<◌, ◌⊎◌, inl, inr, ℕ, List, Result, Option, Some, None, length, length-append, refl, subst, sym, ap, arith, ◌∙◌, Ok, Err}
use Rattle.std.specs.Io.KnownBytes.{Consumes}
use Rattle.craft_io.specs.Causes.{Rose, next_count}
use Rattle.craft_io.specs.Views.{Gains, GainsPart, GivesAtMost, GivesFewer, ReadsAtMostTimes, SinkView, SourceView}
use Rattle.run_io.specs.Answering.{CountsWriteFault, GivesTold, HasRow, LosesTold, ReadsAndWrites, Refuses, Rows, Tells, WritesPart}
use Rattle.run_io.specs.Halts.{IsOutcome, RunsTo, line_of, status_of}
use Rattle.run_io.specs.Statuses.{IsRefusal, IsResult}
use Rattle.run_io.specs.Tasks.{ComesToOf, IsDoneOf, TaskOf, most_asked}
use Rattle.run_io.specs.declared.answer.Answer.{Answer}
use Rattle.run_io.specs.declared.halt.Halt.{Halt}
use Rattle.run_io.specs.declared.halt.Halt.TheVariants.{Refused, BadWords as BadWordsHalt, ReadFault as ReadFaultHalt, WantMemory as WantMemoryHalt}
use Rattle.run_io.specs.declared.status.Status.{Status}
use Rattle.run_io.specs.declared.status.Status.TheVariants.{BadWords, ReadFault, WriteFault, WantMemory}
use Rattle.run_io.proofs.Endings.{no_write_fault}

-- the status of a text that was written whole
pub same_status : (r s : Status) → IsResult r → (r ≡ s) ⊎ (r ≡ WriteFault) → s ≡ r
same_status r s result (inl same) = sym same
same_status r s result (inr fault) = absurd (no_write_fault r result fault)

-- just so many bytes were given, where they are told
told_length : (before after : Option (List ℕ)) (bytes : List ℕ) (count : ℕ) → Consumes before after bytes → LosesTold count before after → length bytes ≡ count
told_length None after bytes count gives told = absurd told
told_length (Some left) None bytes count gives told = absurd told
told_length (Some left) (Some rest) bytes count gives told =
    let parts : length left ≡ length bytes + length rest = ap length gives ∙ length-append bytes rest in
    omega arith

module _ {W : Type 0} (asked : Option W) (most : W → ℕ) (answers : W → List ℕ → Rows) where
  -- words ask for one thing alone
  pub one_word : (a b : W) → asked ≡ Some a → asked ≡ Some b → a ≡ b
  one_word a b is also = cc

  pub no_words : (a : W) → asked ≡ None → asked ≡ Some a → ⊥
  no_words a none is = cc

  -- a result is written for all of the input, where less was read than is read at most
  pub answer_whole : (a : Answer) (r : Status) (before after : SourceView) (out out' : SinkView) → IsDoneOf asked most answers (Ok a) before after
      → (r ≡ a.status) ⊎ (r ≡ WriteFault) → (given : W) → asked ≡ Some given → IsResult r
      → ((input : List ℕ) → IsResult a.status → answers given input a.status a.text.items → length input < most given)
      → Gains a.text.items out out' → ReadsAndWrites (answers given) r before after out out'
  answer_whole a r before after out out' done ends given form result short gains =
      let task = done.comes.0 in
      let same = one_word task.given given task.form form in
      let status = same_status r a.status result ends in
      let row : answers given task.input a.status a.text.items = subst (λ (w : W). answers w task.input a.status a.text.items) same done.comes.1.1 in
      let less : length task.input < most task.given = subst (λ (w : W). length task.input < most w) (sym same) (short task.input done.comes.1.0 row) in
      record {
        input = task.input;
        all = (task.reads.gives, task.reads.end less);
        writes = record {
          text = a.text.items;
          is = subst (λ (s : Status). answers given task.input s a.text.items) status row;
          gains = gains;
        };
      }

  -- a text comes only where less was read than is read at most
  pub answer_short : (a : Answer) (before after : SourceView) → IsDoneOf asked most answers (Ok a) before after
      → ((given : W) (input : List ℕ) → IsResult a.status → 1 ≤ most given → answers given input a.status a.text.items → length input < most given)
      → 1 ≤ most_asked most asked → GivesTold (most_asked most asked) before after → ⊥
  answer_short a before after done short some told =
      let task = done.comes.0 in
      let same : most_asked most asked ≡ most task.given = ap (most_asked most) task.form in
      let less = short task.given task.input done.comes.1.0 (omega (arith, same, some)) done.comes.1.1 in
      let given = told_length before.left after.left task.input (most_asked most asked) task.reads.gives told in
      omega (arith, same, less, given)

  pub answer_complete : (a : Answer) (r : Status) (before after : SourceView) (out out' : SinkView) → IsDoneOf asked most answers (Ok a) before after
      → (r ≡ a.status) ⊎ (r ≡ WriteFault) → CountsWriteFault r out.faults out'.faults → (Rose out.faults out'.faults → ⊥)
      → (r ≡ WantMemory) ⊎ ((task : TaskOf asked most before after) × HasRow (answers task.given task.input) r)
  answer_complete a r before after out out' done ends counts quiet = go ends
    where
      go : (r ≡ a.status) ⊎ (r ≡ WriteFault) → (r ≡ WantMemory) ⊎ ((task : TaskOf asked most before after) × HasRow (answers task.given task.input) r)
      go (inl same) =
          let task = done.comes.0 in
          inr (task, (a.text.items, subst (λ (s : Status). answers task.given task.input s a.text.items) (sym same) done.comes.1.1))
      go (inr fault) =
          let risen : out'.faults ≡ next_count out.faults = subst (λ (s : Status). CountsWriteFault s out.faults out'.faults) fault counts in
          absurd (quiet (omega (arith, risen)))

  pub answer_part : (a : Answer) (before after : SourceView) (out out' : SinkView) → IsDoneOf asked most answers (Ok a) before after
      → GainsPart a.text.items out out' → (task : TaskOf asked most before after) × WritesPart (answers task.given task.input) out out'
  answer_part a before after out out' done gains =
      (done.comes.0, record { status = a.status; result = done.comes.1.0; text = a.text.items; is = done.comes.1.1; gains = gains })

  -- where there is no text, the halt says why
  pub halt_complete : (h : Halt) (r : Status) (before after : SourceView) → IsDoneOf asked most answers (Err h) before after → r ≡ status_of h
      → (given : W) → asked ≡ Some given → (1 ≤ most given → Rose before.faults after.faults → ⊥)
      → (r ≡ WantMemory) ⊎ ((task : TaskOf asked most before after) × HasRow (answers task.given task.input) r)
  halt_complete h r before after done status given form quiet =
      subst (λ (s : Status). (s ≡ WantMemory) ⊎ ((task : TaskOf asked most before after) × HasRow (answers task.given task.input) s)) (sym status) (go h done)
    where
      go : (h : Halt) → IsDoneOf asked most answers (Err h) before after
          → (status_of h ≡ WantMemory) ⊎ ((task : TaskOf asked most before after) × HasRow (answers task.given task.input) (status_of h))
      go BadWordsHalt done = absurd (no_words given done.comes form)
      go ReadFaultHalt done =
          let same : most done.comes.0 ≡ most given = ap most (one_word done.comes.0 given done.comes.1 form) in
          let fewer = done.comes.2 in
          absurd (quiet (omega (arith, same, fewer.1)) (omega (arith, done.faults)))
      go WantMemoryHalt done = inl refl
      go (Refused refusal) done = inr (done.comes.0, (refusal.line.items, done.comes.1.1))

  pub halt_long : (h : Halt) (r : Status) (before after : SourceView) → IsDoneOf asked most answers (Err h) before after → r ≡ status_of h
      → 1 ≤ most_asked most asked → GivesTold (most_asked most asked) before after → IsRefusal r ⊎ (r ≡ WantMemory)
  halt_long h r before after done status some told = subst (λ (s : Status). IsRefusal s ⊎ (s ≡ WantMemory)) (sym status) (go h done)
    where
      go : (h : Halt) → IsDoneOf asked most answers (Err h) before after → IsRefusal (status_of h) ⊎ (status_of h ≡ WantMemory)
      go BadWordsHalt done = let none : most_asked most asked ≡ 0 = ap (most_asked most) done.comes in absurd (omega (arith, some, none))
      go ReadFaultHalt done =
          let same : most_asked most asked ≡ most done.comes.0 = ap (most_asked most) done.comes.1 in
          let given = told_length before.left after.left done.comes.2.0 (most_asked most asked) done.comes.2.2 told in
          absurd (omega (arith, same, given, done.comes.2.1))
      go WantMemoryHalt done = inr refl
      go (Refused refusal) done = inl done.comes.1.0

  pub halt_refused : (h : Halt) (r : Status) (before after : SourceView) (err err' : SinkView) → IsDoneOf asked most answers (Err h) before after
      → r ≡ status_of h → Tells (line_of h) err err' → IsRefusal r → (task : TaskOf asked most before after) × Refuses (answers task.given task.input) r err err'
  halt_refused h r before after err err' done status tells refusal =
      subst (λ (s : Status). (task : TaskOf asked most before after) × Refuses (answers task.given task.input) s err err') (sym status) (go h done tells (subst IsRefusal status refusal))
    where
      go : (h : Halt) → IsDoneOf asked most answers (Err h) before after → Tells (line_of h) err err' → IsRefusal (status_of h)
          → (task : TaskOf asked most before after) × Refuses (answers task.given task.input) (status_of h) err err'
      go BadWordsHalt done tells refusal = absurd refusal
      go ReadFaultHalt done tells refusal = absurd refusal
      go WantMemoryHalt done tells refusal = absurd refusal
      go (Refused refused) done tells refusal = (done.comes.0, record { line = refused.line.items; is = done.comes.1.1; tells = tells })

  -- a run tells of a failed read only where one failed, before as much was read as is read at most
  pub failed_read : (h : Halt) (r : Status) (before after : SourceView) → IsDoneOf asked most answers (Err h) before after → r ≡ status_of h
      → r ≡ ReadFault → (given : W) × (asked ≡ Some given) × GivesFewer (most given) before after
  failed_read BadWordsHalt r before after done status fault = let other : BadWords ≡ ReadFault = sym status ∙ fault in absurd (cc)
  failed_read ReadFaultHalt r before after done status fault = done.comes
  failed_read WantMemoryHalt r before after done status fault = let other : WantMemory ≡ ReadFault = sym status ∙ fault in absurd (cc)
  failed_read (Refused refusal) r before after done status fault = absurd (subst IsRefusal (sym status ∙ fault) done.comes.1.0)

  comes_by : (given : W) (result : Result Answer Halt) (before after : SourceView) → asked ≡ Some given
      → IsOutcome (answers given) (most given) result before after → ComesToOf asked most answers result before after
  comes_by given (Ok answer) before after form outcome = (record { given = given; form = form; input = outcome.0; reads = outcome.1 }, outcome.2)
  comes_by given (Err (Refused refusal)) before after form outcome = (record { given = given; form = form; input = outcome.0; reads = outcome.1 }, outcome.2)
  comes_by given (Err WantMemoryHalt) before after form outcome = tt
  comes_by given (Err BadWordsHalt) before after form outcome = absurd outcome.2
  comes_by given (Err ReadFaultHalt) before after form outcome = (given, form, outcome)

  -- words of the form come to what is done for them
  pub done_by : (given : W) (result : Result Answer Halt) (before after : SourceView) → asked ≡ Some given
      → RunsTo (answers given) (most given) result before after → IsDoneOf asked most answers result before after
  done_by given result before after form runs =
      let same : most given ≡ most_asked most asked = sym (ap (most_asked most) form) in
      record {
        comes = comes_by given result before after form runs.outcome;
        bad = λ bad. absurd (no_words given bad form);
        faults = runs.faults;
        at_most = subst (λ (n : ℕ). GivesAtMost n before after) same runs.at_most;
        times = subst (λ (n : ℕ). ReadsAtMostTimes n before after) same runs.times;
      }
