-- An input is answered by one status.
use Rattle.std.proofs.Common.{◌≡◌, ◌∙◌, ◌<◌, ◌⊎◌, inl, inr, ℕ, List, Option, Some, None, arith, length, refl, sym, subst, ap, false}
use Rattle.action_table.specs.declared.action.Action.{Action}
use Rattle.certificate_laws.specs.Lines.{opening}
use Rattle.certificate_laws.proofs.Once.{reads-or-breaks}
use Rattle.certificate_laws.proofs.Writing.{certificate-reads}
use Rattle.certificate_text.specs.Text.{line_end, parts}
use Rattle.craft_settings.specs.Ranges.{SettingsFields}
use Rattle.craft_settings.specs.Reading.{max_length}
use Rattle.craft_settings.proofs.Accepted.{fault-exactly}
use Rattle.macro_order.specs.Order.{IsBest, NothingCompletes}
use Rattle.macro_read.specs.Lines.{lines_of}
use Rattle.macro_read.proofs.Marks.{divided-once}
use Rattle.macro_read.proofs.Once.{same_actions}
use Rattle.resume_start.proofs.Apart.{not-both}
use Rattle.run_io.specs.Answering.{Rows, WithSettings}
use Rattle.run_io.specs.Reading.{AcceptsOnly, RefusesSettings}
use Rattle.run_io.specs.declared.status.Status.{Status}
use Rattle.run_io.specs.declared.status.Status.TheVariants.{Solved, NoMacro, BadSettings, BadPrefix, NotReached, BadMacro, StoppedMacro, NotBest, BadCertificate}
use Rattle.sample_craft.specs.Sample.{sample_of}
use Rattle.solve_words.specs.declared.words.Command.{Command}
use Rattle.solve_words.specs.declared.words.Command.TheVariants.{Solve, Sample, Resume, Sweep, Replay, Check, Certify, Verify}
use Rattle.solve_words.specs.declared.words.Words.{Words}
use Rattle.stat_sweep.specs.declared.TheConstants.{MOST_BASE}
use Rattle.stat_sweep.proofs.Enough.{best-something, enough-more}
use Rattle.step_rules.specs.Legality.{start_of, is_legal}
use Rattle.step_rules.specs.Run.{run_of}
use Rattle.step_rules.proofs.Runs.{run_of-stopped}
use Rattle.solve_engine.specs.Certify.{CertifiesTo}
use Rattle.solve_engine.specs.Check.{ChecksTo}
use Rattle.solve_engine.specs.Commands.{AnswersOf, HasOneStatus}
use Rattle.solve_engine.specs.Input.{AreParts, Parts, WithRest}
use Rattle.solve_engine.specs.Pasted.{IsPasted, RefusesMacro, WithMacro}
use Rattle.solve_engine.specs.Replay.{PlaysOut, PlaysTill, PlaysTo}
use Rattle.solve_engine.specs.Resume.{ResumesTo}
use Rattle.solve_engine.specs.Sample.{SampleAnswers}
use Rattle.solve_engine.specs.Solve.{SolvesTo}
use Rattle.solve_engine.specs.Sweep.{SweepsTo}
use Rattle.solve_engine.specs.Verify.{IsProof, Proof, ProofParts, RefusesProof, VerifyAnswers}
use Rattle.front_check.specs.declared.checker.TheConstants.{MOST_TEXT}

same_settings : (bytes : List ℕ) (g h : SettingsFields) → AcceptsOnly bytes g → AcceptsOnly bytes h → h ≡ g
same_settings bytes g h is also = is.only h also.accepted

-- bytes aren't accepted and refused
settings_apart : (bytes line : List ℕ) (g : SettingsFields) → AcceptsOnly bytes g → RefusesSettings bytes line → ⊥
settings_apart bytes line g is refused =
    (fault-exactly bytes).0 (record { fault = refused.fault; is = refused.first }) (record { settings = g; accepts = is.accepted })

-- an input has one pair of parts
same_parts : (most : ℕ) (input a b : List ℕ) (r q : Option (List ℕ)) → AreParts most input a r → AreParts most input b q → (b ≡ a) × (q ≡ r)
same_parts most input a b None None are also = (also.0 ∙ sym are.0, refl)
same_parts most input a b (Some x) (Some y) are also = let same = divided-once input b y a x also.1 are.1 in (same.0, ap Some same.1)
same_parts most input a b None (Some y) (whole, inl long) also = absurd (omega (arith, long, also.0))
same_parts most input a b None (Some y) (whole, inr unmarked) also = absurd (unmarked b y also.1.marked)
same_parts most input a b (Some x) None are (whole, inl long) = absurd (omega (arith, long, are.0))
same_parts most input a b (Some x) None are (whole, inr unmarked) = absurd (unmarked a x are.1.marked)

split_settings : (rows : SettingsFields → Rows) (input : List ℕ) (s : Status) (bytes : List ℕ) → WithSettings rows input s bytes
    → ((s ≡ BadSettings) × RefusesSettings input bytes) ⊎ ((g : SettingsFields) × AcceptsOnly input g × rows g s bytes)
split_settings rows input BadSettings bytes row = inl (refl, row)
split_settings rows input _ bytes row = inr row

with_settings : (rows : SettingsFields → Rows) (input : List ℕ) → ((g : SettingsFields) → HasOneStatus (rows g)) → HasOneStatus (WithSettings rows input)
with_settings rows input one s t bytes other row also = go (split_settings rows input s bytes row) (split_settings rows input t other also)
  where
    go : ((s ≡ BadSettings) × RefusesSettings input bytes) ⊎ ((g : SettingsFields) × AcceptsOnly input g × rows g s bytes)
        → ((t ≡ BadSettings) × RefusesSettings input other) ⊎ ((g : SettingsFields) × AcceptsOnly input g × rows g t other) → s ≡ t
    go (inl a) (inl b) = a.0 ∙ sym b.0
    go (inl a) (inr b) = absurd (settings_apart input bytes b.0 b.1 a.1)
    go (inr a) (inl b) = absurd (settings_apart input other a.0 a.1 b.1)
    go (inr a) (inr b) =
        one a.0 s t bytes other a.2 (subst (λ (g : SettingsFields). rows g t other) (same_settings input a.0 b.0 a.1 b.1) b.2)

-- no macro is the best where none completes
best_or_none : (g : SettingsFields) (m : List Action) → IsBest g m → NothingCompletes g → ⊥
best_or_none g m best none = let is = best.completes in let other = none m in cc

-- what a row says of a craft, where it is of a best macro or of none
Says : SettingsFields → Status → Type 0
Says g Solved = (m : List Action) × IsBest g m
Says g NoMacro = NothingCompletes g
Says g _ = ⊥

one_said : (g : SettingsFields) (s t : Status) → Says g s → Says g t → s ≡ t
unfolding Says
one_said g Solved Solved said also = refl
one_said g NoMacro NoMacro said also = refl
one_said g Solved NoMacro said also = absurd (best_or_none g said.0 said.1 also)
one_said g NoMacro Solved said also = absurd (best_or_none g also.0 also.1 said)
one_said g Solved _ said also = absurd also
one_said g NoMacro _ said also = absurd also
one_said g _ t said also = absurd said

solved_says : (given : Words) (g : SettingsFields) (s : Status) (bytes : List ℕ) → SolvesTo given g s bytes → Says g s
unfolding Says
solved_says given g Solved bytes row = (row.0, row.1)
solved_says given g NoMacro bytes row = row.0
solved_says given g _ bytes row = absurd row

certified_says : (grain : ℕ) (g : SettingsFields) (s : Status) (bytes : List ℕ) → CertifiesTo grain g s bytes → Says g s
unfolding Says
certified_says grain g Solved bytes row = (row.0, row.1)
certified_says grain g NoMacro bytes row = row.0
certified_says grain g _ bytes row = absurd row

sampled_says : (given : Words) (n : ℕ) (s : Status) (bytes : List ℕ) → SampleAnswers given n s bytes → Says (sample_of n) s
unfolding Says
sampled_says given n Solved bytes row = (row.0, row.1)
sampled_says given n NoMacro bytes row = row.0
sampled_says given n _ bytes row = absurd row

one_solved : (given : Words) (g : SettingsFields) → HasOneStatus (SolvesTo given g)
one_solved given g s t bytes other row also = one_said g s t (solved_says given g s bytes row) (solved_says given g t other also)

one_certified : (grain : ℕ) (g : SettingsFields) → HasOneStatus (CertifiesTo grain g)
one_certified grain g s t bytes other row also = one_said g s t (certified_says grain g s bytes row) (certified_says grain g t other also)

one_sampled : (given : Words) (n : ℕ) → HasOneStatus (SampleAnswers given n)
one_sampled given n s t bytes other row also =
    one_said (sample_of n) s t (sampled_says given n s bytes row) (sampled_says given n t other also)

one_resumed : (done : List Action) (g : SettingsFields) → HasOneStatus (ResumesTo done g)
one_resumed done g Solved Solved bytes other row also = refl
one_resumed done g NoMacro NoMacro bytes other row also = refl
one_resumed done g BadPrefix BadPrefix bytes other row also = refl
one_resumed done g Solved NoMacro bytes other row also = let is = row.best.completes in let none = also.1 row.rest in absurd (cc)
one_resumed done g NoMacro Solved bytes other row also = let is = also.best.completes in let none = row.1 also.rest in absurd (cc)
one_resumed done g Solved BadPrefix bytes other row also = absurd (not-both g done also.0 also.1 (row.from, row.after))
one_resumed done g BadPrefix Solved bytes other row also = absurd (not-both g done row.0 row.1 (also.from, also.after))
one_resumed done g NoMacro BadPrefix bytes other row also = absurd (not-both g done also.0 also.1 row.0)
one_resumed done g BadPrefix NoMacro bytes other row also = absurd (not-both g done row.0 row.1 also.0)
one_resumed done g Solved _ bytes other row also = absurd also
one_resumed done g NoMacro _ bytes other row also = absurd also
one_resumed done g BadPrefix _ bytes other row also = absurd also
one_resumed done g _ t bytes other row also = absurd row

one_swept : (g : SettingsFields) → HasOneStatus (SweepsTo g)
one_swept g Solved Solved bytes other row also = refl
one_swept g NotReached NotReached bytes other row also = refl
one_swept g NoMacro NoMacro bytes other row also = refl
one_swept g Solved NotReached bytes other row also = absurd (also.short.1 (enough-more g row.base MOST_BASE row.is_least.high row.is_least.enough))
one_swept g NotReached Solved bytes other row also = absurd (row.short.1 (enough-more g also.base MOST_BASE also.is_least.high also.is_least.enough))
one_swept g Solved NoMacro bytes other row also = absurd (best-something g row.base row.best row.is_best also.0)
one_swept g NoMacro Solved bytes other row also = absurd (best-something g also.base also.best also.is_best row.0)
one_swept g NotReached NoMacro bytes other row also = absurd (row.short.0 also.0)
one_swept g NoMacro NotReached bytes other row also = absurd (also.short.0 row.0)
one_swept g Solved _ bytes other row also = absurd also
one_swept g NotReached _ bytes other row also = absurd also
one_swept g NoMacro _ bytes other row also = absurd also
one_swept g _ t bytes other row also = absurd row

-- a macro of which each action is legal in its turn isn't stopped
played_or_stopped : (g : SettingsFields) (m : List Action) (text other : List ℕ) → PlaysOut g m text → PlaysTill g m other → ⊥
played_or_stopped g m text other played stopped =
    let stops = stopped.stops in
    let illegal : is_legal g stopped.state stops.action ≡ false = rw stops.reason refl in
    let none : run_of g (start_of g) m ≡ None = run_of-stopped g (start_of g) stopped.state m stopped.place stops.action stops.before stops.at illegal in
    let ran = played.ran in
    cc

one_played : (g : SettingsFields) (m : List Action) → HasOneStatus (PlaysTo g m)
one_played g m Solved Solved bytes other row also = refl
one_played g m StoppedMacro StoppedMacro bytes other row also = refl
one_played g m Solved StoppedMacro bytes other row also = absurd (played_or_stopped g m bytes other row also)
one_played g m StoppedMacro Solved bytes other row also = absurd (played_or_stopped g m other bytes also row)
one_played g m Solved _ bytes other row also = absurd also
one_played g m StoppedMacro _ bytes other row also = absurd also
one_played g m _ t bytes other row also = absurd row

one_checked : (grain : ℕ) (g : SettingsFields) (m : List Action) → HasOneStatus (ChecksTo grain g m)
one_checked grain g m Solved Solved bytes other row also = refl
one_checked grain g m NotBest NotBest bytes other row also = refl
one_checked grain g m NoMacro NoMacro bytes other row also = refl
one_checked grain g m Solved NotBest bytes other row also = absurd (also.other row.0)
one_checked grain g m NotBest Solved bytes other row also = absurd (row.other also.0)
one_checked grain g m Solved NoMacro bytes other row also = absurd (best_or_none g m row.0 also.0)
one_checked grain g m NoMacro Solved bytes other row also = absurd (best_or_none g m also.0 row.0)
one_checked grain g m NotBest NoMacro bytes other row also = absurd (best_or_none g row.best row.is_best also.0)
one_checked grain g m NoMacro NotBest bytes other row also = absurd (best_or_none g also.best also.is_best row.0)
one_checked grain g m Solved _ bytes other row also = absurd also
one_checked grain g m NotBest _ bytes other row also = absurd also
one_checked grain g m NoMacro _ bytes other row also = absurd also
one_checked grain g m _ t bytes other row also = absurd row

split_macro : (rows : SettingsFields → List Action → Rows) (g : SettingsFields) (rest : Option (List ℕ)) (s : Status) (bytes : List ℕ) → WithMacro rows g rest s bytes
    → ((s ≡ BadMacro) × RefusesMacro rest bytes) ⊎ ((m : List Action) × IsPasted rest m × rows g m s bytes)
split_macro rows g rest BadMacro bytes row = inl (refl, row)
split_macro rows g rest _ bytes row = inr row

macro_apart : (rest : Option (List ℕ)) (m : List Action) (line : List ℕ) → IsPasted rest m → RefusesMacro rest line → ⊥
macro_apart None m line pasted refused = pasted
macro_apart (Some text) m line pasted refused = refused.none m pasted

same_macro : (rest : Option (List ℕ)) (m n : List Action) → IsPasted rest m → IsPasted rest n → n ≡ m
same_macro None m n pasted also = absurd pasted
same_macro (Some text) m n pasted also = same_actions (lines_of text) n m also pasted

with_macro : (rows : SettingsFields → List Action → Rows) (g : SettingsFields) (rest : Option (List ℕ)) → ((m : List Action) → HasOneStatus (rows g m))
    → HasOneStatus (WithMacro rows g rest)
with_macro rows g rest one s t bytes other row also = go (split_macro rows g rest s bytes row) (split_macro rows g rest t other also)
  where
    go : ((s ≡ BadMacro) × RefusesMacro rest bytes) ⊎ ((m : List Action) × IsPasted rest m × rows g m s bytes)
        → ((t ≡ BadMacro) × RefusesMacro rest other) ⊎ ((m : List Action) × IsPasted rest m × rows g m t other) → s ≡ t
    go (inl a) (inl b) = a.0 ∙ sym b.0
    go (inl a) (inr b) = absurd (macro_apart rest b.0 bytes b.1 a.1)
    go (inr a) (inl b) = absurd (macro_apart rest a.0 other a.1 b.1)
    go (inr a) (inr b) =
        one a.0 s t bytes other a.2 (subst (λ (m : List Action). rows g m t other) (same_macro rest a.0 b.0 a.1 b.1) b.2)

-- settings and what follows them, where the settings are accepted
record Given (input : List ℕ) : Type 0 where
  settings : List ℕ
  rest : Option (List ℕ)
  are : AreParts max_length input settings rest
  g : SettingsFields
  accepted : AcceptsOnly settings g

split_rest : (rows : SettingsFields → Option (List ℕ) → Rows) (input : List ℕ) (s : Status) (bytes : List ℕ) → WithRest rows input s bytes
    → ((s ≡ BadSettings) × ((parts : Parts input) × RefusesSettings parts.settings bytes))
    ⊎ ((given : Given input) × rows given.g given.rest s bytes)
split_rest rows input BadSettings bytes row = inl (refl, row)
split_rest rows input _ bytes row =
    inr (record { settings = row.0.settings; rest = row.0.rest; are = row.0.are; g = row.1; accepted = row.2 }, row.3)

-- a refusal of the settings beside settings that are accepted
parts_apart : (most : ℕ) (input a b line : List ℕ) (r q : Option (List ℕ)) (g : SettingsFields) → AreParts most input a r → AreParts most input b q
    → AcceptsOnly a g → RefusesSettings b line → ⊥
parts_apart most input a b line r q g are also accepted refused =
    settings_apart a line g accepted (subst (λ (x : List ℕ). RefusesSettings x line) (same_parts most input a b r q are also).0 refused)

-- settings that are accepted in one way
one_given : (most : ℕ) (input a b : List ℕ) (r q : Option (List ℕ)) (g h : SettingsFields) → AreParts most input a r → AreParts most input b q
    → AcceptsOnly a g → AcceptsOnly b h → (h ≡ g) × (q ≡ r)
one_given most input a b r q g h are also accepted other =
    let same = same_parts most input a b r q are also in
    (same_settings a g h accepted (subst (λ (x : List ℕ). AcceptsOnly x h) same.0 other), same.1)

with_rest : (rows : SettingsFields → Option (List ℕ) → Rows) (input : List ℕ) → ((g : SettingsFields) (rest : Option (List ℕ)) → HasOneStatus (rows g rest))
    → HasOneStatus (WithRest rows input)
with_rest rows input one s t bytes other row also = go (split_rest rows input s bytes row) (split_rest rows input t other also)
  where
    go : ((s ≡ BadSettings) × ((parts : Parts input) × RefusesSettings parts.settings bytes)) ⊎ ((given : Given input) × rows given.g given.rest s bytes)
        → ((t ≡ BadSettings) × ((parts : Parts input) × RefusesSettings parts.settings other)) ⊎ ((given : Given input) × rows given.g given.rest t other) → s ≡ t
    go (inl a) (inl b) = a.0 ∙ sym b.0
    go (inl a) (inr b) =
        absurd (parts_apart max_length input b.0.settings a.1.0.settings bytes b.0.rest a.1.0.rest b.0.g b.0.are a.1.0.are b.0.accepted a.1.1)
    go (inr a) (inl b) =
        absurd (parts_apart max_length input a.0.settings b.1.0.settings other a.0.rest b.1.0.rest a.0.g a.0.are b.1.0.are a.0.accepted b.1.1)
    go (inr a) (inr b) =
        let same = one_given max_length input a.0.settings b.0.settings a.0.rest b.0.rest a.0.g b.0.g a.0.are b.0.are a.0.accepted b.0.accepted in
        one a.0.g a.0.rest s t bytes other a.1
        (subst (λ (r : Option (List ℕ)). rows a.0.g r t other) same.1 (subst (λ (h : SettingsFields). rows h b.0.rest t other) same.0 b.1))

proof_apart : (g : SettingsFields) (rest : Option (List ℕ)) (line : List ℕ) → IsProof g rest → RefusesProof g rest line → ⊥
proof_apart g None line proof refused = proof
proof_apart g (Some bytes) line proof refused =
    let first = refused.first in
    reads-or-breaks g opening (parts line_end bytes) proof.0 first.0 (certificate-reads g bytes proof.0 proof.1) first.1.1

-- a certificate isn't accepted and refused
judged_apart : (input line : List ℕ) (a b : Proof input) → IsProof a.g a.parts.rest → RefusesProof b.g b.parts.rest line → ⊥
judged_apart input line a b proof refused =
    let same = one_given MOST_TEXT input a.parts.settings b.parts.settings a.parts.rest b.parts.rest a.g b.g a.parts.are b.parts.are a.accepted b.accepted in
    proof_apart a.g a.parts.rest line proof
    (subst (λ (r : Option (List ℕ)). RefusesProof a.g r line) same.1 (subst (λ (h : SettingsFields). RefusesProof h b.parts.rest line) same.0 refused))

-- settings aren't refused where what follows them is judged
proof_settings : (input line : List ℕ) (a : Proof input) (b : ProofParts input) → RefusesSettings b.settings line → ⊥
proof_settings input line a b refused =
    parts_apart MOST_TEXT input a.parts.settings b.settings line a.parts.rest b.rest a.g a.parts.are b.are a.accepted refused

not_long : (input : List ℕ) (parts : ProofParts input) → MOST_TEXT < length input → ⊥
not_long input parts long = omega (arith, long, parts.few)

one_verified : (input : List ℕ) → HasOneStatus (VerifyAnswers input)
one_verified input Solved Solved bytes other row also = refl
one_verified input BadSettings BadSettings bytes other row also = refl
one_verified input BadCertificate BadCertificate bytes other row also = refl
one_verified input Solved BadSettings bytes other row also = absurd (proof_settings input other row.0 also.0 also.1)
one_verified input BadSettings Solved bytes other row also = absurd (proof_settings input bytes also.0 row.0 row.1)
one_verified input Solved BadCertificate bytes other row (inl long) = absurd (not_long input row.0.parts long.0)
one_verified input Solved BadCertificate bytes other row (inr also) = absurd (judged_apart input other row.0 also.0 row.1 also.1)
one_verified input BadCertificate Solved bytes other (inl long) also = absurd (not_long input also.0.parts long.0)
one_verified input BadCertificate Solved bytes other (inr row) also = absurd (judged_apart input bytes also.0 row.0 also.1 row.1)
one_verified input BadSettings BadCertificate bytes other row (inl long) = absurd (not_long input row.0 long.0)
one_verified input BadSettings BadCertificate bytes other row (inr also) = absurd (proof_settings input bytes also.0 row.0 row.1)
one_verified input BadCertificate BadSettings bytes other (inl long) also = absurd (not_long input also.0 long.0)
one_verified input BadCertificate BadSettings bytes other (inr row) also = absurd (proof_settings input other row.0 also.0 also.1)
one_verified input Solved _ bytes other row also = absurd also
one_verified input BadSettings _ bytes other row also = absurd also
one_verified input BadCertificate _ bytes other row also = absurd also
one_verified input _ t bytes other row also = absurd row

pub one_status : (c : Command) (given : Words) (input : List ℕ) → HasOneStatus (AnswersOf c given input)
one_status Solve given input = with_settings (SolvesTo given) input (one_solved given)
one_status (Sample n) given input = one_sampled given n
one_status (Resume done) given input = with_settings (ResumesTo done) input (one_resumed done)
one_status Sweep given input = with_settings SweepsTo input one_swept
one_status Replay given input = with_rest (WithMacro PlaysTo) input (λ g rest. with_macro PlaysTo g rest (one_played g))
one_status Check given input = with_rest (WithMacro (ChecksTo given.grain)) input (λ g rest. with_macro (ChecksTo given.grain) g rest (one_checked given.grain g))
one_status Certify given input = with_settings (CertifiesTo given.grain) input (one_certified given.grain)
one_status Verify given input = one_verified input
