-- The answer to a text is the only one that fits.
use Rattle.std.proofs.Common.{◌≡◌, ℕ, List, Vec, Global, Result, Ok, Err, IfOk, MatchResult, ◌⊎◌, inl, inr, refl, ap, sym, ◌∙◌, ◌+◌, subst}
use Rattle.action_table.specs.declared.action.Action.{Action}
use Rattle.craft_settings.specs.Ranges.{SettingsFields, AreSettings}
use Rattle.macro_order.specs.Order.{IsBest}
use Rattle.certificate_text.specs.Text.{line_end, parts}
use Rattle.certificate_laws.specs.Certificate.{IsCertificate}
use Rattle.certificate_laws.specs.Lines.{opening, IsFirstFault}
use Rattle.certificate_laws.proofs.Once.{reads-same, breaks-same, reads-or-breaks}
use Rattle.certificate_laws.proofs.Sound.{certificate-best}
use Rattle.certificate_laws.proofs.Writing.{certificate-reads}
use Rattle.front_check.specs.declared.checker.CertFault.{CertFault}
use Rattle.front_check.specs.declared.checker.CertFault.TheVariants.{Refused, WantMemory}
use Rattle.front_check.specs.Verified.{IsFault}

apart : (g : SettingsFields) (bytes : List ℕ) (m : List Action) (line : ℕ) → IsCertificate g bytes m → IsFirstFault g bytes line → ⊥
apart g bytes m line h fault = reads-or-breaks g opening (parts line_end bytes) m fault.0 (certificate-reads g bytes m h) fault.1.1

pub only-macro : (g : SettingsFields) (bytes : List ℕ) (r : Result (Vec Action Global) CertFault) → MatchResult r (λ actions. IsCertificate g bytes actions.items) (IsFault g bytes) →
    (m : List Action) → IsCertificate g bytes m → MatchResult r (λ actions. actions.items ≡ m) (λ fault. fault ≡ WantMemory)
only-macro g bytes (Ok actions) answer m h = reads-same g opening (parts line_end bytes) actions.items m (certificate-reads g bytes actions.items answer) (certificate-reads g bytes m h)
only-macro g bytes (Err (Refused line)) answer m h = absurd (apart g bytes m line h answer)
only-macro g bytes (Err WantMemory) answer m h = refl

pub only-line : (g : SettingsFields) (bytes : List ℕ) (r : Result (Vec Action Global) CertFault) → MatchResult r (λ actions. IsCertificate g bytes actions.items) (IsFault g bytes) →
    (line : ℕ) → IsFirstFault g bytes line → MatchResult r (λ actions. ⊥) (λ fault. (fault ≡ Refused line) ⊎ (fault ≡ WantMemory))
only-line g bytes (Ok actions) answer line h = apart g bytes actions.items line answer h
only-line g bytes (Err (Refused other)) answer line h =
    let same : answer.0 ≡ h.0 = breaks-same g opening (parts line_end bytes) answer.0 h.0 answer.1.1 h.1.1 in
    inl (ap (λ (n : ℕ). Refused n) (answer.1.0 ∙ ap (λ (n : ℕ). n + 1) same ∙ sym h.1.0))
only-line g bytes (Err WantMemory) answer line h = inr refl

pub best-macro : (g : SettingsFields) (bytes : List ℕ) (r : Result (Vec Action Global) CertFault) → AreSettings g → MatchResult r (λ actions. IsCertificate g bytes actions.items) (IsFault g bytes) →
    IfOk r (λ actions. IsBest g actions.items)
best-macro g bytes (Ok actions) settings answer = subst (λ (m : List Action). IsBest g m) answer.named (certificate-best g answer.certificate settings answer.valid)
best-macro g bytes (Err fault) settings answer = tt
