-- A file gives one record of settings or has one fault, and never both.
use Rattle.std.proofs.Common.{◌≡◌, ℕ, Bool, sym, ap, ◌∙◌, subst, None, Some, Ok, Err, Result, List, false, length, IfOk, IfErr, inl, inr, arith, nat_lt}
use Rattle.std.proofs.lemmas.Bool.Decides.{nat_tests}
use Rattle.std.proofs.lemmas.Nat.Bits.{same_from_bits}
use Rattle.toml.specs.Data.{Members}
use Rattle.craft_settings.specs.Ranges.{SettingsFields}
use Rattle.craft_settings.specs.declared.fault.SettingsFault.{SettingsFault}
use Rattle.craft_settings.specs.Fault.{OrMemory}
use Rattle.craft_settings.specs.Keys.{target_key}
use Rattle.craft_settings.specs.Reading.{number_at, file_fault_by, max_length}
use Rattle.craft_settings.specs.Accepts.{GivesBy, AcceptsBy, IsOrMemory, IsAnswerBy}

abbrev Fields : Type 0
Fields = ℕ × ℕ × ℕ × ℕ × ℕ × ℕ × ℕ × ℕ × ℕ × ℕ × Bool

abbrev make : Fields → SettingsFields
make f = record {
  level = f.0;
  cp = f.1;
  durability = f.2;
  progress = f.3;
  quality = f.4;
  initial = f.5;
  base_progress = f.6;
  base_quality = f.7;
  forbidden = f.8;
  target = f.9;
  backload = f.10;
}

abbrev fields : SettingsFields → Fields
fields g = (g.level, g.cp, g.durability, g.progress, g.quality, g.initial, g.base_progress, g.base_quality, g.forbidden, g.target, g.backload)

same_settings : (g h : SettingsFields) → fields g ≡ fields h → g ≡ h
same_settings g h e = ap make e

GivesBy-unique : (two : Bool) (doc : Members) (g h : SettingsFields) → GivesBy two doc g → GivesBy two doc h → g ≡ h
GivesBy-unique two doc g h a b =
    let mask : g.forbidden ≡ h.forbidden = same_from_bits g.forbidden h.forbidden (λ n. a.forbidden n ∙ sym (b.forbidden n)) in
    let quality : g.quality ≡ h.quality = a.quality ∙ sym b.quality in
    let target : g.target ≡ h.target = a.target ∙ ap (number_at doc target_key) quality ∙ sym b.target in
    same_settings g h (cc)

AcceptsBy-unique : (two : Members → Bool) (bytes : List ℕ) (g h : SettingsFields) → AcceptsBy two bytes g → AcceptsBy two bytes h → g ≡ h
AcceptsBy-unique two bytes g h a b =
    let same_doc : a.doc ≡ b.doc = cc in
    GivesBy-unique (two b.doc) b.doc g h (subst (λ d. GivesBy (two d) d g) same_doc a.gives) b.gives

-- an accepted file has no fault
pub file_fault-accepted : (two : Members → Bool) (bytes : List ℕ) (g : SettingsFields) → AcceptsBy two bytes g → file_fault_by two bytes ≡ None
unfolding file_fault_by
file_fault-accepted two bytes g a =
    let short : nat_lt max_length (length bytes) ≡ false = grind (arith, nat_tests, a.short) in
    rw (short, a.is_document) a.no_fault

-- an answer that is right where it comes comes wherever it is right

abbrev IsAccepted : (two : Members → Bool) → List ℕ → Result SettingsFields SettingsFault → Type 0
IsAccepted two bytes r = IfOk r (AcceptsBy two bytes)

abbrev IsRefused : (two : Members → Bool) → List ℕ → Result SettingsFields SettingsFault → Type 0
IsRefused two bytes r = IfErr r (λ e. OrMemory e (file_fault_by two bytes ≡ Some e))

accepts-exactly : (two : Members → Bool) (bytes : List ℕ) (r : Result SettingsFields SettingsFault)
    → IsAccepted two bytes r → IsRefused two bytes r → (g : SettingsFields) → AcceptsBy two bytes g → IsOrMemory r (Ok g)
accepts-exactly two bytes (Ok h) ok err g a = inl (ap Ok (AcceptsBy-unique two bytes h g ok a))
accepts-exactly two bytes (Err e) ok (inl memory) g a = inr (ap Err memory)
accepts-exactly two bytes (Err e) ok (inr fault) g a = let none = file_fault-accepted two bytes g a in cc

refuses-exactly : (two : Members → Bool) (bytes : List ℕ) (r : Result SettingsFields SettingsFault)
    → IsAccepted two bytes r → IsRefused two bytes r → (e : SettingsFault) → file_fault_by two bytes ≡ Some e → IsOrMemory r (Err e)
refuses-exactly two bytes (Ok h) ok err e f = let none = file_fault-accepted two bytes h ok in cc
refuses-exactly two bytes (Err d) ok (inl memory) e f = inr (ap Err memory)
refuses-exactly two bytes (Err d) ok (inr fault) e f = inl (cc)

pub IsAnswerBy-from : (two : Members → Bool) (bytes : List ℕ) (r : Result SettingsFields SettingsFault)
    → IfOk r (AcceptsBy two bytes) → IfErr r (λ e. OrMemory e (file_fault_by two bytes ≡ Some e)) → IsAnswerBy two bytes r
IsAnswerBy-from two bytes r ok err = record {
  accepted = ok;
  accepts = accepts-exactly two bytes r ok err;
  fault = err;
  refuses = refuses-exactly two bytes r ok err;
}
