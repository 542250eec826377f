-- The settings that a file gives.
use Rattle.std.specs.Prelude.{◌≡◌, ◌≤◌, ℕ, Bool, List, length, None, Some, Result, Ok, Err, IfOk, IfErr, ◌⊎◌}
use Rattle.std.specs.Int.{bit_at}
use Rattle.toml.specs.Data.{Members}
use Rattle.craft_settings.specs.Ranges.{SettingsFields}
use Rattle.craft_settings.specs.Keys.{level_key, cp_key, durability_key, progress_key, quality_key, initial_quality_key, target_key, backload_key}
use Rattle.craft_settings.specs.Document.{document, is_two}
use Rattle.craft_settings.specs.Fault.{OrMemory}
use Rattle.craft_settings.specs.Names.{flag_at, is_ruled_out, bit}
use Rattle.craft_settings.specs.Reading.{number_at, base_progress, base_quality, fault_by, file_fault_by, file_fault, max_length}
use Rattle.craft_settings.specs.declared.fault.SettingsFault.{SettingsFault}
use Rattle.craft_settings.specs.declared.fault.SettingsFault.TheVariants.{WantMemory}

-- by the list of a version the document gives these settings
pub record GivesBy (two : Bool) (doc : Members) (g : SettingsFields) : Type 0 where
  pub level : g.level ≡ number_at doc level_key 1
  pub cp : g.cp ≡ number_at doc cp_key 0
  pub durability : g.durability ≡ number_at doc durability_key 10
  pub progress : g.progress ≡ number_at doc progress_key 1
  pub quality : g.quality ≡ number_at doc quality_key 0
  pub initial : g.initial ≡ number_at doc initial_quality_key 0
  pub base_progress : g.base_progress ≡ base_progress doc
  pub base_quality : g.base_quality ≡ base_quality doc
  pub forbidden : (n : ℕ) → bit_at g.forbidden n ≡ bit (is_ruled_out two doc n)
  pub target : g.target ≡ number_at doc target_key g.quality
  pub backload : g.backload ≡ flag_at doc backload_key

-- the bytes are an accepted file with these settings, where `two` says which documents are of the second version
pub record AcceptsBy (two : Members → Bool) (bytes : List ℕ) (g : SettingsFields) : Type 0 where
  pub short : length bytes ≤ max_length
  pub doc : Members
  pub is_document : document bytes ≡ Some doc
  pub no_fault : fault_by (two doc) doc ≡ None
  pub gives : GivesBy (two doc) doc g

-- the bytes are an accepted file with these settings
abbrev pub Accepts : List ℕ → SettingsFields → Type 0
Accepts = AcceptsBy is_two

-- the answer is the wanted one, or want of memory
abbrev pub IsOrMemory : (answer wanted : Result SettingsFields SettingsFault) → Type 0
IsOrMemory answer wanted = (answer ≡ wanted) ⊎ (answer ≡ Err WantMemory)

-- the answer to a file, or want of memory: `Ok` exactly with settings that it gives, and a fault exactly where it is the first
pub record IsAnswerBy (two : Members → Bool) (bytes : List ℕ) (answer : Result SettingsFields SettingsFault) : Type 0 where
  pub accepted : IfOk answer (AcceptsBy two bytes)
  pub accepts : (g : SettingsFields) → AcceptsBy two bytes g → IsOrMemory answer (Ok g)
  pub fault : IfErr answer (λ e. OrMemory e (file_fault_by two bytes ≡ Some e))
  pub refuses : (e : SettingsFault) → file_fault_by two bytes ≡ Some e → IsOrMemory answer (Err e)

-- the bytes are an accepted file
pub record IsAccepted (bytes : List ℕ) : Type 0 where
  pub settings : SettingsFields
  pub accepts : Accepts bytes settings

-- the bytes have a fault
pub record HasFault (bytes : List ℕ) : Type 0 where
  pub fault : SettingsFault
  pub is : file_fault bytes ≡ Some fault
