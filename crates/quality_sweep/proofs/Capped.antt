-- A recipe's cap is a ceiling.
use Rattle.std.proofs.Common.{Some, arith}
use Rattle.craft_settings.specs.Ranges.{SettingsFields}
use Rattle.craft_settings.specs.Rules.{cap_of}
use Rattle.quality_sweep.specs.Ahead.{IsCeiling}

pub cap_is_ceiling : (g : SettingsFields) → IsCeiling g (λ _. Unit {0}) (λ _. Some (cap_of g))
cap_is_ceiling g = record {
  next = λ s action opened allowed legal after. tt;
  most = λ s opened allowed later m last ran complete. omega arith;
}
