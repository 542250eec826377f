-- The craft that a test makes from five numbers.
use Rattle.std.specs.Prelude.{ℕ, false}
use Rattle.craft_settings.specs.Ranges.{SettingsFields}

-- base values of 100, all quality counts, and nothing is forbidden
abbrev pub craft_of : (level cp durability progress quality : ℕ) → SettingsFields
craft_of level cp durability progress quality = record {
  level = level;
  cp = cp;
  durability = durability;
  progress = progress;
  quality = quality;
  initial = 0;
  base_progress = 100;
  base_quality = 100;
  forbidden = 0;
  target = quality;
  backload = false;
}
