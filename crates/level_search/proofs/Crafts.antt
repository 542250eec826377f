-- What an aim knows of its craft.
use Rattle.std.proofs.Common.{◌≤◌, subst}
use Rattle.craft_settings.specs.Ranges.{AreSettings}
use Rattle.level_search.specs.declared.aim.Aim.{Aim}

pub aim-settings : (aim : Aim) → AreSettings aim.g.now
aim-settings aim = subst AreSettings aim.quality_craft aim.quality.now.truth.settings

pub aim-grain : (aim : Aim) → 1 ≤ aim.grain
aim-grain aim = subst (λ grain. 1 ≤ grain) aim.quality_grain aim.quality.now.truth.grain_range.low
