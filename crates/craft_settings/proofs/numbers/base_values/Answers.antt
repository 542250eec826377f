use Rattle.std.proofs.Common.{◌≡◌, None, sym}
use Rattle.craft_settings.specs.Keys.{base_progress_key, base_quality_key}
use Rattle.craft_settings.specs.Steps.{base_fault}
use Rattle.craft_settings.proofs.RangeLemmas.{progress_within, quality_within}
use Rattle.craft_settings.proofs.numbers.base_values.Goals as goal

pub invariant_of-result-2 : goal.invariant_of-result-2
invariant_of-result-2 c =
    let progress : base_fault base_progress_key c.stats_progress-progress.result ≡ None = rw (← c.in_default.is) (sym c.base_fault.ensures) in
    let quality : base_fault base_quality_key c.stats_quality-quality.result ≡ None = rw (← c.in_default-base_fault.is) (sym c.base_fault-2.ensures) in
    record { progress_in = progress_within _ progress; quality_in = quality_within _ quality }
