-- The lines of the macro that is found for the sample settings of a number.
use Rattle.std.proofs.Common.{ℕ, ◌≡◌, ◌∙◌, ap, subst, List, length}
use Rattle.action_table.specs.declared.action.Action.{Action}
use Rattle.craft_settings.specs.Ranges.{SettingsFields}
use Rattle.macro_order.specs.Order.{IsBest}
use Rattle.level_search.specs.Answer.{HasQuality}
use Rattle.level_search.specs.Reaching.{front_sizes}
use Rattle.replay_report.specs.Sample.{sample_report_of}
use Rattle.sample_craft.specs.Sample.{sample_of}
use Rattle.solve_engine.specs.Sample.{IsSampleText}
use Rattle.solve_engine.specs.Search.{IsFound}
use Rattle.solve_engine.specs.declared.searches.Found.{Found}

pub sampled : (n grain : ℕ) (g : SettingsFields) (f : Found) (text : List ℕ) → g ≡ sample_of n → IsFound g grain f
    → text ≡ sample_report_of n g f.counts.items f.actions.items → (m : List Action) × IsBest (sample_of n) m × IsSampleText n grain m text
sampled n grain g f text drawn found is =
    let m = f.actions.items in
    let sizes = ap (λ (counts : List ℕ). sample_report_of n g counts m) found.counts in
    let settings = ap (λ (h : SettingsFields). sample_report_of n h (front_sizes h grain found.quality (length m)) m) drawn in (
      m,
      subst (λ (h : SettingsFields). IsBest h m) drawn found.best,
      record {
        quality = found.quality;
        has = subst (λ (h : SettingsFields). HasQuality h m found.quality) drawn found.has;
        is = is ∙ sizes ∙ settings;
      },
    )
