-- The limits along a macro that completes the craft.
use Rattle.std.specs.Prelude.{ℕ, ◌≡◌, ◌≢◌, ◌<◌, ◌≤◌, ◌+◌, false, List, Some, None, length, slice_get, take, ⊤}
use Rattle.action_table.specs.declared.action.Action.{Action}
use Rattle.craft_state.specs.Craft.{StateFields}
use Rattle.craft_settings.specs.Ranges.{SettingsFields}
use Rattle.step_rules.specs.Legality.{start_of, is_over}
use Rattle.step_rules.specs.Macro.{counted}
use Rattle.step_rules.specs.Run.{run_of}
use Rattle.relaxed_moves.specs.Budget.{potential_of, start_potential_of}
use Rattle.relaxed_moves.specs.Optimum.{limit_of}
use Rattle.replay_report.specs.declared.style.Report.{Report}
use Rattle.replay_report.specs.declared.style.Report.TheVariants.{Plain, Limits, Levels}

-- the state has a limit, and no greater potential than the start
pub record IsLimited (g : SettingsFields) (grain : ℕ) (s : StateFields) : Type 0 where
  pub has : limit_of g grain s ≢ None
  pub potential : potential_of g s ≤ start_potential_of g

-- so has each prefix, of one action or more, that leaves the craft going
pub record AreLimited (g : SettingsFields) (grain : ℕ) (m : List Action) : Type 0 where
  pub each : (count : ℕ) (s : StateFields) → 1 ≤ count → run_of g (start_of g) (take count m) ≡ Some s → is_over g s ≡ false →
      IsLimited g grain s

-- one number for each action: the limit after it, and after the last the quality that counts
pub record AreLimitsAlong (g : SettingsFields) (grain : ℕ) (m : List Action) (limits : List ℕ) : Type 0 where
  pub as_many : length limits ≡ length m
  pub before_last : (place : ℕ) (s : StateFields) → place + 1 < length m → run_of g (start_of g) (take (place + 1) m) ≡ Some s →
      slice_get limits place ≡ limit_of g grain s
  pub at_last : (place : ℕ) (s : StateFields) → place + 1 ≡ length m → run_of g (start_of g) m ≡ Some s →
      slice_get limits place ≡ Some (counted g s)

-- the numbers that a report in this style reads
abbrev pub AreLimitsFor : SettingsFields → ℕ → Report → List Action → List ℕ → Type 0
AreLimitsFor g grain Plain m limits = ⊤
AreLimitsFor g grain Limits m limits = AreLimitsAlong g grain m limits
AreLimitsFor g grain Levels m limits = ⊤
