-- What a craft can still reach from a state, and a ceiling over its quality.
use Rattle.std.specs.Prelude.{ℕ, Bool, true, false, List, Option, Some, None, ◌≡◌, nat_lt}
use Rattle.action_table.specs.declared.action.Action.{Action}
use Rattle.craft_state.specs.Craft.{StateFields}
use Rattle.craft_settings.specs.Ranges.{SettingsFields}
use Rattle.step_rules.specs.Legality.{is_complete, is_legal}
use Rattle.step_rules.specs.Step.{step_of}
use Rattle.step_rules.specs.Run.{run_of}
use Rattle.step_rules.specs.Macro.{counted}
use Rattle.macro_order.specs.Order.{NothingCompletesFrom}
use Rattle.relaxed_moves.specs.Optimum.{option_le}
pub use Rattle.prefix_fronts.specs.Prefix.{IsOpen, IsGreatestFrom, IsReachedFrom}

-- the greatest quality with which a list completes the craft from a state, and none where no list completes it
abbrev pub IsGreatestQualityFrom : SettingsFields → StateFields → Option ℕ → Type 0
IsGreatestQualityFrom g from None = NothingCompletesFrom g from
IsGreatestQualityFrom g from (Some q) = IsReachedFrom g from q × IsGreatestFrom g from q

-- the quality is no more than the best
abbrev pub IsAtMost : ℕ → Option ℕ → Type 0
IsAtMost q best = option_le (Some q) best

-- more than the best quality
abbrev pub is_above : ℕ → Option ℕ → Bool
is_above n None = true
is_above n (Some b) = nat_lt b n

-- no completion from the state has more quality
abbrev pub NoBetter : SettingsFields → StateFields → Option ℕ → Type 0
NoBetter g s best = (m : List Action) (last : StateFields) → run_of g s m ≡ Some last → is_complete g last ≡ true →
    IsAtMost (counted g last) best

-- the greatest quality above a floor, and none where no completion has more than the floor
abbrev pub IsGreatestAbove : SettingsFields → StateFields → Option ℕ → Option ℕ → Type 0
IsGreatestAbove g from floor None = NoBetter g from floor
IsGreatestAbove g from floor (Some q) = (is_above q floor ≡ true) × IsReachedFrom g from q × IsGreatestFrom g from q

-- what makes limits a ceiling: where they may be asked of an open state, they may be of each open state that a legal
-- action leads to; and no completion from an open state after the first action has more quality than its limit
pub record IsCeiling (g : SettingsFields) (allows : StateFields → Type 0) (limit : StateFields → Option ℕ) : Type 0 where
  pub next : (s : StateFields) (action : Action) → IsOpen g s → allows s → is_legal g s action ≡ true →
      IsOpen g (step_of g s action) → allows (step_of g s action)
  pub most : (s : StateFields) → IsOpen g s → allows s → s.effects.first ≡ false → NoBetter g s (limit s)

-- the state is open, and the limits are a ceiling that may be asked of it
pub record IsOutlook (g : SettingsFields) (allows : StateFields → Type 0) (limit : StateFields → Option ℕ)
    (from : StateFields) : Type 0 where
  pub from_open : IsOpen g from
  pub allowed : allows from
  pub ceiling : IsCeiling g allows limit
