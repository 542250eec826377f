-- Which of two complete macros is better.
use Rattle.std.specs.Prelude.{ℕ, Bool, true, false, List, [], ◌∷◌, ◌++◌, Option, Some, None, ◌≡◌, ◌⊎◌, ◌+◌, ◌&&◌, ◌||◌, ◌==◌, nat_lt, length, if◌then◌else◌}
use Rattle.action_table.specs.declared.action.Action.{Action}
use Rattle.action_table.specs.Table.{number_of, action_seconds}
use Rattle.craft_state.specs.Craft.{StateFields}
use Rattle.craft_settings.specs.Ranges.{SettingsFields}
use Rattle.step_rules.specs.Legality.{start_of, is_complete}
use Rattle.step_rules.specs.Macro.{counted}
use Rattle.step_rules.specs.Run.{run_of}
use Rattle.macro_order.specs.declared.scores.Score.{Score}

-- how long a list takes
abbrev pub seconds_of : List Action → ℕ
seconds_of [] = 0
seconds_of (a ∷ m) = action_seconds a + seconds_of m

-- the score of a list that ends in a state
abbrev pub scored : SettingsFields → List Action → Option StateFields → Option Score
scored g m None = None
scored g m (Some s) =
    if is_complete g s then Some (record { quality = counted g s; steps = length m; seconds = seconds_of m }) else None

-- the score of a list that completes the craft from a state, and none of any other list
abbrev pub score_from : SettingsFields → StateFields → List Action → Option Score
score_from g from m = scored g m (run_of g from m)

-- the score of a complete legal macro
abbrev pub score_of : SettingsFields → List Action → Option Score
score_of g m = score_from g (start_of g) m

-- the smaller action number at the first place of difference
abbrev pub precedes : List Action → List Action → Bool
precedes [] n = false
precedes (a ∷ m) [] = false
precedes (a ∷ m) (b ∷ n) = nat_lt (number_of a) (number_of b) || (number_of a == number_of b && precedes m n)

-- more quality, or then fewer steps, or then fewer seconds, or then the earlier list
abbrev pub is_better : Score → List Action → Score → List Action → Bool
is_better a m b n =
    nat_lt b.quality a.quality || (a.quality == b.quality && (nat_lt a.steps b.steps
    || (a.steps == b.steps && (nat_lt a.seconds b.seconds || (a.seconds == b.seconds && precedes m n)))))

-- a list that completes the craft from a state and is better than each other
pub record IsBestFrom (g : SettingsFields) (from : StateFields) (m : List Action) : Type 0 where
  pub score : Score
  pub completes : score_from g from m ≡ Some score
  pub best : (n : List Action) (b : Score) → score_from g from n ≡ Some b → (m ≡ n) ⊎ (is_better score m b n ≡ true)

-- no list completes the craft from a state
abbrev pub NothingCompletesFrom : SettingsFields → StateFields → Type 0
NothingCompletesFrom g from = (m : List Action) → score_from g from m ≡ None

-- the complete legal macro that is better than each other
abbrev pub IsBest : SettingsFields → List Action → Type 0
IsBest g m = IsBestFrom g (start_of g) m

-- no legal macro completes the craft
abbrev pub NothingCompletes : SettingsFields → Type 0
NothingCompletes g = NothingCompletesFrom g (start_of g)

-- the actions that are done and then the list complete the craft, and are better than with each other list
pub record IsBestAfter (g : SettingsFields) (done c : List Action) : Type 0 where
  pub score : Score
  pub completes : score_of g (done ++ c) ≡ Some score
  pub best : (n : List Action) (b : Score) → score_of g (done ++ n) ≡ Some b →
      (c ≡ n) ⊎ (is_better score (done ++ c) b (done ++ n) ≡ true)

-- no list completes the craft after the actions that are done
abbrev pub NothingCompletesAfter : SettingsFields → List Action → Type 0
NothingCompletesAfter g done = (m : List Action) → score_of g (done ++ m) ≡ None
