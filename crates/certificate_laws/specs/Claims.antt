-- What the verdicts of a certificate claim.
use Rattle.std.specs.Prelude.{ℕ, Bool, true, false, ◌≡◌, ◌⊎◌, ◌-◌, ◌<◌, ◌≤◌, nat_lt, nat_le, Option, Some, None, if◌then◌else◌}
use Rattle.std.specs.Prelude.{List, [], ◌∷◌, ◌++◌, length, filter, slice_get}
use Rattle.action_table.specs.declared.action.Action.{Action}
use Rattle.action_table.specs.Table.{all_actions}
use Rattle.craft_state.specs.Craft.{StateFields}
use Rattle.craft_settings.specs.Ranges.{SettingsFields}
use Rattle.step_rules.specs.Legality.{is_complete, is_over, is_legal}
use Rattle.step_rules.specs.Macro.{counted}
use Rattle.macro_order.specs.declared.scores.Score.{Score}
use Rattle.macro_order.specs.Order.{is_better}
use Rattle.prefix_fronts.specs.Prefix.{Prefix, extend, dominates}
use Rattle.relaxed_moves.specs.Optimum.{limit_of, within_of}
use Rattle.certificate_text.specs.declared.verdict.Verdict.{Verdict}
use Rattle.certificate_text.specs.declared.verdict.Verdict.TheVariants.{Complete, Failed, Limited, Late, Dominated, Kept}

-- what a certificate is about: the craft, the grain of the limits, and the macro with its score
pub record Claim : Type 0 where
  pub g : SettingsFields
  pub grain : ℕ
  pub actions : List Action
  pub score : Score

-- the score of a prefix that completes the craft
abbrev pub score_at : SettingsFields → Prefix → Score
score_at g p = record { quality = counted g p.state; steps = length p.actions; seconds = p.seconds }

-- a limit is none, or less than a quality
abbrev pub is_below : Option ℕ → ℕ → Bool
is_below None quality = true
is_below (Some limit) quality = nat_lt limit quality

-- a limit is none, or no more than a quality
abbrev pub is_at_most : Option ℕ → ℕ → Bool
is_at_most None quality = true
is_at_most (Some limit) quality = nat_le limit quality

-- the macro has as many steps or fewer, or its quality can't be reached in the steps that are left of them
abbrev pub IsTooLong : Claim → Prefix → Type 0
IsTooLong claim p =
    (claim.score.steps ≤ length p.actions)
    ⊎ (is_below (within_of claim.g claim.grain p.state (claim.score.steps - length p.actions)) claim.score.quality ≡ true)

-- what a verdict claims of the prefix that ends with its action, where these are the kept prefixes of the next level
abbrev pub Holds : Claim → List Prefix → Prefix → Verdict → Type 0
Holds claim next p Complete =
    (is_complete claim.g p.state ≡ true)
    × ((claim.actions ≡ p.actions) ⊎ (is_better claim.score claim.actions (score_at claim.g p) p.actions ≡ true))
Holds claim next p Failed = (p.state.durability ≡ 0) × (is_complete claim.g p.state ≡ false)
Holds claim next p Limited =
    (is_over claim.g p.state ≡ false) × (is_below (limit_of claim.g claim.grain p.state) claim.score.quality ≡ true)
Holds claim next p Late =
    (is_over claim.g p.state ≡ false)
    × (is_at_most (limit_of claim.g claim.grain p.state) claim.score.quality ≡ true)
    × IsTooLong claim p
Holds claim next p (Dominated place) =
    (is_over claim.g p.state ≡ false) × ((q : Prefix) × (slice_get next place ≡ Some q) × (dominates q p ≡ true))
Holds claim next p Kept = is_over claim.g p.state ≡ false

-- the legal actions in a state, in action order
unfoldable pub legal_at : SettingsFields → StateFields → List Action
legal_at g s = filter (is_legal g s) all_actions

-- and those after a prefix
abbrev pub legal_after : SettingsFields → Prefix → List Action
legal_after g p = legal_at g p.state

-- one verdict for each of these actions, and each holds
abbrev pub RowHolds : Claim → List Prefix → Prefix → List Action → List Verdict → Type 0
RowHolds claim next p [] [] = Unit {0}
RowHolds claim next p [] (verdict ∷ row) = ⊥
RowHolds claim next p (action ∷ actions) [] = ⊥
RowHolds claim next p (action ∷ actions) (verdict ∷ row) =
    Holds claim next (extend claim.g p action) verdict × RowHolds claim next p actions row

-- one row for each kept prefix of a level, and each holds
abbrev pub RowsHold : Claim → List Prefix → List Prefix → List (List Verdict) → Type 0
RowsHold claim next [] [] = Unit {0}
RowsHold claim next [] (row ∷ rows) = ⊥
RowsHold claim next (p ∷ kept) [] = ⊥
RowsHold claim next (p ∷ kept) (row ∷ rows) =
    RowHolds claim next p (legal_after claim.g p) row × RowsHold claim next kept rows

abbrev pub is_kept : Verdict → Bool
is_kept Kept = true
is_kept _ = false

-- the prefixes that a row keeps, in order
abbrev pub kept_of : SettingsFields → Prefix → List Action → List Verdict → List Prefix
kept_of g p [] row = []
kept_of g p (action ∷ actions) [] = []
kept_of g p (action ∷ actions) (verdict ∷ row) =
    if is_kept verdict then extend g p action ∷ kept_of g p actions row else kept_of g p actions row

-- the kept prefixes of the next level, in order
abbrev pub next_kept : SettingsFields → List Prefix → List (List Verdict) → List Prefix
next_kept g [] rows = []
next_kept g (p ∷ kept) [] = []
next_kept g (p ∷ kept) (row ∷ rows) = kept_of g p (legal_after g p) row ++ next_kept g kept rows

-- each verdict of the levels from one on holds, where the level has these kept prefixes; the last level has none
abbrev pub LevelsHold : Claim → List Prefix → List (List (List Verdict)) → Type 0
LevelsHold claim kept [] = kept ≡ []
LevelsHold claim kept (rows ∷ levels) =
    (0 < length kept)
    × RowsHold claim (next_kept claim.g kept rows) kept rows
    × LevelsHold claim (next_kept claim.g kept rows) levels
