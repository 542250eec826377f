-- What the checker knows of kept prefixes.
use Rattle.std.specs.Prelude.{ℕ, Bool, true, false, ◌≡◌, ◌≤◌, ◌++◌, Some, List, [], ◌∷◌, length, if◌then◌else◌}
use Rattle.action_table.specs.declared.action.Action.{Action}
use Rattle.craft_state.specs.Craft.{StateFields}
use Rattle.craft_settings.specs.Ranges.{SettingsFields}
use Rattle.relaxed_moves.specs.Budget.{potential_of, start_potential_of}
use Rattle.step_rules.specs.Legality.{start_of, IsWithin}
use Rattle.step_rules.specs.Run.{run_of}
use Rattle.step_rules.specs.declared.legality.TheConstants.{MOST_STEPS}
use Rattle.macro_order.specs.Order.{seconds_of, score_of}
use Rattle.prefix_fronts.specs.Prefix.{Prefix, extend}
use Rattle.certificate_text.specs.declared.verdict.Verdict.{Verdict}
use Rattle.certificate_text.specs.Text.{IsRow}
use Rattle.certificate_text.specs.Reading.{IsNoRow, IsReadRow}
use Rattle.front_check.specs.declared.judge.Claimed.{Claimed}
use Rattle.certificate_laws.specs.Claims.{Claim, RowHolds, legal_after, is_kept, kept_of}

-- the state is one of the craft, and the seconds are few
pub record CanGoOn (g : SettingsFields) (p : Prefix) : Type 0 where
  pub within : IsWithin g p.state
  pub short : p.seconds ≤ 1000

-- a line that is one verdict for each legal action adds what it keeps
abbrev pub IsPushed : SettingsFields → Prefix → List ℕ → List Prefix → List Prefix → Bool → Type 0
IsPushed g p line old new true =
    (row : List Verdict) × (IsReadRow line (length (legal_after g p)) row × (new ≡ old ++ kept_of g p (legal_after g p) row))
IsPushed g p line old new false = IsNoRow line (length (legal_after g p)) × (new ≡ old)

-- the prefix with one action more, where its verdict keeps it
abbrev pub kept_child : SettingsFields → Prefix → Action → Verdict → List Prefix
kept_child g p action verdict = if is_kept verdict then extend g p action ∷ [] else []

-- what the limits are those of: the craft and the grain
pub record Bounds : Type 0 where
  pub g : SettingsFields
  pub grain : ℕ

abbrev pub bounds_of : Claimed → Bounds
bounds_of claimed = record { g = claimed.g.now; grain = claimed.grain }

-- the limits of a state are asked for only where it is one of the craft, with no more potential than the start
pub record MayAsk (bounds : Bounds) (s : StateFields) : Type 0 where
  pub within : IsWithin bounds.g s
  pub potential : potential_of bounds.g s ≤ start_potential_of bounds.g

-- the claim of what is to be checked
abbrev pub claim_of : Claimed → Claim
claim_of claimed = record { g = claimed.g.now; grain = claimed.grain; actions = claimed.actions.now; score = claimed.score }

-- the macro completes the craft with this score, of so many steps
pub record IsClaimed (claimed : Claimed) : Type 0 where
  pub scored : score_of claimed.g.now claimed.actions.now ≡ Some claimed.score
  pub steps : length claimed.actions.now ≡ claimed.score.steps

-- what legal actions from the start lead to
pub record IsBegun (g : SettingsFields) (p : Prefix) : Type 0 where
  pub within : IsWithin g p.state
  pub ran : run_of g (start_of g) p.actions ≡ Some p.state
  pub seconds : p.seconds ≡ seconds_of p.actions
  pub short : length p.actions ≤ MOST_STEPS

-- the line is a row whose verdicts hold
abbrev pub RowObeys : Claim → List Prefix → Prefix → List ℕ → Type 0
RowObeys claim next p line =
    (verdicts : List Verdict) × (IsRow verdicts line × RowHolds claim next p (legal_after claim.g p) verdicts)
