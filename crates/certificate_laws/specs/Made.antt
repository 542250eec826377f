-- The certificate that is made for the best macro.
use Rattle.std.specs.Prelude.{ℕ, Bool, ◌≡◌, ◌+◌, ◌-◌, ◌<◌, ◌==◌, ◌&&◌, ◌||◌, not, if◌then◌else◌}
use Rattle.std.specs.Prelude.{Option, Some, None, List, [], ◌∷◌, length, map, position}
use Rattle.action_table.specs.declared.action.Action.{Action}
use Rattle.craft_state.specs.Craft.{StateFields}
use Rattle.craft_settings.specs.Ranges.{SettingsFields}
use Rattle.step_rules.specs.Legality.{is_complete, is_over}
use Rattle.macro_order.specs.declared.scores.Score.{Score}
use Rattle.macro_order.specs.Order.{score_of}
use Rattle.prefix_fronts.specs.Prefix.{Prefix, Test, empty_prefix, extend, dominates, survivors, next_children}
use Rattle.relaxed_moves.specs.Optimum.{limit_of, within_of}
use Rattle.certificate_text.specs.declared.verdict.Verdict.{Verdict}
use Rattle.certificate_text.specs.declared.verdict.Verdict.TheVariants.{Complete, Failed, Limited, Late, Dominated, Kept}
use Rattle.certificate_text.specs.Text.{IsText}
use Rattle.certificate_laws.specs.Claims.{Claim, is_below, is_at_most, legal_after}

-- `q` holds of a live state
unfoldable pub is_limited : Claim → StateFields → Bool
is_limited claim s = is_below (limit_of claim.g claim.grain s) claim.score.quality

-- `s` holds of a live state, where so many steps of the macro are left
unfoldable pub is_late : Claim → ℕ → StateFields → Bool
is_late claim left s =
    is_at_most (limit_of claim.g claim.grain s) claim.score.quality
    && (left == 0 || is_below (within_of claim.g claim.grain s left) claim.score.quality)

-- neither holds
unfoldable pub may_win : Claim → Test
may_win claim left s = not (is_limited claim s) && not (is_late claim left s)

-- the first of `c`, `f`, `q` and `s` that a state has
unfoldable pub settled : Claim → ℕ → StateFields → Option Verdict
settled claim left s =
    if is_complete claim.g s then Some Complete
    else if is_over claim.g s then Some Failed
    else if is_limited claim s then Some Limited
    else if is_late claim left s then Some Late
    else None

-- `d` with the first place that dominates, or else `k`
abbrev pub ranked : Option ℕ → Verdict
ranked (Some place) = Dominated place
ranked None = Kept

abbrev pub or_ranked : Option Verdict → Option ℕ → Verdict
or_ranked (Some verdict) over = verdict
or_ranked None over = ranked over

-- the verdict of a prefix, where so many steps of the macro are left and these are the kept prefixes of its level
unfoldable pub verdict_of : Claim → ℕ → List Prefix → Prefix → Verdict
verdict_of claim left next p = or_ranked (settled claim left p.state) (position (λ q. dominates q p) next)

-- how many steps of the macro are left after a level
abbrev pub left_after : Claim → ℕ → ℕ
left_after claim level = claim.score.steps - (level + 1)

-- the verdicts of a kept prefix of a level
unfoldable pub row_of : Claim → ℕ → List Prefix → Prefix → List Verdict
row_of claim level next p =
    map (λ action. verdict_of claim (left_after claim level) next (extend claim.g p action)) (legal_after claim.g p)

-- the kept prefixes of the next level: the live children without `q` and `s` that no other of these dominates
unfoldable pub next_level : Claim → ℕ → List Prefix → List Prefix
next_level claim level kept = survivors (next_children claim.g (may_win claim) (left_after claim level) kept)

-- the verdicts that are made of the levels from one on, where the level has these kept prefixes; the last level has none
abbrev pub AreMade : Claim → ℕ → List Prefix → List (List (List Verdict)) → Type 0
AreMade claim level kept [] = kept ≡ []
AreMade claim level kept (rows ∷ levels) =
    (0 < length kept)
    × (rows ≡ map (row_of claim level (next_level claim level kept)) kept)
    × AreMade claim (level + 1) (next_level claim level kept) levels

-- the bytes are the text of the certificate that is made for a macro
pub record IsMade (g : SettingsFields) (grain : ℕ) (actions : List Action) (bytes : List ℕ) : Type 0 where
  pub score : Score
  pub completes : score_of g actions ≡ Some score
  pub levels : List (List (List Verdict))
  pub text : IsText (record { grain = grain; actions = actions; levels = levels }) bytes
  pub made : AreMade
      (record { g = g; grain = grain; actions = actions; score = score })
      0 (empty_prefix g ∷ []) levels
