-- What `sweep` answers.
use Rattle.std.specs.Prelude.{ℕ, ◌≡◌, ◌-◌, List, [], ◌∷◌, ◌++◌, Option, None, Some, codes}
use Rattle.std.specs.List.{concat}
use Rattle.std.specs.Fmt.{decimal}
use Rattle.action_table.specs.declared.action.Action.{Action}
use Rattle.craft_settings.specs.Ranges.{SettingsFields}
use Rattle.craft_settings.specs.Rules.{cap_of}
use Rattle.macro_order.specs.Order.{IsBest, NothingCompletes}
use Rattle.macro_text.specs.Blocks.{blocks_of}
use Rattle.replay_report.specs.Report.{first_line}
use Rattle.replay_report.specs.Sample.{none_line}
use Rattle.run_io.specs.Answering.{Rows, WithSettings}
use Rattle.step_rules.specs.Legality.{start_of}
use Rattle.run_io.specs.declared.status.Status.TheVariants.{Solved, NoMacro, NotReached}
use Rattle.stat_sweep.specs.Bases.{with_base}
use Rattle.stat_sweep.specs.Sweeping.{FallsShort, IsBestBelow, IsLeastEnough}
use Rattle.stat_sweep.specs.declared.TheConstants.{MOST_BASE}

-- a macro at a base quality: the line that names that, the first line of a report, and the blocks
abbrev pub part_of : SettingsFields → ℕ → List Action → List ℕ
part_of g base m =
    let crafter = with_base g base in
    concat (codes "at " ∷ decimal base ∷ codes "\n" ∷ first_line crafter (start_of crafter) m ∷ blocks_of m ∷ [])

abbrev pub least_line : SettingsFields → ℕ → List ℕ
least_line g base = concat (codes "least base quality " ∷ decimal base ∷ codes " for quality " ∷ decimal (cap_of g) ∷ codes "\n" ∷ [])

abbrev pub short_line : SettingsFields → List ℕ
short_line g = concat (codes "no base quality to 5000 reaches " ∷ decimal (cap_of g) ∷ codes "\n" ∷ [])

-- the macro at one less, if there is one
abbrev pub part_below : SettingsFields → ℕ → Option (List Action) → List ℕ
part_below g base None = []
part_below g base (Some m) = part_of g (base - 1) m

-- the least base quality that is enough, with the best macro there and, above 1, the best macro at one less
pub record TellsLeast (g : SettingsFields) (text : List ℕ) : Type 0 where
  pub base : ℕ
  pub is_least : IsLeastEnough g base
  pub best : List Action
  pub is_best : IsBest (with_base g base) best
  pub below : Option (List Action)
  pub is_below : IsBestBelow g base below
  pub is : text ≡ least_line g base ++ part_of g base best ++ part_below g base below

-- the greatest base quality isn't enough; the best macro there
pub record TellsShort (g : SettingsFields) (text : List ℕ) : Type 0 where
  pub short : FallsShort g
  pub best : List Action
  pub is_best : IsBest (with_base g MOST_BASE) best
  pub is : text ≡ short_line g ++ part_of g MOST_BASE best

-- the least base quality that is enough
abbrev pub SweepsTo : SettingsFields → Rows
SweepsTo g Solved text = TellsLeast g text
SweepsTo g NotReached text = TellsShort g text
SweepsTo g NoMacro text = NothingCompletes g × (text ≡ none_line)
SweepsTo g _ text = ⊥

-- the answer to the bytes of a settings file
abbrev pub SweepAnswers : List ℕ → Rows
SweepAnswers = WithSettings SweepsTo
