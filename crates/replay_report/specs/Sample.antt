-- The text that is written for a sample craft.
use Rattle.std.specs.Prelude.{ℕ, List, [], ◌∷◌, ◌++◌, codes, length, sum}
use Rattle.std.specs.List.{concat}
use Rattle.std.specs.Fmt.{decimal}
use Rattle.action_table.specs.declared.action.Action.{Action}
use Rattle.craft_state.specs.Craft.{StateFields}
use Rattle.craft_settings.specs.Ranges.{SettingsFields}
use Rattle.step_rules.specs.Legality.{start_of}
use Rattle.macro_order.specs.Order.{seconds_of}
use Rattle.replay_report.specs.Report.{text_after}

-- the first line: the sample's number and its settings
abbrev pub sample_line : ℕ → SettingsFields → List ℕ
sample_line number g =
    concat (codes "sample " ∷ decimal number ∷ codes " level " ∷ decimal g.level ∷ codes " cp " ∷ decimal g.cp ∷ codes " durability "
    ∷ decimal g.durability ∷ codes " progress " ∷ decimal g.progress ∷ codes " quality " ∷ decimal g.quality ∷ codes " base "
    ∷ decimal g.base_progress ∷ codes " " ∷ decimal g.base_quality ∷ codes "\n" ∷ [])

-- a line of what a macro comes to, by its numbers
abbrev pub sums_line : (steps seconds quality most kept : ℕ) → List ℕ
sums_line steps seconds quality most kept =
    concat (codes "steps " ∷ decimal steps ∷ codes " seconds " ∷ decimal seconds ∷ codes " quality " ∷ decimal quality ∷ codes "/"
    ∷ decimal most ∷ codes " kept " ∷ decimal kept ∷ codes "\n" ∷ [])

-- the second line, for actions that end in a state
abbrev pub result_line : SettingsFields → (counts : List ℕ) → List Action → StateFields → List ℕ
result_line g counts m last = sums_line (length m) (seconds_of m) last.quality g.quality (sum counts)

-- the second line where no legal macro completes
abbrev pub none_line : List ℕ
none_line = codes "none\n"

-- both lines for a macro
abbrev pub sample_report_of : ℕ → SettingsFields → (counts : List ℕ) → List Action → List ℕ
sample_report_of number g counts m = sample_line number g ++ text_after g (start_of g) m (result_line g counts m)

-- both lines where no legal macro completes
abbrev pub sample_none_of : ℕ → SettingsFields → List ℕ
sample_none_of number g = sample_line number g ++ none_line
