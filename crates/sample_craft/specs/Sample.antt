-- The settings of a sample craft.
use Rattle.std.specs.Prelude.{ℕ, zero, suc, ◌+◌, ◌*◌, ◌/◌, ◌%◌, ◌^◌, false}
use Rattle.action_table.specs.declared.action.Action.TheVariants.{TrainedEye}
use Rattle.action_table.specs.Table.{number_of}
use Rattle.craft_settings.specs.Ranges.{SettingsFields}

-- the greatest number of a sample
abbrev pub most_number : ℕ
most_number = 999999

-- the generator's state after one turn
unfoldable pub turned : ℕ → ℕ
turned state = (1103515245 * state + 12345) % 2147483648

-- the generator's state after so many turns; it starts at the sample's number
abbrev pub state_after : (number turns : ℕ) → ℕ
state_after number zero = number
state_after number (suc turns) = turned (state_after number turns)

-- what a turn of the generator draws: its state without the lower 16 bits
abbrev pub drawn : (number turn : ℕ) → ℕ
drawn number turn = state_after number turn / 65536

-- The settings of a sample: each number is drawn by a turn of its own. All quality counts, and Trained Eye alone is
-- forbidden.
abbrev pub sample_of : ℕ → SettingsFields
sample_of number = record {
  level = 20 + drawn number 1 % 31;
  cp = 80 + drawn number 2 % 71;
  durability = 20 + 5 * (drawn number 3 % 5);
  progress = 100 + drawn number 4 % 201;
  quality = 200 + drawn number 5 % 401;
  initial = 0;
  base_progress = 40 + drawn number 6 % 41;
  base_quality = 60 + drawn number 7 % 61;
  forbidden = 2 ^ number_of TrainedEye;
  target = 200 + drawn number 5 % 401;
  backload = false;
}
