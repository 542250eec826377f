-- The places of relaxed states in a table.
use Rattle.std.specs.Prelude.{ℕ, Bool, ◌+◌, ◌*◌, ◌/◌, ◌%◌, ◌==◌, if◌then◌else◌}
use Rattle.craft_settings.specs.Ranges.{SettingsFields}
use Rattle.relaxed_moves.specs.Budget.{start_potential_of}
use Rattle.relaxed_moves.specs.Moves.{RelaxedFields}
use Rattle.relaxed_moves.specs.declared.places.TheConstants.{MOST_MOVES, BUCKET_STATES}

-- the number of places for so many first numbers
abbrev pub place_count : (grain firsts : ℕ) → ℕ
place_count grain firsts = firsts * (grain + 1) * BUCKET_STATES

abbrev pub quality_size_of : SettingsFields → ℕ → ℕ
quality_size_of g grain = place_count grain (start_potential_of g + 1)

abbrev pub step_size_of : ℕ → ℕ
step_size_of grain = place_count grain (MOST_MOVES + 1)

abbrev pub bit : Bool → ℕ
bit on = if on then 1 else 0

-- the number of a relaxed state's effects, the bucket apart
abbrev pub effect_number : RelaxedFields → ℕ
effect_number x = (((x.iq * 5 + x.innovation) * 5 + x.veneration) * 2 + bit x.strides) * 2 + bit x.muscle

-- the place of a first number, a budget or a number of moves, and a relaxed state
abbrev pub index_of : (grain first : ℕ) → RelaxedFields → ℕ
index_of grain first x =
    (((((first * (grain + 1) + x.bucket) * 11 + x.iq) * 5 + x.innovation) * 5 + x.veneration) * 2 + bit x.strides) * 2 + bit x.muscle

-- the first number of a place
abbrev pub first_at : (grain index : ℕ) → ℕ
first_at grain index = index / BUCKET_STATES / (grain + 1)

-- the relaxed state of a place
unfoldable pub state_at : (grain index : ℕ) → RelaxedFields
state_at grain index = record {
  bucket = index / BUCKET_STATES % (grain + 1);
  iq = index % BUCKET_STATES / 100;
  innovation = index % BUCKET_STATES / 20 % 5;
  veneration = index % BUCKET_STATES / 4 % 5;
  strides = index % BUCKET_STATES / 2 % 2 == 1;
  muscle = index % BUCKET_STATES % 2 == 1;
}
