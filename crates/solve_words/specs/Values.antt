-- The values of options, what stands where an option is not given, and the number of a sample.
use Rattle.std.specs.Prelude.{ℕ, ◌+◌, ◌-◌, ◌*◌, ◌==◌, ◌&&◌, ◌||◌, Bool, not, List, [], ◌∷◌, length, slice_index, nat_lt, nat_le, Option, Some, None, option_map, find, if◌then◌else◌, codes}
use Rattle.std.specs.Char.{is_ascii_digit}
use Rattle.std.specs.List.{list_all}
use Rattle.std.specs.Str.{bytes_eq}
use Rattle.std.specs.Str.Parse.{digits_value}
use Rattle.solve_words.specs.Form.{Text}
use Rattle.replay_report.specs.declared.style.Report.{Report}
use Rattle.replay_report.specs.declared.style.Report.TheVariants.{Plain, Limits, Levels}

abbrev pub default_workers : ℕ
default_workers = 4

abbrev pub default_grain : ℕ
default_grain = 16

-- the most workers, and the greatest grain
abbrev pub most : ℕ
most = 64

-- the ASCII digit 0
abbrev pub zero_digit : ℕ
zero_digit = 48

-- a number of one or two ASCII digits, of which the first is not 0, from 1 to 64
abbrev pub small_number_of : Text → Option ℕ
small_number_of (a ∷ []) = if is_ascii_digit a && not (a == zero_digit) then Some (a - zero_digit) else None
small_number_of (a ∷ b ∷ []) =
    if is_ascii_digit a && not (a == zero_digit) && is_ascii_digit b && nat_le (10 * (a - zero_digit) + (b - zero_digit)) most
    then Some (10 * (a - zero_digit) + (b - zero_digit)) else None
small_number_of _ = None

abbrev pub number_or : Option Text → ℕ → Option ℕ
number_or None default = Some default
number_or (Some text) default = small_number_of text

-- the styles of a report, by their names
abbrev pub report_table : List (Text × Report)
report_table = (codes "plain", Plain) ∷ (codes "limits", Limits) ∷ (codes "levels", Levels) ∷ []

abbrev pub report_named : Text → Option Report
report_named text = option_map (λ row. row.1) (find (λ row. bytes_eq text row.0) report_table)

abbrev pub report_or : Option Text → Option Report
report_or None = Some Plain
report_or (Some text) = report_named text

-- the most digits of a sample's number
abbrev pub most_digits : ℕ
most_digits = 6

-- one to six ASCII digits, the first of which is not 0 unless it is the only one
abbrev pub is_sample_number : Text → Bool
is_sample_number text =
    nat_lt 0 (length text) && nat_le (length text) most_digits && list_all is_ascii_digit text
    && (length text == 1 || not (slice_index text 0 == zero_digit))

-- the number of a sample that a text gives
abbrev pub sample_number_of : Text → Option ℕ
sample_number_of text = if is_sample_number text then Some (digits_value 10 text) else None
