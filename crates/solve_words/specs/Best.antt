-- The form of the words after the name of the program that finds the best macro alone.
use Rattle.std.specs.Prelude.{ℕ, List, [], ◌∷◌, Option, option_and_then, codes}
use Rattle.solve_words.specs.Form.{Text, Given, given_in, value_of}
use Rattle.solve_words.specs.Values.{number_or, default_workers}

-- how many workers the given options ask for
abbrev pub workers_given : List Given → Option ℕ
workers_given given = number_or (value_of (codes "workers") given) default_workers

-- how many workers the words ask for; none where they are not of the form
abbrev pub best_words_of : List Text → Option ℕ
best_words_of words = option_and_then workers_given (given_in (codes "workers" ∷ []) words)
