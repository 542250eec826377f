-- The form of the words after a program's name: a command, and then what the table of commands
-- gives to it.
use Rattle.std.specs.Prelude.{◌≡◌, ◌≤◌, ℕ, List, [], ◌∷◌, Option, Some, None, option_and_then, find, codes, ⊤}
use Rattle.std.specs.Str.{bytes_eq}
use Rattle.clap.specs.Matches.{found_of, first_value}
use Rattle.clap.specs.declared.parser.matches.ArgMatches.{ArgMatches}
use Rattle.solve_words.specs.Form.{Text, Given, given_in, value_of}
use Rattle.solve_words.specs.Done.{done_of}
use Rattle.solve_words.specs.Values.{number_or, report_or, sample_number_of, default_workers, default_grain}
use Rattle.craft_settings.specs.Ranges.{IsFromTo}
use Rattle.sample_craft.specs.Sample.{most_number}
use Rattle.replay_report.specs.declared.style.Report.{Report}
use Rattle.solve_words.specs.declared.words.Command.{Command}
use Rattle.solve_words.specs.declared.words.Command.TheVariants.{Solve, Sample, Resume, Sweep, Replay, Check, Certify, Verify}
use Rattle.solve_words.specs.declared.words.Words.{Words}

abbrev pub words_read : Command → Option ℕ → Option ℕ → Option Report → Option Words
words_read command (Some w) (Some g) (Some r) = Some (record { command = command; workers = w; grain = g; report = r })
words_read command _ _ _ = None

-- what a command with these options says: each value as its option takes it, and the default of
-- every option that is not given
abbrev pub words_given : Command → List Given → Option Words
words_given command given =
    words_read command (number_or (value_of (codes "workers") given) default_workers)
    (number_or (value_of (codes "grain") given) default_grain)
    (report_or (value_of (codes "report") given))

-- the names of each command's options
abbrev pub options_of : Command → List Text
options_of Solve = codes "workers" ∷ codes "grain" ∷ codes "report" ∷ []
options_of (Sample number) = codes "workers" ∷ codes "grain" ∷ []
options_of (Resume done) = codes "done" ∷ codes "workers" ∷ codes "grain" ∷ []
options_of Sweep = codes "workers" ∷ codes "grain" ∷ []
options_of Replay = []
options_of Check = codes "workers" ∷ codes "grain" ∷ []
options_of Certify = codes "workers" ∷ codes "grain" ∷ []
options_of Verify = []

-- what a command with these words after it says: options
abbrev pub words_with : Command → List Text → Option Words
words_with command words = option_and_then (words_given command) (given_in (options_of command) words)

-- what the words after `sample` say: the sample's number, and then options
abbrev pub after_sample : List Text → Option Words
after_sample [] = None
after_sample (number ∷ rest) =
    option_and_then (λ n. words_with (Sample n) rest) (sample_number_of number)

-- what the options of `resume` say: the actions that are done must be there
abbrev pub resume_given : List Given → Option Words
resume_given given =
    option_and_then (λ done. words_given (Resume done) given) (option_and_then done_of (value_of (codes "done") given))

-- what the words after `resume` say: options
abbrev pub after_resume : List Text → Option Words
after_resume words = option_and_then resume_given (given_in (options_of (Resume [])) words)

-- the commands, each with what the words after it say
abbrev pub command_table : List (Text × (List Text → Option Words))
command_table =
    (codes "solve", words_with Solve) ∷ (codes "sample", after_sample) ∷ (codes "resume", after_resume)
    ∷ (codes "sweep", words_with Sweep) ∷ (codes "replay", words_with Replay) ∷ (codes "check", words_with Check)
    ∷ (codes "certify", words_with Certify) ∷ (codes "verify", words_with Verify) ∷ []

-- what the words say; none where they are not of the form
abbrev pub words_of : List Text → Option Words
words_of [] = None
words_of (first ∷ rest) = option_and_then (λ row. row.1 rest) (find (λ row. bytes_eq first row.0) command_table)

-- the number of a sample is in its range
abbrev pub HasSample : Command → Type 0
HasSample (Sample number) = number ≤ most_number
HasSample _ = ⊤

-- the numbers of the words are in their ranges
pub record AreInRange (words : Words) : Type 0 where
  pub sample : HasSample words.command
  pub workers : IsFromTo 1 64 words.workers
  pub grain : IsFromTo 1 64 words.grain

-- clap found just the options that the words give
pub record FindsOptions (names words : List Text) (m : ArgMatches) : Type 0 where
  pub given : List Given
  pub is : given_in names words ≡ Some given
  pub values : (id : Text) → first_value (found_of m) id ≡ value_of id given

-- what a command says with the options that clap found
abbrev pub words_found : Command → ArgMatches → Option Words
words_found command m =
    words_read command (number_or (first_value (found_of m) (codes "workers")) default_workers)
    (number_or (first_value (found_of m) (codes "grain")) default_grain) (report_or (first_value (found_of m) (codes "report")))
