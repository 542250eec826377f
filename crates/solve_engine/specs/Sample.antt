-- What `sample` answers.
use Rattle.std.specs.Prelude.{ℕ, ◌≡◌, List, length}
use Rattle.action_table.specs.declared.action.Action.{Action}
use Rattle.macro_order.specs.Order.{IsBest, NothingCompletes}
use Rattle.level_search.specs.Answer.{HasQuality}
use Rattle.level_search.specs.Reaching.{front_sizes}
use Rattle.replay_report.specs.Sample.{sample_none_of, sample_report_of}
use Rattle.run_io.specs.Answering.{Rows}
use Rattle.run_io.specs.declared.status.Status.TheVariants.{Solved, NoMacro}
use Rattle.sample_craft.specs.Sample.{sample_of}
use Rattle.solve_words.specs.declared.words.Words.{Words}

-- the two lines on a macro of the sample settings of a number, with the sizes of its fronts at a grain
pub record IsSampleText (n grain : ℕ) (m : List Action) (text : List ℕ) : Type 0 where
  pub quality : ℕ
  pub has : HasQuality (sample_of n) m quality
  pub is : text ≡ sample_report_of n (sample_of n) (front_sizes (sample_of n) grain quality (length m)) m

-- the two lines on the best macro of the sample settings of a number, or those for none where no legal macro completes
abbrev pub SampleAnswers : Words → ℕ → Rows
SampleAnswers given n Solved text = (m : List Action) × IsBest (sample_of n) m × IsSampleText n given.grain m text
SampleAnswers given n NoMacro text = NothingCompletes (sample_of n) × (text ≡ sample_none_of n (sample_of n))
SampleAnswers given n _ text = ⊥
