-- The bytes of a certificate, line by line.
use Rattle.std.specs.Prelude.{ℕ, Bool, true, false, List, [], ◌∷◌, ◌++◌, ◌≡◌, ◌+◌, ◌<◌, ◌^◌, length, map, codes, if◌then◌else◌}
use Rattle.std.specs.Fmt.{decimal}
use Rattle.prefix_fronts.specs.Prefix.{empty_prefix}
use Rattle.certificate_text.specs.declared.verdict.Verdict.{Verdict}
use Rattle.certificate_text.specs.declared.verdict.Verdict.TheVariants.{Complete, Failed, Limited, Late, Dominated, Kept}
use Rattle.certificate_text.specs.Text.{line_end, space, first_line, best_line, level_line}
use Rattle.certificate_laws.specs.Claims.{Claim}
use Rattle.certificate_laws.specs.Made.{ranked, AreMade}
use Rattle.certificate_maker.specs.declared.marks.Mark.{Mark}
use Rattle.certificate_maker.specs.declared.marks.Mark.TheVariants.{Settled, Open, RowEnd}
use Rattle.certificate_maker.specs.declared.rivals.Rival.{Rival}
use Rattle.pareto_front.specs.declared.node.Node.{Node}
use Rattle.certificate_maker.specs.Rivals.{AreBuckets, over_in}

-- the word of a verdict
abbrev pub verdict_word : Verdict → List ℕ
verdict_word Complete = codes "c"
verdict_word Failed = codes "f"
verdict_word Limited = codes "q"
verdict_word Late = codes "s"
verdict_word (Dominated place) = codes "d" ++ decimal place
verdict_word Kept = codes "k"

-- a space, but before the first word of a row
abbrev pub gap : Bool → List ℕ
gap first = if first then [] else space ∷ []

-- words, of which the first is the first of a row or not
abbrev pub words_from : Bool → List Verdict → List ℕ
words_from first [] = []
words_from first (verdict ∷ verdicts) = gap first ++ (verdict_word verdict ++ words_from false verdicts)

abbrev pub row_line : List Verdict → List ℕ
row_line verdicts = words_from true verdicts

-- lines with their ends
abbrev pub ended : List (List ℕ) → List ℕ
ended [] = []
ended (line ∷ lines) = line ++ line_end ∷ ended lines

-- the lines of the levels from one on
abbrev pub level_lines : ℕ → List (List (List Verdict)) → List (List ℕ)
level_lines level [] = level_line level 0 ∷ []
level_lines level (rows ∷ levels) = level_line level (length rows) ∷ (map row_line rows ++ level_lines (level + 1) levels)

-- places are numbers of the machine
abbrev pub IsSmall : Verdict → Type 0
IsSmall (Dominated place) = place < 2 ^ 64
IsSmall _ = Unit {0}

abbrev pub AreSmall : List Verdict → Type 0
AreSmall [] = Unit {0}
AreSmall (verdict ∷ verdicts) = IsSmall verdict × AreSmall verdicts

abbrev pub RowsSmall : List (List Verdict) → Type 0
RowsSmall [] = Unit {0}
RowsSmall (row ∷ rows) = AreSmall row × RowsSmall rows

-- and so are the numbers of the levels from one on
abbrev pub LevelsSmall : ℕ → List (List (List Verdict)) → Type 0
LevelsSmall level [] = level < 2 ^ 64
LevelsSmall level (rows ∷ levels) =
    (level < 2 ^ 64) × (length rows < 2 ^ 64) × RowsSmall rows × LevelsSmall (level + 1) levels

-- the lines of the certificate that is made for a claim
pub record IsWritten (claim : Claim) (bytes : List ℕ) : Type 0 where
  pub levels : List (List (List Verdict))
  pub made : AreMade claim 0 (empty_prefix claim.g ∷ []) levels
  pub small : LevelsSmall 0 levels
  pub is : bytes ≡ ended (first_line claim.grain ∷ (best_line claim.actions ∷ level_lines 0 levels))

-- the text of one mark, with the buckets of the next level
abbrev pub mark_text : List (List Rival) → Bool → Mark → List ℕ
mark_text buckets first RowEnd = line_end ∷ []
mark_text buckets first (Settled verdict) = gap first ++ verdict_word verdict
mark_text buckets first (Open child) = gap first ++ verdict_word (ranked (over_in buckets child))

abbrev pub ends_row : Mark → Bool
ends_row RowEnd = true
ends_row (Settled verdict) = false
ends_row (Open child) = false

-- the text of the marks of a level, of which the first is the first of a row or not
abbrev pub marks_text : List (List Rival) → Bool → List Mark → List ℕ
marks_text buckets first [] = []
marks_text buckets first (mark ∷ marks) = mark_text buckets first mark ++ marks_text buckets (ends_row mark) marks

-- the rows of a level are appended, over some buckets of the next level
pub record IsLevelText (next : List Node) (marks : List Mark) (before after : List ℕ) : Type 0 where
  pub buckets : List (List Rival)
  pub are : AreBuckets next buckets
  pub is : after ≡ before ++ marks_text buckets true marks
