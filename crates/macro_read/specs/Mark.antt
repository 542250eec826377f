-- The line `---` between two parts of an input.
use Rattle.std.specs.Prelude.{◌≡◌, ◌≤◌, ◌⊎◌, [], ◌∷◌, ◌++◌, length, codes}
use Rattle.macro_read.specs.Lines.{Text, line_end}

-- whole lines: nothing, or what ends with LF
abbrev pub IsWholeLines : Text → Type 0
IsWholeLines text = (text ≡ []) ⊎ ((most : Text) × (text ≡ most ++ (line_end ∷ [])))

-- the line `---` with what ends it: LF, CR and LF, or the end of the input
abbrev pub IsMark : Text → Text → Type 0
IsMark mark after = (mark ≡ codes "---\n") ⊎ ((mark ≡ codes "---\r\n") ⊎ ((mark ≡ codes "---") × (after ≡ [])))

-- the three forms of that line
abbrev pub IsMarkLine : Text → Type 0
IsMarkLine line = (line ≡ codes "---") ⊎ ((line ≡ codes "---\n") ⊎ (line ≡ codes "---\r\n"))

-- a line `---` stands between these parts
pub record IsMarkedBetween (input before after : Text) : Type 0 where
  pub mark : Text
  pub is_mark : IsMark mark after
  pub whole : IsWholeLines before
  pub parts : input ≡ before ++ (mark ++ after)

-- the first line `---` stands between these parts
pub record IsDivided (input before after : Text) : Type 0 where
  pub marked : IsMarkedBetween input before after
  pub first : (earlier later : Text) → IsMarkedBetween input earlier later → length before ≤ length earlier
