-- A small craft and its certificate, with texts that are none.
use Rattle.std.specs.Prelude.{ℕ, false, List, [], ◌∷◌, codes}
use Rattle.action_table.specs.declared.action.Action.{Action}
use Rattle.action_table.specs.declared.action.Action.TheVariants.{BasicSynthesis, BasicTouch}
use Rattle.craft_settings.specs.Ranges.{SettingsFields}

-- a crafter of level 5 with CP for one touch
abbrev pub small_craft : SettingsFields
small_craft = record {
  level = 5;
  cp = 18;
  durability = 20;
  progress = 100;
  quality = 500;
  initial = 0;
  base_progress = 100;
  base_quality = 100;
  forbidden = 0;
  target = 500;
  backload = false;
}

-- its best macro is a touch and then a synthesis
abbrev pub small_best : List Action
small_best = BasicTouch ∷ BasicSynthesis ∷ []

abbrev pub small_text : List ℕ
small_text = codes "raphael certificate 1 grain 16\nbest 1 0\nlevel 0 1\nc k\nlevel 1 1\nc\nlevel 2 0\n"

-- the touch is said to lose by its limit, which is as high as the quality of the best macro
abbrev pub limited_text : List ℕ
limited_text = codes "raphael certificate 1 grain 16\nbest 1 0\nlevel 0 1\nc q\nlevel 1 0\n"

-- the touch is said to take too many steps
abbrev pub late_text : List ℕ
late_text = codes "raphael certificate 1 grain 16\nbest 1 0\nlevel 0 1\nc s\nlevel 1 0\n"

-- a prefix is said to dominate the touch, where none is kept
abbrev pub dominated_text : List ℕ
dominated_text = codes "raphael certificate 1 grain 16\nbest 1 0\nlevel 0 1\nc d0\nlevel 1 0\n"

-- the synthesis alone is said to be the best macro
abbrev pub worse_text : List ℕ
worse_text = codes "raphael certificate 1 grain 16\nbest 0\nlevel 0 1\nc k\nlevel 1 1\nc\nlevel 2 0\n"

-- the last line is missing
abbrev pub short_text : List ℕ
short_text = codes "raphael certificate 1 grain 16\nbest 1 0\nlevel 0 1\nc k\nlevel 1 1\nc\n"

-- the end of the last line is missing
abbrev pub unended_text : List ℕ
unended_text = codes "raphael certificate 1 grain 16\nbest 1 0\nlevel 0 1\nc k\nlevel 1 1\nc\nlevel 2 0"
