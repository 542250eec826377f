-- The form of options: they are these, each at most once, each written in one of two ways, in some order.
use Rattle.std.specs.Prelude.{◌≡◌, ◌≤◌, true, false, List, [], ◌∷◌, Some, None, count_by, flat_map, ⊤}
use Rattle.std.specs.List.{list_all}
use Rattle.std.specs.Str.{bytes_eq}
use Rattle.clap.specs.Lexer.{long_of}
use Rattle.solve_words.specs.Form.{Text, Given, is_option, is_hyphened}

-- the words write the option: one word `--name=value`, or the two words `--name` and its value, which doesn't begin
-- with a hyphen
abbrev pub IsWritten : Given → List Text → Type 0
IsWritten option (word ∷ []) = long_of word ≡ Some (option.0, Some option.1)
IsWritten option (word ∷ value ∷ []) = (long_of word ≡ Some (option.0, None)) × (value ≡ option.1) × (is_hyphened value ≡ false)
IsWritten option _ = ⊥

-- each part writes its option
abbrev pub AreWritten : List Given → List (List Text) → Type 0
AreWritten [] [] = ⊤
AreWritten (option ∷ options) (part ∷ parts) = IsWritten option part × AreWritten options parts
AreWritten _ _ = ⊥

-- the words are these options in their order, each of which has one of the names, and no two the same
pub record AreOptions (names words : List Text) (options : List Given) : Type 0 where
  pub parts : List (List Text)
  pub cut : words ≡ flat_map (λ part. part) parts
  pub written : AreWritten options parts
  pub known : list_all (λ option. is_option names option.0) options ≡ true
  pub once : (name : Text) → count_by (λ option. bytes_eq option.0 name) options ≤ 1
