-- The options that a list of words gives: each as two words `--name value` or as one word
-- `--name=value`, in any order, each at most once.
use Rattle.std.specs.Prelude.{ℕ, ◌==◌, ◌&&◌, Bool, false, not, List, [], ◌∷◌, ◌++◌, Option, Some, None, is_some, option_map, find, if◌then◌else◌}
use Rattle.std.specs.List.{list_any}
use Rattle.std.specs.Str.{bytes_eq}
use Rattle.clap.specs.Lexer.{long_of}

abbrev pub Text : Type 0
Text = List ℕ

-- an option that was given, by its name and its value
abbrev pub Given : Type 0
Given = Text × Text

-- the option was given
abbrev pub has : Text → List Given → Bool
has name given = list_any (λ p. bytes_eq p.0 name) given

-- the value that was given for the option
abbrev pub value_of : Text → List Given → Option Text
value_of name given = option_map (λ p. p.1) (find (λ p. bytes_eq p.0 name) given)

-- the name is one of these
abbrev pub is_option : List Text → Text → Bool
is_option names name = list_any (λ n. bytes_eq n name) names

-- the text begins with a hyphen
abbrev pub is_hyphened : Text → Bool
is_hyphened [] = false
is_hyphened (x ∷ xs) = x == 45

-- `next` of the options with one more, which is one of these names and was not given before
abbrev pub add : List Text → List Given → Text → Text → (List Given → Option (List Given)) → Option (List Given)
add names given name value next = if is_option names name && not (has name given) then next (given ++ (name, value) ∷ []) else None

-- what a word begins: `lone` where it is `--name`, `whole` where it is `--name=value`
abbrev pub on_value : (Text → Option (List Given)) → (Text → Text → Option (List Given)) → Text → Option Text → Option (List Given)
on_value lone whole name None = lone name
on_value lone whole name (Some value) = whole name value

-- the same for every word; a word that is neither gives none
abbrev pub on_word : (Text → Option (List Given)) → (Text → Text → Option (List Given)) → Option (Text × Option Text) → Option (List Given)
on_word lone whole None = None
on_word lone whole (Some p) = on_value lone whole p.0 p.1

-- the options of the words, after those already given. `Some name` says that this option waits
-- for its value, which is the next word; no value begins with a hyphen.
abbrev pub given_from : List Text → List Given → Option Text → List Text → Option (List Given)
given_from names given None [] = Some given
given_from names given (Some name) [] = None
given_from names given None (word ∷ rest) = on_word (λ name. given_from names given (Some name) rest)
    (λ name value. add names given name value (λ more. given_from names more None rest)) (long_of word)
given_from names given (Some name) (word ∷ rest) =
    if is_hyphened word then None else add names given name word (λ more. given_from names more None rest)

-- the options that the words give, of those with these names
abbrev pub given_in : List Text → List Text → Option (List Given)
given_in names words = given_from names [] None words

-- a word with a hyphen that is neither `--name` nor `--name=value`
abbrev pub is_stray : Text → Bool
is_stray word = is_hyphened word && not (is_some (long_of word))
