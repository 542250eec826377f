-- Words of which one is stray give no options.
use Rattle.std.proofs.Common.{◌≡◌, ◌&&◌, ◌||◌, Bool, true, false, not, cond, List, [], ◌∷◌, ◌++◌, Option, Some, None, is_some, refl, sym, ap, ◌∙◌, true≢false}
use Rattle.std.specs.List.{list_any}
use Rattle.clap.specs.Lexer.{long_of}
use Rattle.solve_words.specs.Form.{Text, Given, has, is_option, is_hyphened, add, on_word, given_from, given_in, is_stray}

abbrev nothing : Option (List Given)
nothing = None

cond_none : (b : Bool) → cond b nothing nothing ≡ nothing
cond_none true = refl
cond_none false = refl

module _ (names : List Text) where
  record NoneOf (given : List Given) (words : List Text) : Type 0 where
    start : given_from names given None words ≡ None
    waiting : (n : Text) → given_from names given (Some n) words ≡ None

  added : (given : List Given) (n v : Text) (rest : List Text) → ((more : List Given) → NoneOf more rest) → add names given n v (λ more. given_from names more None rest) ≡ None
  added given n v rest ih =
      ap (λ o. cond (is_option names n && not (has n given)) o None) (ih (given ++ (n, v) ∷ [])).start ∙ cond_none (is_option names n && not (has n given))

  stray_none : (words : List Text) → list_any is_stray words ≡ true → (given : List Given) → NoneOf given words
  stray_none [] some given = absurd (true≢false (sym some))
  stray_none (word ∷ rest) some given = go (is_stray word) refl some (λ later more. stray_none rest later more)
    where
      begun : (o : Option (Text × Option Text)) → ((more : List Given) → NoneOf more rest)
          → on_word (λ name. given_from names given (Some name) rest) (λ name value. add names given name value (λ more. given_from names more None rest)) o ≡ None
      begun None ih = refl
      begun (Some (n, None)) ih = (ih given).waiting n
      begun (Some (n, Some v)) ih = added given n v rest ih

      then_on : (n : Text) (h : Bool) → ((more : List Given) → NoneOf more rest) → cond h None (add names given n word (λ more. given_from names more None rest)) ≡ None
      then_on n true ih = refl
      then_on n false ih = added given n word rest ih

      now : (h : Bool) (o : Option (Text × Option Text)) → is_hyphened word ≡ h → long_of word ≡ o → (h && not (is_some o)) ≡ true → NoneOf given (word ∷ rest)
      now false o hyphened long e = absurd (true≢false (sym e))
      now true (Some p) hyphened long e = absurd (true≢false (sym e))
      now true None hyphened long e = record {
        start = ap (λ o. on_word (λ name. given_from names given (Some name) rest) (λ name value. add names given name value (λ more. given_from names more None rest)) o) long;
        waiting = λ n. ap (λ b. cond b None (add names given n word (λ more. given_from names more None rest))) hyphened;
      }

      go : (b : Bool) → is_stray word ≡ b → (b || list_any is_stray rest) ≡ true → (list_any is_stray rest ≡ true → (more : List Given) → NoneOf more rest) → NoneOf given (word ∷ rest)
      go true e h ih = now (is_hyphened word) (long_of word) refl refl e
      go false e h ih = record { start = begun (long_of word) (ih h); waiting = λ n. then_on n (is_hyphened word) (ih h) }

pub stray_gives_none : (names words : List Text) → list_any is_stray words ≡ true → given_in names words ≡ None
stray_gives_none names words some = (stray_none names words some []).start
