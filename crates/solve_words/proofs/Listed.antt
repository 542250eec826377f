-- A text lists actions exactly where it is their key names, joined by commas.
use Rattle.std.proofs.Common.{◌≡◌, ◌≢◌, ◌<◌, ◌==◌, ◌++◌, ◌∙◌, ℕ, zero, suc, true, List, [], ◌∷◌, length, map, get_or, Option, None, Some, option_and_then, option_map, refl, sym, ap, subst, inl, inr, arith}
use Rattle.std.specs.List.{join_with_byte, slice_split}
use Rattle.std.specs.Str.{bytes_eq}
use Rattle.std.proofs.lemmas.Bool.{cases_Bool}
use Rattle.std.proofs.lemmas.List.Splits.{join_with_byte-slice_split, length-slice_split}
use Rattle.std.proofs.lemmas.Slice.Eq.{bytes_eq-Decides}
use Rattle.action_table.specs.declared.action.Action.{Action}
use Rattle.action_table.specs.declared.action.Action.TheVariants.{BasicSynthesis}
use Rattle.action_table.specs.Table.{key_of, all_actions}
use Rattle.craft_settings.specs.Fault.{first_some, when}
use Rattle.craft_settings.specs.Names.{action_of}
use Rattle.craft_settings.proofs.ActionNames.{action_of-key, action_of-none}
use Rattle.solve_words.specs.Done.{IsListOf, actions_named, comma, done_of}
use Rattle.solve_words.specs.Form.{Text}

abbrev pub parts : Text → List Text
parts text = slice_split (λ byte. byte == comma) text

-- no key name has a comma
parts-one : (action : Action) → parts (key_of action) ≡ key_of action ∷ []
parts-one BasicSynthesis = refl
parts-one _ = refl

parts-more : (action : Action) (rest : Text) → parts (key_of action ++ comma ∷ rest) ≡ key_of action ∷ parts rest
parts-more BasicSynthesis rest = refl
parts-more _ rest = refl

parts-joined : (action : Action) (actions : List Action) → parts (join_with_byte comma (map key_of (action ∷ actions))) ≡ map key_of (action ∷ actions)
parts-joined action [] = parts-one action
parts-joined action (next ∷ actions) =
    parts-more action (join_with_byte comma (map key_of (next ∷ actions))) ∙ ap (λ ps. key_of action ∷ ps) (parts-joined next actions)

-- names of actions name them
keys-named : (actions : List Action) → actions_named (map key_of actions) ≡ Some actions
keys-named [] = refl
keys-named (action ∷ actions) = rw (action_of-key true action, keys-named actions) refl

named-among : (actions : List Action) (name : Text) (action : Action) → first_some (λ a. when (bytes_eq (key_of a) name) a) actions ≡ Some action → key_of action ≡ name
named-among [] name action named = absurd (cc)
named-among (a ∷ actions) name action named =
    elim (cases_Bool (bytes_eq (key_of a) name)) [
      | inl same ↦
          let found : Some a ≡ Some action = rw same at named in
          let is : a ≡ action = cc in
          subst (λ (b : Action). key_of b ≡ name) is ((bytes_eq-Decides (key_of a) name).0 same)
      | inr differs ↦ named-among actions name action (rw differs at named)
    ]

name-of : (name : Text) (action : Action) → action_of true name ≡ Some action → key_of action ≡ name
unfolding action_of
name-of name action named = named-among all_actions name action named

first-key : (name : Text) (names : List Text) (actions : List Action) (first : Option Action) (rest : Option (List Action)) → action_of true name ≡ first
    → ((more : List Action) → rest ≡ Some more → map key_of more ≡ names) → option_and_then (λ a. option_map (λ more. a ∷ more) rest) first ≡ Some actions
    → map key_of actions ≡ name ∷ names
first-key name names actions None rest first_is keys is = absurd (cc)
first-key name names actions (Some a) None first_is keys is = absurd (cc)
first-key name names actions (Some a) (Some more) first_is keys is =
    let whole : a ∷ more ≡ actions = cc in
    subst (λ (all : List Action). map key_of all ≡ name ∷ names) whole (ap (λ n. n ∷ map key_of more) (name-of name a first_is) ∙ ap (λ ns. name ∷ ns) (keys more refl))

named-keys : (names : List Text) (actions : List Action) → actions_named names ≡ Some actions → map key_of actions ≡ names
named-keys [] actions named = let none : [] ≡ actions = cc in subst (λ (all : List Action). map key_of all ≡ []) none refl
named-keys (name ∷ names) actions named =
    first-key name names actions (action_of true name) (actions_named names) refl (λ more is. named-keys names more is) named

abbrev unnamed : Option (List Action)
unnamed = None

none-then : (o : Option Action) → option_and_then (λ a. option_map (λ more. a ∷ more) unnamed) o ≡ unnamed
none-then None = refl
none-then (Some a) = refl

-- a name that is no action's
none-at : (names : List Text) (place : ℕ) (name : Text) → place < length names → name ≡ get_or names place name → action_of true name ≡ None → actions_named names ≡ None
none-at [] place name less is none = absurd (omega (arith, less))
none-at (first ∷ names) zero name less is none = rw (sym is, none) refl
none-at (first ∷ names) (suc place) name less is none =
    ap (λ o. option_and_then (λ a. option_map (λ more. a ∷ more) o) (action_of true first)) (none-at names place name (omega (arith, less)) is none)
    ∙ none-then (action_of true first)

some-parts : (text : Text) (actions : List Action) → map key_of actions ≡ parts text → 0 < length actions
some-parts text [] keys = absurd (no_parts text keys)
  where
    no_parts : (text : Text) → [] ≡ parts text → ⊥
    no_parts text none = let some = length-slice_split (λ byte. byte == comma) text in let length_is : 0 ≡ length (parts text) = ap length none in omega (arith, some, length_is)
some-parts text (action ∷ actions) keys = omega arith

pub listed : (text : Text) (done : List Action) → done_of text ≡ Some done → IsListOf text done
unfolding done_of
listed text done named =
    let keys : map key_of done ≡ parts text = named-keys (parts text) done named in
    record {
      some = some-parts text done keys;
      is = sym (join_with_byte-slice_split comma text) ∙ ap (join_with_byte comma) (sym keys);
    }

pub lists : (text : Text) (done : List Action) → IsListOf text done → done_of text ≡ Some done
unfolding done_of
lists text [] is = absurd (omega (arith, is.some))
lists text (action ∷ actions) is =
    ap actions_named (ap parts is.is ∙ parts-joined action actions) ∙ keys-named (action ∷ actions)

-- the parts of the text are the names of these actions
pub all-named : (text : Text) (names : List Text) (actions : List Action) → names ≡ parts text → map key_of actions ≡ names → done_of text ≡ Some actions
unfolding done_of
all-named text names actions all keys = ap actions_named (sym all ∙ sym keys) ∙ keys-named actions

-- one of the parts is no action's name
pub one-unnamed : (text : Text) (place : ℕ) (name : Text) → (place < length (parts text)) × (name ≡ get_or (parts text) place name)
    → ((action : Action) → key_of action ≢ name) → done_of text ≡ None
unfolding done_of
one-unnamed text place name among other = none-at (parts text) place name among.0 among.1 (action_of-none true name other)
