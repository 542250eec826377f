-- The action with a key name is the one that the table has.
use Rattle.std.proofs.Common.{◌≡◌, ◌≢◌, ◌||◌, ℕ, Bool, true, false, nat_lt, List, [], ◌∷◌, Option, Some, None, refl, inl, inr}
use Rattle.std.proofs.lemmas.Bool.{cases_Bool}
use Rattle.std.proofs.lemmas.Slice.Eq.{bytes_eq-Decides}
use Rattle.std.specs.Str.{bytes_eq}
use Rattle.action_table.specs.declared.action.Action.{Action}
use Rattle.action_table.specs.declared.action.Action.TheVariants.{BasicSynthesis, TrainedEye}
use Rattle.action_table.specs.Table.{number_of, key_of}
use Rattle.craft_settings.specs.Fault.{first_some, when}
use Rattle.craft_settings.specs.Names.{action_of, known_actions}

-- the answer for an action: none for Trained Eye in the first version
abbrev pub known : (two : Bool) → Action → Option Action
known two action = when (two || nat_lt (number_of action) (number_of TrainedEye)) action

pub action_of-key : (two : Bool) (action : Action) → action_of two (key_of action) ≡ known two action
unfolding action_of
action_of-key true BasicSynthesis = refl
action_of-key true _ = refl
action_of-key false BasicSynthesis = refl
action_of-key false _ = refl

none-named : (actions : List Action) (name : List ℕ) → ((action : Action) → key_of action ≢ name) → first_some (λ action. when (bytes_eq (key_of action) name) action) actions ≡ None
none-named [] name other = refl
none-named (action ∷ actions) name other =
    elim (cases_Bool (bytes_eq (key_of action) name)) [
      | inl same ↦ absurd (other action ((bytes_eq-Decides (key_of action) name).0 same))
      | inr differs ↦ rw differs (none-named actions name other)
    ]

pub action_of-none : (two : Bool) (name : List ℕ) → ((action : Action) → key_of action ≢ name) → action_of two name ≡ None
unfolding action_of
action_of-none two name other = none-named (known_actions two) name other

pub action_of-known : (two : Bool) (action : Action) (name : List ℕ) → key_of action ≡ name → (two || nat_lt (number_of action) (number_of TrainedEye)) ≡ true → action_of two name ≡ Some action
action_of-known two action name same is_known = rw (← same, action_of-key two action, is_known)

pub action_of-new : (two : Bool) (action : Action) (name : List ℕ) → key_of action ≡ name → (two || nat_lt (number_of action) (number_of TrainedEye)) ≡ false → action_of two name ≡ None
action_of-new two action name same is_new = rw (← same, action_of-key two action, is_new)
