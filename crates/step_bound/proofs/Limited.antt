-- The limit within so many steps, by what the calls answer.
use Rattle.std.proofs.Common.{ℕ, Bool, true, false, Option, Some, ◌≡◌, ◌≤◌, ◌<◌, nat_le, refl, ◌∙◌, ap, arith, if◌then◌else◌}
use Rattle.craft_state.specs.Craft.{StateFields}
use Rattle.craft_settings.specs.Ranges.{SettingsFields}
use Rattle.craft_settings.specs.Rules.{cap_of}
use Rattle.relaxed_moves.specs.Moves.{relax_of}
use Rattle.relaxed_moves.specs.Optimum.{reach, capped, within_of}
use Rattle.relaxed_moves.specs.declared.places.TheConstants.{MOST_MOVES}

first_of : (b : Bool) (a c : Option ℕ) → b ≡ true → a ≡ (if b then a else c)
first_of true a c e = refl
first_of false a c e = absurd (cc)

second_of : (b : Bool) (a c : Option ℕ) → b ≡ false → c ≡ (if b then a else c)
second_of true a c e = absurd (cc)
second_of false a c e = refl

pub within-is : (g : SettingsFields) (grain : ℕ) (s : StateFields) (j : ℕ) (result : Option ℕ) → j ≤ MOST_MOVES
    → result ≡ capped g s (reach g grain j (relax_of g grain s)) → result ≡ within_of g grain s j
unfolding within_of
within-is g grain s j result low is = is ∙ first_of (nat_le j MOST_MOVES) _ (Some (cap_of g)) (let holds : nat_le j MOST_MOVES ≡ true = grind (arith, low) in holds)

pub within-more : (g : SettingsFields) (grain : ℕ) (s : StateFields) (j cap : ℕ) → MOST_MOVES < j → cap ≡ cap_of g → Some cap ≡ within_of g grain s j
unfolding within_of
within-more g grain s j cap high is = ap Some is ∙ second_of (nat_le j MOST_MOVES) (capped g s (reach g grain j (relax_of g grain s))) (Some (cap_of g)) (let fails : nat_le j MOST_MOVES ≡ false = grind (arith, high) in fails)
