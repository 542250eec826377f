-- The greatest gain by trying each first move in turn.
use Rattle.std.proofs.Common.{ℕ, List, [], ◌∷◌, ◌++◌, Option, Some, None, ◌≡◌, ◌≤◌, ◌+◌, length, take, ◌∙◌, ap, sym, subst, IfSome, arith}
use Rattle.std.proofs.lemmas.List.{take_all}
use Rattle.action_table.specs.declared.action.Action.{Action}
use Rattle.action_table.specs.Table.{number_of, all_actions}
use Rattle.craft_settings.specs.Ranges.{SettingsFields}
use Rattle.relaxed_moves.specs.Optimum.{option_max, greatest_each}
use Rattle.relaxed_moves.proofs.Greatest.{option_max-assoc, option_max-none, greatest_each-append}
use Rattle.priced_moves.specs.declared.kinds.Prices.{Prices}
use Rattle.priced_moves.specs.declared.kinds.Units.{Units}
use Rattle.priced_moves.specs.FirstMoves.{at_end, leads_with}
use Rattle.priced_moves.specs.Moves.{SeenFields}
use Rattle.priced_moves.specs.Optimum.{best}
use Rattle.priced_moves.specs.Prices.{AreFair}
use Rattle.priced_moves.proofs.FirstMoves.{first-move}
use Rattle.priced_moves.proofs.Trails.{take_to_action}

-- the greatest gain with these first moves tried
abbrev pub led : Prices → SettingsFields → Units → ℕ → SeenFields → List Action → Option ℕ
led p g units budget x tried = option_max (at_end x) (greatest_each (leads_with p g units budget x) tried)

pub led-none : (p : Prices) (g : SettingsFields) (units : Units) (budget : ℕ) (x : SeenFields) → led p g units budget x [] ≡ at_end x
led-none p g units budget x = option_max-none (at_end x)

led-push : (p : Prices) (g : SettingsFields) (units : Units) (budget : ℕ) (x : SeenFields) (tried : List Action) (a : Action) →
    led p g units budget x (tried ++ a ∷ []) ≡ option_max (led p g units budget x tried) (leads_with p g units budget x a)
led-push p g units budget x tried a =
    ap (λ o. option_max (at_end x) o)
    (greatest_each-append (leads_with p g units budget x) tried (a ∷ [])
    ∙ ap (λ o. option_max (greatest_each (leads_with p g units budget x) tried) o) (option_max-none (leads_with p g units budget x a)))
    ∙ sym (option_max-assoc (at_end x) (greatest_each (leads_with p g units budget x) tried) (leads_with p g units budget x a))

-- one more action of the action order
pub led-take : (p : Prices) (g : SettingsFields) (units : Units) (budget : ℕ) (x : SeenFields) (a : Action) (n : ℕ) → number_of a ≡ n →
    led p g units budget x (take (n + 1) all_actions) ≡ option_max (led p g units budget x (take n all_actions)) (leads_with p g units budget x a)
led-take p g units budget x a n at =
    subst (λ (m : ℕ). led p g units budget x (take (m + 1) all_actions) ≡ option_max (led p g units budget x (take m all_actions)) (leads_with p g units budget x a)) at
    (rw (take_to_action a) (led-push p g units budget x (take (number_of a) all_actions) a))

-- with all tried it is the best
pub led-all : (p : Prices) (g : SettingsFields) (units : Units) (budget : ℕ) (x : SeenFields) (n : ℕ) → length all_actions ≤ n → AreFair g p →
    led p g units budget x (take n all_actions) ≡ best p g units budget x
led-all p g units budget x n whole fair =
    ap (led p g units budget x) (take_all n all_actions whole) ∙ first-move p g units budget x fair

-- one more first move, as it is tried
pub led-tried : (p : Prices) (g : SettingsFields) (units : Units) (budget : ℕ) (x : SeenFields) (a : Action) (n : ℕ) (old lead new : Option ℕ) → number_of a ≡ n →
    old ≡ led p g units budget x (take n all_actions) → lead ≡ leads_with p g units budget x a → new ≡ option_max old lead → new ≡ led p g units budget x (take (n + 1) all_actions)
led-tried p g units budget x a n old lead new at so leads now =
    now ∙ ap (λ o. option_max o lead) so ∙ ap (λ o. option_max (led p g units budget x (take n all_actions)) o) leads ∙ sym (led-take p g units budget x a n at)

pub some-max : (k : ℕ) (a b : Option ℕ) → IfSome a (λ n. n ≤ k) → IfSome b (λ n. n ≤ k) → IfSome (option_max a b) (λ n. n ≤ k)
some-max k None b h l = l
some-max k (Some m) None h l = h
some-max k (Some m) (Some n) h l = omega arith

pub some-by : (k : ℕ) (a b new : Option ℕ) → new ≡ option_max a b → IfSome a (λ n. n ≤ k) → IfSome b (λ n. n ≤ k) → IfSome new (λ n. n ≤ k)
some-by k a b new now h l = subst (λ o. IfSome o (λ n. n ≤ k)) (sym now) (some-max k a b h l)
