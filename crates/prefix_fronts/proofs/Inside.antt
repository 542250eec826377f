-- The proper prefixes of what the fronts lead to are in the fronts.
use Rattle.std.proofs.Common.{◌≡◌, ◌∙◌, sym, ℕ, zero, suc, ◌+◌, ◌-◌, ◌<◌, true, ◌&&◌, List, [], ◌∷◌, ◌++◌, take, arith, refl, ap, subst}
use Rattle.plain_lemmas.proofs.Places.{Contains-Among, Among-Contains}
use Rattle.std.specs.List.{Contains}
use Rattle.std.proofs.lemmas.List.{take_all, take-append-le}
use Rattle.action_table.specs.declared.action.Action.{Action}
use Rattle.craft_state.specs.Craft.{StateFields}
use Rattle.craft_settings.specs.Ranges.{SettingsFields}
use Rattle.prefix_fronts.specs.Prefix.{IsOpen, Prefix, extend, children, prefixes, undominated, front, completions, IsListOf, Test, AreLimits}
use Rattle.plain_lemmas.proofs.Lists.{Among, Among-filter, filter-Among, flat_map-Among}
use Rattle.prefix_fronts.proofs.Members.{prefix-facts, children-Among}
use Rattle.prefix_fronts.proofs.Fronts.{survivor-parent, front-among}
use Rattle.prefix_fronts.proofs.Best.{finishers-Among}

pub record ParentIn (g : SettingsFields) (s : StateFields) (passes : Test) (n k : ℕ) (p : Prefix) : Type 0 where
  pub parent : Prefix
  pub among : Among parent (front g s passes n k)
  pub action : Action
  pub is : extend g parent action ≡ p

pub parent-in : (g : SettingsFields) (s : StateFields) (target : ℕ) (passes : Test) (n k : ℕ) (p : Prefix) → IsOpen g s → AreLimits g target passes → suc k < n → Among p (front g s passes n (suc k)) → ParentIn g s passes n k p
unfolding front prefixes
parent-in g s target passes n k p is_open limits below h =
    let one : n - k ≡ n - suc k + 1 = omega arith in
    let both = filter-Among (λ p. passes (n - suc k) p.state && undominated (prefixes g s (suc k)) p) p (prefixes g s (suc k)) h in
    let f = flat_map-Among (children g) p (prefixes g s k) both.0 in
    let by = children-Among g f.0 p f.2 in
    let good : (passes (n - suc k) (extend g f.0 by.action).state && undominated (prefixes g s (suc k)) (extend g f.0 by.action)) ≡ true =
    subst (λ q. (passes (n - suc k) q.state && undominated (prefixes g s (suc k)) q) ≡ true) (sym by.is) both.1 in
    let kept = survivor-parent g s target passes (n - suc k) k is_open limits f.0 by.action f.1 by.goes good in
    record {
      parent = f.0;
      among = rw one (Among-filter (λ p. passes (n - suc k + 1) p.state && undominated (prefixes g s k) p) f.0 (prefixes g s k) f.1 kept);
      action = by.action;
      is = by.is;
    }

pub record PrefixIn (g : SettingsFields) (s : StateFields) (passes : Test) (n k : ℕ) (actions : List Action) : Type 0 where
  pub prefix : Prefix
  pub among : Among prefix (front g s passes n k)
  pub is : take k actions ≡ prefix.actions

pub prefix-in : (g : SettingsFields) (s : StateFields) (target : ℕ) (passes : Test) (n d k j : ℕ) (p : Prefix) → IsOpen g s → AreLimits g target passes → j ≡ d + k → j < n → Among p (front g s passes n j) → PrefixIn g s passes n k p.actions
prefix-in g s target passes n zero k j p is_open limits e below h =
    let same : j ≡ k = omega (arith, e) in
    let here : Among p (front g s passes n k) = subst (λ i. Among p (front g s passes n i)) same h in
    record { prefix = p; among = here; is = take_all k p.actions (omega (arith, (prefix-facts g s is_open k p (front-among g s passes n k p here)).length)) }
prefix-in g s target passes n (suc d) k j p is_open limits e below h =
    let same : j ≡ suc (d + k) = omega (arith, e) in
    let up = parent-in g s target passes n (d + k) p is_open limits (omega (arith, same, below)) (subst (λ i. Among p (front g s passes n i)) same h) in
    let rest = prefix-in g s target passes n d k (d + k) up.parent is_open limits refl (omega (arith, same, below)) up.among in
    let long = (prefix-facts g s is_open (d + k) up.parent (front-among g s passes n (d + k) up.parent up.among)).length in
    let cut : take k (up.parent.actions ++ up.action ∷ []) ≡ take k up.parent.actions = take-append-le k up.parent.actions (up.action ∷ []) (omega (arith, long)) in
    record { prefix = rest.prefix; among = rest.among; is = ap (λ (q : Prefix). take k q.actions) (sym up.is) ∙ cut ∙ rest.is }

pub answer-in : (g : SettingsFields) (s : StateFields) (target : ℕ) (passes : Test) (n k : ℕ) (c : Prefix) → IsOpen g s → AreLimits g target passes → k < n →
    Contains (completions g s target passes n) c → IsListOf (take k c.actions) (front g s passes n k)
answer-in g s target passes n k c is_open limits below h =
    let here = Contains-Among _ c h in
    let f = finishers-Among g target _ c here in
    let split : n - 1 ≡ n - 1 - k + k = omega (arith, below) in
    let r = prefix-in g s target passes n (n - 1 - k) k (n - 1) f.from is_open limits split (omega (arith, below)) f.among in
    let long = (prefix-facts g s is_open (n - 1) f.from (front-among g s passes n (n - 1) f.from f.among)).length in
    let cut : take k (f.from.actions ++ f.action ∷ []) ≡ take k f.from.actions = take-append-le k f.from.actions (f.action ∷ []) (omega (arith, long, below)) in
    (r.prefix, Among-Contains _ r.prefix r.among, ap (λ (q : Prefix). take k q.actions) (sym f.is) ∙ cut ∙ r.is)
