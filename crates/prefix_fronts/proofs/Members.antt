-- What the live prefixes of a length are.
use Rattle.std.proofs.Common.{◌≡◌, ◌∙◌, sym, ℕ, zero, suc, ◌+◌, ◌≤◌, true, false, ◌||◌, ◌==◌, inl, inr, List, [], ◌∷◌, ◌++◌, length, length-append, Some, ◌*◌, arith, refl, ap, subst}
use Rattle.plain_lemmas.proofs.Places.{Among-get_or}
use Rattle.std.proofs.lemmas.Bool.Decides.{nat_tests}
use Rattle.action_table.specs.declared.action.Action.{Action}
use Rattle.action_table.specs.declared.action.Action.TheVariants.{BasicSynthesis}
use Rattle.action_table.specs.Table.{number_of, all_actions, action_seconds}
use Rattle.action_table.proofs.Names.{get_or-number_of, number_below}
use Rattle.craft_state.specs.Craft.{StateFields}
use Rattle.craft_settings.specs.Ranges.{SettingsFields, AreSettings}
use Rattle.step_rules.specs.Legality.{start_of, is_over, IsWithin}
use Rattle.step_rules.proofs.Bounds.{IsWithin-step, IsWithin-start}
use Rattle.step_rules.specs.Run.{run_of}
use Rattle.step_rules.proofs.Runs.{run_of-snoc, IsWithin-run}
use Rattle.macro_order.specs.Order.{seconds_of}
use Rattle.action_table.proofs.Seconds.{seconds_small}
use Rattle.prefix_fronts.specs.Prefix.{IsOpen, Prefix, extend, goes_on, children, prefixes}
use Rattle.plain_lemmas.proofs.Lists.{Among, Among-filter, filter-Among, Among-map, map-Among, Among-flat_map, flat_map-Among}
use Rattle.prefix_fronts.proofs.Dominance.{goes_on-parts}

-- what each live prefix of a length is
pub record IsPrefixAt (g : SettingsFields) (s : StateFields) (k : ℕ) (p : Prefix) : Type 0 where
  pub within : IsWithin g p.state
  pub live : is_over g p.state ≡ false
  pub length : length p.actions ≡ k
  pub ran : run_of g s p.actions ≡ Some p.state
  pub seconds : p.seconds ≡ seconds_of p.actions
  pub short : p.seconds ≤ 3 * k

pub Among-all_actions : (a : Action) → Among a all_actions
Among-all_actions a = subst (λ b. Among b all_actions) (get_or-number_of a) (Among-get_or all_actions (number_of a) BasicSynthesis (number_below a))

pub Among-children : (g : SettingsFields) (p : Prefix) (a : Action) → goes_on g p.state a ≡ true → Among (extend g p a) (children g p)
Among-children g p a h = Among-map (extend g p) a _ (Among-filter (goes_on g p.state) a all_actions (Among-all_actions a) h)

-- a child, by its last action
pub record ChildBy (g : SettingsFields) (p c : Prefix) : Type 0 where
  pub action : Action
  pub goes : goes_on g p.state action ≡ true
  pub is : extend g p action ≡ c

pub children-Among : (g : SettingsFields) (p c : Prefix) → Among c (children g p) → ChildBy g p c
children-Among g p c h =
    let r = map-Among (extend g p) c _ h in
    let f = filter-Among (goes_on g p.state) r.0 all_actions r.1 in
    record { action = r.0; goes = f.1; is = r.2 }

pub seconds_of-snoc : (m : List Action) (a : Action) → seconds_of (m ++ a ∷ []) ≡ seconds_of m + action_seconds a
seconds_of-snoc [] a = omega arith
seconds_of-snoc (b ∷ m) a = let rest = seconds_of-snoc m a in omega (arith, rest)

start_live : (p d : ℕ) → 1 ≤ p → 10 ≤ d → (0 == p || d == 0) ≡ false
start_live p d h k = grind (arith, nat_tests)

pub start-open : (g : SettingsFields) → AreSettings g → IsOpen g (start_of g)
start-open g settings = record {
  within = IsWithin-start g settings;
  live = start_live g.progress g.durability settings.progress.low settings.durability.low;
}

pub run-open : (g : SettingsFields) (s last : StateFields) (m : List Action) → IsOpen g s → run_of g s m ≡ Some last → is_over g last ≡ false → IsOpen g last
run-open g s last m is_open ran live = record { within = IsWithin-run g s last m is_open.within ran; live = live }

pub prefix-next : (g : SettingsFields) (s : StateFields) (k : ℕ) (p : Prefix) (a : Action) → IsPrefixAt g s k p → goes_on g p.state a ≡ true → IsPrefixAt g s (suc k) (extend g p a)
prefix-next g s k p a h go = record {
  within = IsWithin-step g p.state a h.within;
  live = (goes_on-parts g p.state a go).1;
  length = omega (arith, length-append p.actions (a ∷ []), h.length);
  ran = run_of-snoc g s p.state p.actions a h.ran (goes_on-parts g p.state a go).0;
  seconds = ap (λ n. n + action_seconds a) h.seconds ∙ sym (seconds_of-snoc p.actions a);
  short = omega (arith, h.short, seconds_small a);
}

pub prefix-facts : (g : SettingsFields) (s : StateFields) → IsOpen g s → (k : ℕ) (p : Prefix) → Among p (prefixes g s k) → IsPrefixAt g s k p
unfolding prefixes
prefix-facts g s is_open zero p (inl e) = subst (λ q. IsPrefixAt g s 0 q) e (record { within = is_open.within; live = is_open.live; length = refl; ran = refl; seconds = refl; short = omega arith })
prefix-facts g s is_open zero p (inr h) = absurd h
prefix-facts g s is_open (suc k) p h =
    let f = flat_map-Among (children g) p (prefixes g s k) h in
    let c = children-Among g f.0 p f.2 in
    subst (λ q. IsPrefixAt g s (suc k) q) c.is (prefix-next g s k f.0 c.action (prefix-facts g s is_open k f.0 f.1) c.goes)

pub Among-next : (g : SettingsFields) (s : StateFields) (k : ℕ) (p : Prefix) (a : Action) → Among p (prefixes g s k) → goes_on g p.state a ≡ true → Among (extend g p a) (prefixes g s (suc k))
unfolding prefixes
Among-next g s k p a h go = Among-flat_map (children g) p (extend g p a) (prefixes g s k) h (Among-children g p a go)
