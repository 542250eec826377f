-- What the nodes of the levels lead to.
use Rattle.std.proofs.Common.{◌≡◌, ◌∙◌, sym, ℕ, zero, suc, ◌-◌, ◌<◌, ◌≤◌, Bool, true, false, cond, ◌||◌, ◌&&◌, ◌==◌, nat_lt, ◌⊎◌, inl, inr, List, [], ◌∷◌, ◌++◌, length, get_or, Some, None, arith, refl, ap, subst, map, if◌then◌else◌}
use Rattle.plain_lemmas.proofs.Places.{Among-get_or, Among-All}
use Rattle.plain_lemmas.proofs.Tests.{bool_cases, not_lt, lt_from}
use Rattle.std.specs.List.{filter_map, enumerate_from, All}
use Rattle.std.proofs.Math.ListN.{get_or-map}
use Rattle.std.proofs.lemmas.List.{get_or-map as get_or-mapped, length-map}
use Rattle.std.proofs.lemmas.Bool.Decides.{nat_tests}
use Rattle.action_table.specs.declared.action.Action.{Action}
use Rattle.action_table.specs.Table.{all_actions}
use Rattle.craft_state.specs.Craft.{StateFields}
use Rattle.craft_state.specs.declared.Perfection.{Perfection}
use Rattle.craft_state.specs.declared.Perfection.TheVariants.{Ready, On, Spent}
use Rattle.craft_settings.specs.Ranges.{SettingsFields}
use Rattle.step_rules.specs.Legality.{IsWithin}
use Rattle.step_rules.specs.Measure.{perfection_worth}
use Rattle.step_rules.specs.Run.{run_of}
use Rattle.step_rules.specs.Step.{step_of}
use Rattle.step_rules.proofs.Runs.{measure-run}
use Rattle.macro_order.specs.Order.{precedes}
use Rattle.prefix_fronts.specs.Prefix.{Prefix, Test, IsOpen, empty_from, goes_on, children, prefixes, front, is_sooner, AreLimits}
use Rattle.plain_lemmas.proofs.Lists.{Among, filter-Among, flat_map-Among, map-Among}
use Rattle.prefix_fronts.proofs.Members.{prefix-facts, children-Among}
use Rattle.prefix_fronts.proofs.Sorted.{Ordered}
use Rattle.prefix_fronts.proofs.Fronts.{front-first, front-among}
use Rattle.pareto_front.specs.declared.node.Node.{Node}
use Rattle.pareto_front.specs.Covers.{uncovered}
use Rattle.front_walk.specs.declared.links.Link.{Link}
use Rattle.front_walk.specs.Nodes.{IsNode, child_by, children_by, nodes_by, goes_and_passes, nodes_at, link_of, actions_to, Climbs, sooner_of, soonest_from, soonest_of}
use Rattle.front_walk.proofs.Tied.{tied, Looks, placed-above, placed-below, stands-for, nodes-next}
use Rattle.prefix_fronts.proofs.Best.{sooner_trans}

-- nodes are children of nodes
pub Among-uncovered : (m : Node) (ns : List Node) → Among m (uncovered ns) → Among m ns
unfolding uncovered
Among-uncovered m ns h =
    let r = map-Among (λ (p : ℕ × Node). p.1) m _ h in
    let f = filter-Among (λ (p : ℕ × Node). _) r.0 (enumerate_from 0 ns) r.1 in
    subst (λ z. Among z ns) r.2 (placed-above 0 r.0.0 r.0.1 ns f.0).1

child_parent : (g : SettingsFields) (t : StateFields → Action → Bool) (i : ℕ) (n m : Node) (acts : List Action) → Among m (filter_map (child_by g t i n) acts) → m.parent ≡ i
unfolding child_by
child_parent g t i n m [] h = absurd h
child_parent g t i n m (a ∷ acts) h =
    elim (bool_cases (t n.state a)) [
      | inl held ↦
          elim (rw held at h) [
            | inl e ↦ sym (ap (λ (z : Node). z.parent) e)
            | inr k ↦ child_parent g t i n m acts k
          ]
      | inr fails ↦ child_parent g t i n m acts (rw fails at h)
    ]

pub nodes_by-parent : (g : SettingsFields) (t : StateFields → Action → Bool) (ns : List Node) (m : Node) → Among m (nodes_by g t ns) → m.parent < length ns
unfolding children_by
nodes_by-parent g t ns m h =
    let f = flat_map-Among (λ (p : ℕ × Node). filter_map (child_by g t p.0 p.1) all_actions) m (enumerate_from 0 ns) h in
    let up = placed-below 0 f.0.0 f.0.1 ns f.1 in
    omega (arith, up, child_parent g t f.0.0 f.0.1 m all_actions f.2)

pub nodes_at-parent : (g : SettingsFields) (s : StateFields) (passes : Test) (n k : ℕ) (m : Node) → Among m (nodes_at g s passes n (suc k)) → m.parent < length (nodes_at g s passes n k)
unfolding nodes_at
nodes_at-parent g s passes n k m h = nodes_by-parent g (goes_and_passes g passes (n - suc k)) (nodes_at g s passes n k) m (Among-uncovered m _ h)

-- the way back from a node
pub record LeadsTo (levels : List (List Link)) (k : ℕ) (m : Node) (actions : List Action) : Type 0 where
  pub climbs : Climbs levels k (link_of m)
  pub actions_is : actions_to levels k (link_of m) ≡ actions

pub leads-step : (g : SettingsFields) (s : StateFields) (passes : Test) (n : ℕ) (levels : List (List Link)) (k : ℕ) (m : Node) →
    get_or levels k [] ≡ map link_of (nodes_at g s passes n k) → m.parent < length (nodes_at g s passes n k) →
    LeadsTo levels k (get_or (nodes_at g s passes n k) m.parent m) (get_or (front g s passes n k) m.parent (empty_from s)).actions →
    LeadsTo levels (suc k) m (tied s (front g s passes n k) m).actions
unfolding Climbs actions_to
leads-step g s passes n levels k m at inside before =
    let ns : List Node = nodes_at g s passes n k in
    let parent : get_or (map link_of ns) m.parent (link_of m) ≡ link_of (get_or ns m.parent m) = get_or-map link_of ns m.parent m in
    let within : m.parent < length (map link_of ns) = omega (arith, length-map ns link_of, inside) in
    record {
      climbs = rw at (within, subst (λ (l : Link). Climbs levels k l) (sym parent) before.climbs);
      actions_is = rw at (ap (λ (l : Link). actions_to levels k l ++ m.action ∷ []) parent ∙ ap (λ l. l ++ m.action ∷ []) before.actions_is);
    }

alone : {X : Type 0} (b : Bool) (x : X) (i : ℕ) → get_or (cond b (x ∷ []) []) i x ≡ x
alone true x zero = refl
alone true x (suc i) = refl
alone false x i = refl

leads-zero : (g : SettingsFields) (s : StateFields) (passes : Test) (n : ℕ) (levels : List (List Link)) (m : Node) (i : ℕ) →
    LeadsTo levels 0 m (get_or (front g s passes n 0) i (empty_from s)).actions
unfolding Climbs actions_to
leads-zero g s passes n levels m i =
    let e : get_or (front g s passes n 0) i (empty_from s) ≡ empty_from s =
    ap (λ (l : List Prefix). get_or l i (empty_from s)) (front-first g s passes n) ∙ alone (passes n s) (empty_from s) i in
    record { climbs = tt; actions_is = sym (ap (λ (p : Prefix). p.actions) e) }

pub leads-to : (g : SettingsFields) (s : StateFields) (target : ℕ) (passes : Test) (n : ℕ) (levels : List (List Link)) → IsOpen g s → AreLimits g target passes →
    ((j : ℕ) → j < n → get_or levels j [] ≡ map link_of (nodes_at g s passes n j)) → (k i : ℕ) (d : Node) → k < n → i < length (nodes_at g s passes n k) →
    LeadsTo levels k (get_or (nodes_at g s passes n k) i d) (get_or (front g s passes n k) i (empty_from s)).actions
leads-to g s target passes n levels is_open limits at zero i d below inside = leads-zero g s passes n levels _ i
leads-to g s target passes n levels is_open limits at (suc k) i d below inside =
    let m = get_or (nodes_at g s passes n (suc k)) i d in
    let parent = nodes_at-parent g s passes n k m (Among-get_or (nodes_at g s passes n (suc k)) i d inside) in
    let looks = (stands-for g s target passes n k is_open limits (omega (arith, below))).looks in
    let fronts : get_or (front g s passes n (suc k)) i (empty_from s) ≡ tied s (front g s passes n k) m =
    ap (λ (l : List Prefix). get_or l i (empty_from s)) (sym (nodes-next g s target passes n k is_open limits below looks)) ∙ get_or-mapped (tied s (front g s passes n k)) (nodes_at g s passes n (suc k)) i d (empty_from s) inside in
    let before = leads-to g s target passes n levels is_open limits at k m.parent m (omega (arith, below)) parent in
    subst (λ (p : Prefix). LeadsTo levels (suc k) m p.actions) (sym fronts) (leads-step g s passes n levels k m (at k (omega (arith, below))) parent before)

-- what a level holds
Looks-Among : (ns : List Node) (ps : List Prefix) (m : Node) → Looks ns ps → Among m ns → (p : Prefix) × Among p ps × (m.state ≡ p.state) × (m.seconds ≡ p.seconds)
Looks-Among [] ps m l h = absurd h
Looks-Among (n ∷ ns) [] m l h = absurd l
Looks-Among (n ∷ ns) (p ∷ ps) m l (inl e) = (p, inl refl, ap (λ (z : Node). z.state) (sym e) ∙ l.0, ap (λ (z : Node). z.seconds) (sym e) ∙ l.1)
Looks-Among (n ∷ ns) (p ∷ ps) m l (inr h) = let r = Looks-Among ns ps m l.2 h in (r.0, inr r.1, r.2, r.3)

-- what is asked of a state stays so where the craft goes on
abbrev pub AllowsOn : SettingsFields → (StateFields → Bool) → Type 0
AllowsOn g allows = (s : StateFields) (action : Action) → IsWithin g s → allows s ≡ true → goes_on g s action ≡ true → allows (step_of g s action) ≡ true

prefix-allowed : (g : SettingsFields) (s : StateFields) (allows : StateFields → Bool) → IsOpen g s → AllowsOn g allows → allows s ≡ true → (k : ℕ) (p : Prefix) → Among p (prefixes g s k) → allows p.state ≡ true
unfolding prefixes
prefix-allowed g s allows is_open on start zero p (inl e) = subst (λ (q : Prefix). allows q.state ≡ true) e start
prefix-allowed g s allows is_open on start zero p (inr h) = absurd h
prefix-allowed g s allows is_open on start (suc k) p h =
    let f = flat_map-Among (children g) p (prefixes g s k) h in
    let c = children-Among g f.0 p f.2 in
    subst (λ (q : Prefix). allows q.state ≡ true) c.is
    (on f.0.state c.action (prefix-facts g s is_open k f.0 f.1).within (prefix-allowed g s allows is_open on start k f.0 f.1) c.goes)

worth_small : (p : Perfection) → perfection_worth p ≤ 8
worth_small Ready = omega arith
worth_small On = omega arith
worth_small Spent = omega arith

-- the actions of a list are few
few_actions : (g : SettingsFields) (s last : StateFields) (m : List Action) → IsWithin g s → run_of g s m ≡ Some last → length m ≤ 280
few_actions g s last m within ran =
    let falls = measure-run g s last m within ran in
    omega (arith, falls, worth_small s.effects.perfection, within.state.cp, within.state.durability, within.effects.manipulation)

pub level-nodes : (g : SettingsFields) (s : StateFields) (target : ℕ) (passes : Test) (allows : StateFields → Bool) (n k : ℕ) → IsOpen g s → AreLimits g target passes → AllowsOn g allows → allows s ≡ true →
    k < n → All (IsNode g allows) (nodes_at g s passes n k)
level-nodes g s target passes allows n k is_open limits on start below =
    Among-All (IsNode g allows) (nodes_at g s passes n k) (λ m h.
    let r = Looks-Among _ _ m (stands-for g s target passes n k is_open limits below).looks h in
    let among = front-among g s passes n k r.0 r.1 in
    let is = prefix-facts g s is_open k r.0 among in
    record {
      within = subst (λ t. IsWithin g t) (sym r.2) is.within;
      allowed = subst (λ t. allows t ≡ true) (sym r.2) (prefix-allowed g s allows is_open on start k r.0 among);
      short = omega (arith, r.3, is.short, is.length, few_actions g s r.0.state r.0.actions is_open.within is.ran);
    })

-- the nodes of a level of a walk, whose test is one of the craft
pub walk-nodes : (craft g : SettingsFields) (s : StateFields) (target : ℕ) (passes : Test) (allows : StateFields → Bool) (n k : ℕ) (nodes : List Node) → craft ≡ g → AllowsOn craft allows →
    IsOpen g s → AreLimits g target passes → allows s ≡ true → k < n → nodes ≡ nodes_at g s passes n k → All (IsNode g allows) nodes
walk-nodes craft g s target passes allows n k nodes same on is_open limits start below are =
    subst (λ (l : List Node). All (IsNode g allows) l) (sym are)
    (level-nodes g s target passes allows n k is_open limits (subst (λ (x : SettingsFields). AllowsOn x allows) same on) start below)

Looks-length : (ns : List Node) (ps : List Prefix) → Looks ns ps → length ns ≡ length ps
Looks-length [] [] l = refl
Looks-length [] (p ∷ ps) l = absurd l
Looks-length (n ∷ ns) [] l = absurd l
Looks-length (n ∷ ns) (p ∷ ps) l = let r = Looks-length ns ps l.2 in omega (arith, r)

pub level-length : (g : SettingsFields) (s : StateFields) (target : ℕ) (passes : Test) (n k : ℕ) → IsOpen g s → AreLimits g target passes → k < n → length (nodes_at g s passes n k) ≡ length (front g s passes n k)
level-length g s target passes n k is_open limits below = Looks-length _ _ (stands-for g s target passes n k is_open limits below).looks

-- the first of the fewest seconds
sooner_by_seconds : (x y : ℕ) (r : Bool) → x < y → (nat_lt x y || (x == y && r)) ≡ true
sooner_by_seconds x y r h = grind (arith, nat_tests)

sooner_by_place : (x y : ℕ) (r : Bool) → x ≤ y → r ≡ true → (nat_lt x y || (x == y && r)) ≡ true
sooner_by_place x y r h k = grind (arith, nat_tests)

AsSoon : (Node → Prefix) → Node → Node → Type 0
AsSoon f x y = (f x ≡ f y) ⊎ (is_sooner (f x) (f y) ≡ true)

as_soon-then : (f : Node → Prefix) (x y z : Node) → AsSoon f x y → is_sooner (f y) (f z) ≡ true → AsSoon f x z
unfolding AsSoon
as_soon-then f x y z (inl e) k = inr (subst (λ (p : Prefix). is_sooner p (f z) ≡ true) (sym e) k)
as_soon-then f x y z (inr h) k = inr (sooner_trans (f x) (f y) (f z) h k)

record IsFirst (f : Node → Prefix) (b : Node) (xs : List Node) (r : Node) : Type 0 where
  from : (r ≡ b) ⊎ Among r xs
  start : AsSoon f r b
  each : (x : Node) → Among x xs → AsSoon f r x

soonest-first : (s : StateFields) (ps : List Prefix) (b : Node) (xs : List Node) → Ordered (λ (x y : Node). precedes (tied s ps x).actions (tied s ps y).actions) (b ∷ xs) → IsFirst (tied s ps) b xs (soonest_from b xs)
unfolding soonest_from AsSoon
soonest-first s ps b [] o = record { from = inl refl; start = inl refl; each = λ x h. absurd h }
soonest-first s ps b (x ∷ xs) o =
    let f = tied s ps in
    elim (bool_cases (nat_lt x.seconds b.seconds)) [
      | inl less ↦
          let r = soonest-first s ps x xs o.1 in
          let pick : sooner_of b x ≡ x = ap (λ t. if t then x else b) less in
          subst (λ z. IsFirst f b (x ∷ xs) (soonest_from z xs)) (sym pick) (record {
            from = inr (elim r.from [ inl e ↦ inl (sym e) | inr m ↦ inr m ]);
            start = as_soon-then f (soonest_from x xs) x b r.start (sooner_by_seconds _ _ _ (lt_from _ _ less));
            each = λ y h. elim h [ inl e ↦ subst (λ z. AsSoon f (soonest_from x xs) z) e r.start | inr m ↦ r.each y m ];
          })
      | inr more ↦
          let r = soonest-first s ps b xs ((λ y m. o.0 y (inr m)), o.1.1) in
          let pick : sooner_of b x ≡ b = ap (λ t. if t then x else b) more in
          subst (λ z. IsFirst f b (x ∷ xs) (soonest_from z xs)) (sym pick) (record {
            from = elim r.from [ inl e ↦ inl e | inr m ↦ inr (inr m) ];
            start = r.start;
            each = λ y h. elim h [
              | inl e ↦ subst (λ z. AsSoon f (soonest_from b xs) z) e (as_soon-then f (soonest_from b xs) b x r.start (sooner_by_place _ _ _ (not_lt _ _ more) (o.0 x (inl refl))))
              | inr m ↦ r.each y m
            ];
          })
    ]

pub record IsSoonestNode (s : StateFields) (ps : List Prefix) (xs : List Node) (r : Node) : Type 0 where
  pub among : Among r xs
  pub each : (x : Node) → Among x xs → (tied s ps r ≡ tied s ps x) ⊎ (is_sooner (tied s ps r) (tied s ps x) ≡ true)

pub soonest-is : (s : StateFields) (ps : List Prefix) (xs : List Node) (r : Node) → Ordered (λ (x y : Node). precedes (tied s ps x).actions (tied s ps y).actions) xs → soonest_of xs ≡ Some r → IsSoonestNode s ps xs r
unfolding AsSoon
soonest-is s ps [] r o h = absurd (cc h)
soonest-is s ps (x ∷ xs) r o h =
    let e : soonest_from x xs ≡ r = cc in
    let first = soonest-first s ps x xs o in
    subst (λ z. IsSoonestNode s ps (x ∷ xs) z) e (record {
      among = elim first.from [ inl here ↦ inl (sym here) | inr m ↦ inr m ];
      each = λ y k. elim k [ inl here ↦ subst (λ z. AsSoon (tied s ps) (soonest_from x xs) z) here first.start | inr m ↦ first.each y m ];
    })

pub soonest-none : (xs : List Node) → soonest_of xs ≡ None → xs ≡ []
soonest-none [] h = refl
soonest-none (x ∷ xs) h = absurd (cc h)

pub nodes_at-suc : (g : SettingsFields) (s : StateFields) (passes : Test) (n k j : ℕ) (ns : List Node) → k ≡ suc j → ns ≡ nodes_at g s passes n j →
    uncovered (nodes_by g (goes_and_passes g passes (n - k)) ns) ≡ nodes_at g s passes n k
unfolding nodes_at
nodes_at-suc g s passes n k j ns e f =
    (λ i. uncovered (nodes_by g (goes_and_passes g passes (n - e i)) (f i))) ∙ ap (nodes_at g s passes n) (sym e)
