-- What the last step of a walk finds.
use Rattle.std.proofs.Common.{◌≡◌, ◌∙◌, sym, ℕ, zero, suc, ◌+◌, ◌-◌, ◌<◌, ◌≤◌, true, ◌⊎◌, List, [], ◌∷◌, length, get_or, Some, None, arith, refl, ap, subst, map}
use Rattle.plain_lemmas.proofs.Lists.{Among, Among-map, map-Among}
use Rattle.plain_lemmas.proofs.Places.{Among-Contains, Among-All}
use Rattle.std.specs.List.{range_with_len}
use Rattle.action_table.specs.declared.action.Action.{Action}
use Rattle.action_table.specs.Table.{all_actions}
use Rattle.craft_state.specs.Craft.{StateFields}
use Rattle.craft_settings.specs.Ranges.{SettingsFields}
use Rattle.macro_order.specs.Order.{precedes}
use Rattle.prefix_fronts.specs.Prefix.{Prefix, Test, IsOpen, extend, front, finishes, finishers, completions, is_sooner, AreLimits}
use Rattle.prefix_fronts.proofs.Members.{prefix-facts}
use Rattle.prefix_fronts.proofs.Sorted.{Ordered, is_before, Ordered-map, Ordered-filter, Ordered-flat_map, Ordered-all_actions, numbered_before, precedes-siblings, precedes-cousins}
use Rattle.prefix_fronts.proofs.Fronts.{front-among}
use Rattle.prefix_fronts.proofs.Best.{finishers-long}
use Rattle.pareto_front.specs.declared.node.Node.{Node}
use Rattle.front_walk.specs.declared.links.Link.{Link}
use Rattle.front_walk.specs.Nodes.{AreSizes, nodes_by, nodes_at, link_of, soonest_of}
use Rattle.front_walk.specs.Walking.{IsSoonestCompletion, sizes_below}
use Rattle.front_walk.proofs.Tied.{tied, stands-for, tied-nodes_by, Ordered-front, Ordered-unmap}
use Rattle.front_walk.proofs.Leading.{nodes_by-parent, LeadsTo, leads-step, leads-to, level-length, soonest-is, IsSoonestNode, soonest-none}

-- what is known of a walk, and of the nodes that its last level leads to
pub record Ends (g : SettingsFields) (s : StateFields) (target : ℕ) (passes : Test) (n k : ℕ) (ends : List Node) : Type 0 where
  pub is_open : IsOpen g s
  pub limits : AreLimits g target passes
  pub one : n ≡ suc k
  pub are : ends ≡ nodes_by g (finishes g target) (nodes_at g s passes n k)

ended-tied : (g : SettingsFields) (s : StateFields) (target : ℕ) (passes : Test) (n k : ℕ) (ends : List Node) → Ends g s target passes n k ends →
    map (tied s (front g s passes n k)) ends ≡ finishers g target (front g s passes n k)
ended-tied g s target passes n k ends e =
    ap (map (tied s (front g s passes n k))) e.are
    ∙ tied-nodes_by g s (finishes g target) (front g s passes n k) (nodes_at g s passes n k) (stands-for g s target passes n k e.is_open e.limits (omega (arith, e.one))).looks

-- the front that the completions come from
last_front : (g : SettingsFields) (s : StateFields) (target : ℕ) (passes : Test) (n k : ℕ) → n ≡ suc k → completions g s target passes n ≡ finishers g target (front g s passes n k)
last_front g s target passes n k one = let same : n - 1 ≡ k = omega (arith, one) in ap (λ (j : ℕ). finishers g target (front g s passes n j)) same

pub found-none : (g : SettingsFields) (s : StateFields) (target : ℕ) (passes : Test) (n k : ℕ) (ends : List Node) → Ends g s target passes n k ends → soonest_of ends ≡ None → completions g s target passes n ≡ []
found-none g s target passes n k ends e none =
    last_front g s target passes n k e.one ∙ sym (ended-tied g s target passes n k ends e) ∙ ap (map (tied s (front g s passes n k))) (soonest-none ends none)

Ordered-finishers : (g : SettingsFields) (s : StateFields) (target : ℕ) (passes : Test) (n k : ℕ) → IsOpen g s → Ordered is_before (finishers g target (front g s passes n k))
Ordered-finishers g s target passes n k is_open =
    Ordered-flat_map is_before is_before (λ p. map (extend g p) _) (front g s passes n k)
    (λ p m. Ordered-map numbered_before is_before (extend g p) _ (λ a b h. precedes-siblings p.actions a b h) (Ordered-filter numbered_before (finishes g target p.state) all_actions Ordered-all_actions))
    (λ p q mp mq before c d mc md.
    let bc = map-Among (extend g p) c _ mc in
    let bd = map-Among (extend g q) d _ md in
    let long = (prefix-facts g s is_open k p (front-among g s passes n k p mp)).length ∙ sym (prefix-facts g s is_open k q (front-among g s passes n k q mq)).length in
    let r : precedes (extend g p bc.0).actions (extend g q bd.0).actions ≡ true = precedes-cousins p.actions q.actions bc.0 bd.0 long before in
    subst (λ (z : Prefix). precedes c.actions z.actions ≡ true) bd.2 (subst (λ (z : Prefix). precedes z.actions (extend g q bd.0).actions ≡ true) bc.2 r))
    (Ordered-front g s passes n k is_open)

soonest-found : (g : SettingsFields) (s : StateFields) (target : ℕ) (passes : Test) (n k : ℕ) (ends : List Node) (last : Node) → Ends g s target passes n k ends → soonest_of ends ≡ Some last →
    IsSoonestNode s (front g s passes n k) ends last
soonest-found g s target passes n k ends last e some =
    let f = tied s (front g s passes n k) in
    soonest-is s (front g s passes n k) ends last
    (Ordered-unmap is_before f ends (subst (λ (l : List Prefix). Ordered is_before l) (sym (ended-tied g s target passes n k ends e)) (Ordered-finishers g s target passes n k e.is_open))) some

pub found-climb : (g : SettingsFields) (s : StateFields) (target : ℕ) (passes : Test) (n k : ℕ) (ends : List Node) (last : Node) (levels : List (List Link)) → Ends g s target passes n k ends →
    soonest_of ends ≡ Some last → ((j : ℕ) → j < n → get_or levels j [] ≡ map link_of (nodes_at g s passes n j)) → LeadsTo levels n last (tied s (front g s passes n k) last).actions
found-climb g s target passes n k ends last levels e some at =
    let below : k < n = omega (arith, e.one) in
    let first = soonest-found g s target passes n k ends last e some in
    let inside = nodes_by-parent g (finishes g target) (nodes_at g s passes n k) last (subst (λ l. Among last l) e.are first.among) in
    subst (λ j. LeadsTo levels j last (tied s (front g s passes n k) last).actions) (sym e.one)
    (leads-step g s passes n levels k last (at k below) inside (leads-to g s target passes n levels e.is_open e.limits at k last.parent last below inside))

pub found-soonest : (g : SettingsFields) (s : StateFields) (target : ℕ) (passes : Test) (n k : ℕ) (ends : List Node) (last : Node) (actions : List Action) → Ends g s target passes n k ends →
    soonest_of ends ≡ Some last → actions ≡ (tied s (front g s passes n k) last).actions → IsSoonestCompletion g s target passes n actions
found-soonest g s target passes n k ends last actions e some acts =
    let f = tied s (front g s passes n k) in
    let first = soonest-found g s target passes n k ends last e some in
    let same = ended-tied g s target passes n k ends e in
    let among : Among (f last) (finishers g target (front g s passes n k)) = subst (λ l. Among (f last) l) same (Among-map f last ends first.among) in
    record {
      last = f last;
      among = rw (last_front g s target passes n k e.one) (Among-Contains _ (f last) among);
      soonest = rw (last_front g s target passes n k e.one) (Among-All (λ (q : Prefix). (f last ≡ q) ⊎ (is_sooner (f last) q ≡ true)) _ (λ q m.
          let r = map-Among f q ends (subst (λ l. Among q l) (sym same) m) in
          subst (λ (z : Prefix). (f last ≡ z) ⊎ (is_sooner (f last) z ≡ true)) r.2 (first.each r.0 r.1)));
      actions_is = acts;
      long = ap length acts ∙ finishers-long g s target passes n k (f last) e.is_open among ∙ omega (arith, e.one);
    }

-- the levels are as long as the fronts
same-counts : (f h : ℕ → ℕ) (a n : ℕ) → ((k : ℕ) → k < a + n → f k ≡ h k) → map f (range_with_len a n) ≡ map h (range_with_len a n)
same-counts f h a zero same = refl
same-counts f h a (suc n) same = λ j. same a (omega arith) j ∷ same-counts f h (a + 1) n (λ k b. same k (omega (arith, b))) j

pub sizes-whole : (g : SettingsFields) (s : StateFields) (target : ℕ) (passes : Test) (n : ℕ) (sizes : List ℕ) → IsOpen g s → AreLimits g target passes → AreSizes g s passes n n sizes → sizes ≡ sizes_below g s passes n
sizes-whole g s target passes n sizes is_open limits are =
    are ∙ same-counts (λ j. length (nodes_at g s passes n j)) (λ j. length (front g s passes n j)) 0 n (λ j b. level-length g s target passes n j is_open limits (omega (arith, b)))

pub sizes-last : (g : SettingsFields) (s : StateFields) (passes : Test) (n : ℕ) (sizes : List ℕ) → 1 ≤ n → AreSizes g s passes n (n - 1 + 1) sizes → AreSizes g s passes n n sizes
sizes-last g s passes n sizes some are = let up : n - 1 + 1 ≡ n = omega (arith, some) in subst (λ (i : ℕ). AreSizes g s passes n i sizes) up are
