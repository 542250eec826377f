-- Nodes, and the lists of actions that they stand for.
use Rattle.std.specs.Prelude.{ℕ, zero, suc, Bool, true, List, [], ◌∷◌, ◌++◌, Option, Some, None, ◌≡◌, ◌≤◌, ◌+◌, ◌-◌, ◌<◌, ◌&&◌, nat_lt, map, take, length, slice_index_or, if◌then◌else◌}
use Rattle.std.specs.List.{flat_map, filter_map, enumerate_from, range_with_len}
use Rattle.action_table.specs.declared.action.Action.{Action}
use Rattle.action_table.specs.declared.action.Action.TheVariants.{BasicSynthesis}
use Rattle.action_table.specs.Table.{all_actions, action_seconds}
use Rattle.craft_state.specs.Craft.{StateFields}
use Rattle.craft_settings.specs.Ranges.{SettingsFields}
use Rattle.step_rules.specs.Legality.{IsWithin}
use Rattle.step_rules.specs.Step.{step_of}
use Rattle.prefix_fronts.specs.Prefix.{Test, goes_on}
use Rattle.pareto_front.specs.declared.node.Node.{Node}
use Rattle.pareto_front.specs.Covers.{uncovered}
use Rattle.front_walk.specs.declared.links.Link.{Link}
use Rattle.front_walk.specs.declared.links.Ways.{Ways}
use Rattle.front_walk.specs.declared.links.Ways.TheVariants.{Near, Far}

-- the state is one of the craft that a test may be asked of, and the seconds are few
pub record IsNode (g : SettingsFields) (allows : StateFields → Bool) (n : Node) : Type 0 where
  pub within : IsWithin g n.state
  pub allowed : allows n.state ≡ true
  pub short : n.seconds ≤ 1000

abbrev pub root_node : StateFields → Node
root_node s = record { state = s; seconds = 0; parent = 0; action = BasicSynthesis }

abbrev pub child_node : SettingsFields → ℕ → Node → Action → Node
child_node g place n a = record { state = step_of g n.state a; seconds = n.seconds + action_seconds a; parent = place; action = a }

-- the state after an action that passes a test
unfoldable pub next_by : SettingsFields → (StateFields → Action → Bool) → StateFields → Action → Option StateFields
next_by g test s a = if test s a then Some (step_of g s a) else None

-- the child by an action that passes a test
unfoldable pub child_by : SettingsFields → (StateFields → Action → Bool) → ℕ → Node → Action → Option Node
child_by g test place n a = if test n.state a then Some (child_node g place n a) else None

unfoldable pub children_by : SettingsFields → (StateFields → Action → Bool) → ℕ → Node → List Node
children_by g test place n = filter_map (child_by g test place n) all_actions

-- the children of the nodes of a level that pass a test
abbrev pub nodes_by : SettingsFields → (StateFields → Action → Bool) → List Node → List Node
nodes_by g test nodes = flat_map (λ p. children_by g test p.0 p.1) (enumerate_from 0 nodes)

-- the children of the first nodes of a level
unfoldable pub nodes_upto : SettingsFields → (StateFields → Action → Bool) → List Node → ℕ → List Node
nodes_upto g test nodes count = flat_map (λ p. children_by g test p.0 p.1) (take count (enumerate_from 0 nodes))

-- the action is legal, its next state is live and passes
abbrev pub goes_and_passes : SettingsFields → Test → ℕ → StateFields → Action → Bool
goes_and_passes g passes left s a = goes_on g s a && passes left (step_of g s a)

-- no action yet, where the state passes
unfoldable pub roots : StateFields → Test → ℕ → List Node
roots s passes n = if passes n s then root_node s ∷ [] else []

-- what the first of the workers have found of them, of which the first asks
unfoldable pub roots_upto : StateFields → Test → ℕ → ℕ → List Node
roots_upto s passes n zero = []
roots_upto s passes n (suc k) = roots s passes n

-- the kept nodes of each length, for a total length n
unfoldable pub nodes_at : SettingsFields → StateFields → Test → ℕ → ℕ → List Node
nodes_at g s passes n zero = roots s passes n
nodes_at g s passes n (suc k) = uncovered (nodes_by g (goes_and_passes g passes (n - suc k)) (nodes_at g s passes n k))

-- the first node of the fewest seconds
abbrev pub sooner_of : Node → Node → Node
sooner_of b x = if nat_lt x.seconds b.seconds then x else b

unfoldable pub soonest_from : Node → List Node → Node
soonest_from b [] = b
soonest_from b (x ∷ xs) = soonest_from (sooner_of b x) xs

abbrev pub soonest_of : List Node → Option Node
soonest_of [] = None
soonest_of (x ∷ xs) = Some (soonest_from x xs)

-- the way back from a node
abbrev pub link_of : Node → Link
link_of n = record { parent = n.parent; action = n.action }

-- the ways back from the nodes of a level
abbrev pub links_in : Ways → List Link
links_in (Near links) = links.items
links_in (Far links) = links.items

-- the actions that lead to a link of level k
unfoldable pub actions_to : List (List Link) → ℕ → Link → List Action
actions_to levels zero l = []
actions_to levels (suc k) l = actions_to levels k (slice_index_or (slice_index_or levels k []) l.parent l) ++ l.action ∷ []

-- each parent on the way to the first state stands in its level
unfoldable pub Climbs : List (List Link) → ℕ → Link → Type 0
Climbs levels zero l = Unit {0}
Climbs levels (suc k) l =
    (l.parent < length (slice_index_or levels k []))
    × Climbs levels k (slice_index_or (slice_index_or levels k []) l.parent l)

-- the ways back from the kept nodes of each length below k
abbrev pub AreLinks : SettingsFields → StateFields → Test → (n k : ℕ) → List (List Link) → Type 0
AreLinks g s passes n k ways = ways ≡ map (λ j. map link_of (nodes_at g s passes n j)) (range_with_len 0 k)

-- how many kept nodes there are of each length below k
abbrev pub AreSizes : SettingsFields → StateFields → Test → (n k : ℕ) → List ℕ → Type 0
AreSizes g s passes n k sizes = sizes ≡ map (λ j. length (nodes_at g s passes n j)) (range_with_len 0 k)

-- the kept nodes of length k, and how many there are of each length up to it
pub record IsLevel (g : SettingsFields) (s : StateFields) (passes : Test) (n k : ℕ) (nodes : List Node) (sizes : List ℕ) : Type 0 where
  pub nodes_are : nodes ≡ nodes_at g s passes n k
  pub sizes_are : AreSizes g s passes n (k + 1) sizes
