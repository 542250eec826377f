-- Which nodes of a list no node covers.
use Rattle.std.specs.Prelude.{ℕ, Bool, not, List, ◌&&◌, ◌||◌, ◌==◌, nat_lt, filter, map}
use Rattle.std.specs.List.{enumerate_from, list_any}
use Rattle.craft_state.specs.NotLess.{is_not_less}
use Rattle.pareto_front.specs.declared.node.Node.{Node}

-- the first took fewer seconds, or as many and has the earlier place
abbrev pub is_earlier : ℕ → Node → ℕ → Node → Bool
is_earlier i a j b = nat_lt a.seconds b.seconds || (a.seconds == b.seconds && nat_lt i j)

-- progress and effects are equal, CP, durability and quality of the first are not less, and it is earlier
unfoldable pub covers : ℕ → Node → ℕ → Node → Bool
covers i a j b = is_not_less a.state b.state && is_earlier i a j b

-- some node of the list covers the one at place j
abbrev pub is_covered : List Node → ℕ → Node → Bool
is_covered level j b = list_any (λ p. covers p.0 p.1 j b) (enumerate_from 0 level)

-- the nodes that no node of the list covers, in order
unfoldable pub uncovered : List Node → List Node
uncovered level = map (λ p. p.1) (filter (λ p. not (is_covered level p.0 p.1)) (enumerate_from 0 level))
