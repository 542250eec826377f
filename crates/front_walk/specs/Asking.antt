-- What the workers of a walk keep, and what they find.
use Rattle.std.specs.Prelude.{List, [], ◌++◌, ◌≡◌, Result, Ok, Err, IfOk, Vec}
use Rattle.std.specs.List.{All, AllZip}
use Rattle.pareto_front.specs.declared.node.Node.{Node}
use Rattle.front_walk.specs.declared.walker.Walker.{Walker}

-- each of the workers may ask
abbrev pub AllMayAsk : {A : Type 0} → (A → Type 0) → List (Walker A) → Type 0
AllMayAsk may_ask walkers = All (λ w. may_ask w.asker) walkers

-- what each of them has seen stays seen
abbrev pub AllStillAsk : {A : Type 0} → (A → A → Type 0) → List (Walker A) → List (Walker A) → Type 0
AllStillAsk still before after = AllZip (λ v w. still v.asker w.asker) before after

-- what a worker found
abbrev pub nodes_in : {A E : Type 0} → Result (Vec Node A) E → List Node
nodes_in (Ok v) = v.items
nodes_in (Err _) = []

-- a worker has found the nodes that lead from one list to another, unless it was refused memory
pub record HasFound {A : Type 0} (may_ask : A → Type 0) (still_asks : A → A → Type 0)
    (from to : List Node) (before after : Walker A) : Type 0 where
  pub of : may_ask after.asker
  pub still : still_asks before.asker after.asker
  pub found : IfOk after.found (λ v. from ++ v.items ≡ to)
