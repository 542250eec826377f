-- Lists that are held in vectors.
use Rattle.std.specs.Prelude.{List, map, Vec}

abbrev pub items_of : {X A : Type 0} → List (Vec X A) → List (List X)
items_of vs = map (λ v. v.items) vs
