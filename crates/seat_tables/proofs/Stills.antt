-- What a seat has seen stays seen.
use Rattle.std.proofs.Common.{◌≡◌, ℕ, List, ◌++◌, Contains, sym, subst}
use Rattle.std.proofs.lemmas.List.Elements.{Contains-append_left, Contains-append_right}
use Rattle.race_core.specs.declared.view.View.{View}
use Rattle.seat_tables.specs.Seats.{StillSees}

module _ {T : Type 0} where
  pub still-refl : (v : View T) → StillSees v v
  still-refl v = record { seen = λ index has. has }

  pub still-trans : (u v w : View T) → StillSees u v → StillSees v w → StillSees u w
  still-trans u v w first second = record { seen = λ index has. second.seen index (first.seen index has) }

  -- a view with the same list
  pub still-same : (v u w : View T) → v ≡ u → w.seen ≡ v.seen → StillSees u w
  still-same v u w same is = record { seen = λ index has. subst (λ seen. Contains seen index) (sym is) (subst (λ x. Contains x.seen index) (sym same) has) }

  -- a view whose list is longer at the end
  pub still-longer : (more : List ℕ) (v u w : View T) → v ≡ u → w.seen ≡ v.seen ++ more → StillSees u w
  still-longer more v u w same is = record { seen = λ index has. subst (λ seen. Contains seen index) (sym is) (Contains-append_left v.seen more index (subst (λ x. Contains x.seen index) (sym same) has)) }

  -- a view whose list has another before it
  pub still-taken : (first : List ℕ) (v u w : View T) → v ≡ u → w.seen ≡ first ++ v.seen → StillSees u w
  still-taken first v u w same is = record { seen = λ index has. subst (λ seen. Contains seen index) (sym is) (Contains-append_right first v.seen index (subst (λ x. Contains x.seen index) (sym same) has)) }
