-- What a test for covered states says.
use Rattle.std.proofs.Common.{◌≡◌, true, List, [], ◌∷◌, ◌++◌, arith, refl}
use Rattle.std.proofs.lemmas.List.Folds.{Any-from_list_any}
use Rattle.std.proofs.lemmas.List.Elements.{Contains-append_left, Contains-push}
use Rattle.craft_state.specs.Craft.{StateFields}
use Rattle.craft_state.specs.NotLess.{IsNotLess, is_not_less}
use Rattle.prefix_fronts.proofs.Dominance.{IsNotLess-from}
use Rattle.pareto_front.specs.Kept.{is_covered, IsCovered}

-- a state that passes the test is covered
pub covered_from : (kept : List StateFields) (s : StateFields) → is_covered kept s ≡ true → IsCovered kept s
covered_from kept s h =
    let found = Any-from_list_any (λ k. is_not_less k s) kept h in
    record { cover = found.1; is_kept = (found.0, found.2, found.3); not_less = IsNotLess-from _ _ found.4 }

pub IsNotLess-itself : (s : StateFields) → IsNotLess s s
IsNotLess-itself s = record { progress = refl; effects = refl; cp = omega arith; durability = omega arith; quality = omega arith }

-- more kept states cover what fewer do
pub IsCovered-append : (kept more : List StateFields) (s : StateFields) → IsCovered kept s → IsCovered (kept ++ more) s
IsCovered-append kept more s c = record { cover = c.cover; is_kept = Contains-append_left kept more c.cover c.is_kept; not_less = c.not_less }

pub IsCovered-push : (kept : List StateFields) (s : StateFields) → IsCovered (kept ++ s ∷ []) s
IsCovered-push kept s = record { cover = s; is_kept = Contains-push kept s; not_less = IsNotLess-itself s }
