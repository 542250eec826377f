-- What the searchers keep.
use Rattle.std.proofs.Common.{◌≡◌, ◌∙◌, sym, zero, suc, List, [], ◌∷◌, length, get_or, set, map, arith, ap, subst}
use Rattle.std.specs.List.{All, AllZip}
use Rattle.std.proofs.Math.ListN.{get_or-map}
use Rattle.std.proofs.lemmas.List.{length-map}
use Rattle.front_walk.specs.declared.walker.Walker.{Walker}
use Rattle.front_walk.specs.Asking.{AllMayAsk, AllStillAsk}
use Rattle.level_search.specs.declared.searcher.Searcher.{Searcher}
use Rattle.level_search.specs.Laws.{same_searches, later_searches}
use Rattle.level_search.specs.Searching.{StillSearches}

all_same : (rs : List Searcher) → AllZip StillSearches rs rs
all_same [] = tt
all_same (r ∷ rs) = (same_searches r, all_same rs)

pub all_later : (rs ss ts : List Searcher) → AllZip StillSearches rs ss → AllZip StillSearches ss ts → AllZip StillSearches rs ts
all_later [] [] ts first second = second
all_later [] (s ∷ ss) ts first second = absurd first
all_later (r ∷ rs) [] ts first second = absurd first
all_later (r ∷ rs) (s ∷ ss) [] first second = absurd second
all_later (r ∷ rs) (s ∷ ss) (t ∷ ts) first second = (later_searches r s t first.0 second.0, all_later rs ss ts first.1 second.1)

-- one call with the first of them
pub first_later : (ss : List Searcher) (s t : Searcher) → s ≡ get_or ss 0 s → StillSearches s t → AllZip StillSearches ss (set ss 0 t)
first_later [] s t is still = tt
first_later (x ∷ xs) s t is still = (subst (λ (z : Searcher). StillSearches z t) is still, all_same xs)

-- what holds of the searchers holds of the walkers' askers
pub hired : (P : Searcher → Type 0) (walkers : List (Walker Searcher)) (searchers : List Searcher) →
    map (λ w. w.asker) walkers ≡ searchers → All P searchers → AllMayAsk P walkers
hired P walkers searchers same of k d below =
    let here = of k d.asker (omega (arith, ap length same, length-map walkers (λ (w : Walker Searcher). w.asker), below)) in
    subst P (ap (λ (l : List Searcher). get_or l k d.asker) (sym same) ∙ get_or-map (λ (w : Walker Searcher). w.asker) walkers k d) here

-- and the other way
pub released : (P : Searcher → Type 0) (walkers : List (Walker Searcher)) → AllMayAsk P walkers → All P (map (λ w. w.asker) walkers)
released P [] each k d below = absurd (omega (arith, below))
released P (w ∷ ws) each zero d below = each 0 w (omega arith)
released P (w ∷ ws) each (suc k) d below = released P ws (λ j e less. each (suc j) e (omega (arith, less))) k d (omega (arith, below))

pub still_released : (before after : List (Walker Searcher)) → AllStillAsk StillSearches before after →
    AllZip StillSearches (map (λ w. w.asker) before) (map (λ w. w.asker) after)
still_released [] [] still = tt
still_released [] (w ∷ ws) still = absurd still
still_released (v ∷ vs) [] still = absurd still
still_released (v ∷ vs) (w ∷ ws) still = (still.0, still_released vs ws still.1)

-- the searchers before and after a walk
pub still_back : (walkers walked : List (Walker Searcher)) (searchers back : List Searcher) → map (λ w. w.asker) walkers ≡ searchers →
    back ≡ map (λ w. w.asker) walked → AllStillAsk StillSearches walkers walked → AllZip StillSearches searchers back
still_back walkers walked searchers back before after still =
    subst (λ (l : List Searcher). AllZip StillSearches l back) before
    (subst (λ (l : List Searcher). AllZip StillSearches (map (λ w. w.asker) walkers) l) (sym after) (still_released walkers walked still))
