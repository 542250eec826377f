use Rattle.std.proofs.Common.{◌≡◌, ◌∙◌, sym, ℕ, ◌<◌, ◌∷◌, ◌++◌, [], List, length, get_or, set, ap, subst}
use Rattle.pareto_front.specs.Lists.{items_of}
use Rattle.pareto_front.proofs.Vectors.{items-pushed, length-items}
use Rattle.quality_sweep.specs.declared.candidate.Candidate.{Candidate}
use Rattle.quality_sweep.specs.Places.{place_of}
use Rattle.quality_sweep.specs.Shelves.{ShelvesFields, put_on}
use Rattle.quality_sweep.proofs.shelves.Shelves.put.Goals as goal

pub returns : goal.returns
returns c =
    let place : c.place_of-place.result ≡ place_of c.self.inside.width c.args.c.now.state = c.place_of-place.ensures in
    let same : (record { width = c.self.inside.width; lists = items_of c.self.inside.lists.items }) ≡ c.args.self.now = c.self.view_is in
    let moved : place_of c.self.inside.width c.args.c.now.state < length (items_of c.self.inside.lists.items) =
    subst (λ (s : ShelvesFields). place_of s.width c.args.c.now.state < length s.lists) (sym same) c.requires
    in
    let inside : c.place_of-place.result < length c.self.inside.lists.items =
    subst (λ (n : ℕ). c.place_of-place.result < n) (length-items c.self.inside.lists.items) (subst (λ (n : ℕ). n < length (items_of c.self.inside.lists.items)) (sym place) moved)
    in
    let pushed : items_of (set c.self.inside.lists.items c.place_of-place.result c.push.new.self)
    ≡ set (items_of c.self.inside.lists.items) c.place_of-place.result (get_or (items_of c.self.inside.lists.items) c.place_of-place.result [] ++ c.args.c.now ∷ []) =
    items-pushed c.self.inside.lists.items c.place_of-place.result c.index_mut.result.now c.push.new.self c.args.c.now inside c.index_mut.ensures.value c.in_ok-push.ensures.items
    in
    subst (λ (s : ShelvesFields). (record { width = c.self.inside.width; lists = items_of (set c.self.inside.lists.items c.place_of-place.result c.push.new.self) }) ≡ put_on s c.args.c.now) same
    (ap (λ (l : List (List Candidate)). record { width = c.self.inside.width; lists = l }) pushed
    ∙ ap (λ (n : ℕ). record { width = c.self.inside.width; lists = set (items_of c.self.inside.lists.items) n (get_or (items_of c.self.inside.lists.items) n [] ++ c.args.c.now ∷ []) }) place)
