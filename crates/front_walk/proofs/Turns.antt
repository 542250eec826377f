-- A level that is pruned in turns is pruned as at once.
use Rattle.std.proofs.Common.{◌≡◌, ◌∙◌, sym, ℕ, suc, ◌+◌, Bool, true, false, not, ◌&&◌, ◌||◌, ◌==◌, nat_lt, inl, inr, List, [], ◌∷◌, ◌++◌, map, length, arith, refl, ap}
use Rattle.std.specs.List.{filter, list_any, enumerate_from}
use Rattle.std.proofs.lemmas.Bool.Decides.{nat_tests}
use Rattle.std.proofs.lemmas.List.{map-append}
use Rattle.std.proofs.lemmas.List.Elements.{filter-append}
use Rattle.std.proofs.lemmas.List.Folds.{list_any-append}
use Rattle.plain_lemmas.proofs.Tests.{and_both, and_by, clash, lt_to, same_answer}
use Rattle.plain_lemmas.proofs.Lists.{Among, Among-any, Among-filter, any-Among, filter-Among, filter-filter, filter-same, topmost}
use Rattle.craft_state.specs.NotLess.{is_not_less}
use Rattle.macro_order.proofs.Transitive.{step_trans}
use Rattle.prefix_fronts.proofs.Dominance.{IsNotLess-from, IsNotLess-trans, is_not_less-by}
use Rattle.prefix_fronts.proofs.Sorted.{Ordered, Ordered-append, Ordered-filter}
use Rattle.pareto_front.specs.declared.node.Node.{Node}
use Rattle.pareto_front.specs.Covers.{covers, is_covered, uncovered}
use Rattle.front_walk.proofs.Tied.{any-enumerate, any-map, any-same, filter-enumerate, map-filter, place-test, placed-above, placed-below}

-- no element of the list is over this one
abbrev pub is_free : {X : Type 0} → (X → X → Bool) → List X → X → Bool
is_free over xs x = not (list_any (λ q. over q x) xs)

-- the elements that no element of the list is over
abbrev pub free : {X : Type 0} → (X → X → Bool) → List X → List X
free over xs = filter (is_free over xs) xs

free_both : (a b : Bool) → (not a && not (a || b)) ≡ not (a || b)
free_both true b = refl
free_both false b = refl

-- what the whole list has over an element, its free ones have too
any-free : {X : Type 0} (over : X → X → Bool) (irreflexive : (x : X) → over x x ≡ false)
    (transitive : (x y z : X) → over x y ≡ true → over y z ≡ true → over x z ≡ true) (xs : List X) (x : X) →
    list_any (λ q. over q x) (free over xs) ≡ list_any (λ q. over q x) xs
any-free {X} over irreflexive transitive xs x =
    same_answer _ _
    (λ h. let w = any-Among (λ q. over q x) (free over xs) h in
    Among-any (λ q. over q x) w.0 xs (filter-Among (is_free over xs) w.0 xs w.1).0 w.2)
    (λ h. elim (topmost over irreflexive transitive xs x) [
      | inl none ↦ absurd (clash h none)
      | inr t ↦ Among-any (λ q. over q x) t.top (free over xs) (Among-filter (is_free over xs) t.top xs t.among (ap not t.free)) t.over
    ])

free-again : {X : Type 0} (over : X → X → Bool) (irreflexive : (x : X) → over x x ≡ false)
    (transitive : (x y z : X) → over x y ≡ true → over y z ≡ true → over x z ≡ true) (xs ys : List X) →
    free over (free over xs ++ ys) ≡ free over (xs ++ ys)
free-again {X} over irreflexive transitive xs ys =
    let all : X → Bool = is_free over (xs ++ ys) in
    let alike : (x : X) → is_free over (free over xs ++ ys) x ≡ all x = λ x.
    ap not (list_any-append (λ q. over q x) (free over xs) ys
    ∙ ap (λ b. b || list_any (λ q. over q x) ys) (any-free over irreflexive transitive xs x)
    ∙ sym (list_any-append (λ q. over q x) xs ys)) in
    let both : (x : X) → (is_free over xs x && all x) ≡ all x = λ x.
    let split : all x ≡ not (list_any (λ q. over q x) xs || list_any (λ q. over q x) ys) = ap not (list_any-append (λ q. over q x) xs ys) in
    ap (λ b. is_free over xs x && b) split ∙ free_both (list_any (λ q. over q x) xs) (list_any (λ q. over q x) ys) ∙ sym split in
    filter-same (is_free over (free over xs ++ ys)) all (free over xs ++ ys) (λ x m. alike x)
    ∙ filter-append all (free over xs) ys
    ∙ ap (λ (l : List X). l ++ filter all ys) (filter-filter all (is_free over xs) xs ∙ filter-same _ all xs (λ x m. both x))
    ∙ sym (filter-append all xs ys)

-- nodes with their places
abbrev over_at : ℕ × Node → ℕ × Node → Bool
over_at p q = covers p.0 p.1 q.0 q.1

abbrev is_placed_before : ℕ × Node → ℕ × Node → Bool
is_placed_before p q = nat_lt p.0 q.0

earlier_itself : (s i : ℕ) → (nat_lt s s || (s == s && nat_lt i i)) ≡ false
earlier_itself s i = grind (arith, nat_tests)

and-false : (a : Bool) → (a && false) ≡ false
and-false true = refl
and-false false = refl

over_at-irreflexive : (p : ℕ × Node) → over_at p p ≡ false
unfolding covers
over_at-irreflexive p = rw (earlier_itself p.1.seconds p.0) (and-false (is_not_less p.1.state p.1.state))

lt_trans : (i j k : ℕ) → nat_lt i j ≡ true → nat_lt j k ≡ true → nat_lt i k ≡ true
lt_trans i j k h l = grind (arith, nat_tests)

over_at-transitive : (p q r : ℕ × Node) → over_at p q ≡ true → over_at q r ≡ true → over_at p r ≡ true
unfolding covers
over_at-transitive p q r h k =
    let hs = and_both _ _ h in
    let ks = and_both _ _ k in
    and_by _ _ (is_not_less-by _ _ (IsNotLess-trans _ _ _ (IsNotLess-from _ _ hs.0) (IsNotLess-from _ _ ks.0)))
    (step_trans p.1.seconds q.1.seconds r.1.seconds _ _ _ (lt_trans p.0 q.0 r.0) hs.1 ks.1)

lt_itself : (i : ℕ) → nat_lt i i ≡ false
lt_itself i = grind (arith, nat_tests)

-- only the order of the places counts
enumerate-map : {X Y : Type 0} (f : X → Y) (n : ℕ) (xs : List X) → enumerate_from n (map f xs) ≡ map (λ (z : ℕ × X). (z.0, f z.1)) (enumerate_from n xs)
enumerate-map f n [] = refl
enumerate-map {X} {Y} f n (x ∷ xs) = ap (λ (l : List (ℕ × Y)). (n, f x) ∷ l) (enumerate-map f (n + 1) xs)

map-placed : {X Y : Type 0} (f : X → Y) (zs : List (ℕ × X)) →
    map (λ (p : ℕ × Y). p.1) (map (λ (z : ℕ × X). (z.0, f z.1)) zs) ≡ map f (map (λ (z : ℕ × X). z.1) zs)
map-placed f [] = refl
map-placed {X} {Y} f (z ∷ zs) = ap (λ (l : List Y). f z.1 ∷ l) (map-placed f zs)

placed-alike : (ps : List (ℕ × Node)) → Ordered is_placed_before ps → (z : ℕ × (ℕ × Node)) → Among z (enumerate_from 0 ps) →
    is_covered (map (λ (p : ℕ × Node). p.1) ps) z.0 z.1.1 ≡ list_any (λ q. over_at q z.1) ps
unfolding covers
placed-alike ps ordered z here =
    let node : ℕ × Node → Node = λ p. p.1 in
    ap (list_any (λ (q : ℕ × Node). covers q.0 q.1 z.0 z.1.1)) (enumerate-map node 0 ps)
    ∙ any-map (λ (q : ℕ × Node). covers q.0 q.1 z.0 z.1.1) (λ (w : ℕ × (ℕ × Node)). (w.0, w.1.1)) (enumerate_from 0 ps)
    ∙ any-same _ (λ (w : ℕ × (ℕ × Node)). over_at w.1 z.1) (enumerate_from 0 ps) (λ w k.
    ap (λ b. is_not_less w.1.1.state z.1.1.state && (nat_lt w.1.1.seconds z.1.1.seconds || (w.1.1.seconds == z.1.1.seconds && b)))
    (place-test is_placed_before (λ p. lt_itself p.0) (λ p q r. lt_trans p.0 q.0 r.0) ps ordered w.0 z.0 w.1 z.1 k here))
    ∙ any-enumerate (λ q. over_at q z.1) 0 ps

uncovered-placed : (ps : List (ℕ × Node)) → Ordered is_placed_before ps → uncovered (map (λ (p : ℕ × Node). p.1) ps) ≡ map (λ (p : ℕ × Node). p.1) (free over_at ps)
unfolding uncovered
uncovered-placed ps ordered =
    let node : ℕ × Node → Node = λ p. p.1 in
    let e : List (ℕ × (ℕ × Node)) = enumerate_from 0 ps in
    let h : ℕ × (ℕ × Node) → ℕ × Node = λ z. (z.0, z.1.1) in
    let t : ℕ × Node → Bool = λ p. not (is_covered (map node ps) p.0 p.1) in
    ap (λ (l : List (ℕ × Node)). map node (filter t l)) (enumerate-map node 0 ps)
    ∙ ap (map node) (sym (map-filter h t e))
    ∙ map-placed node (filter (λ (z : ℕ × (ℕ × Node)). t (h z)) e)
    ∙ ap (λ (l : List (ℕ × (ℕ × Node))). map node (map (λ (z : ℕ × (ℕ × Node)). z.1) l))
    (filter-same (λ (z : ℕ × (ℕ × Node)). t (h z)) (λ (z : ℕ × (ℕ × Node)). is_free over_at ps z.1) e (λ z m. ap not (placed-alike ps ordered z m)))
    ∙ ap (map node) (filter-enumerate (is_free over_at ps) 0 ps)

-- places in two lists, one after the other
enumerate-append : {X : Type 0} (n : ℕ) (xs ys : List X) → enumerate_from n (xs ++ ys) ≡ enumerate_from n xs ++ enumerate_from (n + length xs) ys
enumerate-append n [] ys = let e : n ≡ n + 0 = omega arith in ap (λ (i : ℕ). enumerate_from i ys) e
enumerate-append {X} n (x ∷ xs) ys =
    let e : n + 1 + length xs ≡ n + suc (length xs) = omega arith in
    ap (λ (l : List (ℕ × X)). (n, x) ∷ l) (enumerate-append (n + 1) xs ys ∙ ap (λ (i : ℕ). enumerate_from (n + 1) xs ++ enumerate_from i ys) e)

map-enumerate : {X : Type 0} (n : ℕ) (xs : List X) → map (λ (p : ℕ × X). p.1) (enumerate_from n xs) ≡ xs
map-enumerate n [] = refl
map-enumerate {X} n (x ∷ xs) = ap (λ (l : List X). x ∷ l) (map-enumerate (n + 1) xs)

Ordered-enumerate : (n : ℕ) (xs : List Node) → Ordered is_placed_before (enumerate_from n xs)
Ordered-enumerate n [] = tt
Ordered-enumerate n (x ∷ xs) =
    (λ y m. let up = (placed-above (n + 1) y.0 y.1 xs m).0 in lt_to n y.0 (omega (arith, up)), Ordered-enumerate (n + 1) xs)

Ordered-kept : (xs ys : List Node) → Ordered is_placed_before (free over_at (enumerate_from 0 xs) ++ enumerate_from (0 + length xs) ys)
Ordered-kept xs ys =
    let first = enumerate_from 0 xs in
    Ordered-append is_placed_before (free over_at first) (enumerate_from (0 + length xs) ys)
    (Ordered-filter is_placed_before (is_free over_at first) first (Ordered-enumerate 0 xs)) (Ordered-enumerate (0 + length xs) ys)
    (λ x y mx my.
    let down = placed-below 0 x.0 x.1 xs (filter-Among (is_free over_at first) x first mx).0 in
    let up = (placed-above (0 + length xs) y.0 y.1 ys my).0 in
    lt_to x.0 y.0 (omega (arith, down, up)))

pub uncovered-none : uncovered [] ≡ []
unfolding uncovered
uncovered-none = refl

-- nodes that are pruned first, and again with more nodes behind them
pub uncovered-again : (xs ys : List Node) → uncovered (uncovered xs ++ ys) ≡ uncovered (xs ++ ys)
unfolding uncovered
uncovered-again xs ys =
    let node : ℕ × Node → Node = λ p. p.1 in
    let first : List (ℕ × Node) = enumerate_from 0 xs in
    let second : List (ℕ × Node) = enumerate_from (0 + length xs) ys in
    let same : map node (free over_at first ++ second) ≡ uncovered xs ++ ys =
    map-append node (free over_at first) second ∙ ap (λ (l : List Node). map node (free over_at first) ++ l) (map-enumerate (0 + length xs) ys) in
    ap uncovered (sym same)
    ∙ uncovered-placed (free over_at first ++ second) (Ordered-kept xs ys)
    ∙ ap (map node) (free-again over_at over_at-irreflexive over_at-transitive first second)
    ∙ ap (λ (l : List (ℕ × Node)). map node (free over_at l)) (sym (enumerate-append 0 xs ys))
