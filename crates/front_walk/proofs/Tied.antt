-- The nodes of a level stand for the prefixes of its front.
use Rattle.std.proofs.Common.{◌≡◌, ◌∙◌, sym, ℕ, zero, suc, ◌+◌, ◌-◌, ◌<◌, ◌≤◌, Bool, true, false, cond, if◌then◌else◌, not, ◌&&◌, ◌||◌, ◌==◌, nat_lt, inl, inr, List, [], ◌∷◌, ◌++◌, append_assoc, length, length-append, get_or, arith, refl, ap, subst, map}
use Rattle.plain_lemmas.proofs.Tests.{bool_cases, clash, same_answer, lt_to, ways, lt_from}
use Rattle.std.specs.List.{filter, filter_map, flat_map, list_any, enumerate_from}
use Rattle.std.proofs.lemmas.List.{map-append}
use Rattle.std.proofs.lemmas.List.Elements.{filter-append}
use Rattle.action_table.specs.declared.action.Action.{Action}
use Rattle.action_table.specs.Table.{all_actions, action_seconds}
use Rattle.craft_state.specs.Craft.{StateFields}
use Rattle.craft_settings.specs.Ranges.{SettingsFields}
use Rattle.step_rules.specs.Step.{step_of}
use Rattle.craft_state.specs.NotLess.{is_not_less}
use Rattle.macro_order.specs.Order.{precedes}
use Rattle.prefix_fronts.specs.Prefix.{Prefix, Test, IsOpen, empty_from, extend, goes_on, children, prefixes, dominates, undominated, front, AreLimits}
use Rattle.plain_lemmas.proofs.Lists.{Among, filter-same, Among-map}
use Rattle.macro_order.proofs.Transitive.{precedes-transitive}
use Rattle.prefix_fronts.proofs.Dominance.{precedes-irreflexive}
use Rattle.prefix_fronts.proofs.Members.{prefix-facts}
use Rattle.prefix_fronts.proofs.Sorted.{Ordered, is_before, Ordered-filter, Ordered-next, Ordered-prefixes}
use Rattle.prefix_fronts.proofs.Fronts.{front-next, front-first, front-among}
use Rattle.pareto_front.specs.declared.node.Node.{Node}
use Rattle.pareto_front.specs.Covers.{covers, is_covered, uncovered}
use Rattle.front_walk.specs.Nodes.{root_node, child_node, child_by, children_by, nodes_by, goes_and_passes, roots, nodes_at}

-- the prefix that a node stands for, over those of the level before
abbrev pub tied : StateFields → List Prefix → Node → Prefix
tied s ps n = record { actions = (get_or ps n.parent (empty_from s)).actions ++ n.action ∷ []; state = n.state; seconds = n.seconds }

-- nodes and prefixes agree in states and seconds
abbrev pub Looks : List Node → List Prefix → Type 0
Looks [] [] = Unit {0}
Looks [] (p ∷ ps) = ⊥
Looks (n ∷ ns) [] = ⊥
Looks (n ∷ ns) (p ∷ ps) = (n.state ≡ p.state) × (n.seconds ≡ p.seconds) × Looks ns ps

pub Looks-tied : (s : StateFields) (ps : List Prefix) (ns : List Node) → Looks ns (map (tied s ps) ns)
Looks-tied s ps [] = tt
Looks-tied s ps (n ∷ ns) = (refl, refl, Looks-tied s ps ns)

get_or-seam : {X : Type 0} (before : List X) (x : X) (after : List X) (d : X) → get_or (before ++ x ∷ after) (length before) d ≡ x
get_or-seam [] x after d = refl
get_or-seam (y ∷ before) x after d = get_or-seam before x after d

-- the children of one node
piece : (g : SettingsFields) (s : StateFields) (t : StateFields → Action → Bool) (all : List Prefix) (i : ℕ) (n : Node) (p : Prefix) (acts : List Action) →
    get_or all i (empty_from s) ≡ p → n.state ≡ p.state → n.seconds ≡ p.seconds →
    map (tied s all) (filter_map (child_by g t i n) acts) ≡ map (extend g p) (filter (t p.state) acts)
unfolding child_by
piece g s t all i n p [] at state seconds = refl
piece g s t all i n p (a ∷ acts) at state seconds =
    let rest = piece g s t all i n p acts at state seconds in
    let here : tied s all (child_node g i n a) ≡ extend g p a = λ j. record { actions = (at j).actions ++ a ∷ []; state = step_of g (state j) a; seconds = seconds j + action_seconds a } in
    elim (bool_cases (t n.state a)) [
      | inl held ↦
          let held' : t p.state a ≡ true = ap (λ s. t s a) (sym state) ∙ held in
          rw (held, held') (λ j. here j ∷ rest j)
      | inr fails ↦
          let fails' : t p.state a ≡ false = ap (λ s. t s a) (sym state) ∙ fails in
          rw (fails, fails') rest
    ]

pieces : (g : SettingsFields) (s : StateFields) (t : StateFields → Action → Bool) (before ps : List Prefix) (ns : List Node) (i : ℕ) → i ≡ length before → Looks ns ps →
    map (tied s (before ++ ps)) (flat_map (λ x. children_by g t x.0 x.1) (enumerate_from i ns)) ≡ flat_map (λ p. map (extend g p) (filter (t p.state) all_actions)) ps
unfolding children_by
pieces g s t before [] [] i at looks = refl
pieces g s t before [] (n ∷ ns) i at looks = absurd looks
pieces g s t before (p ∷ ps) [] i at looks = absurd looks
pieces g s t before (p ∷ ps) (n ∷ ns) i at looks =
    let all : List Prefix = before ++ p ∷ ps in
    let one = piece g s t all i n p all_actions (ap (λ k. get_or all k (empty_from s)) at ∙ get_or-seam before p ps (empty_from s)) looks.0 looks.1 in
    let next : i + 1 ≡ length (before ++ p ∷ []) = omega (arith, at, length-append before (p ∷ [])) in
    let rest = pieces g s t (before ++ p ∷ []) ps ns (i + 1) next looks.2 in
    let joined : (before ++ p ∷ []) ++ ps ≡ all = append_assoc before (p ∷ []) ps in
    map-append (tied s all) (filter_map (child_by g t i n) all_actions) (flat_map (λ (x : ℕ × Node). filter_map (child_by g t x.0 x.1) all_actions) (enumerate_from (i + 1) ns))
    ∙ (λ j. one j ++ (ap (λ (l : List Prefix). map (tied s l) (flat_map (λ (x : ℕ × Node). filter_map (child_by g t x.0 x.1) all_actions) (enumerate_from (i + 1) ns))) (sym joined) ∙ rest) j)

-- the children of a level that pass a test
pub tied-nodes_by : (g : SettingsFields) (s : StateFields) (t : StateFields → Action → Bool) (ps : List Prefix) (ns : List Node) → Looks ns ps →
    map (tied s ps) (nodes_by g t ns) ≡ flat_map (λ p. map (extend g p) (filter (t p.state) all_actions)) ps
tied-nodes_by g s t ps ns looks = pieces g s t [] ps ns 0 refl looks

filter-map-filter : {X Y : Type 0} (f : X → Y) (t : X → Bool) (u : Y → Bool) (xs : List X) → filter u (map f (filter t xs)) ≡ map f (filter (λ x. t x && u (f x)) xs)
filter-map-filter f t u [] = refl
filter-map-filter f t u (x ∷ xs) =
    elim (t x) as (λ b. filter u (map f (cond b (x ∷ filter t xs) (filter t xs))) ≡ map f (cond (b && u (f x)) (x ∷ filter (λ y. t y && u (f y)) xs) (filter (λ y. t y && u (f y)) xs))) [
      | true ↦ elim (u (f x)) as (λ b. cond b (f x ∷ filter u (map f (filter t xs))) (filter u (map f (filter t xs))) ≡ map f (cond b (x ∷ filter (λ y. t y && u (f y)) xs) (filter (λ y. t y && u (f y)) xs))) [
        | true ↦ ap (λ l. f x ∷ l) (filter-map-filter f t u xs)
        | false ↦ filter-map-filter f t u xs
      ]
      | false ↦ filter-map-filter f t u xs
    ]

passing_children : (g : SettingsFields) (passes : Test) (left : ℕ) (ps : List Prefix) →
    flat_map (λ p. map (extend g p) (filter (goes_and_passes g passes left p.state) all_actions)) ps ≡ filter (λ (c : Prefix). passes left c.state) (flat_map (children g) ps)
passing_children g passes left [] = refl
passing_children g passes left (p ∷ ps) =
    (λ j. sym (filter-map-filter (extend g p) (goes_on g p.state) (λ (c : Prefix). passes left c.state) all_actions) j ++ passing_children g passes left ps j)
    ∙ sym (filter-append (λ (c : Prefix). passes left c.state) (children g p) (flat_map (children g) ps))

pub tied-expanded : (g : SettingsFields) (s : StateFields) (passes : Test) (left : ℕ) (ps : List Prefix) (ns : List Node) → Looks ns ps →
    map (tied s ps) (nodes_by g (goes_and_passes g passes left) ns) ≡ filter (λ (c : Prefix). passes left c.state) (flat_map (children g) ps)
tied-expanded g s passes left ps ns looks = tied-nodes_by g s (goes_and_passes g passes left) ps ns looks ∙ passing_children g passes left ps

-- places against action order
pub placed-above : {X : Type 0} (n i : ℕ) (x : X) (xs : List X) → Among (i, x) (enumerate_from n xs) → (n ≤ i) × Among x xs
placed-above n i x [] h = absurd h
placed-above n i x (y ∷ xs) (inl e) = (omega (arith, ap (λ p. p.0) e), inl (ap (λ p. p.1) e))
placed-above n i x (y ∷ xs) (inr h) = let r = placed-above (n + 1) i x xs h in (omega (arith, r.0), inr r.1)

pub placed-below : {X : Type 0} (n i : ℕ) (x : X) (xs : List X) → Among (i, x) (enumerate_from n xs) → i < n + length xs
placed-below n i x [] h = absurd h
placed-below n i x (y ∷ xs) (inl e) = omega (arith, ap (λ p. p.0) e)
placed-below n i x (y ∷ xs) (inr h) = omega (arith, placed-below (n + 1) i x xs h)

pub placed-order : {X : Type 0} (r : X → X → Bool) (n : ℕ) (xs : List X) (i j : ℕ) (x y : X) → Ordered r xs → Among (i, x) (enumerate_from n xs) → Among (j, y) (enumerate_from n xs) →
    i < j → r x y ≡ true
placed-order r n [] i j x y o a b h = absurd a
placed-order r n (z ∷ xs) i j x y o (inl e) (inl f) h = absurd (omega (arith, h, ap (λ p. p.0) e, ap (λ p. p.0) f))
placed-order r n (z ∷ xs) i j x y o (inl e) (inr b) h = subst (λ w. r w y ≡ true) (ap (λ p. p.1) e) (o.0 y (placed-above (n + 1) j y xs b).1)
placed-order r n (z ∷ xs) i j x y o (inr a) (inl f) h = let up = (placed-above (n + 1) i x xs a).0 in absurd (omega (arith, h, up, ap (λ p. p.0) f))
placed-order r n (z ∷ xs) i j x y o (inr a) (inr b) h = placed-order r (n + 1) xs i j x y o.1 a b h

pub placed-same : {X : Type 0} (n : ℕ) (xs : List X) (i j : ℕ) (x y : X) → Among (i, x) (enumerate_from n xs) → Among (j, y) (enumerate_from n xs) → i ≡ j → x ≡ y
placed-same n [] i j x y a b h = absurd a
placed-same n (z ∷ xs) i j x y (inl e) (inl f) h = sym (ap (λ p. p.1) e) ∙ ap (λ p. p.1) f
placed-same n (z ∷ xs) i j x y (inl e) (inr b) h = let up = (placed-above (n + 1) j y xs b).0 in absurd (omega (arith, h, up, ap (λ p. p.0) e))
placed-same n (z ∷ xs) i j x y (inr a) (inl f) h = let up = (placed-above (n + 1) i x xs a).0 in absurd (omega (arith, h, up, ap (λ p. p.0) f))
placed-same n (z ∷ xs) i j x y (inr a) (inr b) h = placed-same (n + 1) xs i j x y a b h

pub any-same : {X : Type 0} (t u : X → Bool) (xs : List X) → ((x : X) → Among x xs → t x ≡ u x) → list_any t xs ≡ list_any u xs
any-same t u [] same = refl
any-same t u (x ∷ xs) same = λ j. same x (inl refl) j || any-same t u xs (λ y h. same y (inr h)) j

pub any-enumerate : {X : Type 0} (h : X → Bool) (n : ℕ) (xs : List X) → list_any (λ (q : ℕ × X). h q.1) (enumerate_from n xs) ≡ list_any h xs
any-enumerate h n [] = refl
any-enumerate h n (x ∷ xs) = ap (λ b. h x || b) (any-enumerate h (n + 1) xs)

pub any-map : {X Y : Type 0} (h : Y → Bool) (f : X → Y) (xs : List X) → list_any h (map f xs) ≡ list_any (λ x. h (f x)) xs
any-map h f [] = refl
any-map h f (x ∷ xs) = ap (λ b. h (f x) || b) (any-map h f xs)

pub filter-enumerate : {X : Type 0} (v : X → Bool) (n : ℕ) (xs : List X) → map (λ (p : ℕ × X). p.1) (filter (λ (p : ℕ × X). v p.1) (enumerate_from n xs)) ≡ filter v xs
filter-enumerate v n [] = refl
filter-enumerate {X} v n (x ∷ xs) =
    elim (v x) as (λ b. map (λ (p : ℕ × X). p.1) (cond b ((n, x) ∷ filter (λ (p : ℕ × X). v p.1) (enumerate_from (n + 1) xs)) (filter (λ (p : ℕ × X). v p.1) (enumerate_from (n + 1) xs))) ≡ cond b (x ∷ filter v xs) (filter v xs)) [
      | true ↦ ap (λ l. x ∷ l) (filter-enumerate v (n + 1) xs)
      | false ↦ filter-enumerate v (n + 1) xs
    ]

pub map-filter : {X Y : Type 0} (f : X → Y) (u : Y → Bool) (xs : List X) → map f (filter (λ x. u (f x)) xs) ≡ filter u (map f xs)
map-filter f u [] = refl
map-filter f u (x ∷ xs) =
    elim (u (f x)) as (λ b. map f (cond b (x ∷ filter (λ y. u (f y)) xs) (filter (λ y. u (f y)) xs)) ≡ cond b (f x ∷ filter u (map f xs)) (filter u (map f xs))) [
      | true ↦ ap (λ l. f x ∷ l) (map-filter f u xs)
      | false ↦ map-filter f u xs
    ]

-- the nodes are in order where their prefixes are
pub Ordered-unmap : {X Y : Type 0} (s : Y → Y → Bool) (f : X → Y) (xs : List X) → Ordered s (map f xs) → Ordered (λ x y. s (f x) (f y)) xs
Ordered-unmap s f [] h = tt
Ordered-unmap s f (x ∷ xs) h = (λ y m. h.0 (f y) (Among-map f y xs m), Ordered-unmap s f xs h.1)

-- places are as the order
pub place-test : {X : Type 0} (r : X → X → Bool) (irreflexive : (x : X) → r x x ≡ false) (transitive : (x y z : X) → r x y ≡ true → r y z ≡ true → r x z ≡ true)
    (xs : List X) → Ordered r xs → (i j : ℕ) (x y : X) → Among (i, x) (enumerate_from 0 xs) → Among (j, y) (enumerate_from 0 xs) → nat_lt i j ≡ r x y
place-test {X} r irreflexive transitive xs ordered i j x y a b =
    same_answer _ _ (λ h. placed-order r 0 xs i j x y ordered a b (lt_from i j h))
    (λ h. elim (ways i j) [
      | inl below ↦ lt_to i j below
      | inr rest ↦ elim rest [
        | inl equal ↦ absurd (clash (subst (λ (z : X). r z y ≡ true) (placed-same 0 xs i j x y a b equal) h) (irreflexive y))
        | inr above ↦ absurd (clash (transitive x y x h (placed-order r 0 xs j i y x ordered b a above)) (irreflexive x))
      ]
    ])

-- the nodes of a list whose prefixes are in order
place-precedes : (s : StateFields) (ps : List Prefix) (ns : List Node) → Ordered is_before (map (tied s ps) ns) → (i j : ℕ) (x y : Node) →
    Among (i, x) (enumerate_from 0 ns) → Among (j, y) (enumerate_from 0 ns) → nat_lt i j ≡ precedes (tied s ps x).actions (tied s ps y).actions
place-precedes s ps ns ordered =
    place-test (λ x y. precedes (tied s ps x).actions (tied s ps y).actions) (λ x. precedes-irreflexive (tied s ps x).actions)
    (λ x y z. precedes-transitive (tied s ps x).actions (tied s ps y).actions (tied s ps z).actions) ns (Ordered-unmap is_before (tied s ps) ns ordered)

covers-tied : (s : StateFields) (ps : List Prefix) (i j : ℕ) (x y : Node) → nat_lt i j ≡ precedes (tied s ps x).actions (tied s ps y).actions → covers i x j y ≡ dominates (tied s ps x) (tied s ps y)
unfolding covers dominates
covers-tied s ps i j x y e = ap (λ b. is_not_less x.state y.state && (nat_lt x.seconds y.seconds || (x.seconds == y.seconds && b))) e

-- what is kept by places is what is kept by action order
pub uncovered-tied : (s : StateFields) (ps : List Prefix) (ns : List Node) → Ordered is_before (map (tied s ps) ns) →
    map (tied s ps) (uncovered ns) ≡ filter (undominated (map (tied s ps) ns)) (map (tied s ps) ns)
unfolding uncovered
uncovered-tied s ps ns ordered =
    let f : Node → Prefix = tied s ps in
    let e : List (ℕ × Node) = enumerate_from 0 ns in
    let u : Prefix → Bool = undominated (map f ns) in
    let same : (p : ℕ × Node) → Among p e → not (is_covered ns p.0 p.1) ≡ u (f p.1) = λ p m.
    ap not (any-same (λ (q : ℕ × Node). covers q.0 q.1 p.0 p.1) (λ (q : ℕ × Node). dominates (f q.1) (f p.1)) e (λ q k. covers-tied s ps q.0 p.0 q.1 p.1 (place-precedes s ps ns ordered q.0 p.0 q.1 p.1 k m))
    ∙ any-enumerate (λ x. dominates (f x) (f p.1)) 0 ns ∙ sym (any-map (λ q. dominates q (f p.1)) f ns)) in
    ap (λ l. map f (map (λ (p : ℕ × Node). p.1) l)) (filter-same (λ (p : ℕ × Node). not (is_covered ns p.0 p.1)) (λ (p : ℕ × Node). u (f p.1)) e same)
    ∙ ap (map f) (filter-enumerate (λ x. u (f x)) 0 ns) ∙ map-filter f u ns

Looks-zero : (g : SettingsFields) (s : StateFields) (passes : Test) (n : ℕ) → Looks (nodes_at g s passes n 0) (front g s passes n 0)
unfolding nodes_at roots
Looks-zero g s passes n =
    subst (λ (l : List Prefix). Looks (if passes n s then root_node s ∷ [] else []) l) (sym (front-first g s passes n))
    (elim (passes n s) as (λ b. Looks (if b then root_node s ∷ [] else []) (cond b (empty_from s ∷ []) [])) [ true ↦ (refl, refl, tt) | false ↦ tt ])

pub Ordered-front : (g : SettingsFields) (s : StateFields) (passes : Test) (n k : ℕ) → IsOpen g s → Ordered is_before (front g s passes n k)
unfolding front
Ordered-front g s passes n k is_open = Ordered-filter is_before _ (prefixes g s k) (Ordered-prefixes g s is_open k)

-- the nodes of each level stand for its front
pub record StandsFor (g : SettingsFields) (s : StateFields) (passes : Test) (n k : ℕ) : Type 0 where
  pub looks : Looks (nodes_at g s passes n k) (front g s passes n k)

pub nodes-next : (g : SettingsFields) (s : StateFields) (target : ℕ) (passes : Test) (n k : ℕ) → IsOpen g s → AreLimits g target passes → suc k < n →
    Looks (nodes_at g s passes n k) (front g s passes n k) → map (tied s (front g s passes n k)) (nodes_at g s passes n (suc k)) ≡ front g s passes n (suc k)
unfolding nodes_at
nodes-next g s target passes n k is_open limits below looks =
    let ps = front g s passes n k in
    let cs : List Prefix = filter (λ (c : Prefix). passes (n - suc k) c.state) (flat_map (children g) ps) in
    let xs : List Node = nodes_by g (goes_and_passes g passes (n - suc k)) (nodes_at g s passes n k) in
    let e : map (tied s ps) xs ≡ cs = tied-expanded g s passes (n - suc k) ps (nodes_at g s passes n k) looks in
    let ordered : Ordered is_before cs = Ordered-filter is_before (λ (c : Prefix). passes (n - suc k) c.state) _
    (Ordered-next g k ps (λ p m. (prefix-facts g s is_open k p (front-among g s passes n k p m)).length) (Ordered-front g s passes n k is_open)) in
    uncovered-tied s ps xs (subst (λ (l : List Prefix). Ordered is_before l) (sym e) ordered)
    ∙ ap (λ (l : List Prefix). filter (undominated l) l) e ∙ front-next g s target passes n k is_open limits below

pub stands-for : (g : SettingsFields) (s : StateFields) (target : ℕ) (passes : Test) (n k : ℕ) → IsOpen g s → AreLimits g target passes → k < n → StandsFor g s passes n k
stands-for g s target passes n zero is_open limits below = record { looks = Looks-zero g s passes n }
stands-for g s target passes n (suc k) is_open limits below =
    let before = (stands-for g s target passes n k is_open limits (omega (arith, below))).looks in
    let e = nodes-next g s target passes n k is_open limits below before in
    record { looks = subst (λ (l : List Prefix). Looks (nodes_at g s passes n (suc k)) l) e (Looks-tied s (front g s passes n k) (nodes_at g s passes n (suc k))) }
