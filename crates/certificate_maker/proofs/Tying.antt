-- The nodes of a level stand for its kept prefixes, and so do those of the next.
use Rattle.std.proofs.Common.{◌≡◌, ◌∙◌, sym, ℕ, zero, suc, ◌+◌, ◌<◌, ◌≤◌, ◌==◌, ◌&&◌, ◌||◌, nat_lt, Bool, true, false, cond, inl, inr, Some, List, [], ◌∷◌, ◌++◌, length, map, get_or, refl, ap, subst, arith}
use Rattle.std.specs.List.{All, filter, flat_map, position, position_from}
use Rattle.std.proofs.lemmas.Iterator.Adapters.{position_from-zero}
use Rattle.std.proofs.lemmas.Bool.Decides.{nat_tests}
use Rattle.plain_lemmas.proofs.Tests.{bool_cases, clash, ways, lt_to}
use Rattle.plain_lemmas.proofs.Numbers.{one_more}
use Rattle.plain_lemmas.proofs.Lists.{Among, filter-Among, flat_map-Among}
use Rattle.plain_lemmas.proofs.Places.{Among-get_or, Among-All}
use Rattle.action_table.specs.declared.action.Action.{Action}
use Rattle.action_table.specs.Table.{number_of, action_seconds}
use Rattle.craft_state.specs.Craft.{StateFields}
use Rattle.craft_state.specs.NotLess.{is_not_less}
use Rattle.craft_settings.specs.Ranges.{SettingsFields, AreSettings}
use Rattle.step_rules.specs.Legality.{start_of, IsWithin}
use Rattle.step_rules.specs.Step.{step_of}
use Rattle.step_rules.proofs.Runs.{length-macro}
use Rattle.relaxed_moves.specs.Budget.{potential_of, start_potential_of}
use Rattle.macro_order.specs.Order.{precedes}
use Rattle.macro_order.proofs.Transitive.{precedes-transitive}
use Rattle.admissible.proofs.Reached.{potential-reached}
use Rattle.prefix_fronts.specs.Prefix.{Prefix, empty_from, extend, children, dominates, undominated, survivors, next_children}
use Rattle.prefix_fronts.proofs.Dominance.{precedes-irreflexive}
use Rattle.prefix_fronts.proofs.Members.{IsPrefixAt, children-Among, prefix-next}
use Rattle.prefix_fronts.proofs.Sorted.{Ordered, is_before, Ordered-filter, Ordered-next, precedes-cousins}
use Rattle.pareto_front.specs.declared.node.Node.{Node}
use Rattle.pareto_front.specs.Covers.{uncovered}
use Rattle.front_walk.specs.Nodes.{child_node, nodes_by, goes_and_passes}
use Rattle.front_walk.proofs.Tied.{tied, Looks, Looks-tied, tied-expanded, uncovered-tied}
use Rattle.front_walk.proofs.Leading.{Among-uncovered, nodes_by-parent}
use Rattle.certificate_laws.specs.Claims.{Claim}
use Rattle.certificate_laws.specs.Made.{may_win, left_after, next_level}
use Rattle.certificate_maker.specs.Marks.{MayGoOn, next_nodes}
use Rattle.certificate_maker.specs.Rivals.{outdoes}

-- nodes stand for the kept prefixes of a level
pub record Stands (claim : Claim) (level : ℕ) (nodes : List Node) (kept : List Prefix) : Type 0 where
  pub looks : Looks nodes kept
  pub ordered : Ordered is_before kept
  pub facts : (p : Prefix) → Among p kept → IsPrefixAt claim.g (start_of claim.g) level p

pub looks-long : (ns : List Node) (ps : List Prefix) → Looks ns ps → length ns ≡ length ps
looks-long [] [] h = refl
looks-long [] (p ∷ ps) h = absurd h
looks-long (n ∷ ns) [] h = absurd h
looks-long (n ∷ ns) (p ∷ ps) h = ap suc (looks-long ns ps h.2)

-- what is said of each prefix is said of each node
looks-each : (P : Node → Type 0) (Q : Prefix → Type 0) → ((n : Node) (p : Prefix) → n.state ≡ p.state → n.seconds ≡ p.seconds → Q p → P n) → (ns : List Node) (ps : List Prefix) → Looks ns ps → ((p : Prefix) → Among p ps → Q p) →
    (n : Node) → Among n ns → P n
looks-each P Q says [] ps h each n here = absurd here
looks-each P Q says (m ∷ ns) [] h each n here = absurd h
looks-each P Q says (m ∷ ns) (p ∷ ps) h each n (inl same) = subst P same (says m p h.0 h.1 (each p (inl refl)))
looks-each P Q says (m ∷ ns) (p ∷ ps) h each n (inr later) = looks-each P Q says ns ps h.2 (λ q among. each q (inr among)) n later

low-by : (g : SettingsFields) (level : ℕ) (p : Prefix) → AreSettings g → IsPrefixAt g (start_of g) level p → level ≤ 272
low-by g level p settings is = omega (arith, is.length, length-macro g p.state p.actions settings is.ran)

pub low-level : (claim : Claim) (level : ℕ) (nodes : List Node) (kept : List Prefix) → AreSettings claim.g → Stands claim level nodes kept → 0 < length nodes → level ≤ 272
low-level claim level nodes [] settings stands some = absurd (omega (arith, some, looks-long nodes [] stands.looks))
low-level claim level nodes (p ∷ kept) settings stands some = low-by claim.g level p settings (stands.facts p (inl refl))

goes-on : (g : SettingsFields) (level : ℕ) (n : Node) (p : Prefix) → AreSettings g → n.state ≡ p.state → n.seconds ≡ p.seconds → IsPrefixAt g (start_of g) level p → MayGoOn g n
goes-on g level n p settings state seconds is = record {
  within = subst (IsWithin g) (sym state) is.within;
  potential = subst (λ (s : StateFields). potential_of g s ≤ start_potential_of g) (sym state) (potential-reached g p.state p.actions settings is.ran);
  short = omega (arith, seconds, is.short, low-by g level p settings is);
}

pub may-go-on : (claim : Claim) (level : ℕ) (nodes : List Node) (kept : List Prefix) → AreSettings claim.g → Stands claim level nodes kept → All (MayGoOn claim.g) nodes
may-go-on claim level nodes kept settings stands =
    Among-All (MayGoOn claim.g) nodes (looks-each (MayGoOn claim.g) (IsPrefixAt claim.g (start_of claim.g) level) (λ n p state seconds is. goes-on claim.g level n p settings state seconds is) nodes kept stands.looks stands.facts)

-- the next level
pub record IsNext (claim : Claim) (level : ℕ) (nodes : List Node) (kept : List Prefix) : Type 0 where
  pub same : map (tied (start_of claim.g) kept) (next_nodes claim (left_after claim level) nodes) ≡ next_level claim level kept
  pub stands : Stands claim (level + 1) (next_nodes claim (left_after claim level) nodes) (next_level claim level kept)

pub next-is : (claim : Claim) (level : ℕ) (nodes : List Node) (kept : List Prefix) → Stands claim level nodes kept → IsNext claim level nodes kept
unfolding next_nodes next_level
next-is claim level nodes kept stands =
    let g = claim.g in
    let s = start_of g in
    let left = left_after claim level in
    let xs : List Node = nodes_by g (goes_and_passes g (may_win claim) left) nodes in
    let cs : List Prefix = next_children g (may_win claim) left kept in
    let e : map (tied s kept) xs ≡ cs = tied-expanded g s (may_win claim) left kept nodes stands.looks in
    let ordered : Ordered is_before cs = Ordered-filter is_before (λ c. may_win claim left c.state) (flat_map (children g) kept) (Ordered-next g level kept (λ p m. (stands.facts p m).length) stands.ordered) in
    let same : map (tied s kept) (uncovered xs) ≡ survivors cs =
    uncovered-tied s kept xs (subst (λ (l : List Prefix). Ordered is_before l) (sym e) ordered) ∙ ap (λ (l : List Prefix). filter (undominated l) l) e in
    record {
      same = same;
      stands = record {
        looks = subst (λ (l : List Prefix). Looks (uncovered xs) l) same (Looks-tied s kept (uncovered xs));
        ordered = Ordered-filter is_before (undominated cs) cs ordered;
        facts = λ c here.
            let among = (filter-Among (λ c. may_win claim left c.state) c (flat_map (children g) kept) (filter-Among (undominated cs) c cs here).0).0 in
            let parent = flat_map-Among (children g) c kept among in
            let by = children-Among g parent.0 c parent.2 in
            subst (λ (n : ℕ). IsPrefixAt g s n c) (sym (one_more level)) (subst (λ (q : Prefix). IsPrefixAt g s (suc level) q) by.is (prefix-next g s level parent.0 by.action (stands.facts parent.0 parent.1) by.goes));
      };
    }

-- which comes first
ordered-at : {X : Type 0} (r : X → X → Bool) (xs : List X) (i j : ℕ) (d : X) → Ordered r xs → i < j → j < length xs → r (get_or xs i d) (get_or xs j d) ≡ true
ordered-at r [] i j d o before inside = absurd (omega (arith, inside))
ordered-at r (x ∷ xs) zero zero d o before inside = absurd (omega (arith, before))
ordered-at r (x ∷ xs) zero (suc j) d o before inside = o.0 (get_or xs j d) (Among-get_or xs j d (omega (arith, inside)))
ordered-at r (x ∷ xs) (suc i) zero d o before inside = absurd (omega (arith, before))
ordered-at r (x ∷ xs) (suc i) (suc j) d o before inside = ordered-at r xs i j d o.1 (omega (arith, before)) (omega (arith, inside))

alone : (b c : Bool) → (b || (c && false)) ≡ b
alone true c = refl
alone false true = refl
alone false false = refl

same-first : (n : ℕ) (p : Bool) → (nat_lt n n || (n == n && p)) ≡ p
same-first n p = grind (arith, nat_tests)

later-first : (i j : ℕ) (p : Bool) → j < i → (nat_lt i j || (i == j && p)) ≡ false
later-first i j p after = grind (arith, nat_tests)

precedes-last : (m : List Action) (x y : Action) → precedes (m ++ x ∷ []) (m ++ y ∷ []) ≡ nat_lt (number_of x) (number_of y)
precedes-last [] x y = alone (nat_lt (number_of x) (number_of y)) (number_of x == number_of y)
precedes-last (a ∷ m) x y = same-first (number_of a) (precedes (m ++ x ∷ []) (m ++ y ∷ [])) ∙ precedes-last m x y

never-back : (m n : List Action) → precedes m n ≡ true → precedes n m ≡ false
never-back m n h = elim (bool_cases (precedes n m)) [
  | inl back ↦ absurd (clash (precedes-transitive m n m h back) (precedes-irreflexive m))
  | inr none ↦ none
]

-- by the places of the parents and the last actions
first-test : (level : ℕ) (kept : List Prefix) (i j : ℕ) (x y : Action) (d : Prefix) → Ordered is_before kept → ((p : Prefix) → Among p kept → length p.actions ≡ level) → i < length kept → j < length kept →
    (nat_lt i j || (i == j && nat_lt (number_of x) (number_of y))) ≡ precedes ((get_or kept i d).actions ++ x ∷ []) ((get_or kept j d).actions ++ y ∷ [])
first-test level kept i j x y d ordered long low low' =
    let m = (get_or kept i d).actions in
    let n = (get_or kept j d).actions in
    let same : length m ≡ length n = long (get_or kept i d) (Among-get_or kept i d low) ∙ sym (long (get_or kept j d) (Among-get_or kept j d low')) in
    elim (ways i j) [
      | inl before ↦ ap (λ b. b || (i == j && nat_lt (number_of x) (number_of y))) (lt_to i j before) ∙ sym (precedes-cousins m n x y same (ordered-at is_before kept i j d ordered before low'))
      | inr (inl equal) ↦
          subst (λ (k : ℕ). (nat_lt i k || (i == k && nat_lt (number_of x) (number_of y))) ≡ precedes (m ++ x ∷ []) ((get_or kept k d).actions ++ y ∷ [])) equal
          (same-first i (nat_lt (number_of x) (number_of y)) ∙ sym (precedes-last m x y))
      | inr (inr after) ↦
          later-first i j (nat_lt (number_of x) (number_of y)) after
          ∙ sym (never-back (n ++ y ∷ []) (m ++ x ∷ []) (precedes-cousins n m y x (sym same) (ordered-at is_before kept j i d ordered after low)))
    ]

-- the child of a node stands for the child of its prefix
outdoes-tied : (claim : Claim) (level : ℕ) (kept : List Prefix) (place : ℕ) (n q : Node) (p : Prefix) (a : Action) → Ordered is_before kept → ((r : Prefix) → Among r kept → length r.actions ≡ level) → q.parent < length kept → place < length kept →
    get_or kept place (empty_from (start_of claim.g)) ≡ p → n.state ≡ p.state → n.seconds ≡ p.seconds → outdoes q (child_node claim.g place n a) ≡ dominates (tied (start_of claim.g) kept q) (extend claim.g p a)
unfolding outdoes dominates
outdoes-tied claim level kept place n q p a ordered long low low' at state seconds =
    let d = empty_from (start_of claim.g) in
    let test : (nat_lt q.parent place || (q.parent == place && nat_lt (number_of q.action) (number_of a))) ≡ precedes ((get_or kept q.parent d).actions ++ q.action ∷ []) (p.actions ++ a ∷ []) =
    first-test level kept q.parent place q.action a d ordered long low low' ∙ ap (λ (r : Prefix). precedes ((get_or kept q.parent d).actions ++ q.action ∷ []) (r.actions ++ a ∷ [])) at in
    λ j. is_not_less q.state (step_of claim.g (state j) a) && (nat_lt q.seconds (seconds j + action_seconds a) || (q.seconds == seconds j + action_seconds a && test j))

position-same : {X Y : Type 0} (t : X → Bool) (u : Y → Bool) (f : X → Y) (i : ℕ) (xs : List X) → ((x : X) → Among x xs → t x ≡ u (f x)) → position_from t i xs ≡ position_from u i (map f xs)
position-same t u f i [] same = refl
position-same t u f i (x ∷ xs) same = λ j. cond (same x (inl refl) j) (Some i) (position-same t u f (i + 1) xs (λ y h. same y (inr h)) j)

next-parent : (claim : Claim) (left : ℕ) (nodes : List Node) (kept : List Prefix) (q : Node) → Looks nodes kept → Among q (next_nodes claim left nodes) → q.parent < length kept
unfolding next_nodes
next-parent claim left nodes kept q looks here =
    let xs : List Node = nodes_by claim.g (goes_and_passes claim.g (may_win claim) left) nodes in
    omega (arith, nodes_by-parent claim.g (goes_and_passes claim.g (may_win claim) left) nodes q (Among-uncovered q xs here), looks-long nodes kept looks)

-- the first that outdoes the child of a node is the first that dominates the child of its prefix
pub first-tied : (claim : Claim) (level : ℕ) (nodes : List Node) (kept : List Prefix) (place : ℕ) (n : Node) (p : Prefix) (a : Action) → Stands claim level nodes kept → place < length kept → get_or kept place (empty_from (start_of claim.g)) ≡ p →
    n.state ≡ p.state → n.seconds ≡ p.seconds → position (λ q. outdoes q (child_node claim.g place n a)) (next_nodes claim (left_after claim level) nodes) ≡ position (λ q. dominates q (extend claim.g p a)) (next_level claim level kept)
first-tied claim level nodes kept place n p a stands inside at state seconds =
    let next : List Node = next_nodes claim (left_after claim level) nodes in
    let t : Node → Bool = λ q. outdoes q (child_node claim.g place n a) in
    let u : Prefix → Bool = λ q. dominates q (extend claim.g p a) in
    position_from-zero t next
    ∙ position-same t u (tied (start_of claim.g) kept) 0 next (λ q here. outdoes-tied claim level kept place n q p a stands.ordered (λ r m. (stands.facts r m).length) (next-parent claim (left_after claim level) nodes kept q stands.looks here) inside at state seconds)
    ∙ ap (λ (l : List Prefix). position_from u 0 l) (next-is claim level nodes kept stands).same ∙ sym (position_from-zero u (next_level claim level kept))
