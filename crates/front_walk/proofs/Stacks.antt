-- The levels as lists, one more at a time.
use Rattle.std.proofs.Common.{◌≡◌, ◌∙◌, sym, ℕ, zero, suc, ◌+◌, ◌-◌, ◌<◌, ◌≤◌, ◌==◌, Bool, true, List, [], ◌∷◌, ◌++◌, length, get_or, arith, refl, ap, subst, map}
use Rattle.std.specs.List.{range_with_len}
use Rattle.std.proofs.lemmas.List.{get_or-map as get_or-mapped, map-append, length-map}
use Rattle.std.proofs.lemmas.List.FromFn.{length-map-range_with_len, get_or-map-range_with_len, map-range_with_len_more}
use Rattle.std.proofs.lemmas.Bool.Decides.{nat_tests}
use Rattle.action_table.specs.declared.action.Action.{Action}
use Rattle.craft_state.specs.Craft.{StateFields}
use Rattle.craft_settings.specs.Ranges.{SettingsFields}
use Rattle.prefix_fronts.specs.Prefix.{Test}
use Rattle.pareto_front.specs.declared.node.Node.{Node}
use Rattle.pareto_front.specs.Covers.{uncovered}
use Rattle.front_walk.specs.declared.links.Link.{Link}
use Rattle.front_walk.specs.declared.links.Ways.{Ways}
use Rattle.front_walk.specs.Nodes.{AreLinks, IsLevel, actions_to, goes_and_passes, link_of, links_in, nodes_at, nodes_by, roots}
use Rattle.front_walk.proofs.Leading.{nodes_at-suc}

abbrev pub items_of : List Ways → List (List Link)
items_of vs = map links_in vs

-- a list of ways back for each length below n
pub links-count : (vs : List Ways) (f : ℕ → List Link) (n : ℕ) → items_of vs ≡ map f (range_with_len 0 n) → length vs ≡ n
links-count vs f n e = sym (length-map vs links_in) ∙ ap length e ∙ length-map-range_with_len f 0 n

pub links-at : (vs : List Ways) (f : ℕ → List Link) (n : ℕ) → items_of vs ≡ map f (range_with_len 0 n) → (j : ℕ) → j < n → get_or (items_of vs) j [] ≡ f j
links-at vs f n e j below = ap (λ l. get_or l j []) e ∙ get_or-map-range_with_len f 0 n j j [] below (omega arith)

pub links-more : (vs vs' : List Ways) (f : ℕ → List Link) (n : ℕ) (v : Ways) → items_of vs ≡ map f (range_with_len 0 n) → vs' ≡ vs ++ v ∷ [] → links_in v ≡ f n →
    items_of vs' ≡ map f (range_with_len 0 (n + 1))
links-more vs vs' f n v e more is =
    ap items_of more ∙ map-append links_in vs (v ∷ []) ∙ (λ j. e j ++ is j ∷ []) ∙ sym (map-range_with_len_more f 0 n n (omega arith))

sizes-more : (sizes sizes' : List ℕ) (f : ℕ → ℕ) (n size : ℕ) → sizes ≡ map f (range_with_len 0 n) → sizes' ≡ sizes ++ size ∷ [] → size ≡ f n → sizes' ≡ map f (range_with_len 0 (n + 1))
sizes-more sizes sizes' f n size e more is = more ∙ (λ j. e j ++ is j ∷ []) ∙ sym (map-range_with_len_more f 0 n n (omega arith))

-- no action yet
pub links-start : (g : SettingsFields) (s : StateFields) (passes : Test) (n : ℕ) (links : List Ways) → links ≡ [] → AreLinks g s passes n 0 (items_of links)
links-start g s passes n links none = ap items_of none

pub level-start : (g : SettingsFields) (s : StateFields) (passes : Test) (n : ℕ) (last : List Node) (sizes : List ℕ) (size : ℕ) → last ≡ roots s passes n → size ≡ length last → sizes ≡ size ∷ [] →
    IsLevel g s passes n 0 last sizes
unfolding nodes_at
level-start g s passes n last sizes size is long one = record { nodes_are = is; sizes_are = one ∙ (λ j. (long ∙ ap length is) j ∷ []) }

-- one length more
pub links-next : (g : SettingsFields) (s : StateFields) (passes : Test) (n k : ℕ) (links links' : List Ways) (last : List Node) (v : Ways) → 1 ≤ k →
    AreLinks g s passes n (k - 1) (items_of links) → last ≡ nodes_at g s passes n (k - 1) → links_in v ≡ map link_of last → links' ≡ links ++ v ∷ [] → AreLinks g s passes n k (items_of links')
links-next g s passes n k links links' last v some before last_is v_is links_is =
    let up : k - 1 + 1 ≡ k = omega (arith, some) in
    subst (λ (i : ℕ). items_of links' ≡ map (λ i. map link_of (nodes_at g s passes n i)) (range_with_len 0 i)) up
    (links-more links links' (λ i. map link_of (nodes_at g s passes n i)) (k - 1) v before links_is (v_is ∙ ap (map link_of) last_is))

pub level-next : (g : SettingsFields) (s : StateFields) (passes : Test) (n k : ℕ) (last next : List Node) (sizes sizes' : List ℕ) (size : ℕ) → 1 ≤ k → IsLevel g s passes n (k - 1) last sizes →
    next ≡ uncovered (nodes_by g (goes_and_passes g passes (n - k)) last) → size ≡ length next → sizes' ≡ sizes ++ size ∷ [] → IsLevel g s passes n k next sizes'
level-next g s passes n k last next sizes sizes' size some before next_is long sizes_is =
    let j : ℕ = k - 1 in
    let one : k ≡ suc j = omega (arith, some) in
    let up : j + 1 ≡ k = omega (arith, some) in
    let at : next ≡ nodes_at g s passes n k = next_is ∙ nodes_at-suc g s passes n k j last one before.nodes_are in
    let more = sizes-more sizes sizes' (λ i. length (nodes_at g s passes n i)) (j + 1) size before.sizes_are sizes_is (long ∙ ap length at ∙ ap (λ i. length (nodes_at g s passes n i)) (sym up)) in
    record {
      nodes_are = at;
      sizes_are = subst (λ (i : ℕ). sizes' ≡ map (λ i. length (nodes_at g s passes n i)) (range_with_len 0 (i + 1))) up more;
    }

-- an empty level leads nowhere
pub nothing_next : (g : SettingsFields) (t : StateFields → Action → Bool) (level : List Node) → (length level == 0) ≡ true → uncovered (nodes_by g t level) ≡ []
unfolding uncovered
nothing_next g t [] empty = refl
nothing_next g t (n ∷ level) empty = let some : suc (length level) ≡ 0 = grind (arith, nat_tests) in absurd (omega (arith, some))

-- one more action on the way back
pub climb-step : (levels : List Ways) (k : ℕ) (l here : Link) (w : Ways) (found all : List Action) → 1 ≤ k → k ≤ length levels → w ≡ get_or levels (k - 1) w →
    here ≡ get_or (links_in w) l.parent l → found ≡ actions_to (map links_in levels) (k - 1) here → all ≡ found ++ l.action ∷ [] → all ≡ actions_to (map links_in levels) k l
unfolding actions_to
climb-step levels zero l here w found all some inside is at before more = absurd (omega (arith, some))
climb-step levels (suc j) l here w found all some inside is at before more =
    let down : suc j - 1 ≡ j = omega arith in
    let same : links_in w ≡ get_or (map links_in levels) j [] =
    ap links_in (is ∙ ap (λ (i : ℕ). get_or levels i w) down) ∙ sym (get_or-mapped links_in levels j w [] (omega (arith, inside))) in
    more ∙ ap (λ (l' : List Action). l' ++ l.action ∷ [])
    (before ∙ ap (λ (i : ℕ). actions_to (map links_in levels) i here) down ∙ ap (actions_to (map links_in levels) j) (at ∙ ap (λ (x : List Link). get_or x l.parent l) same))
