-- Kept states by their keys.
use Rattle.std.proofs.Common.{◌≡◌, ◌∙◌, ℕ, suc, ◌+◌, ◌<◌, ◌≤◌, inl, inr, ◌&&◌, ◌||◌, ◌==◌, nat_le, not, cond, Bool, true, false, List, [], ◌∷◌, ◌++◌, length, get_or, set, map, filter, Vec, reverse, arith, refl, ap, sym, subst}
use Rattle.plain_lemmas.proofs.Tests.{bool_cases, clash, same_answer, and_both, and_by, eq_from, eq_to}
use Rattle.std.specs.List.{All, list_any, position_or_len}
use Rattle.std.proofs.lemmas.Bool.Decides.{nat_tests}
use Rattle.std.proofs.lemmas.List.{append-nil, length-set, map-append}
use Rattle.std.proofs.lemmas.List.Elements.{All-push, All-tail, filter-append}
use Rattle.std.proofs.lemmas.List.Sorted.{IsPermutation-reverse, list_any-IsPermutation}
use Rattle.craft_state.specs.Craft.{StateFields, AreEffects}
use Rattle.craft_state.specs.NotLess.{is_not_less}
use Rattle.pareto_front.specs.Columns.{Numbers, numbers_of, are_no_less}
use Rattle.pareto_front.specs.Lists.{items_of}
use Rattle.pareto_front.specs.Keys.{key_of}
use Rattle.pareto_front.specs.Kept.{is_covered, numbers_with, group_at, AreIndexed}
use Rattle.prefix_fronts.proofs.Dominance.{IsNotLess-from, is_not_less-by}
use Rattle.pareto_front.proofs.Packed.{key-same, same-key}
use Rattle.pareto_front.proofs.Vectors.{length-more, vector-at, items-added}

abbrev place_of : ℕ → List ℕ → ℕ
place_of key keys = position_or_len (λ k. key == k) keys

get_or-later : {X : Type 0} (x : X) (xs : List X) (n : ℕ) (d : X) → get_or (x ∷ xs) (1 + n) d ≡ get_or xs n d
get_or-later x xs n d = let e : 1 + n ≡ suc n = omega arith in ap (λ (i : ℕ). get_or (x ∷ xs) i d) e

set-later : {X : Type 0} (x : X) (xs : List X) (n : ℕ) (y : X) → set (x ∷ xs) (1 + n) y ≡ x ∷ set xs n y
set-later x xs n y = let e : 1 + n ≡ suc n = omega arith in ap (λ (i : ℕ). set (x ∷ xs) i y) e

-- the group at the place of a key
pub group-at_place : (keys : List ℕ) (groups : List (List Numbers)) (key : ℕ) → length groups ≡ length keys → get_or groups (place_of key keys) [] ≡ group_at keys groups key
group-at_place [] [] key e = refl
group-at_place [] (g ∷ groups) key e = absurd (omega (arith, e))
group-at_place (k ∷ keys) [] key e = absurd (omega (arith, e))
group-at_place (k ∷ keys) (g ∷ groups) key e =
    elim (key == k) as (λ b. get_or (g ∷ groups) (cond (not b) (1 + place_of key keys) 0) [] ≡ cond b g (group_at keys groups key)) [
      | true ↦ refl
      | false ↦ get_or-later g groups (place_of key keys) [] ∙ group-at_place keys groups key (omega (arith, e))
    ]

-- an empty group for a new key changes no group
pub group_at-added : (keys : List ℕ) (groups : List (List Numbers)) (key other : ℕ) → length groups ≡ length keys → group_at (keys ++ key ∷ []) (groups ++ [] ∷ []) other ≡ group_at keys groups other
group_at-added [] [] key other e = elim (other == key) as (λ b. cond b [] (group_at [] [] other) ≡ group_at [] [] other) [ true ↦ refl | false ↦ refl ]
group_at-added [] (g ∷ groups) key other e = absurd (omega (arith, e))
group_at-added (k ∷ keys) [] key other e = absurd (omega (arith, e))
group_at-added (k ∷ keys) (g ∷ groups) key other e = ap (λ (l : List Numbers). cond (other == k) g l) (group_at-added keys groups key other (omega (arith, e)))

swap_cases : {X : Type 0} (a b : Bool) (x y z : X) → (a ≡ true → b ≡ true → ⊥) → cond a x (cond b y z) ≡ cond b y (cond a x z)
swap_cases true true x y z n = absurd (n refl refl)
swap_cases true false x y z n = refl
swap_cases false true x y z n = refl
swap_cases false false x y z n = refl

twice : {X : Type 0} (a : Bool) (x y z : X) → cond a x z ≡ cond a x (cond a y z)
twice true x y z = refl
twice false x y z = refl

-- a write at the place of a key changes the group of this key alone
pub group_at-set : (keys : List ℕ) (groups : List (List Numbers)) (key other : ℕ) (g : List Numbers) → length groups ≡ length keys → place_of key keys < length groups →
    group_at keys (set groups (place_of key keys) g) other ≡ cond (other == key) g (group_at keys groups other)
group_at-set [] [] key other g e inside = absurd (omega (arith, inside))
group_at-set [] (h ∷ groups) key other g e inside = absurd (omega (arith, e))
group_at-set (k ∷ keys) [] key other g e inside = absurd (omega (arith, e))
group_at-set (k ∷ keys) (h ∷ groups) key other g e inside =
    elim (bool_cases (key == k)) [
      | inl same ↦
          let at : place_of key (k ∷ keys) ≡ 0 = ap (λ (b : Bool). cond (not b) (1 + place_of key keys) 0) same in
          ap (λ (i : ℕ). group_at (k ∷ keys) (set (h ∷ groups) i g) other) at
          ∙ twice (other == k) g h (group_at keys groups other)
          ∙ ap (λ (x : ℕ). cond (other == x) g (group_at (k ∷ keys) (h ∷ groups) other)) (sym (eq_from key k same))
      | inr differ ↦
          let at : place_of key (k ∷ keys) ≡ 1 + place_of key keys = ap (λ (b : Bool). cond (not b) (1 + place_of key keys) 0) differ in
          let low : place_of key keys < length groups = omega (arith, inside, at) in
          ap (λ (i : ℕ). group_at (k ∷ keys) (set (h ∷ groups) i g) other) at
          ∙ ap (λ (l : List (List Numbers)). group_at (k ∷ keys) l other) (set-later h groups (place_of key keys) g)
          ∙ ap (λ (l : List Numbers). cond (other == k) h l) (group_at-set keys groups key other g (omega (arith, e)) low)
          ∙ swap_cases (other == k) (other == key) h g (group_at keys groups other)
          (λ p q. clash (eq_to key k (sym (eq_from other key q) ∙ eq_from other k p)) differ)
    ]

pub numbers-push : (key : ℕ) (states : List StateFields) (s : StateFields) →
    numbers_with key (states ++ s ∷ []) ≡ cond (key == key_of s) (numbers_with key states ++ numbers_of s ∷ []) (numbers_with key states)
numbers-push key states s =
    ap (map numbers_of) (filter-append (λ t. key == key_of t) states (s ∷ []))
    ∙ map-append numbers_of (filter (λ t. key == key_of t) states) (filter (λ t. key == key_of t) (s ∷ []))
    ∙ elim (key == key_of s) as (λ b. numbers_with key states ++ map numbers_of (cond b (s ∷ []) []) ≡ cond b (numbers_with key states ++ numbers_of s ∷ []) (numbers_with key states)) [
      | true ↦ refl
      | false ↦ append-nil (numbers_with key states)
    ]

pub indexed-none : AreIndexed [] [] []
indexed-none = record { effects = λ k d h. absurd (omega (arith, h)); as_many = refl; grouped = λ key. refl }

-- a new key
pub indexed-added : (states : List StateFields) (keys : List ℕ) (groups : List (List Numbers)) (key : ℕ) → AreIndexed states keys groups →
    AreIndexed states (keys ++ key ∷ []) (groups ++ [] ∷ [])
indexed-added states keys groups key are = record {
  effects = are.effects;
  as_many = length-more groups [] ∙ ap (λ (n : ℕ). n + 1) are.as_many ∙ sym (length-more keys key);
  grouped = λ other. group_at-added keys groups key other are.as_many ∙ are.grouped other;
}

-- a state joins the group of its key
pub indexed-push : (states : List StateFields) (keys : List ℕ) (groups : List (List Numbers)) (s : StateFields) → place_of (key_of s) keys < length groups → AreEffects s.effects →
    AreIndexed states keys groups →
    AreIndexed (states ++ s ∷ []) keys (set groups (place_of (key_of s) keys) (get_or groups (place_of (key_of s) keys) [] ++ numbers_of s ∷ []))
indexed-push states keys groups s inside bounds are = record {
  effects = All-push (λ (t : StateFields). AreEffects t.effects) states s are.effects bounds;
  as_many = length-set groups (place_of (key_of s) keys) grown ∙ are.as_many;
  grouped = λ other. group_at-set keys groups (key_of s) other grown are.as_many inside ∙ both other;
} where
  grown : List Numbers
  grown = get_or groups (place_of (key_of s) keys) [] ++ numbers_of s ∷ []

  mine : (other : ℕ) → other ≡ key_of s → grown ≡ numbers_with other states ++ numbers_of s ∷ []
  mine other is =
      ap (λ (l : List Numbers). l ++ numbers_of s ∷ [])
      (group-at_place keys groups (key_of s) are.as_many ∙ are.grouped (key_of s) ∙ ap (λ (k : ℕ). numbers_with k states) (sym is))

  both : (other : ℕ) → cond (other == key_of s) grown (group_at keys groups other) ≡ numbers_with other (states ++ s ∷ [])
  both other = elim (bool_cases (other == key_of s)) [
    | inl same ↦
        ap (λ (b : Bool). cond b grown (group_at keys groups other)) same ∙ mine other (eq_from other (key_of s) same)
        ∙ sym (numbers-push other states s ∙ ap (λ (b : Bool). cond b (numbers_with other states ++ numbers_of s ∷ []) (numbers_with other states)) same)
    | inr differ ↦
        ap (λ (b : Bool). cond b grown (group_at keys groups other)) differ ∙ are.grouped other
        ∙ sym (numbers-push other states s ∙ ap (λ (b : Bool). cond b (numbers_with other states ++ numbers_of s ∷ []) (numbers_with other states)) differ)
  ]

three_of : (a b c d e f : ℕ) → (nat_le a b && nat_le c d && nat_le e f) ≡ true → (a ≤ b) × (c ≤ d) × (e ≤ f)
three_of a b c d e f h = (grind (arith, nat_tests), grind (arith, nat_tests), grind (arith, nat_tests))

three_by : (a b c d e f : ℕ) → a ≤ b → c ≤ d → e ≤ f → (nat_le a b && nat_le c d && nat_le e f) ≡ true
three_by a b c d e f h k l = grind (arith, nat_tests)

-- a state is not less exactly where it has the same key and its numbers reach the other's
pub not_less-key : (t s : StateFields) → AreEffects t.effects → AreEffects s.effects → is_not_less t s ≡ ((key_of s == key_of t) && are_no_less (numbers_of t) (numbers_of s))
unfolding are_no_less
not_less-key t s bt bs = same_answer (is_not_less t s) ((key_of s == key_of t) && are_no_less (numbers_of t) (numbers_of s)) to from where
  to : is_not_less t s ≡ true → ((key_of s == key_of t) && (nat_le s.cp t.cp && nat_le s.durability t.durability && nat_le s.quality t.quality)) ≡ true
  to h =
      let n = IsNotLess-from t s h in
      and_by (key_of s == key_of t) (nat_le s.cp t.cp && nat_le s.durability t.durability && nat_le s.quality t.quality)
      (eq_to (key_of s) (key_of t) (sym (same-key t s n.progress n.effects)))
      (three_by s.cp t.cp s.durability t.durability s.quality t.quality n.cp n.durability n.quality)

  from : ((key_of s == key_of t) && (nat_le s.cp t.cp && nat_le s.durability t.durability && nat_le s.quality t.quality)) ≡ true → is_not_less t s ≡ true
  from h =
      let two = and_both (key_of s == key_of t) (nat_le s.cp t.cp && nat_le s.durability t.durability && nat_le s.quality t.quality) h in
      let fields = key-same t s bt bs (sym (eq_from (key_of s) (key_of t) two.0)) in
      let numbers = three_of s.cp t.cp s.durability t.durability s.quality t.quality two.1 in
      is_not_less-by t s record { progress = fields.0; effects = fields.1; cp = numbers.0; durability = numbers.1; quality = numbers.2 }

-- what the numbers with the key of s reach
reached-states : (states : List StateFields) (s : StateFields) → All (λ t. AreEffects t.effects) states → AreEffects s.effects →
    list_any (λ n. are_no_less n (numbers_of s)) (numbers_with (key_of s) states) ≡ is_covered states s
reached-states [] s all bounds = refl
reached-states (t ∷ states) s all bounds =
    elim (key_of s == key_of t) as (λ b. list_any (λ n. are_no_less n (numbers_of s)) (map numbers_of (cond b (t ∷ filter (λ t. key_of s == key_of t) states) (filter (λ t. key_of s == key_of t) states)))
    ≡ (b && are_no_less (numbers_of t) (numbers_of s)) || is_covered states s) [
      | true ↦ ap (λ (b : Bool). are_no_less (numbers_of t) (numbers_of s) || b) (reached-states states s (All-tail (λ (u : StateFields). AreEffects u.effects) t states all) bounds)
      | false ↦ reached-states states s (All-tail (λ (u : StateFields). AreEffects u.effects) t states all) bounds
    ]
    ∙ ap (λ (b : Bool). b || is_covered states s) (sym (not_less-key t s (all 0 t (omega arith)) bounds))

-- the group of a state's key has one that is no less exactly where a kept state covers it
pub reached-covered : (states : List StateFields) (keys : List ℕ) (groups : List (List Numbers)) (s : StateFields) → AreEffects s.effects → AreIndexed states keys groups →
    list_any (λ n. are_no_less n (numbers_of s)) (get_or groups (place_of (key_of s) keys) []) ≡ is_covered states s
reached-covered states keys groups s bounds are =
    ap (list_any (λ n. are_no_less n (numbers_of s))) (group-at_place keys groups (key_of s) are.as_many ∙ are.grouped (key_of s)) ∙ reached-states states s are.effects bounds

-- what a test of the numbers at the place of a key answers
pub answer-covered : {A : Type 0} (states : List StateFields) (keys : List ℕ) (groups : List (Vec Numbers A)) (s : StateFields) (key index : ℕ) (v : Vec Numbers A) (list : List Numbers) (numbers : Numbers) (found : Bool) →
    AreEffects s.effects → key ≡ key_of s → index ≡ position_or_len (λ k. key == k) keys → index < length groups → v ≡ get_or groups index v → list ≡ v.items → numbers ≡ numbers_of s →
    found ≡ list_any (λ n. are_no_less n numbers) (reverse list) → AreIndexed states keys (items_of groups) → found ≡ is_covered states s
answer-covered states keys groups s key index v list numbers found bounds key_is index_is inside v_is list_is numbers_is found_is are =
    found_is
    ∙ sym (list_any-IsPermutation (λ n. are_no_less n numbers) list (reverse list) (IsPermutation-reverse list))
    ∙ ap (λ (n : Numbers). list_any (λ m. are_no_less m n) list) numbers_is
    ∙ ap (list_any (λ m. are_no_less m (numbers_of s)))
    (list_is ∙ vector-at groups index v inside v_is ∙ ap (λ (i : ℕ). get_or (items_of groups) i []) (index_is ∙ ap (λ (k : ℕ). place_of k keys) key_is))
    ∙ reached-covered states keys (items_of groups) s bounds are

-- a state joins the group at the place of its key
pub indexed-joined : (states after : List StateFields) (keys : List ℕ) (groups later : List (List Numbers)) (s : StateFields) (key index : ℕ) (numbers : Numbers) → AreEffects s.effects → key ≡ key_of s →
    index ≡ position_or_len (λ k. key == k) keys → index < length groups → numbers ≡ numbers_of s → after ≡ states ++ s ∷ [] → later ≡ set groups index (get_or groups index [] ++ numbers ∷ []) →
    AreIndexed states keys groups → AreIndexed after keys later
indexed-joined states after keys groups later s key index numbers bounds key_is index_is inside numbers_is after_is later_is are =
    let at : index ≡ place_of (key_of s) keys = index_is ∙ ap (λ (k : ℕ). place_of k keys) key_is in
    let grown : later ≡ set groups (place_of (key_of s) keys) (get_or groups (place_of (key_of s) keys) [] ++ numbers_of s ∷ []) =
    later_is ∙ ap (λ (i : ℕ). set groups i (get_or groups i [] ++ numbers ∷ [])) at
    ∙ ap (λ (n : Numbers). set groups (place_of (key_of s) keys) (get_or groups (place_of (key_of s) keys) [] ++ n ∷ [])) numbers_is in
    subst (λ (l : List StateFields). AreIndexed l keys later) (sym after_is)
    (subst (AreIndexed (states ++ s ∷ []) keys) (sym grown) (indexed-push states keys groups s (subst (λ (i : ℕ). i < length groups) at inside) bounds are))

-- a new key and an empty vector for it
pub indexed-new : {A : Type 0} (states : List StateFields) (keys after : List ℕ) (key : ℕ) (groups later : List (Vec Numbers A)) (v : Vec Numbers A) → after ≡ keys ++ key ∷ [] → later ≡ groups ++ v ∷ [] → v.items ≡ [] →
    AreIndexed states keys (items_of groups) → AreIndexed states after (items_of later)
indexed-new {A} states keys after key groups later v keys_is later_is empty are =
    let lists = items-added groups later v later_is empty in
    subst (λ (l : List ℕ). AreIndexed states l (items_of later)) (sym keys_is)
    (subst (AreIndexed states (keys ++ key ∷ [])) (sym lists) (indexed-added states keys (items_of groups) key are))

-- what a set tells of a key that was new
pub keys-new : (keys after : List ℕ) (key : ℕ) (known added : Bool) → added ≡ true → added ≡ not known → after ≡ cond known keys (keys ++ key ∷ []) → after ≡ keys ++ key ∷ []
keys-new keys after key true added h k is = cc
keys-new keys after key false added h k is = is
