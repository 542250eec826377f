-- The live prefixes of a length stand in action order.
use Rattle.std.proofs.Common.{◌≡◌, ◌∙◌, sym, ℕ, zero, suc, ◌+◌, ◌≤◌, Bool, true, false, cond, ◌&&◌, ◌||◌, ◌==◌, nat_lt, inl, inr, List, [], ◌∷◌, ◌++◌, length, arith, refl, subst, map}
use Rattle.plain_lemmas.proofs.Tests.{lt_to}
use Rattle.std.specs.List.{filter, flat_map}
use Rattle.std.proofs.lemmas.Bool.Decides.{nat_tests}
use Rattle.action_table.specs.declared.action.Action.{Action}
use Rattle.action_table.specs.Table.{number_of, all_actions}
use Rattle.craft_state.specs.Craft.{StateFields}
use Rattle.craft_settings.specs.Ranges.{SettingsFields}
use Rattle.macro_order.specs.Order.{precedes}
use Rattle.prefix_fronts.specs.Prefix.{IsOpen, Prefix, extend, goes_on, children, prefixes}
use Rattle.plain_lemmas.proofs.Lists.{Among, filter-Among, Among-append_cases, flat_map-Among, map-Among}
use Rattle.prefix_fronts.proofs.Members.{children-Among, prefix-facts}

-- each element stands in a relation to each later one
abbrev pub Ordered : {X : Type 0} → (X → X → Bool) → List X → Type 0
Ordered r [] = Unit {0}
Ordered {X} r (x ∷ xs) = ((y : X) → Among y xs → r x y ≡ true) × Ordered r xs

pub Ordered-filter : {X : Type 0} (r : X → X → Bool) (p : X → Bool) (xs : List X) → Ordered r xs → Ordered r (filter p xs)
Ordered-filter r p [] h = tt
Ordered-filter {X} r p (x ∷ xs) h =
    let rest = Ordered-filter r p xs h.1 in
    elim (p x) as (λ b. Ordered {X = X} r (cond b (x ∷ filter p xs) (filter p xs))) [
      | true ↦ (λ y m. h.0 y (filter-Among p y xs m).0, rest)
      | false ↦ rest
    ]

pub Ordered-append : {X : Type 0} (r : X → X → Bool) (xs ys : List X) → Ordered r xs → Ordered r ys → ((x y : X) → Among x xs → Among y ys → r x y ≡ true) → Ordered r (xs ++ ys)
Ordered-append r [] ys h k between = k
Ordered-append r (x ∷ xs) ys h k between =
    (λ y m. elim (Among-append_cases y xs ys m) [ inl a ↦ h.0 y a | inr b ↦ between x y (inl refl) b ], Ordered-append r xs ys h.1 k (λ a b ma mb. between a b (inr ma) mb))

pub Ordered-map : {X Y : Type 0} (r : X → X → Bool) (s : Y → Y → Bool) (f : X → Y) (xs : List X) → ((a b : X) → r a b ≡ true → s (f a) (f b) ≡ true) → Ordered r xs → Ordered s (map f xs)
Ordered-map r s f [] keeps h = tt
Ordered-map r s f (x ∷ xs) keeps h =
    (λ y m. let w = map-Among f y xs m in subst (λ z. s (f x) z ≡ true) w.2 (keeps x w.0 (h.0 w.0 w.1)), Ordered-map r s f xs keeps h.1)

pub Ordered-flat_map : {X Y : Type 0} (r : X → X → Bool) (s : Y → Y → Bool) (f : X → List Y) (xs : List X) →
    ((x : X) → Among x xs → Ordered s (f x)) →
    ((a b : X) → Among a xs → Among b xs → r a b ≡ true → (c d : Y) → Among c (f a) → Among d (f b) → s c d ≡ true) →
    Ordered r xs → Ordered s (flat_map f xs)
Ordered-flat_map r s f [] each between h = tt
Ordered-flat_map r s f (x ∷ xs) each between h =
    Ordered-append s (f x) (flat_map f xs) (each x (inl refl))
    (Ordered-flat_map r s f xs (λ y m. each y (inr m)) (λ a b ma mb. between a b (inr ma) (inr mb)) h.1)
    (λ c d mc md. let w = flat_map-Among f d xs md in between x w.0 (inl refl) (inr w.1) (h.0 w.0 w.1) c d mc w.2)

abbrev pub numbered_before : Action → Action → Bool
numbered_before a b = nat_lt (number_of a) (number_of b)

-- numbers that rise
abbrev Rises : ℕ → List Action → Type 0
Rises n [] = Unit {0}
Rises n (a ∷ rest) = (n ≤ number_of a) × Rises (number_of a + 1) rest

Rises-above : (n : ℕ) (xs : List Action) (y : Action) → Rises n xs → Among y xs → n ≤ number_of y
Rises-above n [] y h m = absurd m
Rises-above n (x ∷ xs) y h (inl e) = subst (λ a. n ≤ number_of a) e h.0
Rises-above n (x ∷ xs) y h (inr m) = let more = Rises-above (number_of x + 1) xs y h.1 m in omega (arith, more, h.0)

Rises-ordered : (n : ℕ) (xs : List Action) → Rises n xs → Ordered numbered_before xs
Rises-ordered n [] h = tt
Rises-ordered n (x ∷ xs) h = (λ y m. lt_to _ _ (omega (arith, Rises-above (number_of x + 1) xs y h.1 m)), Rises-ordered (number_of x + 1) xs h.1)

pub Ordered-all_actions : Ordered numbered_before all_actions
Ordered-all_actions = Rises-ordered 0 all_actions (omega arith, (omega arith, (omega arith, (omega arith, (omega arith, (omega arith, (omega arith, (omega arith, (omega arith, (omega arith, (omega arith, (omega arith, (omega arith, (omega arith, (omega arith, (omega arith, (omega arith, (omega arith, (omega arith, (omega arith, (omega arith, (omega arith, (omega arith, (omega arith, (omega arith, (omega arith, tt))))))))))))))))))))))))))

abbrev pub is_before : Prefix → Prefix → Bool
is_before p q = precedes p.actions q.actions

same_eq : (n : ℕ) (p : Bool) → (nat_lt n n || (n == n && p)) ≡ p
same_eq n p = grind (arith, nat_tests)

-- two children of one prefix
pub precedes-siblings : (m : List Action) (a b : Action) → numbered_before a b ≡ true → precedes (m ++ a ∷ []) (m ++ b ∷ []) ≡ true
precedes-siblings [] a b h = rw h refl
precedes-siblings (x ∷ m) a b h = same_eq (number_of x) _ ∙ precedes-siblings m a b h

pub step_or : (x y : Bool) (p q : Bool) → (p ≡ true → q ≡ true) → (x || (y && p)) ≡ true → (x || (y && q)) ≡ true
step_or true y p q t h = refl
step_or false true p q t h = t h
step_or false false p q t h = cc

-- children of two prefixes of one length
pub precedes-cousins : (m n : List Action) (a b : Action) → length m ≡ length n → precedes m n ≡ true → precedes (m ++ a ∷ []) (n ++ b ∷ []) ≡ true
precedes-cousins [] n a b same h = cc
precedes-cousins (x ∷ m) [] a b same h = cc
precedes-cousins (x ∷ m) (y ∷ n) a b same h =
    let tail : length m ≡ length n = omega (arith, same) in
    step_or (nat_lt (number_of x) (number_of y)) (number_of x == number_of y) _ _ (precedes-cousins m n a b tail) h

pub Ordered-children : (g : SettingsFields) (p : Prefix) → Ordered is_before (children g p)
Ordered-children g p = Ordered-map numbered_before is_before (extend g p) _ (λ a b h. precedes-siblings p.actions a b h) (Ordered-filter numbered_before (goes_on g p.state) all_actions Ordered-all_actions)

pub Ordered-next : (g : SettingsFields) (k : ℕ) (ps : List Prefix) → ((p : Prefix) → Among p ps → length p.actions ≡ k) → Ordered is_before ps → Ordered is_before (flat_map (children g) ps)
Ordered-next g k ps long h =
    Ordered-flat_map is_before is_before (children g) ps (λ p m. Ordered-children g p)
    (λ p q mp mq before c d mc md.
    let bc = children-Among g p c mc in
    let bd = children-Among g q d md in
    let r : precedes (extend g p bc.action).actions (extend g q bd.action).actions ≡ true = precedes-cousins p.actions q.actions bc.action bd.action (long p mp ∙ sym (long q mq)) before in
    subst (λ (z : Prefix). precedes c.actions z.actions ≡ true) bd.is (subst (λ (z : Prefix). precedes z.actions (extend g q bd.action).actions ≡ true) bc.is r))
    h

pub Ordered-prefixes : (g : SettingsFields) (s : StateFields) → IsOpen g s → (k : ℕ) → Ordered is_before (prefixes g s k)
unfolding prefixes
Ordered-prefixes g s is_open zero = (λ y m. absurd m, tt)
Ordered-prefixes g s is_open (suc k) = Ordered-next g k (prefixes g s k) (λ p m. (prefix-facts g s is_open k p m).length) (Ordered-prefixes g s is_open k)
