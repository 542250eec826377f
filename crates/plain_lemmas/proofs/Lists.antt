-- Lists, membership and filters.
use Rattle.std.proofs.Common.{◌≡◌, ◌∙◌, sym, Bool, true, false, cond, ◌&&◌, ◌||◌, ◌⊎◌, inl, inr, List, [], ◌∷◌, ◌++◌, map, refl, ap, subst}
use Rattle.plain_lemmas.proofs.Tests.{bool_cases, clash}
use Rattle.std.specs.List.{filter, flat_map, list_any}
use Rattle.std.proofs.lemmas.List.Elements.{filter-append}

abbrev pub Among : {X : Type 0} → X → List X → Type 0
Among x [] = ⊥
Among x (y ∷ ys) = (y ≡ x) ⊎ Among x ys

pub Among-append_left : {X : Type 0} (x : X) (xs ys : List X) → Among x xs → Among x (xs ++ ys)
Among-append_left x [] ys h = absurd h
Among-append_left x (y ∷ xs) ys (inl e) = inl e
Among-append_left x (y ∷ xs) ys (inr h) = inr (Among-append_left x xs ys h)

pub Among-append_right : {X : Type 0} (x : X) (xs ys : List X) → Among x ys → Among x (xs ++ ys)
Among-append_right x [] ys h = h
Among-append_right x (y ∷ xs) ys h = inr (Among-append_right x xs ys h)

pub Among-append_cases : {X : Type 0} (x : X) (xs ys : List X) → Among x (xs ++ ys) → Among x xs ⊎ Among x ys
Among-append_cases x [] ys h = inr h
Among-append_cases x (y ∷ xs) ys (inl e) = inl (inl e)
Among-append_cases x (y ∷ xs) ys (inr h) = elim (Among-append_cases x xs ys h) [ inl a ↦ inl (inr a) | inr b ↦ inr b ]

pub Among-filter : {X : Type 0} (p : X → Bool) (x : X) (xs : List X) → Among x xs → p x ≡ true → Among x (filter p xs)
Among-filter p x [] h t = absurd h
Among-filter p x (y ∷ xs) (inl e) t = let py : p y ≡ true = ap p e ∙ t in rw py (inl e)
Among-filter p x (y ∷ xs) (inr h) t =
    elim (p y) as (λ b. Among x (cond b (y ∷ filter p xs) (filter p xs))) [ true ↦ inr (Among-filter p x xs h t) | false ↦ Among-filter p x xs h t ]

pub filter-Among : {X : Type 0} (p : X → Bool) (x : X) (xs : List X) → Among x (filter p xs) → Among x xs × (p x ≡ true)
filter-Among p x [] h = absurd h
filter-Among {X} p x (y ∷ xs) h =
    elim (p y) as (λ b. p y ≡ b → Among x (cond b (y ∷ filter p xs) (filter p xs)) → (Among {X = X} x (y ∷ xs)) × (p x ≡ true)) [
      | true ↦ λ py k. elim k [ inl e ↦ (inl e, ap p (sym e) ∙ py) | inr m ↦ (inr (filter-Among p x xs m).0, (filter-Among p x xs m).1) ]
      | false ↦ λ py k. (inr (filter-Among p x xs k).0, (filter-Among p x xs k).1)
    ] refl h

pub Among-flat_map : {X Y : Type 0} (f : X → List Y) (p : X) (c : Y) (ps : List X) → Among p ps → Among c (f p) → Among c (flat_map f ps)
Among-flat_map f p c [] h k = absurd h
Among-flat_map f p c (q ∷ ps) (inl e) k = Among-append_left c (f q) (flat_map f ps) (subst (λ r. Among c (f r)) (sym e) k)
Among-flat_map f p c (q ∷ ps) (inr h) k = Among-append_right c (f q) (flat_map f ps) (Among-flat_map f p c ps h k)

pub flat_map-Among : {X Y : Type 0} (f : X → List Y) (c : Y) (ps : List X) → Among c (flat_map f ps) → (p : X) × Among p ps × Among c (f p)
flat_map-Among f c [] h = absurd h
flat_map-Among f c (q ∷ ps) h =
    elim (Among-append_cases c (f q) (flat_map f ps) h) [
      | inl a ↦ (q, inl refl, a)
      | inr b ↦ let r = flat_map-Among f c ps b in (r.0, inr r.1, r.2)
    ]

pub Among-map : {X Y : Type 0} (f : X → Y) (x : X) (xs : List X) → Among x xs → Among (f x) (map f xs)
Among-map f x [] h = absurd h
Among-map f x (y ∷ xs) (inl e) = inl (ap f e)
Among-map f x (y ∷ xs) (inr h) = inr (Among-map f x xs h)

pub map-Among : {X Y : Type 0} (f : X → Y) (y : Y) (xs : List X) → Among y (map f xs) → (x : X) × Among x xs × (f x ≡ y)
map-Among f y [] h = absurd h
map-Among f y (x ∷ xs) (inl e) = (x, inl refl, e)
map-Among f y (x ∷ xs) (inr h) = let r = map-Among f y xs h in (r.0, inr r.1, r.2)

pub any-Among : {X : Type 0} (t : X → Bool) (xs : List X) → list_any t xs ≡ true → (x : X) × Among x xs × (t x ≡ true)
any-Among t [] h = absurd (clash h refl)
any-Among {X} t (y ∷ xs) h =
    elim (t y) as (λ b. t y ≡ b → (b || list_any t xs) ≡ true → (x : X) × Among {X = X} x (y ∷ xs) × (t x ≡ true)) [
      | true ↦ λ ty k. (y, inl refl, ty)
      | false ↦ λ ty k. let r = any-Among t xs k in (r.0, inr r.1, r.2)
    ] refl h

pub Among-any : {X : Type 0} (t : X → Bool) (x : X) (xs : List X) → Among x xs → t x ≡ true → list_any t xs ≡ true
Among-any t x [] h k = absurd h
Among-any t x (y ∷ xs) (inl e) k = let ty : t y ≡ true = ap t e ∙ k in rw ty refl
Among-any t x (y ∷ xs) (inr h) k = let rest = Among-any t x xs h k in elim (t y) as (λ b. (b || list_any t xs) ≡ true) [ true ↦ refl | false ↦ rest ]

-- two tests that agree on the list keep the same
pub filter-same : {X : Type 0} (p q : X → Bool) (xs : List X) → ((x : X) → Among x xs → p x ≡ q x) → filter p xs ≡ filter q xs
filter-same p q [] same = refl
filter-same p q (x ∷ xs) same = rw (same x (inl refl), filter-same p q xs (λ y h. same y (inr h))) refl

pub filter-none : {X : Type 0} (p : X → Bool) (xs : List X) → ((x : X) → Among x xs → p x ≡ false) → filter p xs ≡ []
filter-none p [] none = refl
filter-none p (x ∷ xs) none = rw (none x (inl refl)) (filter-none p xs (λ y h. none y (inr h)))

pub filter-filter : {X : Type 0} (p q : X → Bool) (xs : List X) → filter p (filter q xs) ≡ filter (λ x. q x && p x) xs
filter-filter p q [] = refl
filter-filter p q (x ∷ xs) =
    elim (q x) as (λ b. filter p (cond b (x ∷ filter q xs) (filter q xs)) ≡ cond (b && p x) (x ∷ filter (λ y. q y && p y) xs) (filter (λ y. q y && p y) xs)) [
      | true ↦ rw (filter-filter p q xs) refl
      | false ↦ filter-filter p q xs
    ]

-- what is kept of the pieces of all is kept of the pieces of those that matter
pub filter-flat_map : {X Y : Type 0} (f : X → List Y) (keep : X → Bool) (s t : Y → Bool) (ps : List X) →
    ((p : X) → Among p ps → filter s (f p) ≡ cond (keep p) (filter t (f p)) []) →
    filter s (flat_map f ps) ≡ filter t (flat_map f (filter keep ps))
filter-flat_map f keep s t [] pieces = refl
filter-flat_map f keep s t (p ∷ ps) pieces =
    let here = pieces p (inl refl) in
    let rest = filter-flat_map f keep s t ps (λ q h. pieces q (inr h)) in
    filter-append s (f p) (flat_map f ps)
    ∙ elim (keep p) as (λ b. filter s (f p) ≡ cond b (filter t (f p)) [] → filter s (f p) ++ filter s (flat_map f ps) ≡ filter t (flat_map f (cond b (p ∷ filter keep ps) (filter keep ps)))) [
      | true ↦ λ e. rw (e, rest) (sym (filter-append t (f p) (flat_map f (filter keep ps))))
      | false ↦ λ e. rw (e, rest) refl
    ] here

-- what dominates an element in a finite list leads to one that nothing dominates
pub record Topmost {X : Type 0} (d : X → X → Bool) (xs : List X) (c : X) : Type 0 where
  pub top : X
  pub among : Among top xs
  pub over : d top c ≡ true
  pub free : list_any (λ q. d q top) xs ≡ false

pub topmost : {X : Type 0} (d : X → X → Bool) (irreflexive : (x : X) → d x x ≡ false) (transitive : (x y z : X) → d x y ≡ true → d y z ≡ true → d x z ≡ true)
    (xs : List X) (c : X) → (list_any (λ q. d q c) xs ≡ false) ⊎ Topmost d xs c
topmost d irr trans [] c = inl refl
topmost {X} d irr trans (x ∷ xs) c =
    let free_rest : (y : X) → d x y ≡ true → list_any (λ q. d q y) xs ≡ false → list_any (λ q. d q x) xs ≡ false =
    λ y xy none. elim (bool_cases (list_any (λ q. d q x) xs)) [
      | inl h ↦ let w = any-Among (λ q. d q x) xs h in absurd (clash (Among-any (λ q. d q y) w.0 xs w.1 (trans w.0 x y w.2 xy)) none)
      | inr h ↦ h
    ] in
    elim (topmost d irr trans xs c) [
      | inl none ↦ elim (bool_cases (d x c)) [
        | inl xc ↦ inr (record { top = x; among = inl refl; over = xc; free = rw (irr x) (free_rest c xc none) })
        | inr nc ↦ inl (rw nc none)
      ]
      | inr t ↦ elim (bool_cases (d x t.top)) [
        | inl xt ↦ inr (record { top = x; among = inl refl; over = trans x t.top c xt t.over; free = rw (irr x) (free_rest t.top xt t.free) })
        | inr nt ↦ inr (record { top = t.top; among = inr t.among; over = t.over; free = rw nt t.free })
      ]
    ]
