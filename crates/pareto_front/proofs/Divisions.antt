-- Parts as the nodes of a level are added to them.
use Rattle.std.proofs.Common.{◌≡◌, ◌∙◌, ℕ, ◌+◌, ◌<◌, ◌⊎◌, inl, inr, List, [], ◌∷◌, ◌++◌, length, get_or, set, Contains, Vec, arith, refl, ap, sym, subst}
use Rattle.plain_lemmas.proofs.Tests.{below_or_at, same_or_other}
use Rattle.std.proofs.lemmas.List.{get_or_default, get_or-set_same, get_or-set_other, length-set}
use Rattle.craft_state.specs.Craft.{AreEffects}
use Rattle.pareto_front.specs.declared.node.Node.{Node}
use Rattle.pareto_front.specs.declared.parts.Entry.{Entry}
use Rattle.pareto_front.specs.Keys.{key_of}
use Rattle.pareto_front.specs.Lists.{items_of}
use Rattle.pareto_front.specs.Parts.{part_of, entry_of, IsEntry, AreParts}
use Rattle.plain_lemmas.proofs.Lists.{Among-append_cases, Among-append_left, Among-append_right}
use Rattle.plain_lemmas.proofs.Places.{Contains-Among, Among-Contains}
use Rattle.pareto_front.proofs.Vectors.{length-items}

-- no nodes, and empty parts
pub parts-empty : (level : List Node) (from : ℕ) (parts : List (List Entry)) → ((g : ℕ) → get_or parts g [] ≡ []) → AreParts level from from parts
parts-empty level from parts empty = record {
  effects = λ j n up below at. absurd (omega (arith, up, below));
  entries = λ g e h. absurd (none e (subst (λ (l : List Entry). Contains l e) (empty g) h));
  whole = λ j n up below at. absurd (omega (arith, up, below));
} where
  none : (e : Entry) → Contains [] e → ⊥
  none e h = absurd (omega (arith, h.1))

Contains-cases : (part : List Entry) (x e : Entry) → Contains (part ++ x ∷ []) e → Contains part e ⊎ (x ≡ e)
Contains-cases part x e h = elim (Among-append_cases e part (x ∷ []) (Contains-Among (part ++ x ∷ []) e h)) [
  | inl old ↦ inl (Among-Contains part e old)
  | inr (inl here) ↦ inr here
  | inr (inr never) ↦ absurd never
]

Contains-old : (part : List Entry) (x e : Entry) → Contains part e → Contains (part ++ x ∷ []) e
Contains-old part x e h = Among-Contains (part ++ x ∷ []) e (Among-append_left e part (x ∷ []) (Contains-Among part e h))

Contains-new : (part : List Entry) (x : Entry) → Contains (part ++ x ∷ []) x
Contains-new part x = Among-Contains (part ++ x ∷ []) x (Among-append_right x part (x ∷ []) (inl refl))

older : (level : List Node) (count : ℕ) (e : Entry) → IsEntry level count e → IsEntry level (count + 1) e
older level count e is = record { node = is.node; below = omega (arith, is.below); at = is.at; is = is.is }

-- the next node joins the part of its key
pub parts-more : (level : List Node) (from count : ℕ) (parts : List (List Entry)) (i : ℕ) (n : Node) → count < length level → n ≡ get_or level count n → AreEffects n.state.effects →
    i < length parts → i ≡ part_of (key_of n.state) (length parts) → AreParts level from count parts →
    AreParts level from (count + 1) (set parts i (get_or parts i [] ++ entry_of count n ∷ []))
parts-more level from count parts i n inside at bounds low is are = record {
  effects = λ j m up below stands. elim (below_or_at j count below) [
    | inl old ↦ are.effects j m up old stands
    | inr here ↦ subst (λ (x : Node). AreEffects x.state.effects) (sym (node_at m (subst (λ (p : ℕ). m ≡ get_or level p m) here stands))) bounds
  ];
  entries = λ g e h. elim (member g e h) [
    | inl old ↦ let w = are.entries g e old in (older level count e w.0, w.1 ∙ ap (part_of e.key) (sym long))
    | inr new ↦ (
      subst (IsEntry level (count + 1)) new.1 (record { node = n; below = omega arith; at = at; is = refl }),
      new.0 ∙ is ∙ ap (λ (x : Entry). part_of x.key (length parts)) new.1 ∙ ap (part_of e.key) (sym long),
    )
  ];
  whole = λ j m up below stands. subst (λ (c : ℕ). Contains (get_or (set parts i grown) (part_of (key_of m.state) c) []) (entry_of j m)) (sym long)
      (elim (below_or_at j count below) [
        | inl old ↦ keep (part_of (key_of m.state) (length parts)) (entry_of j m) (are.whole j m up old stands)
        | inr here ↦
            let same : m ≡ n = node_at m (subst (λ (p : ℕ). m ≡ get_or level p m) here stands) in
            let mine : Contains (get_or (set parts i grown) (part_of (key_of n.state) (length parts)) []) (entry_of count n) =
            subst (λ (p : ℕ). Contains (get_or (set parts i grown) p []) (entry_of count n)) is
            (subst (λ (l : List Entry). Contains l (entry_of count n)) (sym (get_or-set_same parts i grown [] low)) (Contains-new (get_or parts i []) (entry_of count n))) in
            subst (λ (x : Node). Contains (get_or (set parts i grown) (part_of (key_of x.state) (length parts)) []) (entry_of j x)) (sym same)
            (subst (λ (p : ℕ). Contains (get_or (set parts i grown) (part_of (key_of n.state) (length parts)) []) (entry_of p n)) (sym here) mine)
      ]);
} where
  grown : List Entry
  grown = get_or parts i [] ++ entry_of count n ∷ []

  long : length (set parts i grown) ≡ length parts
  long = length-set parts i grown

  node_at : (m : Node) → m ≡ get_or level count m → m ≡ n
  node_at m stands = stands ∙ get_or_default level count m n inside ∙ sym at

  member : (g : ℕ) (e : Entry) → Contains (get_or (set parts i grown) g []) e → Contains (get_or parts g []) e ⊎ ((g ≡ i) × (entry_of count n ≡ e))
  member g e h = elim (same_or_other g i) [
    | inl here ↦
        let in_grown : Contains grown e = subst (λ (l : List Entry). Contains l e) (ap (λ (p : ℕ). get_or (set parts i grown) p []) here ∙ get_or-set_same parts i grown [] low) h in
        elim (Contains-cases (get_or parts i []) (entry_of count n) e in_grown) [
          | inl old ↦ inl (subst (λ (p : ℕ). Contains (get_or parts p []) e) (sym here) old)
          | inr new ↦ inr (here, new)
        ]
    | inr other ↦ inl (subst (λ (l : List Entry). Contains l e) (get_or-set_other parts i g grown [] other) h)
  ]

  keep : (g : ℕ) (e : Entry) → Contains (get_or parts g []) e → Contains (get_or (set parts i grown) g []) e
  keep g e h = elim (same_or_other g i) [
    | inl here ↦
        subst (λ (p : ℕ). Contains (get_or (set parts i grown) p []) e) (sym here)
        (subst (λ (l : List Entry). Contains l e) (sym (get_or-set_same parts i grown [] low))
        (Contains-old (get_or parts i []) (entry_of count n) e (subst (λ (p : ℕ). Contains (get_or parts p []) e) here h)))
    | inr other ↦ subst (λ (l : List Entry). Contains l e) (sym (get_or-set_other parts i g grown [] other)) h
  ]

-- the same of parts in vectors, of which there are as many as before
pub length-step : {A : Type 0} (parts later : List (Vec Entry A)) (i : ℕ) (part : List Entry) → items_of later ≡ set (items_of parts) i part → length later ≡ length parts
length-step parts later i part grown = sym (length-items later) ∙ ap length grown ∙ length-set (items_of parts) i part ∙ length-items parts

pub parts-step : {A : Type 0} (level : List Node) (from count most : ℕ) (parts later : List (Vec Entry A)) (i : ℕ) (n : Node) (e : Entry) → count < length level → n ≡ get_or level count n → AreEffects n.state.effects →
    length parts ≡ most → i < most → i ≡ part_of e.key most → e ≡ entry_of count n → items_of later ≡ set (items_of parts) i (get_or (items_of parts) i [] ++ e ∷ []) → AreParts level from count (items_of parts) →
    AreParts level from (count + 1) (items_of later)
parts-step level from count most parts later i n e inside at bounds long low is entry grown are =
    let many : length (items_of parts) ≡ most = length-items parts ∙ long in
    let key : i ≡ part_of (key_of n.state) (length (items_of parts)) = is ∙ ap (λ (x : Entry). part_of x.key most) entry ∙ ap (part_of (key_of n.state)) (sym many) in
    let mine : items_of later ≡ set (items_of parts) i (get_or (items_of parts) i [] ++ entry_of count n ∷ []) =
    grown ∙ ap (λ (x : Entry). set (items_of parts) i (get_or (items_of parts) i [] ++ x ∷ [])) entry in
    subst (AreParts level from (count + 1)) (sym mine) (parts-more level from count (items_of parts) i n inside at bounds (omega (arith, low, many)) key are)
