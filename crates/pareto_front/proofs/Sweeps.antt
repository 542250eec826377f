-- What is kept of a part in the order of keys, then seconds, then places.
use Rattle.std.proofs.Common.{◌≡◌, ◌∙◌, ℕ, zero, suc, ◌+◌, ◌<◌, ◌≤◌, inl, inr, ◌==◌, ◌&&◌, ◌||◌, nat_lt, nat_le, cond, Bool, true, false, not, List, [], ◌∷◌, ◌++◌, length, get_or, take, map, filter, IsPermutation, arith, refl, ap, sym, subst}
use Rattle.plain_lemmas.proofs.Tests.{bool_cases, clash, eq_from, eq_to, other_number}
use Rattle.std.specs.List.{list_any}
use Rattle.std.specs.Ordering.{is_lt, ordering_then, nat_cmp}
use Rattle.std.proofs.lemmas.Bool.Decides.{nat_tests}
use Rattle.std.proofs.lemmas.List.{take_all, map-append, get_or-map, length-map}
use Rattle.std.proofs.lemmas.List.Elements.{filter-append}
use Rattle.std.proofs.lemmas.List.Sorted.{list_any-IsPermutation, Contains-permutation, IsPermutation-sym}
use Rattle.pareto_front.specs.declared.parts.Entry.{Entry}
use Rattle.pareto_front.specs.Columns.{Numbers, are_no_less, is_enough, NoneEnough, IsFirstEnough}
use Rattle.pareto_front.specs.Parts.{outdoes, survives, is_before, AreSorted, Keeps, Tries, asks_of}
use Rattle.plain_lemmas.proofs.Lists.{Among, Among-filter, filter-Among, filter-none, Among-append_cases, Among-append_left, Among-append_right, Among-any, Among-map, map-Among, topmost}
use Rattle.plain_lemmas.proofs.Places.{Contains-Among, Among-Contains, Among-take_more, Among-take_before, Among-take_at, Among-place, place-take, take-place, Among-get_or}

-- three numbers in the order of the first, then the second, then the third
abbrev earlier : ℕ → ℕ → ℕ → ℕ → Bool
earlier s p t q = nat_lt s t || (s == t && nat_lt p q)

abbrev earlier_3 : ℕ → ℕ → ℕ → ℕ → ℕ → ℕ → Bool
earlier_3 k s p l t q = nat_lt k l || (k == l && earlier s p t q)

earlier_3-of : (k s p l t q : ℕ) (r : Bool) → (k == l && r && earlier s p t q) ≡ true → (k ≡ l) × (r ≡ true) × (earlier_3 k s p l t q ≡ true)
earlier_3-of k s p l t q true h = (grind (arith, nat_tests), refl, grind (arith, nat_tests))
earlier_3-of k s p l t q false h = grind (arith, nat_tests)

of-earlier_3 : (k s p l t q : ℕ) (r : Bool) → k ≡ l → r ≡ true → earlier_3 k s p l t q ≡ true → (k == l && r && earlier s p t q) ≡ true
of-earlier_3 k s p l t q true e f h = grind (arith, nat_tests)
of-earlier_3 k s p l t q false e f h = cc

earlier_3-trans : (k s p l t q m u r : ℕ) → earlier_3 k s p l t q ≡ true → earlier_3 l t q m u r ≡ true → earlier_3 k s p m u r ≡ true
earlier_3-trans k s p l t q m u r h i = grind (arith, nat_tests)

not_earlier_3-trans : (k s p l t q m u r : ℕ) → earlier_3 l t q k s p ≡ false → earlier_3 m u r l t q ≡ false → earlier_3 m u r k s p ≡ false
not_earlier_3-trans k s p l t q m u r h i = grind (arith, nat_tests)

earlier_3-self : (k s p : ℕ) → earlier_3 k s p k s p ≡ false
earlier_3-self k s p = grind (arith, nat_tests)

neither_3 : (k s p l t q : ℕ) → earlier_3 k s p l t q ≡ false → earlier_3 l t q k s p ≡ false → (k ≡ l) × (p ≡ q)
neither_3 k s p l t q h i = (grind (arith, nat_tests), grind (arith, nat_tests))

not_earlier_3-key : (k s p l t q : ℕ) → earlier_3 k s p l t q ≡ false → l ≤ k
not_earlier_3-key k s p l t q h = grind (arith, nat_tests)

-- the order of triples
pub triple_before : (k l a b p q : ℕ) → is_lt (ordering_then (ordering_then (nat_cmp k l) (nat_cmp a b)) (nat_cmp p q)) ≡ false → earlier_3 k a p l b q ≡ false
triple_before k l a b p q h = grind (arith, nat_tests)

-- what outdoes has the same key, no number less, and comes before
record Beats (a b : Entry) : Type 0 where
  key : a.key ≡ b.key
  numbers : are_no_less a.numbers b.numbers ≡ true
  before : is_before a b ≡ true

beats : (a b : Entry) → outdoes a b ≡ true → Beats a b
unfolding outdoes
beats a b h =
    let t = earlier_3-of a.key a.seconds a.place b.key b.seconds b.place (are_no_less a.numbers b.numbers) h in
    record { key = t.0; numbers = t.1; before = t.2 }

pub outdoes-key : (a b : Entry) → outdoes a b ≡ true → a.key ≡ b.key
outdoes-key a b h = (beats a b h).key

outdoes-by : (a b : Entry) → a.key ≡ b.key → are_no_less a.numbers b.numbers ≡ true → is_before a b ≡ true → outdoes a b ≡ true
unfolding outdoes
outdoes-by a b key numbers before = of-earlier_3 a.key a.seconds a.place b.key b.seconds b.place (are_no_less a.numbers b.numbers) key numbers before

are_no_less-trans : (a b c : Numbers) → are_no_less a b ≡ true → are_no_less b c ≡ true → are_no_less a c ≡ true
unfolding are_no_less
are_no_less-trans a b c h k = by b.cp a.cp b.durability a.durability b.quality a.quality c.cp c.durability c.quality h k where
  by : (p q r s t u v w x : ℕ) → (nat_le p q && nat_le r s && nat_le t u) ≡ true → (nat_le v p && nat_le w r && nat_le x t) ≡ true → (nat_le v q && nat_le w s && nat_le x u) ≡ true
  by p q r s t u v w x h k = grind (arith, nat_tests)

are_no_less-self : (a : Numbers) → are_no_less a a ≡ true
unfolding are_no_less
are_no_less-self a = by a.cp a.durability a.quality where
  by : (p q r : ℕ) → (nat_le p p && nat_le q q && nat_le r r) ≡ true
  by p q r = grind (arith, nat_tests)

outdoes-irreflexive : (a : Entry) → outdoes a a ≡ false
outdoes-irreflexive a = elim (bool_cases (outdoes a a)) [
  | inl over ↦ absurd (clash (beats a a over).before (earlier_3-self a.key a.seconds a.place))
  | inr free ↦ free
]

outdoes-trans : (a b c : Entry) → outdoes a b ≡ true → outdoes b c ≡ true → outdoes a c ≡ true
outdoes-trans a b c h k =
    let x = beats a b h in
    let y = beats b c k in
    outdoes-by a c (x.key ∙ y.key) (are_no_less-trans a.numbers b.numbers c.numbers x.numbers y.numbers)
    (earlier_3-trans a.key a.seconds a.place b.key b.seconds b.place c.key c.seconds c.place x.before y.before)

-- neighbours in order make a list in order
pub sorted-by : (xs : List Entry) → ((k : ℕ) (d : Entry) → k + 1 < length xs → is_before (get_or xs (k + 1) d) (get_or xs k d) ≡ false) → AreSorted xs
sorted-by xs steps = record { sorted = all } where
  self : (a : Entry) → is_before a a ≡ false
  self a = earlier_3-self a.key a.seconds a.place

  all : (i j : ℕ) (d : Entry) → i ≤ j → j < length xs → is_before (get_or xs j d) (get_or xs i d) ≡ false
  all i zero d h inside = let e : i ≡ 0 = omega (arith, h) in rw e (self (get_or xs 0 d))
  all i (suc j) d h inside =
      elim (bool_cases (nat_lt j i)) [
        | inl above ↦ let e : i ≡ suc j = grind arith in rw e (self (get_or xs (suc j) d))
        | inr below ↦
            let up : i ≤ j = grind arith in
            let more : j + 1 ≡ suc j = omega arith in
            let last : is_before (get_or xs (suc j) d) (get_or xs j d) ≡ false = subst (λ (n : ℕ). is_before (get_or xs n d) (get_or xs j d) ≡ false) more (steps j d (omega (arith, inside))) in
            let a = get_or xs i d in
            let b = get_or xs j d in
            let c = get_or xs (suc j) d in
            not_earlier_3-trans a.key a.seconds a.place b.key b.seconds b.place c.key c.seconds c.place (all i j d up (omega (arith, inside))) last
      ]

survives-none : (part : List Entry) (e : Entry) → list_any (λ o. outdoes o e) part ≡ false → survives part e ≡ true
survives-none part e h = rw h refl

none-survives : (part : List Entry) (e : Entry) → survives part e ≡ true → list_any (λ o. outdoes o e) part ≡ false
none-survives part e h = elim (bool_cases (list_any (λ o. outdoes o e) part)) [
  | inl some ↦ absurd (clash (subst (λ (b : Bool). not b ≡ true) some h) refl)
  | inr none ↦ none
]

-- it stands at the place of the other, with its key and numbers that are not less
record StandsFor (k e : Entry) : Type 0 where
  key : k.key ≡ e.key
  place : k.place ≡ e.place
  numbers : are_no_less k.numbers e.numbers ≡ true

abbrev numbers_with : ℕ → List Entry → List Numbers
numbers_with key kept = map (λ k. k.numbers) (filter (λ k. k.key == key) kept)

-- of the first n entries those that survive are kept, up to entries of one place; the columns have the numbers of those with the latest key
pub record Swept (sorted : List Entry) (n key : ℕ) (rows : List Numbers) (places : List ℕ) : Type 0 where
  kept : List Entry
  is : places ≡ map (λ k. k.place) kept
  columns : rows ≡ numbers_with key kept
  sound : (e : Entry) → Among e kept → Among e (take n sorted) × (survives sorted e ≡ true)
  whole : (e : Entry) → Among e (take n sorted) → survives sorted e ≡ true → (k : Entry) × Among k kept × StandsFor k e
  least : (j : ℕ) (d : Entry) → n ≤ j → j < length sorted → key ≤ (get_or sorted j d).key
  most : (e : Entry) → Among e kept → e.key ≤ key

pub swept-start : (sorted : List Entry) → Swept sorted 0 0 [] []
swept-start sorted = record {
  kept = [];
  is = refl;
  columns = refl;
  sound = λ e h. absurd h;
  whole = λ e h alive. absurd (none sorted e h);
  least = λ j d low inside. omega arith;
  most = λ e h. absurd h;
} where
  none : (xs : List Entry) (e : Entry) → Among e (take 0 xs) → ⊥
  none [] e h = h
  none (x ∷ xs) e h = h

-- the columns are emptied where another key comes
pub swept-turned : (sorted : List Entry) (n key : ℕ) (x : Entry) (rows rows' : List Numbers) (places : List ℕ) → AreSorted sorted → n < length sorted → x ≡ get_or sorted n x →
    rows' ≡ cond (x.key == key) rows [] → Swept sorted n key rows places → Swept sorted n x.key rows' places
swept-turned sorted n key x rows rows' places order inside is turned swept = record {
  kept = swept.kept;
  is = swept.is;
  columns = elim (bool_cases (x.key == key)) [
    | inl same ↦ turned ∙ ap (λ (b : Bool). cond b rows []) same ∙ swept.columns ∙ ap (λ (k : ℕ). numbers_with k swept.kept) (sym (eq_from x.key key same))
    | inr differ ↦
        turned ∙ ap (λ (b : Bool). cond b rows []) differ
        ∙ sym (ap (map (λ (k : Entry). k.numbers)) (filter-none (λ k. k.key == x.key) swept.kept (λ e h. other_number e.key x.key (λ same. apart e.key key x.key same (swept.most e h) up (not_same differ)))))
  ];
  sound = swept.sound;
  whole = swept.whole;
  least = λ j d low within. subst (λ (k : ℕ). k ≤ (get_or sorted j d).key) (sym (ap (λ (y : Entry). y.key) (at d))) (not_before-key (get_or sorted j d) (get_or sorted n d) (order.sorted n j d low within));
  most = λ e h. omega (arith, swept.most e h, up);
} where
  at : (d : Entry) → x ≡ get_or sorted n d
  at d = is ∙ default sorted n x d inside where
    default : (xs : List Entry) (i : ℕ) (a b : Entry) → i < length xs → get_or xs i a ≡ get_or xs i b
    default [] i a b h = absurd (omega (arith, h))
    default (y ∷ xs) zero a b h = refl
    default (y ∷ xs) (suc i) a b h = default xs i a b (omega (arith, h))

  not_before-key : (a b : Entry) → is_before a b ≡ false → b.key ≤ a.key
  not_before-key a b h = not_earlier_3-key a.key a.seconds a.place b.key b.seconds b.place h

  up : key ≤ x.key
  up = subst (λ (y : Entry). key ≤ y.key) (sym is) (swept.least n x (omega arith) inside)

  not_same : (x.key == key) ≡ false → x.key ≡ key → ⊥
  not_same differ same = clash (eq_to x.key key same) differ

  apart : (a k b : ℕ) → a ≡ b → a ≤ k → k ≤ b → (b ≡ k → ⊥) → ⊥
  apart a k b same h i differ = differ (omega arith)

-- a kept entry with the key of x, where the columns have none that is enough for x
not_enough : (kept : List Entry) (x k : Entry) (rows : List Numbers) → rows ≡ numbers_with x.key kept → NoneEnough (asks_of x) rows (length rows) → Among k kept → k.key ≡ x.key → are_no_less k.numbers x.numbers ≡ false
unfolding are_no_less
not_enough kept x k rows is none among same =
    let here : Among k.numbers rows = subst (λ (r : List Numbers). Among k.numbers r) (sym is)
    (Among-map (λ (e : Entry). e.numbers) k (filter (λ e. e.key == x.key) kept) (Among-filter (λ e. e.key == x.key) k kept among (eq_to k.key x.key same))) in
    let p = Among-place k.numbers rows here in
    subst (λ (r : Numbers). is_enough (asks_of x) r ≡ false) (p.at x.numbers) (none p.place x.numbers p.inside)

-- nothing kept is enough for x, so it survives
survives-new : (sorted : List Entry) (n : ℕ) (x : Entry) (rows : List Numbers) (places : List ℕ) → AreSorted sorted → n < length sorted → x ≡ get_or sorted n x →
    Swept sorted n x.key rows places → NoneEnough (asks_of x) rows (length rows) → survives sorted x ≡ true
survives-new sorted n x rows places order inside is swept none =
    elim (topmost outdoes outdoes-irreflexive outdoes-trans sorted x) [
      | inl free ↦ survives-none sorted x free
      | inr t ↦
          let over = beats t.top x t.over in
          let p = Among-place t.top sorted t.among in
          elim (bool_cases (nat_lt p.place n)) [
            | inl below ↦
                let early = place-take t.top sorted p.place n (grind arith) p.inside p.at in
                let k = swept.whole t.top early (survives-none sorted t.top t.free) in
                let enough = are_no_less-trans k.0.numbers t.top.numbers x.numbers k.2.numbers over.numbers in
                absurd (clash enough (not_enough swept.kept x k.0 rows swept.columns none k.1 (k.2.key ∙ over.key)))
            | inr above ↦
                let late : is_before (get_or sorted p.place x) (get_or sorted n x) ≡ false = order.sorted n p.place x (grind arith) p.inside in
                let late_top : is_before t.top (get_or sorted n x) ≡ false = subst (λ (y : Entry). is_before y (get_or sorted n x) ≡ false) (p.at x) late in
                let late_x : is_before t.top x ≡ false = subst (λ (y : Entry). is_before t.top y ≡ false) (sym is) late_top in
                absurd (clash over.before late_x)
          ]
    ]

stands-self : (x : Entry) → StandsFor x x
stands-self x = record { key = refl; place = refl; numbers = are_no_less-self x.numbers }

-- x is kept
swept-kept : (sorted : List Entry) (n : ℕ) (x : Entry) (rows : List Numbers) (places : List ℕ) → AreSorted sorted → n < length sorted → x ≡ get_or sorted n x →
    Swept sorted n x.key rows places → NoneEnough (asks_of x) rows (length rows) → Swept sorted (n + 1) x.key (rows ++ x.numbers ∷ []) (places ++ x.place ∷ [])
swept-kept sorted n x rows places order inside is swept none = record {
  kept = swept.kept ++ x ∷ [];
  is = ap (λ (l : List ℕ). l ++ x.place ∷ []) swept.is ∙ sym (map-append (λ (k : Entry). k.place) swept.kept (x ∷ []));
  columns =
      ap (λ (r : List Numbers). r ++ x.numbers ∷ []) swept.columns
      ∙ sym (ap (map (λ (k : Entry). k.numbers)) (filter-append (λ k. k.key == x.key) swept.kept (x ∷ []) ∙ ap (λ (b : Bool). filter (λ k. k.key == x.key) swept.kept ++ cond b (x ∷ []) []) (eq_to x.key x.key refl))
      ∙ map-append (λ (k : Entry). k.numbers) (filter (λ k. k.key == x.key) swept.kept) (x ∷ []));
  sound = λ e h. elim (Among-append_cases e swept.kept (x ∷ []) h) [
    | inl old ↦ let s = swept.sound e old in (Among-take_before sorted n x e inside s.0, s.1)
    | inr (inl here) ↦ (subst (λ (y : Entry). Among y (take (n + 1) sorted)) here (Among-take_at sorted n x inside is), subst (λ (y : Entry). survives sorted y ≡ true) here (survives-new sorted n x rows places order inside is swept none))
    | inr (inr never) ↦ absurd never
  ];
  whole = λ e h alive. elim (Among-take_more sorted n x e inside is h) [
    | inl old ↦ let k = swept.whole e old alive in (k.0, Among-append_left k.0 swept.kept (x ∷ []) k.1, k.2)
    | inr here ↦ (x, Among-append_right x swept.kept (x ∷ []) (inl refl), subst (StandsFor x) here (stands-self x))
  ];
  least = λ j d low within. swept.least j d (omega arith) within;
  most = λ e h. elim (Among-append_cases e swept.kept (x ∷ []) h) [
    | inl old ↦ swept.most e old
    | inr (inl here) ↦ subst (λ (y : Entry). y.key ≤ x.key) here (omega arith)
    | inr (inr never) ↦ absurd never
  ];
}

-- the kept entry that the columns found stands for x, or x doesn't survive
stands : (sorted : List Entry) (n p : ℕ) (x : Entry) (rows : List Numbers) (places : List ℕ) → AreSorted sorted → n < length sorted → x ≡ get_or sorted n x →
    (swept : Swept sorted n x.key rows places) → IsFirstEnough (asks_of x) rows p → survives sorted x ≡ true → (k : Entry) × Among k swept.kept × StandsFor k x
unfolding are_no_less
stands sorted n p x rows places order inside is swept first alive =
    let same_key = filter (λ (e : Entry). e.key == x.key) swept.kept in
    let here = subst (λ (r : List Numbers). IsFirstEnough (asks_of x) r p) swept.columns first in
    let low : p < length same_key = omega (arith, here.inside, length-map same_key (λ (e : Entry). e.numbers)) in
    let k : Entry = get_or same_key p x in
    let filtered = filter-Among (λ (e : Entry). e.key == x.key) k swept.kept (Among-get_or same_key p x low) in
    let key : k.key ≡ x.key = eq_from k.key x.key filtered.1 in
    let enough : is_enough (asks_of x) k.numbers ≡ true = subst (λ (r : Numbers). is_enough (asks_of x) r ≡ true) (get_or-map (λ (e : Entry). e.numbers) same_key p x x.numbers low) (here.enough x.numbers) in
    let sound = swept.sound k filtered.0 in
    let at = take-place k sorted n sound.0 in
    let late : is_before (get_or sorted n x) (get_or sorted at.0 x) ≡ false = order.sorted at.0 n x (omega (arith, at.1)) inside in
    let late_k : is_before (get_or sorted n x) k ≡ false = subst (λ (y : Entry). is_before (get_or sorted n x) y ≡ false) (at.3 x) late in
    let late_x : is_before x k ≡ false = subst (λ (y : Entry). is_before y k ≡ false) (sym is) late_k in
    elim (bool_cases (is_before k x)) [
      | inl over ↦ absurd (clash (Among-any (λ o. outdoes o x) k sorted (subst (λ (y : Entry). Among y sorted) (at.3 x) (Among-get_or sorted at.0 x at.2)) (outdoes-by k x key enough over)) (none-survives sorted x alive))
      | inr not_over ↦ (k, filtered.0, record { key = key; place = (neither_3 k.key k.seconds k.place x.key x.seconds x.place not_over late_x).1; numbers = enough })
    ]

-- x isn't kept
swept-skipped : (sorted : List Entry) (n p : ℕ) (x : Entry) (rows : List Numbers) (places : List ℕ) → AreSorted sorted → n < length sorted → x ≡ get_or sorted n x →
    Swept sorted n x.key rows places → IsFirstEnough (asks_of x) rows p → Swept sorted (n + 1) x.key rows places
swept-skipped sorted n p x rows places order inside is swept first = record {
  kept = swept.kept;
  is = swept.is;
  columns = swept.columns;
  sound = λ e h. let s = swept.sound e h in (Among-take_before sorted n x e inside s.0, s.1);
  whole = λ e h alive. elim (Among-take_more sorted n x e inside is h) [
    | inl old ↦ swept.whole e old alive
    | inr here ↦ subst (λ (y : Entry). (k : Entry) × Among k swept.kept × StandsFor k y) here (stands sorted n p x rows places order inside is swept first (subst (λ (y : Entry). survives sorted y ≡ true) (sym here) alive))
  ];
  least = λ j d low within. swept.least j d (omega arith) within;
  most = swept.most;
}

-- the next entry is tried
pub swept-more : (sorted : List Entry) (n : ℕ) (x : Entry) (rows rows' : List Numbers) (places places' : List ℕ) → AreSorted sorted → n < length sorted → x ≡ get_or sorted n x →
    Swept sorted n x.key rows places → Tries x rows places rows' places' → Swept sorted (n + 1) x.key rows' places'
swept-more sorted n x rows rows' places places' order inside is swept (inl added) =
    subst (λ (r : List Numbers). Swept sorted (n + 1) x.key r places') (sym added.1)
    (subst (λ (l : List ℕ). Swept sorted (n + 1) x.key (rows ++ x.numbers ∷ []) l) (sym added.2) (swept-kept sorted n x rows places order inside is swept added.0))
swept-more sorted n x rows rows' places places' order inside is swept (inr passed) =
    subst (λ (r : List Numbers). Swept sorted (n + 1) x.key r places') (sym passed.2)
    (subst (λ (l : List ℕ). Swept sorted (n + 1) x.key rows l) (sym passed.3) (swept-skipped sorted n passed.0 x rows places order inside is swept passed.1))

-- all of the part is swept
pub swept-keeps : (sorted : List Entry) (n key : ℕ) (rows : List Numbers) (places : List ℕ) → length sorted ≤ n → Swept sorted n key rows places → Keeps sorted places
swept-keeps sorted n key rows places all swept = record {
  sound = λ place h.
      let m = map-Among (λ (k : Entry). k.place) place swept.kept (subst (λ (l : List ℕ). Among place l) swept.is (Contains-Among places place h)) in
      let s = swept.sound m.0 m.1 in
      (m.0, Among-Contains sorted m.0 (subst (λ (l : List Entry). Among m.0 l) (take_all n sorted all) s.0), s.1, m.2);
  whole = λ e h alive.
      let k = swept.whole e (subst (λ (l : List Entry). Among e l) (sym (take_all n sorted all)) (Contains-Among sorted e h)) alive in
      Among-Contains places e.place (subst (λ (l : List ℕ). Among e.place l) (sym swept.is)
      (subst (λ (p : ℕ). Among p (map (λ (y : Entry). y.place) swept.kept)) k.2.place (Among-map (λ (y : Entry). y.place) k.0 swept.kept k.1)));
}

survives-permuted : (part sorted : List Entry) (e : Entry) → IsPermutation part sorted → survives sorted e ≡ survives part e
survives-permuted part sorted e moved = ap not (sym (list_any-IsPermutation (λ o. outdoes o e) part sorted moved))

-- and so is the part in any other order
pub keeps-permuted : (part sorted : List Entry) (places : List ℕ) → IsPermutation part sorted → Keeps sorted places → Keeps part places
keeps-permuted part sorted places moved keeps = record {
  sound = λ place h. let s = keeps.sound place h in (s.0, Contains-permutation sorted part s.0 (IsPermutation-sym part sorted moved) s.1, sym (survives-permuted part sorted s.0 moved) ∙ s.2, s.3);
  whole = λ e h alive. keeps.whole e (Contains-permutation part sorted e moved h) (survives-permuted part sorted e moved ∙ alive);
}
