-- The macros of a craft below level 7 that starts with at most 20 durability.
use Rattle.std.proofs.Common.{◌≡◌, ◌∙◌, sym, ◌≤◌, ◌-◌, ◌⊎◌, inl, inr, ℕ, Bool, true, false, arith, refl, ap, subst, if◌then◌else◌, List, [], ◌∷◌, Some, None, ◌==◌, ◌&&◌, ◌||◌, nat_le}
use Rattle.std.proofs.lemmas.Bool.Decides.{nat_tests}
use Rattle.action_table.specs.declared.action.Action.{Action}
use Rattle.action_table.specs.declared.action.Action.TheVariants.{BasicSynthesis, BasicTouch, TrainedPerfection}
use Rattle.action_table.specs.Table.{row_of}
use Rattle.craft_state.specs.declared.Perfection.{Perfection}
use Rattle.craft_state.specs.declared.Perfection.TheVariants.{Ready, On, Spent}
use Rattle.craft_state.specs.Craft.{EffectFields, StateFields}
use Rattle.craft_settings.specs.Ranges.{SettingsFields}
use Rattle.craft_settings.specs.Rules.{is_allowed}
use Rattle.combo_effects.specs.Combos.{is_on, wear_of, tick_of, after_of}
use Rattle.step_rules.specs.Legality.{start_of, is_legal, is_over, is_complete}
use Rattle.step_rules.specs.Step.{acted_of, settled_of, step_of}
use Rattle.step_rules.specs.Run.{run_of}
use Rattle.step_rules.proofs.LegalFacts.{legal_facts}
use Rattle.macro_order.specs.declared.scores.Score.{Score}
use Rattle.macro_order.specs.Order.{score_of, is_better, IsBest, NothingCompletes}
use Rattle.macro_order.proofs.Total.{better_or}
use Rattle.stat_sweep.proofs.Scores.{scored-ends}

learned-low : (least level : ℕ) → nat_le least level ≡ true → level ≤ 6 → least ≤ 6
learned-low least level learned low = grind (arith, nat_tests)

basic : (g : SettingsFields) (s : StateFields) (a : Action) → g.level ≤ 6 → is_legal g s a ≡ true → (a ≡ BasicSynthesis) ⊎ (a ≡ BasicTouch)
basic g s BasicSynthesis low legal = inl refl
basic g s BasicTouch low legal = inr refl
basic g s a low legal = absurd (omega (arith, learned-low (row_of a g.level).level g.level (legal_facts g s a legal).learned low))

-- no effect changes what an action wears or gives durability back
pub record IsPlain (e : EffectFields) : Type 0 where
  pub waste : e.waste ≡ 0
  pub perfection : is_on e.perfection ≡ false
  pub manipulation : e.manipulation ≡ 0

off-after : (p : Perfection) (b : Bool) → is_on p ≡ false → is_on (if is_on p && b then Spent else p) ≡ false
off-after Ready b h = refl
off-after On b h = absurd (cc h)
off-after Spent b h = refl

plain-wear : (e : EffectFields) → IsPlain e → wear_of 10 e ≡ 10
plain-wear e plain = rw (plain.perfection, plain.waste) refl

-- the action wears ten
pub record WearsTen (g : SettingsFields) (s : StateFields) (next : StateFields) : Type 0 where
  pub plain : IsPlain next.effects
  pub durability : next.durability ≤ s.durability - 10

plain-start : (g : SettingsFields) → IsPlain (start_of g).effects
plain-start g = record {
  waste = refl;
  perfection = elim (is_allowed g TrainedPerfection) as (λ b. is_on (if b then Ready else Spent) ≡ false) [ true ↦ refl | false ↦ refl ];
  manipulation = refl;
}

acted-wears : (g : SettingsFields) (s : StateFields) (a : Action) → (a ≡ BasicSynthesis) ⊎ (a ≡ BasicTouch) → IsPlain s.effects → WearsTen g s (acted_of g s a)
unfolding acted_of
acted-wears g s BasicSynthesis _ plain = record {
  plain = record { waste = plain.waste; perfection = off-after s.effects.perfection _ plain.perfection; manipulation = plain.manipulation };
  durability = omega (arith, plain-wear s.effects plain);
}
acted-wears g s BasicTouch _ plain = record {
  plain = record { waste = plain.waste; perfection = off-after s.effects.perfection _ plain.perfection; manipulation = plain.manipulation };
  durability = omega (arith, plain-wear s.effects plain);
}
acted-wears g s a (inl is) plain = absurd (cc is)
acted-wears g s a (inr is) plain = absurd (cc is)

settled-wears : (g : SettingsFields) (s t : StateFields) (a : Action) → (a ≡ BasicSynthesis) ⊎ (a ≡ BasicTouch) → IsPlain s.effects → WearsTen g s t →
    WearsTen g s (settled_of g s.effects a t)
unfolding settled_of tick_of after_of
settled-wears g s t BasicSynthesis _ plain wears = record {
  plain = record { waste = omega (arith, wears.plain.waste); perfection = wears.plain.perfection; manipulation = omega (arith, wears.plain.manipulation) };
  durability = rw plain.manipulation (omega (arith, wears.durability));
}
settled-wears g s t BasicTouch _ plain wears = record {
  plain = record { waste = omega (arith, wears.plain.waste); perfection = wears.plain.perfection; manipulation = omega (arith, wears.plain.manipulation) };
  durability = rw plain.manipulation (omega (arith, wears.durability));
}
settled-wears g s t a (inl is) plain wears = absurd (cc is)
settled-wears g s t a (inr is) plain wears = absurd (cc is)

step-wears : (g : SettingsFields) (s : StateFields) (a : Action) → g.level ≤ 6 → IsPlain s.effects → is_legal g s a ≡ true → WearsTen g s (step_of g s a)
unfolding step_of
step-wears g s a low plain legal =
    let is = basic g s a low legal in
    let acted = acted-wears g s a is plain in
    elim (is_over g (acted_of g s a)) as (λ b. WearsTen g s (if b then acted_of g s a else settled_of g s.effects a (acted_of g s a))) [
      | true ↦ acted
      | false ↦ settled-wears g s (acted_of g s a) a is plain acted
    ]

touch-progress : (g : SettingsFields) (s : StateFields) → (step_of g s BasicTouch).progress ≡ s.progress
unfolding step_of acted_of settled_of
touch-progress g s =
    let acted = acted_of g s BasicTouch in
    elim (is_over g acted) as (λ b. (if b then acted else settled_of g s.effects BasicTouch acted).progress ≡ s.progress) [ true ↦ refl | false ↦ refl ]

-- the first action of a run
pub record Goes (g : SettingsFields) (s : StateFields) (a : Action) (rest : List Action) (last : StateFields) : Type 0 where
  pub legal : is_legal g s a ≡ true
  pub ran : run_of g (step_of g s a) rest ≡ Some last

goes : (g : SettingsFields) (s : StateFields) (a : Action) (rest : List Action) (last : StateFields) → run_of g s (a ∷ rest) ≡ Some last → Goes g s a rest last
goes g s a rest last ran =
    let after = run_of g (step_of g s a) rest in
    elim (is_legal g s a) as (λ b. is_legal g s a ≡ b → (if b then after else None) ≡ Some last → Goes g s a rest last) [
      | true ↦ λ legal tail. record { legal = legal; ran = tail }
      | false ↦ λ _ bad. absurd (cc bad)
    ] refl ran

zero_durability : (b : Bool) (d : ℕ) → d ≤ 0 → (b || (d == 0)) ≡ false → ⊥
zero_durability b d none live = grind (arith, nat_tests)

or_left : (a b : Bool) → a ≡ true → (a || b) ≡ false → ⊥
or_left a b h k = cc (h, k)

-- a touch doesn't complete a craft
touch-part : (g : SettingsFields) (s last : StateFields) → is_legal g s BasicTouch ≡ true → step_of g s BasicTouch ≡ last → is_complete g last ≡ true → ⊥
touch-part g s last legal is full =
    let progress : last.progress ≡ s.progress = ap (λ (t : StateFields). t.progress) (sym is) ∙ touch-progress g s in
    or_left (is_complete g s) _ (ap (λ n. n == g.progress) (sym progress) ∙ full) (legal_facts g s BasicTouch legal).live

abbrev pub IsOneOfThree : List Action → Type 0
IsOneOfThree m = (m ≡ BasicSynthesis ∷ []) ⊎ ((m ≡ BasicSynthesis ∷ BasicSynthesis ∷ []) ⊎ (m ≡ BasicTouch ∷ BasicSynthesis ∷ []))

not_complete : (n : ℕ) → 1 ≤ n → (0 == n) ≡ true → ⊥
not_complete n h e = grind (arith, nat_tests)

one_action : (g : SettingsFields) (a : Action) (last : StateFields) → g.level ≤ 6 → run_of g (start_of g) (a ∷ []) ≡ Some last → is_complete g last ≡ true → IsOneOfThree (a ∷ [])
one_action g a last low ran full =
    let first = goes g (start_of g) a [] last ran in
    let end : step_of g (start_of g) a ≡ last = cc (first.ran) in
    elim (basic g (start_of g) a low first.legal) [
      | inl is ↦ inl (ap (λ (b : Action). b ∷ []) is)
      | inr is ↦ absurd (touch-part g (start_of g) last (ap (is_legal g (start_of g)) (sym is) ∙ first.legal) (ap (step_of g (start_of g)) (sym is) ∙ end) full)
    ]

two_actions : (g : SettingsFields) (a b : Action) (last : StateFields) → g.level ≤ 6 → run_of g (start_of g) (a ∷ b ∷ []) ≡ Some last → is_complete g last ≡ true → IsOneOfThree (a ∷ b ∷ [])
two_actions g a b last low ran full =
    let first = goes g (start_of g) a (b ∷ []) last ran in
    let s = step_of g (start_of g) a in
    let second = goes g s b [] last first.ran in
    let end : step_of g s b ≡ last = cc (second.ran) in
    elim (basic g s b low second.legal) [
      | inr is ↦ absurd (touch-part g s last (ap (is_legal g s) (sym is) ∙ second.legal) (ap (step_of g s) (sym is) ∙ end) full)
      | inl is ↦ elim (basic g (start_of g) a low first.legal) [
        | inl synthesis ↦ inr (inl (cc (is, synthesis)))
        | inr touch ↦ inr (inr (cc (is, touch)))
      ]
    ]

no_third : (g : SettingsFields) (a b c : Action) (rest : List Action) (last : StateFields) → g.level ≤ 6 → g.durability ≤ 20 → run_of g (start_of g) (a ∷ b ∷ c ∷ rest) ≡ Some last → ⊥
no_third g a b c rest last low short ran =
    let first = goes g (start_of g) a (b ∷ c ∷ rest) last ran in
    let s = step_of g (start_of g) a in
    let second = goes g s b (c ∷ rest) last first.ran in
    let t = step_of g s b in
    let third = goes g t c rest last second.ran in
    let one = step-wears g (start_of g) a low (plain-start g) first.legal in
    let two = step-wears g s b low one.plain second.legal in
    zero_durability (is_complete g t) t.durability (omega (arith, one.durability, two.durability, short)) (legal_facts g t c third.legal).live

one_of_three : (g : SettingsFields) (m : List Action) (last : StateFields) → g.level ≤ 6 → g.durability ≤ 20 → 1 ≤ g.progress → run_of g (start_of g) m ≡ Some last →
    is_complete g last ≡ true → IsOneOfThree m
one_of_three g [] last low short some ran full =
    let start : start_of g ≡ last = cc ran in
    absurd (not_complete g.progress some (ap (λ (s : StateFields). s.progress == g.progress) start ∙ full))
one_of_three g (a ∷ []) last low short some ran full = one_action g a last low ran full
one_of_three g (a ∷ b ∷ []) last low short some ran full = two_actions g a b last low ran full
one_of_three g (a ∷ b ∷ c ∷ rest) last low short some ran full = absurd (no_third g a b c rest last low short ran)

scored-three : (g : SettingsFields) (m : List Action) (score : Score) → g.level ≤ 6 → g.durability ≤ 20 → 1 ≤ g.progress → score_of g m ≡ Some score → IsOneOfThree m
scored-three g m score low short some scored =
    let own = scored-ends g m (run_of g (start_of g) m) score scored in
    one_of_three g m own.last low short some own.ran own.full

-- the other list doesn't complete the craft better
abbrev pub IsNotBeaten : SettingsFields → List Action → Score → List Action → Type 0
IsNotBeaten g m own other = (score : Score) → score_of g other ≡ Some score → is_better score other own m ≡ false

either : (g : SettingsFields) (m n : List Action) (own b : Score) → score_of g m ≡ Some own → IsNotBeaten g m own n → score_of g n ≡ Some b → (m ≡ n) ⊎ (is_better own m b n ≡ true)
either g m n own b completes unbeaten other = elim (better_or g (start_of g) m n own b completes other) [
  | inl same ↦ inl same
  | inr (inl better) ↦ inr better
  | inr (inr worse) ↦ absurd (cc (worse, unbeaten b other))
]

pub best_of_three : (g : SettingsFields) (m : List Action) (own : Score) → g.level ≤ 6 → g.durability ≤ 20 → 1 ≤ g.progress → score_of g m ≡ Some own →
    IsNotBeaten g m own (BasicSynthesis ∷ []) → IsNotBeaten g m own (BasicSynthesis ∷ BasicSynthesis ∷ []) → IsNotBeaten g m own (BasicTouch ∷ BasicSynthesis ∷ []) → IsBest g m
best_of_three g m own low short some completes first second third = record {
  score = own;
  completes = completes;
  best = λ n b other. elim (scored-three g n b low short some other) [
    | inl is ↦ either g m n own b completes (subst (IsNotBeaten g m own) (sym is) first) other
    | inr (inl is) ↦ either g m n own b completes (subst (IsNotBeaten g m own) (sym is) second) other
    | inr (inr is) ↦ either g m n own b completes (subst (IsNotBeaten g m own) (sym is) third) other
  ];
}

pub none_of_three : (g : SettingsFields) → g.level ≤ 6 → g.durability ≤ 20 → 1 ≤ g.progress →
    score_of g (BasicSynthesis ∷ []) ≡ None → score_of g (BasicSynthesis ∷ BasicSynthesis ∷ []) ≡ None → score_of g (BasicTouch ∷ BasicSynthesis ∷ []) ≡ None → NothingCompletes g
none_of_three g low short some first second third m =
    elim (score_of g m) as (λ o. score_of g m ≡ o → score_of g m ≡ None) [
      | None ↦ λ is. is
      | Some score ↦ λ is. elim (scored-three g m score low short some is) [
        | inl same ↦ ap (score_of g) same ∙ first
        | inr (inl same) ↦ ap (score_of g) same ∙ second
        | inr (inr same) ↦ ap (score_of g) same ∙ third
      ]
    ] refl
