-- The first line that breaks a rule, in texts about the small craft.
use Rattle.std.proofs.Common.{◌≡◌, ◌∙◌, sym, ℕ, Bool, true, false, inl, inr, List, [], ◌∷◌, ◌++◌, length, suc, Some, refl, ap, subst, arith, codes, if◌then◌else◌}
use Rattle.std.specs.Fmt.{digits}
use Rattle.action_table.specs.declared.action.Action.{Action}
use Rattle.action_table.specs.declared.action.Action.TheVariants.{BasicSynthesis, BasicTouch}
use Rattle.combo_effects.specs.Combos.{tick_of, after_of}
use Rattle.craft_state.specs.Craft.{StateFields}
use Rattle.craft_settings.specs.Ranges.{SettingsFields}
use Rattle.step_rules.specs.Legality.{start_of, reason_of, is_legal, is_over, is_complete, IsWithin}
use Rattle.step_rules.specs.Step.{acted_of, settled_of, step_of}
use Rattle.step_rules.specs.Run.{run_of}
use Rattle.step_rules.specs.Macro.{counted}
use Rattle.step_rules.proofs.Bounds.{IsWithin-step, IsWithin-start}
use Rattle.macro_order.specs.declared.scores.Score.{Score}
use Rattle.action_table.specs.Table.{action_seconds}
use Rattle.macro_order.specs.Order.{score_of, is_better}
use Rattle.relaxed_moves.specs.Optimum.{limit_of, within_of}
use Rattle.prefix_fronts.specs.Prefix.{Prefix, empty_prefix, extend}
use Rattle.admissible.proofs.Reached.{first-step, limit-run, within-enough}
use Rattle.certificate_text.specs.declared.verdict.Verdict.{Verdict}
use Rattle.certificate_text.specs.declared.verdict.Verdict.TheVariants.{Complete, Limited, Late, Dominated, Kept}
use Rattle.certificate_text.specs.Text.{IsRow, line_end, parts, best_line}
use Rattle.certificate_text.proofs.Unique.{row-same}
use Rattle.certificate_laws.specs.Claims.{Claim, Holds, is_below, legal_at, legal_after, RowHolds, is_kept, kept_of, score_at}
use Rattle.certificate_laws.specs.Lines.{opening, naming, heading, judging, Breaks, IsFirstFault}
use Rattle.certificate_laws.specs.Example.{small_craft, small_best, limited_text, late_text, dominated_text, worse_text, short_text, unended_text}
use Rattle.certificate_laws.proofs.Reading.{row-long}
use Rattle.certificate_laws.proofs.Winning.{below-clash}
use Rattle.certificate_laws.proofs.Example.{small-settings, touched, first-legal, second-legal}

abbrev start : Prefix
start = empty_prefix small_craft

-- a claim about the small craft
abbrev claiming : List Action → Score → Claim
claiming actions score = record { g = small_craft; grain = 16; actions = actions; score = score }

abbrev best_score : Score
best_score = record { quality = 100; steps = 2; seconds = 6 }

-- the score of the synthesis alone
abbrev worse_score : Score
worse_score = record { quality = 0; steps = 1; seconds = 3 }

-- a line that is the row of some verdicts breaks its rule where one of them doesn't hold
breaks-row : (g : SettingsFields) (claim : Claim) (k : ℕ) (p : Prefix) (kept next : List Prefix) (line more : List ℕ) (later : List (List ℕ)) (row : List Verdict) → IsRow row line → length row ≡ length (legal_after claim.g p) →
    (RowHolds claim next p (legal_after claim.g p) row → ⊥) → Breaks g (judging claim k (p ∷ kept) next) (line ∷ more ∷ later) 0
breaks-row g claim k p kept next line more later row says long bad after obeys =
    let same : obeys.0 ≡ row = row-same obeys.0 row line obeys.1.0 says (row-long claim next p (legal_after claim.g p) obeys.0 obeys.1.1 ∙ sym long) in
    bad (subst (λ (v : List Verdict). RowHolds claim next p (legal_after claim.g p) v) same obeys.1.1)

-- the synthesis completes the craft after the touch, with quality 100
touch-legal : is_legal small_craft (start_of small_craft) BasicTouch ≡ true
unfolding reason_of
touch-legal = refl

touch-live : is_over small_craft touched.state ≡ false
unfolding acted_of settled_of step_of tick_of after_of
touch-live = refl

abbrev done : StateFields
done = step_of small_craft touched.state BasicSynthesis

then-done : run_of small_craft touched.state (BasicSynthesis ∷ []) ≡ Some done
unfolding reason_of acted_of settled_of step_of tick_of after_of
then-done = refl

done-complete : is_complete small_craft done ≡ true
unfolding acted_of settled_of step_of tick_of after_of
done-complete = refl

done-counted : counted small_craft done ≡ 100
unfolding acted_of settled_of step_of tick_of after_of
done-counted = refl

touched-within : IsWithin small_craft touched.state
touched-within = IsWithin-step small_craft (start_of small_craft) BasicTouch (IsWithin-start small_craft small-settings)

-- so neither limit of the touch is below 100
not-limited : is_below (limit_of small_craft 16 touched.state) 100 ≡ true → ⊥
not-limited below =
    let reaches = limit-run small_craft 16 touched.state done (BasicSynthesis ∷ []) (omega arith) touched-within (first-step small_craft (start_of small_craft) BasicTouch) touch-live then-done done-complete in
    omega (arith, below-clash _ _ _ below reaches, done-counted)

not-late : is_below (within_of small_craft 16 touched.state 1) 100 ≡ true → ⊥
not-late below =
    let reaches = within-enough small_craft 16 touched.state done (BasicSynthesis ∷ []) 1 (omega arith) touched-within (first-step small_craft (start_of small_craft) BasicTouch) touch-live then-done done-complete (omega arith) in
    omega (arith, below-clash _ _ _ below reaches, done-counted)

two-legal : length (legal_at small_craft (start_of small_craft)) ≡ 2
two-legal = ap (λ (legal : List Action). length legal) first-legal

one-legal : length (legal_at small_craft touched.state) ≡ 1
one-legal = ap (λ (legal : List Action). length legal) second-legal

-- what stands on lines 1 and 2 is read
opened : (text : List ℕ) (actions : List Action) (score : Score) (more : List ℕ) (later : List (List ℕ)) (n : ℕ) → score_of small_craft actions ≡ Some score →
    parts line_end text ≡ codes "raphael certificate 1 grain 16" ∷ best_line actions ∷ more ∷ later →
    Breaks small_craft (heading (claiming actions score) 0 (start ∷ [])) (more ∷ later) n → IsFirstFault small_craft text (suc (suc (suc n)))
unfolding digits
opened text actions score more later n scored is rest =
    let read : Breaks small_craft opening (codes "raphael certificate 1 grain 16" ∷ best_line actions ∷ more ∷ later) (suc (suc n)) =
    (naming 16, ((16, (record { low = omega arith; high = omega arith }, refl, refl)), (heading (claiming actions score) 0 (start ∷ []), ((actions, (score, (scored, refl, refl))), rest)))) in
    (suc (suc n), (omega arith, subst (λ (ls : List (List ℕ)). Breaks small_craft opening ls (suc (suc n))) (sym is) read))

best-scored : score_of small_craft small_best ≡ Some best_score
unfolding reason_of acted_of settled_of step_of tick_of after_of action_seconds
best-scored = refl

worse-scored : score_of small_craft (BasicSynthesis ∷ []) ≡ Some worse_score
unfolding reason_of acted_of settled_of step_of tick_of after_of action_seconds
worse-scored = refl

whole : (b : Bool) → (if b then touched ∷ [] else []) ≡ (if b then touched ∷ [] else []) ++ []
whole true = refl
whole false = refl

kept-second : (second : Verdict) (b : Bool) → is_kept second ≡ b → (if b then touched ∷ [] else []) ≡ kept_of small_craft start (legal_at small_craft (start_of small_craft)) (Complete ∷ second ∷ []) ++ []
kept-second second b is =
    let here : (if b then touched ∷ [] else []) ≡ kept_of small_craft start (BasicSynthesis ∷ BasicTouch ∷ []) (Complete ∷ second ∷ []) ++ [] = rw is (whole b) in
    here ∙ ap (λ (legal : List Action). kept_of small_craft start legal (Complete ∷ second ∷ []) ++ []) (sym first-legal)

-- a touch that isn't kept, on a line that is read so
unkept : (line : List ℕ) (second : Verdict) → IsRow (Complete ∷ second ∷ []) line → is_kept second ≡ false → (Holds (claiming small_best best_score) [] touched second → ⊥) →
    Breaks small_craft (heading (claiming small_best best_score) 0 (start ∷ [])) (codes "level 0 1" ∷ line ∷ codes "level 1 0" ∷ [] ∷ []) 1
unfolding digits
unkept line second says drops bad =
    let claim = claiming small_best best_score in (
      judging claim 0 (start ∷ []) [],
      (
        ([], (refl, inr (Complete ∷ second ∷ [], ([], (record { says = says; each = sym two-legal }, refl, kept-second second false drops))), refl)),
        breaks-row small_craft claim 0 start [] [] line (codes "level 1 0") ([] ∷ []) (Complete ∷ second ∷ []) says (sym two-legal)
            (λ h. bad (subst (λ (legal : List Action). RowHolds claim [] start legal (Complete ∷ second ∷ [])) first-legal h).1.0),
      ),
    )

pub limited-fault : IsFirstFault small_craft limited_text 4
unfolding digits
limited-fault = opened limited_text small_best best_score _ _ 1 best-scored refl (unkept (codes "c q") Limited (refl, (refl, tt)) refl (λ h. not-limited h.1))

pub late-fault : IsFirstFault small_craft late_text 4
unfolding digits
late-fault = opened late_text small_best best_score _ _ 1 best-scored refl
    (unkept (codes "c s") Late (refl, (refl, tt)) refl (λ h. elim h.2 [ inl few ↦ absurd (omega (arith, few)) | inr below ↦ not-late below ]))

pub dominated-fault : IsFirstFault small_craft dominated_text 4
unfolding digits
dominated-fault = opened dominated_text small_best best_score _ _ 1 best-scored refl
    (unkept (codes "c d0") (Dominated 0) (refl, ((codes "0", refl, record { digits = refl; value = refl }), tt)) refl (λ h. cc h.1.1))

-- a touch that is kept, and the line of its row to come
kept : (actions : List Action) (score : Score) (more : List ℕ) (later : List (List ℕ)) (n : ℕ) → Holds (claiming actions score) (touched ∷ []) (extend small_craft start BasicSynthesis) Complete →
    Breaks small_craft (judging (claiming actions score) 1 (touched ∷ []) []) (codes "c" ∷ more ∷ later) n →
    Breaks small_craft (heading (claiming actions score) 0 (start ∷ [])) (codes "level 0 1" ∷ codes "c k" ∷ codes "level 1 1" ∷ codes "c" ∷ more ∷ later) (suc (suc (suc n)))
unfolding digits
kept actions score more later n holds rest =
    let claim = claiming actions score in
    let row : RowHolds claim (touched ∷ []) start (legal_at small_craft (start_of small_craft)) (Complete ∷ Kept ∷ []) =
    subst (λ (legal : List Action). RowHolds claim (touched ∷ []) start legal (Complete ∷ Kept ∷ [])) (sym first-legal) (holds, (touch-live, tt)) in
    let none : [] ≡ kept_of small_craft touched (legal_at small_craft touched.state) (Complete ∷ []) ++ [] = ap (λ (legal : List Action). kept_of small_craft touched legal (Complete ∷ []) ++ []) (sym second-legal) in (
      judging claim 0 (start ∷ []) (touched ∷ []),
      (
        (touched ∷ [], (refl, inr (Complete ∷ Kept ∷ [], ([], (record { says = (refl, (refl, tt)); each = sym two-legal }, refl, kept-second Kept true refl))), refl)),
        (
          heading claim 1 (touched ∷ []),
          (
            (Complete ∷ Kept ∷ [], ((refl, (refl, tt)), row, refl)),
            (
              judging claim 1 (touched ∷ []) [],
              (([], (refl, inr (Complete ∷ [], ([], (record { says = (refl, tt); each = sym one-legal }, refl, none))), refl)), rest),
            ),
          ),
        ),
      ),
    )

first-done : (is_complete small_craft (extend small_craft start BasicSynthesis).state ≡ true)
unfolding acted_of settled_of step_of tick_of after_of
first-done = refl

-- the macro of the sixth line is better than the synthesis alone
not-worse : Holds (claiming (BasicSynthesis ∷ []) worse_score) [] (extend small_craft touched BasicSynthesis) Complete → ⊥
unfolding acted_of settled_of step_of tick_of after_of action_seconds
not-worse h = elim h.1 [ inl same ↦ cc same | inr better ↦ cc better ]

pub worse-fault : IsFirstFault small_craft worse_text 6
unfolding digits
worse-fault =
    let claim = claiming (BasicSynthesis ∷ []) worse_score in
    opened worse_text (BasicSynthesis ∷ []) worse_score _ _ 3 worse-scored refl
    (kept (BasicSynthesis ∷ []) worse_score (codes "level 2 0") ([] ∷ []) 0 (first-done, inl refl)
    (breaks-row small_craft claim 1 touched [] [] (codes "c") (codes "level 2 0") ([] ∷ []) (Complete ∷ []) (refl, tt) (sym one-legal)
    (λ h. not-worse (subst (λ (legal : List Action). RowHolds claim [] touched legal (Complete ∷ [])) second-legal h).0)))

first-worse : is_better best_score small_best (score_at small_craft (extend small_craft start BasicSynthesis)) (BasicSynthesis ∷ []) ≡ true
unfolding acted_of settled_of step_of tick_of after_of action_seconds
first-worse = refl

-- the last line isn't there, or isn't ended
not-ended : (rest : List ℕ) → Breaks small_craft (judging (claiming small_best best_score) 1 (touched ∷ []) []) (codes "c" ∷ rest ∷ []) 1
not-ended rest =
    let claim = claiming small_best best_score in
    let row : RowHolds claim [] touched (legal_at small_craft touched.state) (Complete ∷ []) =
    subst (λ (legal : List Action). RowHolds claim [] touched legal (Complete ∷ [])) (sym second-legal) ((done-complete, inl refl), tt) in
    (heading claim 2 [], ((Complete ∷ [], ((refl, tt), row, refl)), (refl, λ actions e. e)))

pub short-fault : IsFirstFault small_craft short_text 7
unfolding digits
short-fault = opened short_text small_best best_score _ _ 4 best-scored refl (kept small_best best_score [] [] 1 (first-done, inr first-worse) (not-ended []))

pub unended-fault : IsFirstFault small_craft unended_text 7
unfolding digits
unended-fault = opened unended_text small_best best_score _ _ 4 best-scored refl
    (kept small_best best_score (codes "level 2 0") [] 1 (first-done, inr first-worse) (not-ended (codes "level 2 0")))
